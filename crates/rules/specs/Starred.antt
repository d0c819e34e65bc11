-- The starred lists of document 01, a to j: tokens and text, and what the run answers; and the words of such a table.
use Rattle.std.specs.Prelude.{ℕ, suc, Bool, true, false, ◌&&◌, List, [], ◌∷◌, eqb, length, get_or}
use Rattle.records.specs.Names.{no_range}
use Rattle.records.specs.declared.names.Range.{Range}
use Rattle.records.specs.declared.tokens.Token.{Token}
use Rattle.records.specs.declared.events.Event.{Event}
use Rattle.records.specs.declared.events.Tag.{Tag}
use Rattle.rules.specs.Rules.{plain, no_tag}
use Rattle.rules.specs.Run.{Outcome}
use Rattle.rules.specs.Lists.{listed}
use Rattle.rules.specs.Needs.{ample}

-- a token with its kind and span
unfoldable pub bare : ℕ → ℕ → ℕ → Token
bare kind start end = record { kind = kind; start = start; end = end; a = no_range; b = no_range; style = 0 }

-- with a range a, and with a style as well
unfoldable pub styled : ℕ → ℕ → ℕ → ℕ → ℕ → ℕ → Token
styled kind start end from to style =
    record { kind = kind; start = start; end = end; a = record { from = from; to = to }; b = no_range; style = style }

unfoldable pub word : ℕ → ℕ → ℕ → ℕ → ℕ → Token
word kind start end from to = styled kind start end from to 0

-- with ranges a and b, side by side
unfoldable pub pair : ℕ → ℕ → ℕ → ℕ → ℕ → ℕ → Token
pair kind start end from middle to = record {
  kind = kind;
  start = start;
  end = end;
  a = record { from = from; to = middle };
  b = record { from = middle; to = to };
  style = 0;
}

-- with these ranges in its own span
unfoldable pub named : ℕ → ℕ → ℕ → Token
named kind start end = word kind start end start end

unfoldable pub tagged : ℕ → ℕ → ℕ → ℕ → Token
tagged kind start middle end = pair kind start end start middle end

-- a scalar's event: span, anchor id, style and value
unfoldable pub valued : ℕ → ℕ → ℕ → ℕ → ℕ → ℕ → Event
valued start end number style from to = record {
  kind = 6;
  start = start;
  end = end;
  number = number;
  style = style;
  value = record { from = from; to = to };
  tag = no_tag;
}

-- an event with a tag: source, prefix and suffix
unfoldable pub tag_on : ℕ → ℕ → ℕ → ℕ → ℕ → Event → Event
tag_on source prefix prefix-end suffix suffix-end e = record {
  kind = e.kind;
  start = e.start;
  end = e.end;
  number = e.number;
  style = e.style;
  value = e.value;
  tag = record {
    source = source;
    prefix = record { from = prefix; to = prefix-end };
    suffix = record { from = suffix; to = suffix-end };
  };
}

-- an event that is looked at
pub record Pick : Type 0 where
  pub index : ℕ
  pub event : Event

unfoldable pub ev : ℕ → ℕ → ℕ → ℕ → ℕ → Pick
ev index kind start end number = record { index = index; event = plain kind start end number }

unfoldable pub scalar : ℕ → ℕ → ℕ → Pick
scalar index start end = record { index = index; event = valued start end 0 0 start end }

-- all events from an index on
unfoldable pub all_from : ℕ → List Event → List Pick
all_from index [] = []
all_from index (e ∷ es) = record { index = index; event = e } ∷ all_from (suc index) es

-- a list with its text and the two settings, and what the run answers
pub record Case : Type 0 where
  pub tokens : List Token
  pub text : List ℕ
  pub keep : Bool
  pub forget : Bool
  pub number : ℕ
  pub count : ℕ
  pub place : ℕ
  pub picks : List Pick

unfoldable pub same_range : Range → Range → Bool
same_range r s = eqb r.from s.from && eqb r.to s.to

unfoldable pub same_tag : Tag → Tag → Bool
same_tag t u = eqb t.source u.source && (same_range t.prefix u.prefix && same_range t.suffix u.suffix)

unfoldable pub same_event : Event → Event → Bool
same_event d e =
    eqb d.kind e.kind && (eqb d.start e.start && (eqb d.end e.end && (eqb d.number e.number
    && (eqb d.style e.style && (same_range d.value e.value && same_tag d.tag e.tag)))))

unfoldable pub picked : List Event → List Pick → Bool
picked es [] = true
picked es (p ∷ ps) = same_event (get_or es p.index (plain 0 0 0 0)) p.event && picked es ps

unfoldable pub as_said : Case → Outcome → Bool
as_said c o =
    eqb o.number c.number && (eqb (length o.events) c.count && (eqb o.place c.place && picked o.events c.picks))

unfoldable pub check : Case → Bool
check c = as_said c (ample (listed c.tokens c.text c.keep c.forget))

unfoldable pub check_all : List Case → Bool
check_all [] = true
check_all (c ∷ cs) = check c && check_all cs

-- a list with all events of its answer: settings, tokens and text; number, count and place; events
unfoldable pub whole : Bool → Bool → List Token → List ℕ → ℕ → ℕ → ℕ → List Event → Case
whole keep forget tokens text number count place events = record {
  tokens = tokens;
  text = text;
  keep = keep;
  forget = forget;
  number = number;
  count = count;
  place = place;
  picks = all_from 0 events;
}

-- g: `&x a`, `---`, `*x`
unfoldable pub alias_over : Bool → ℕ → ℕ → ℕ → List Pick → Case
alias_over forget number count place picks = record {
  tokens = bare 1 0 0 ∷ named 21 1 2 ∷ named 23 3 4 ∷ bare 6 5 8 ∷ named 20 10 11 ∷ bare 2 11 11 ∷ [];
  text = 38 ∷ 120 ∷ 32 ∷ 97 ∷ 10 ∷ 45 ∷ 45 ∷ 45 ∷ 32 ∷ 42 ∷ 120 ∷ [];
  keep = false;
  forget = forget;
  number = number;
  count = count;
  place = place;
  picks = picks;
}

unfoldable pub starred : List Case
starred =
    -- a
    record { tokens = []; text = []; keep = false; forget = false; number = 14; count = 0; place = 0; picks = [] }
    -- b
    ∷ record { tokens = bare 1 0 0 ∷ bare 2 0 0 ∷ []; text = []; keep = false; forget = false; number = 0; count = 2; place = 0; picks = ev 0 1 0 0 0 ∷ ev 1 2 0 0 0 ∷ [] }
    -- c
    ∷ record { tokens = bare 1 0 0 ∷ []; text = []; keep = false; forget = false; number = 14; count = 1; place = 0; picks = ev 0 1 0 0 0 ∷ [] }
    -- d
    ∷ record { tokens = bare 1 0 0 ∷ bare 6 0 3 ∷ bare 6 4 7 ∷ bare 2 7 7 ∷ []; text = 45 ∷ 45 ∷ 45 ∷ 10 ∷ 45 ∷ 45 ∷ 45 ∷ []; keep = false; forget = false; number = 0; count = 8; place = 0; picks = ev 7 2 7 7 0 ∷ [] }
    -- e, whole: `[a: b]`
    ∷ record {
      tokens = bare 1 0 0 ∷ bare 12 0 1 ∷ bare 18 1 1 ∷ named 23 1 2 ∷ bare 19 2 3 ∷ named 23 4 5 ∷ bare 13 5 6 ∷ bare 2 6 6 ∷ [];
      text = 91 ∷ 97 ∷ 58 ∷ 32 ∷ 98 ∷ 93 ∷ [];
      keep = false;
      forget = false;
      number = 0;
      count = 10;
      place = 0;
      picks =
          ev 0 1 0 0 0 ∷ ev 1 3 0 1 0 ∷ ev 2 7 0 1 0 ∷ ev 3 9 1 1 0 ∷ scalar 4 1 2 ∷ scalar 5 4 5 ∷ ev 6 10 5 5 0
          ∷ ev 7 8 5 6 0 ∷ ev 8 4 6 6 0 ∷ ev 9 2 6 6 0 ∷ [];
    }
    -- f: `[? ]`
    ∷ record { tokens = bare 1 0 0 ∷ bare 12 0 1 ∷ bare 18 1 2 ∷ bare 13 3 4 ∷ bare 2 4 4 ∷ []; text = 91 ∷ 63 ∷ 32 ∷ 93 ∷ []; keep = false; forget = false; number = 11; count = 7; place = 4; picks = [] }
    -- g, keeping and forgetting
    ∷ alias_over false 0 8 0 (ev 5 5 10 11 1 ∷ [])
    ∷ alias_over true 7 5 10 []
    -- h: `[&a,&a,*a]`
    ∷ record {
      tokens = bare 1 0 0 ∷ bare 12 0 1 ∷ named 21 2 3 ∷ bare 17 3 4 ∷ named 21 5 6 ∷ bare 17 6 7 ∷ named 20 8 9 ∷ bare 13 9 10 ∷ bare 2 10 10 ∷ [];
      text = 91 ∷ 38 ∷ 97 ∷ 44 ∷ 38 ∷ 97 ∷ 44 ∷ 42 ∷ 97 ∷ 93 ∷ [];
      keep = false;
      forget = false;
      number = 0;
      count = 9;
      place = 0;
      picks = ev 3 6 2 3 1 ∷ ev 4 6 5 6 2 ∷ ev 5 5 8 9 2 ∷ [];
    }
    -- i: `{a,}`
    ∷ record { tokens = bare 1 0 0 ∷ bare 14 0 1 ∷ named 23 1 2 ∷ bare 17 2 3 ∷ bare 15 3 4 ∷ bare 2 4 4 ∷ []; text = 123 ∷ 97 ∷ 44 ∷ 125 ∷ []; keep = false; forget = false; number = 0; count = 8; place = 0; picks = ev 4 6 2 3 0 ∷ ev 5 10 2 3 0 ∷ [] }
    -- j: `&a !e!x b`
    ∷ record { tokens = bare 1 0 0 ∷ named 21 1 2 ∷ tagged 22 3 6 7 ∷ named 23 8 9 ∷ bare 2 9 9 ∷ []; text = 38 ∷ 97 ∷ 32 ∷ 33 ∷ 101 ∷ 33 ∷ 120 ∷ 32 ∷ 98 ∷ []; keep = false; forget = false; number = 13; count = 2; place = 1; picks = [] }
    ∷ []
