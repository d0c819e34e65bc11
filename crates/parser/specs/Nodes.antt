-- The properties of a node, as the code hands them on.
use Rattle.std.specs.Prelude.{ℕ, ◌<◌, ◌≡◌, Bool, true, false, List, ltb}
use Rattle.places.specs.Places.{places}
use Rattle.records.specs.declared.names.Range.{Range}
use Rattle.records.specs.declared.tokens.Token.{Token}
use Rattle.records.specs.declared.tokens.Read.{Read}
use Rattle.records.specs.declared.tokens.Read.TheVariants as read
use Rattle.records.specs.declared.events.Event.{Event}
use Rattle.records.specs.Tokens.{token_size}
use Rattle.tables.specs.Lookup.{find}
use Rattle.tables.specs.declared.anchors.Anchor.{Anchor}
use Rattle.tables.specs.declared.lookup.Found.{Found}
use Rattle.tables.specs.declared.lookup.Found.TheVariants as found
use Rattle.tables.specs.Anchors.{anchor_size}
use Rattle.rules.specs.Rules as rules
use Rattle.rules.specs.Rules.Words as r
use Rattle.parser.specs.Machine.{Lent}
use Rattle.parser.specs.Answers.{moved, refusing, refused_by, decided}
use Rattle.parser.specs.declared.Machine.{Machine}
use Rattle.parser.specs.declared.Names.{Names}
use Rattle.parser.specs.declared.Names.TheVariants as n
use Rattle.parser.specs.declared.Step.{Step}
use Rattle.parser.specs.declared.Step.TheVariants as st
use Rattle.parser.specs.declared.node.Properties.{Properties}
use Rattle.parser.specs.declared.node.Behind.{Behind}
use Rattle.parser.specs.declared.node.Content.{Content}
use Rattle.parser.specs.declared.node.Content.TheVariants as c
use Rattle.parser.specs.declared.node.Known.{Known}
use Rattle.parser.specs.declared.node.Known.TheVariants as k
use Rattle.parser.specs.declared.node.Place.{Place}
use Rattle.parser.specs.declared.node.Place.TheVariants as p

unfoldable pub names_of : Names → r.Names
names_of n.Keep = r.NamesKept
names_of (n.Put i a) = r.NamePut a.name
names_of n.Forget = r.NamesForgotten

unfoldable pub properties_of : Properties → rules.Properties
properties_of q =
    record { any = q.any; start = q.start; end = q.end; id = q.id; tag = q.tag; names = names_of q.names }

unfoldable pub bare : ℕ → Properties
bare start = record { any = false; start = start; end = start; id = 0; tag = r.no_tag; names = n.Keep }

unfoldable pub anchored : Properties → Token → ℕ → ℕ → Properties
anchored q t place id =
    record { any = true; start = q.start; end = t.end; id = id; tag = q.tag; names = n.Put place (record { name = t.a; id = id }) }

unfoldable pub tag_only : Properties → Token → ℕ → Range → Properties
tag_only q t source prefix = record {
  any = true;
  start = q.start;
  end = t.end;
  id = q.id;
  tag = record { source = source; prefix = prefix; suffix = t.b };
  names = q.names;
}

unfoldable pub node_event : ℕ → ℕ → ℕ → Range → Properties → Event
node_event kind end style value q =
    record { kind = kind; start = q.start; end = end; number = q.id; style = style; value = value; tag = q.tag }

unfoldable pub known_of : r.Hit Anchor → Known
known_of r.Miss = k.Unknown
known_of (r.Got a) = k.Id a.id

-- the place of a name that was looked up among n, with room for `room`
unfoldable pub placed : Found → ℕ → ℕ → Place
placed (found.At i) n room = p.At i
placed found.Nothing n room = r.choose◌then◌else◌ (ltb n room) (p.At n) p.Full

unfoldable pub place_of : List ℕ → List ℕ → ℕ → ℕ → Range → Place
place_of text names n room name = placed (find text names anchor_size n name) n room

-- a decision that wants nothing, with names as they are given
unfoldable pub named_answer : Machine → Names → r.Decision → Step
named_answer m names (r.Next c) = moved m c.at c.move c.event names
named_answer m names (r.Refused number place) = refusing number place
named_answer m names r.Unreachable = st.Stuck
named_answer m names (r.Wants q n d) = st.Stuck

-- behind the properties there is no content, or there is one
unfoldable pub behind_done : Step → Behind
behind_done step = record { step = step; content = c.Nothing }

unfoldable pub behind_content : ℕ → Token → Properties → Behind
behind_content at t q = record { step = st.Stuck; content = c.At at t q }

-- the token at `at` behind properties
unfoldable pub behind_of : Read → ℕ → Properties → Behind
behind_of (read.Token t) at q = behind_content at t q
behind_of (read.Refused e) at q = behind_done (refused_by (read.Refused e))

-- the step that a node comes to behind its properties
unfoldable pub behind : Machine → rules.Over → Bool → Bool → Step → Content → Step
behind m over block indentless step c.Nothing = step
behind m over block indentless step (c.At at t q) =
    named_answer m q.names (rules.content at over block indentless (properties_of q) t)

-- a content stands in the list
abbrev pub Follows : List ℕ → Content → Type 0
Follows tokens c.Nothing = Unit
Follows tokens (c.At at t q) = at < places tokens token_size

-- what stands behind the properties comes to what the rule decides, whatever the node stands over
abbrev pub Behinds : Lent → Machine → (rules.Over → Bool → Bool → r.Given → r.Small → r.Decision) → Behind → Type 0
Behinds x m rule w =
    ((over : rules.Over) (block indentless : Bool) → behind m over block indentless w.step w.content ≡ decided x m (rule over block indentless))
    × Follows x.tokens w.content
