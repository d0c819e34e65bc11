-- The machine as the rules see it: what is lent, and the small state.
use Rattle.std.specs.Prelude.{ℕ, List, length}
use Rattle.places.specs.Places.{places}
use Rattle.records.specs.Tokens.{token_size, read_at}
use Rattle.tables.specs.Anchors.{anchors_of}
use Rattle.tables.specs.Handles.{handles_of}
use Rattle.rules.specs.Rules.Words.{Given, Small}
use Rattle.rules.specs.Run.{Rooms}
use Rattle.rules.specs.declared.State.TheVariants as s
use Rattle.parser.specs.declared.Machine.{Machine}
use Rattle.parser.specs.declared.Terms.{Terms}

-- what a step is lent
pub record Lent : Type 0 where
  pub tokens : List ℕ
  pub text : List ℕ
  pub names : List ℕ
  pub tags : List ℕ
  pub terms : Terms

unfoldable pub lent : List ℕ → List ℕ → List ℕ → List ℕ → Terms → Lent
lent tokens text names tags terms = record { tokens = tokens; text = text; names = names; tags = tags; terms = terms }

unfoldable pub given : Lent → Given
given x = record {
  count = places x.tokens token_size;
  read = read_at x.tokens (length x.text);
  text = x.text;
  keep = x.terms.keep;
  forget = x.terms.forget;
}

unfoldable pub small : Lent → Machine → Small
small x m = record {
  state = m.state;
  at = m.at;
  depth = m.depth;
  anchors = anchors_of x.names m.names;
  handles = handles_of x.tags m.handles;
  next = m.next;
}

unfoldable pub rooms : Terms → Rooms
rooms t = record { opens = t.states; anchors = t.names; handles = t.handles }

unfoldable pub fresh : Machine
fresh = record { state = s.StreamStart; at = 0; depth = 0; names = 0; handles = 0; next = 1 }
