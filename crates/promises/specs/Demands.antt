-- The words of the demands: a call of the run, what it leaves, and the numbers of document 01.
use Rattle.std.specs.Prelude.{ℕ, ◌*◌, ◌+◌, ◌-◌, ◌<◌, ◌≤◌, ◌≡◌, Bool, ◌&&◌, ◌||◌, List, [], ◌∷◌, eqb, leb, length, get_or}
use Rattle.places.specs.Words.{encode}
use Rattle.places.specs.Places.{places}
use Rattle.records.specs.Tokens.{token_size, read_at}
use Rattle.records.specs.declared.tokens.Token.{Token}
use Rattle.records.specs.declared.tokens.Read.TheVariants as read
use Rattle.records.specs.Events.{event_size, numbers_of}
use Rattle.records.specs.declared.events.Event.{Event}
use Rattle.tables.specs.States.{state_size}
use Rattle.tables.specs.Anchors.{anchor_size}
use Rattle.tables.specs.Handles.{handle_size}
use Rattle.rules.specs.Rules.Words.{Given, STREAM_END}
use Rattle.rules.specs.Run.{Rooms, Outcome, fresh, run}
use Rattle.rules.specs.Lists.{in_bytes}
use Rattle.rules.specs.Starred.{Pick, Case}
use Rattle.run.specs.Run.{Left}
use Rattle.promises.specs.Bytes.{as_bytes}
use Rattle.promises.specs.Calls.{Call, Leaves}

-- 0 to 14 and 20 to 27
unfoldable pub known : ℕ → Bool
known n = leb n 14 || (leb 20 n && leb n 27)

-- 20, 21, 26 and 27
unfoldable pub of_first_checks : ℕ → Bool
of_first_checks n = eqb n 20 || (eqb n 21 || (eqb n 26 || eqb n 27))

-- a buffer of this length with each byte 0
pub record Zero (size : ℕ) (b : List ℕ) : Type 0 where
  pub long : length b ≡ size
  pub each : (i : ℕ) → get_or b i 0 ≡ 0

-- what the rules of the steps are given, and their run with the places lent
unfoldable pub given : Call → Given
given c = in_bytes c.tokens (places c.tokens token_size) c.text c.settings.keep c.settings.forget

unfoldable pub rooms : Call → Rooms
rooms c = record {
  opens = places c.states state_size;
  anchors = places c.anchors anchor_size;
  handles = places c.handles handle_size;
}

unfoldable pub by_rules : Call → Outcome
by_rules c = run (rooms c) (given c) (places c.events event_size) fresh

-- place k of an event buffer holds an event
unfoldable pub Holds : List ℕ → ℕ → Event → Type 0
Holds b k e = (j : ℕ) → j < event_size → get_or b (event_size * k + j) 0 ≡ get_or (encode (numbers_of e)) j 0

-- a call with room for any list of n tokens
pub record Roomy (c : Call) (n : ℕ) : Type 0 where
  pub events : 3 * n ≤ places c.events event_size
  pub states : n ≤ places c.states state_size
  pub anchors : n ≤ places c.anchors anchor_size
  pub handles : n ≤ places c.handles handle_size

-- a call that lends a list of a table, with its settings and room enough
pub record Lends (c : Call) (k : Case) : Type 0 where
  pub tokens : c.tokens ≡ as_bytes k.tokens
  pub text : c.text ≡ k.text
  pub keep : c.settings.keep ≡ k.keep
  pub forget : c.settings.forget ≡ k.forget
  pub room : Roomy c (length k.tokens)

-- the events that the table shows stand in their places
abbrev pub Shown : List ℕ → List Pick → Type 0
Shown b [] = Unit
Shown b (p ∷ ps) = Holds b p.index p.event × Shown b ps

-- what it says of the list
pub record Said (l : Left) (k : Case) : Type 0 where
  pub number : l.answer.number ≡ k.number
  pub count : l.answer.count ≡ k.count
  pub place : l.answer.place ≡ k.place
  pub events : Shown l.events k.picks

-- each call that lends the list is answered so
abbrev pub Answered : Case → Type 1
Answered k = (c : Call) (l : Left) → Leaves c l → Lends c k → Said l k

-- what holds of each of a list
abbrev pub Each : {A : Type 0} → (A → Type 1) → List A → Type 1
Each P [] = Unit {1}
Each P (x ∷ xs) = P x × Each P xs

-- the tokens that a run took
unfoldable pub taken : Call → ℕ
taken c = (by_rules c).last.at

-- an accepted stream of A tokens, StreamEnd counted: the run took A of the tokens lent, and the last of them is the StreamEnd
pub record Accepted (c : Call) (l : Left) (A : ℕ) : Type 0 where
  pub number : l.answer.number ≡ 0
  pub took : taken c ≡ A
  pub some : 1 ≤ A
  pub last : Token
  pub found : read_at c.tokens (length c.text) (A - 1) ≡ read.Token last
  pub end : last.kind ≡ STREAM_END

-- the same call with no less room of any kind
pub record Grown (c d : Call) : Type 0 where
  pub tokens : c.tokens ≡ d.tokens
  pub text : c.text ≡ d.text
  pub settings : c.settings ≡ d.settings
  pub events : places c.events event_size ≤ places d.events event_size
  pub states : places c.states state_size ≤ places d.states state_size
  pub anchors : places c.anchors anchor_size ≤ places d.anchors anchor_size
  pub handles : places c.handles handle_size ≤ places d.handles handle_size
