-- The walk of `load` over the kinds of events, event by event: where the list stands, and what an event does there.
use Rattle.std.specs.Prelude.{ℕ, cond, List, [], ◌∷◌, eqb, ltb, length}
use Rattle.records.specs.declared.events.Event.{Event}

unfoldable pub kinds : List Event → List ℕ
kinds [] = []
kinds (e ∷ es) = e.kind ∷ kinds es

-- an open collection: a sequence; a mapping before a key; a mapping before a value
pub data Open : Type 0 where
  sequence key value : Open

pub data Place : Type 0 where
  outside : Place  -- before the StreamStart
  between : Place  -- before a document or the StreamEnd
  inside : List Open → Place  -- before a node, or the end of the innermost collection; the innermost stands first
  after : Place  -- before a DocumentEnd
  over : Place  -- past the StreamEnd

-- where a node's end leads, by what is open around it
abbrev pub ended : List Open → Place
ended [] = after
ended (sequence ∷ o) = inside (sequence ∷ o)
ended (key ∷ o) = inside (value ∷ o)
ended (value ∷ o) = inside (key ∷ o)

-- this event may stand at this place, and leads to that one
pub data May : Place → ℕ → Place → Type 0 where
  stream_start : May outside 1 between
  stream_end : May between 2 over
  document_start : May between 3 (inside [])
  document_end : May after 4 between
  alias : {o : List Open} → May (inside o) 5 (ended o)
  scalar : {o : List Open} → May (inside o) 6 (ended o)
  sequence_start : {o : List Open} → May (inside o) 7 (inside (sequence ∷ o))
  sequence_end : {o : List Open} → May (inside (sequence ∷ o)) 8 (ended o)
  mapping_start : {o : List Open} → May (inside o) 9 (inside (key ∷ o))
  mapping_end : {o : List Open} → May (inside (key ∷ o)) 10 (ended o)

pub data Path : Place → List ℕ → Place → Type 0 where
  here : {p : Place} → Path p [] p
  on : {p q r : Place} {k : ℕ} {ks : List ℕ} → May p k q → Path q ks r → Path p (k ∷ ks) r

-- what an event does: it leads on, or it is answered by a number
pub data Lead : Type 0 where
  to : Place → Lead
  no : ℕ → Lead

-- a collection opens, if fewer than 1,000 are open
unfoldable pub enter : Open → List Open → Lead
enter x o = cond (ltb (length o) 1000) (to (inside (x ∷ o))) (no 31)

-- an event that begins a node
unfoldable pub begin : List Open → ℕ → Lead
begin o k =
    cond (eqb k 5) (to (ended o)) (cond (eqb k 6) (to (ended o)) (cond (eqb k 7) (enter sequence o) (cond (eqb k 9) (enter key o) (no 30))))

-- an event with these open: the end of the innermost, or the first of a node
unfoldable pub within : List Open → ℕ → Lead
within [] k = begin [] k
within (sequence ∷ o) k = cond (eqb k 8) (to (ended o)) (begin (sequence ∷ o) k)
within (key ∷ o) k = cond (eqb k 10) (to (ended o)) (begin (key ∷ o) k)
within (value ∷ o) k = begin (value ∷ o) k

unfoldable pub lead : Place → ℕ → Lead
lead outside k = cond (eqb k 1) (to between) (no 30)
lead between k = cond (eqb k 2) (to over) (cond (eqb k 3) (to (inside [])) (no 30))
lead (inside o) k = within o k
lead after k = cond (eqb k 4) (to between) (no 30)
lead over k = no 30

-- what the walk says: it passes, or a number with the events left from the one on at which it is given
pub data Walked : Type 0 where
  passed : Walked
  refused : ℕ → List ℕ → Walked

-- the list may end only past the StreamEnd
unfoldable pub finish : Place → Walked
finish outside = refused 30 []
finish between = refused 30 []
finish (inside o) = refused 30 []
finish after = refused 30 []
finish over = passed

unfoldable pub onward : Lead → List ℕ → (Place → Walked) → Walked
onward (to p) ks f = f p
onward (no n) ks f = refused n ks

unfoldable pub walk : Place → List ℕ → Walked
walk p [] = finish p
walk p (k ∷ ks) = onward (lead p k) (k ∷ ks) λ q. walk q ks

-- it passes, or it stops at the event that would open the 1,001st collection
pub data Passes : Walked → Type 0 where
  well : Passes passed
  too_deep : (rest : List ℕ) → Passes (refused 31 rest)
