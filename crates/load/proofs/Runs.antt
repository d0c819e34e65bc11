-- Each accepted run passes the walk or is answered 31, on the bytes of its events. Assumes nothing.
use mathlib.Core.Path.{◌≡◌, refl}
use mathlib.Core.Logic.{◌⊎◌, inl, inr}
use mathlib.Core.List.{List, [], ◌∷◌}
use Prim.Native.Nat.{ℕ, zero, suc, ◌+◌, ◌*◌, ◌%◌, ◌≤◌, ◌<◌}
use native.Mathlib.Nat.{sub-zero}
use native.Mathlib.Omega.{arith}
use borrow.Author.Tests.{lt-ltb, eq-eqb}
use lib.ListN.{length, get_or, take}
use lib.Seq.{length-take-le, get_or-take}
use Rattle.places.specs.Places.{places, has_place, field_of, stored}
use Rattle.places.specs.Words.{word}
use Rattle.places.proofs.PlaceLaws.{field_same, length-stored}
use Rattle.records.specs.Events.{event_size, numbers_of, event_at, events_of, written}
use Rattle.records.specs.declared.events.Event.{Event}
use Rattle.records.proofs.EventLaws.{event_before, length-written}
use Rattle.rules.specs.Rules.Words.{Given}
use Rattle.rules.specs.Run.{Rooms, fresh, run}
use Rattle.rules.specs.Lists.{Listed}
use Rattle.rules.specs.Walk.{kinds, outside, walk, Walked, Passes, well, too_deep}
use Rattle.rules.proofs.Runs.{ran}
use Rattle.rules.proofs.Walks.{accepted_walks}
use Rattle.load.specs.Load.{count, from, answered, said, loaded}

kind_stored : (b : List ℕ) (at : ℕ) (e : Event) → at < places b event_size → (event_at (stored b at (numbers_of e)) at).kind ≡ e.kind
unfolding event_at numbers_of has_place
kind_stored b at e h = field_same b at (numbers_of e) 0 (lt-ltb at (places b event_size) h) (omega arith)

-- the kinds of events are read back as they were written
pub kinds-written : (b : List ℕ) (at : ℕ) (es : List Event) → at + length es ≤ places b event_size
    → kinds (events_of (written b at es) at (length es)) ≡ kinds es
unfolding written events_of kinds
kinds-written b at [] h = refl
kinds-written b at (e ∷ es) h = rw (
  event_before (stored b at (numbers_of e)) (suc at) es at (omega arith),
  kind_stored b at e (omega arith),
  kinds-written (stored b at (numbers_of e)) (suc at) es (simp length-stored (omega arith)),
)

-- the first n events stand by themselves
module _ (b : List ℕ) (n : ℕ) (room : n ≤ places b event_size) where
  count_take : count (take (event_size * n) b) ≡ n
  count_take = let e : length (take (event_size * n) b) ≡ event_size * n = length-take-le (event_size * n) b (omega arith) in rw e (omega arith)

  kind_take : (i : ℕ) → i < n → (event_at (take (event_size * n) b) i).kind ≡ (event_at b i).kind
  unfolding event_at field_of has_place word
  kind_take i h =
      let at : (r : ℕ) → r < 4 → get_or (take (event_size * n) b) (event_size * i + 0 + r) 0 ≡ get_or b (event_size * i + 0 + r) 0 =
      λ r l. get_or-take (event_size * n) b (event_size * i + 0 + r) 0 (omega arith) in
      rw (
        lt-ltb i (count (take (event_size * n) b)) (omega (arith, count_take)),
        lt-ltb i (places b event_size) (omega arith),
        get_or-take (event_size * n) b (event_size * i + 0) 0 (omega arith),
        at 1 (omega arith),
        at 2 (omega arith),
        at 3 (omega arith),
      )

  kinds_take : (i m : ℕ) → i + m ≤ n → kinds (events_of (take (event_size * n) b) i m) ≡ kinds (events_of b i m)
  unfolding kinds events_of
  kinds_take i zero h = refl
  kinds_take i (suc m) h = rw (kind_take i (omega arith), kinds_take (suc i) m (omega arith))

  pub from_take : from (take (event_size * n) b) 0 ≡ kinds (events_of b 0 n)
  unfolding from
  from_take = rw (count_take, sub-zero) (kinds_take 0 n (omega arith))

-- the bytes of events that were written into a buffer
abbrev pub bytes : List ℕ → List Event → List ℕ
bytes b es = take (event_size * length es) (written b 0 es)

-- `load` of these bytes says what the walk says of the events' kinds
pub loaded-written : (b : List ℕ) (es : List Event) → length es ≤ places b event_size
    → loaded (bytes b es) ≡ said (length es) (walk outside (kinds es))
unfolding loaded
loaded-written b es h =
    let w = written b 0 es in
    let room : length es ≤ places w event_size = simp length-written h in
    let even : length (bytes b es) % event_size ≡ 0 = simp (length-take-le (event_size * length es) w (omega arith)) (omega arith) in
    rw (eq-eqb (length (bytes b es) % event_size) 0 even, count_take w (length es) room, from_take w (length es) room, kinds-written b 0 es (omega (arith, h)))

passes-said : {w : Walked} (n : ℕ) → Passes w → ((said n w).number ≡ 0) ⊎ ((said n w).number ≡ 31)
unfolding said answered
passes-said n well = inl refl
passes-said n (too_deep rest) = inr refl

-- the events of an accepted run, in the buffer that it was lent
pub accepted_loads : (r : Rooms) {g : Given} → Listed g → (b : List ℕ) → (run r g (places b event_size) fresh).number ≡ 0
    → ((loaded (bytes b (run r g (places b event_size) fresh).events)).number ≡ 0) ⊎ ((loaded (bytes b (run r g (places b event_size) fresh).events)).number ≡ 31)
accepted_loads r {g = g} l b q =
    let n = places b event_size in
    let es = (run r g n fresh).events in
    rw (loaded-written b es (omega (arith, (ran r g n).room)))
    (passes-said (length es) (accepted_walks r l n q))
