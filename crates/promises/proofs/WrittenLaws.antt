-- Events written one after another: where each stands, and what is left as it was. Assumes nothing.
use mathlib.Core.Path.{◌≡◌, refl, ◌∙◌}
use mathlib.Core.Bool.{Bool, true, false, cond}
use mathlib.Core.List.{List, [], ◌∷◌, append-nil}
use mathlib.Core.Logic.{◌⊎◌, inl, inr}
use Prim.Native.Nat.{ℕ, zero, suc, ◌+◌, ◌*◌, ◌≤◌, ◌<◌}
use native.Mathlib.Omega.{arith}
use borrow.Author.Tests.{lt-ltb}
use lib.ListN.{length, get_or, replicate, drop, length-replicate, drop_of_length-le}
use lib.Seq.{sets}
use Rattle.places.specs.Words.{encode}
use Rattle.places.specs.Places.{places, has_place, stored, zeroed}
use Rattle.places.proofs.WordLaws.{length-encode, get_or-sets, get_or-sets_other}
use Rattle.places.proofs.PlaceLaws.{room, length-stored}
use Rattle.records.specs.Events.{event_size, numbers_of, written}
use Rattle.records.specs.declared.events.Event.{Event}
use Rattle.run.specs.Run.{cleared}
use Rattle.promises.specs.Demands.{Holds, Zero}

length_event : (e : Event) → length (encode (numbers_of e)) ≡ event_size
unfolding numbers_of
length_event e = length-encode (numbers_of e)

-- a byte outside the place stands, one inside is the event's
stored_other : (b : List ℕ) (at : ℕ) (e : Event) (i : ℕ) → (i < event_size * at) ⊎ (event_size * at + event_size ≤ i) → get_or (stored b at (numbers_of e)) i 0 ≡ get_or b i 0
unfolding stored numbers_of
stored_other b at e i h = go (has_place b event_size at) where
  go : (t : Bool) → get_or (cond t (sets b (event_size * at) (encode (numbers_of e))) b) i 0 ≡ get_or b i 0
  go true = get_or-sets_other (encode (numbers_of e)) b (event_size * at) i (rw (length_event e) h)
  go false = refl

stored_in : (b : List ℕ) (at : ℕ) (e : Event) → at < places b event_size → Holds (stored b at (numbers_of e)) at e
unfolding Holds stored has_place numbers_of
stored_in b at e h j l =
    let r = room at (length b) event_size h in
    let n = length_event e in
    rw (lt-ltb at (places b event_size) h) (get_or-sets (encode (numbers_of e)) b (event_size * at) j (omega arith) (omega arith))

-- what stands before them and behind them
pub written_other : (es : List Event) (b : List ℕ) (at i : ℕ) → (i < event_size * at) ⊎ (event_size * (at + length es) ≤ i) → get_or (written b at es) i 0 ≡ get_or b i 0
unfolding written
written_other [] b at i h = refl
written_other (e ∷ es) b at i (inl h) = written_other es (stored b at (numbers_of e)) (suc at) i (inl (omega arith)) ∙ stored_other b at e i (inl h)
written_other (e ∷ es) b at i (inr h) = written_other es (stored b at (numbers_of e)) (suc at) i (inr (omega arith)) ∙ stored_other b at e i (inr (omega arith))

-- each event in its place
pub written_each : (d : Event) (es : List Event) (b : List ℕ) (at k : ℕ) → at + length es ≤ places b event_size → k < length es → Holds (written b at es) (at + k) (get_or es k d)
unfolding written Holds
written_each d [] b at k h l = absurd (omega arith)
written_each d (e ∷ es) b at zero h l =
    let q : at + zero ≡ at = omega arith in
    rw q (λ j m. written_other es (stored b at (numbers_of e)) (suc at) (event_size * at + j) (inl (omega arith)) ∙ stored_in b at e (omega arith) j m)
written_each d (e ∷ es) b at (suc k) h l =
    let q : at + suc k ≡ suc at + k = omega arith in
    let n = length-stored b at (numbers_of e) in
    rw q (written_each d es (stored b at (numbers_of e)) (suc at) k (rw n (omega arith)) (omega arith))

zeros : (n i : ℕ) → ◌≡◌ {A = ℕ} (get_or (replicate n 0) i 0) 0
zeros zero i = refl
zeros (suc n) zero = refl
zeros (suc n) (suc i) = zeros n i

pub cleared_zero : (b : List ℕ) → Zero (length b) (cleared b)
unfolding cleared zeroed
cleared_zero b =
    let e : drop (length b) b ≡ [] = drop_of_length-le b {i = length b} (omega arith) in
    rw (e, append-nil {A = ℕ} (replicate (length b) 0)) (record { long = length-replicate (length b) 0; each = zeros (length b) })
