-- Unused places are zero, for every size: what a store and a clearing leave of that. Assumes nothing.
use mathlib.Core.Path.{◌≡◌, refl, ◌∙◌}
use mathlib.Core.Bool.{Bool, true, false, cond}
use mathlib.Core.List.{List, [], ◌∷◌, ◌++◌, append_assoc}
use mathlib.Core.Logic.{inr}
use Prim.Native.Nat.{ℕ, zero, suc, ◌+◌, ◌-◌, ◌*◌, ◌≤◌, ◌<◌}
use native.Mathlib.Nat.{mul-le-mul_left, mul-suc, min-eq_left}
use native.Mathlib.Omega.{arith}
use lib.ListN.{length, get_or, take, drop, replicate, length-replicate, get_or-eq_default}
use lib.Seq.{sets, sets-eq, length-take-le, get_or-append-add, get_or-drop, drop-nil, drop-drop}
use Rattle.places.specs.Words.{encode}
use Rattle.places.specs.Places.{Put, places, has_place, stored, zeroed, cleared_places, Unused}
use Rattle.places.proofs.WordLaws.{get_or-sets_other, length-encode}
use Rattle.places.proofs.PlaceLaws.{apart, within, stored_yes}

abbrev pub zeros : ℕ → List ℕ
zeros k = replicate k 0

-- zeros in front of zeros
zeros_front : (k : ℕ) (b : List ℕ) (i : ℕ) → (k ≤ i → get_or b i 0 ≡ 0) → get_or (zeros k ++ drop k b) i 0 ≡ 0
zeros_front zero b i u = u (omega arith)
zeros_front (suc k) b zero u = refl
zeros_front (suc k) [] (suc i) u = rw (← drop-nil {A = ℕ} k) (zeros_front k [] i (λ l. refl))
zeros_front (suc k) (x ∷ b) (suc i) u = zeros_front k b i (λ l. u (omega arith))

zeros_stored : (b : List ℕ) (at k i : ℕ) → at + k ≤ length b → at ≤ i → (at + k ≤ i → get_or b i 0 ≡ 0) → get_or (sets b at (zeros k)) i 0 ≡ 0
zeros_stored b at k i w h u =
    let n : length (zeros k) ≡ k = length-replicate k 0 in
    let q : i ≡ length (take at b) + (i - at) = omega (arith, length-take-le at b (omega arith)) in
    let q' : at + (i - at) ≡ i = omega arith in
    rw (sets-eq (zeros k) b at (omega arith), n, append_assoc, q, get_or-append-add, ← drop-drop k at b)
    (zeros_front k (drop at b) (i - at) (λ l. rw (get_or-drop, q') (u (omega arith))))

-- a store into a place that is in use afterwards, the next one or an older; where there is no place nothing is stored
pub unused_put : {b ns after : List ℕ} {at n m : ℕ} {r : Bool} → Put b at ns r after → n ≤ m → (r ≡ true → at < m)
    → Unused b (4 * length ns) n → Unused after (4 * length ns) m
unfolding stored
unused_put {b} {ns} {after} {at} {n} {m} {r} p l s u = rw p.bytes (go (has_place b (4 * length ns) at) p.room) where
  old : (i : ℕ) → 4 * length ns * m ≤ i → get_or b i 0 ≡ 0
  old i h = u.zero i (omega (arith, mul-le-mul_left (4 * length ns) l))

  go : (t : Bool) → r ≡ t → Unused (cond t (sets b (4 * length ns * at) (encode ns)) b) (4 * length ns) m
  go true e = record {
    zero = λ i h.
        get_or-sets_other (encode ns) b (4 * length ns * at) i (inr (omega (arith, length-encode ns, apart (4 * length ns) at m (s e)))) ∙ old i h;
  }
  go false e = record { zero = old }

-- zeros stored into the last place in use
pub unused_last : {b : List ℕ} {n : ℕ} (ns : List ℕ) → has_place b (4 * length ns) n ≡ true → encode ns ≡ zeros (4 * length ns)
    → Unused b (4 * length ns) (suc n) → Unused (stored b n ns) (4 * length ns) n
unused_last {b} {n} ns p z u =
    rw (stored_yes b n ns p, z)
    (record { zero = λ i h. zeros_stored b (4 * length ns * n) (4 * length ns) i (within b (4 * length ns) n p) h (λ l. u.zero i (omega (arith, mul-suc (4 * length ns) n))) })

-- the places in use cleared, and none in use afterwards
pub unused_cleared : {b : List ℕ} {size n : ℕ} → n ≤ places b size → Unused b size n → Unused (cleared_places b size n) size 0
unfolding cleared_places zeroed
unused_cleared {b} {size} {n} l u = rw (min-eq_left l) (record { zero = λ i h. zeros_front (size * n) b i (u.zero i) })

-- all bytes cleared, however many places are in use
pub unused_all : (b : List ℕ) (size n : ℕ) → Unused (zeroed (length b) b) size n
unfolding zeroed
unused_all b size n = record { zero = λ i h. zeros_front (length b) b i (get_or-eq_default b 0) }
