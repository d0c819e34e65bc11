-- Laws of places, for every size: a place lies in its buffer, two places lie apart, what is stored is read back, and the rest stands.
-- Assumes nothing.
use mathlib.Core.Path.{◌≡◌, refl, ◌∙◌}
use mathlib.Core.Bool.{Bool, true, false, cond}
use mathlib.Core.List.{List}
use mathlib.Core.Logic.{◌⊎◌, inl, inr, ⊎_elim}
use Prim.Native.Nat.{ℕ, ◌+◌, ◌*◌, ◌/◌, ◌≤◌, ◌<◌}
use native.Mathlib.Nat.{mul-div-le, mul-le-mul_left, mul-suc, div-le_self}
use native.Mathlib.Omega.{arith}
use borrow.Author.Tests.{ltb-true, ltb-false, lt-ltb}
use lib.ListN.{length, get_or}
use lib.Dec.{ltb}
use lib.Seq.{sets, length-sets}
use Rattle.places.specs.Words.{word, encode}
use Rattle.places.proofs.WordLaws.{word-sets, word-sets_other, word-encode, length-encode}
use Rattle.places.specs.Places.{has_place, field_of, stored}

-- a place that a buffer has lies in it
pub room : (at n size : ℕ) → at < n / size → size * at + size ≤ n
room at n size h = omega (arith, mul-div-le n size, mul-le-mul_left size h, mul-suc size at)

-- there are no more places than bytes
pub below : (b : List ℕ) (size at : ℕ) → has_place b size at ≡ true → at < length b
unfolding has_place
below b size at h = omega (arith, ltb-true at (length b / size) h, div-le_self (length b) size)

-- a place ends before the next begins
pub apart : (size i j : ℕ) → i < j → size * i + size ≤ size * j
apart size i j h = omega (arith, mul-le-mul_left size h, mul-suc size i)

pub length-stored : (b : List ℕ) (at : ℕ) (ns : List ℕ) → length (stored b at ns) ≡ length b
unfolding stored
length-stored b at ns = go (has_place b (4 * length ns) at) where
  go : (t : Bool) → length (cond t (sets b (4 * length ns * at) (encode ns)) b) ≡ length b
  go true = length-sets b (4 * length ns * at) (encode ns)
  go false = refl

pub has_place-stored : (b : List ℕ) (at : ℕ) (ns : List ℕ) (size i : ℕ) → has_place (stored b at ns) size i ≡ has_place b size i
unfolding has_place
has_place-stored b at ns size i = rw length-stored

pub stored_yes : (b : List ℕ) (at : ℕ) (ns : List ℕ) → has_place b (4 * length ns) at ≡ true → stored b at ns ≡ sets b (4 * length ns * at) (encode ns)
unfolding stored
stored_yes b at ns h = rw h

-- a place that is there lies in the buffer
pub within : (b : List ℕ) (size at : ℕ) → has_place b size at ≡ true → size * at + size ≤ length b
unfolding has_place
within b size at h = room at (length b) size (ltb-true at (length b / size) h)

-- a place of as many numbers has a field for each
four : (ns : List ℕ) (k : ℕ) → k < length ns → ltb k (4 * length ns / 4) ≡ true
four ns k h = lt-ltb k (4 * length ns / 4) (omega arith)

-- a field is read back
pub field_same : (b : List ℕ) (at : ℕ) (ns : List ℕ) (k : ℕ) → has_place b (4 * length ns) at ≡ true → k < length ns
    → field_of (stored b at ns) (4 * length ns) at k ≡ get_or ns k 0
unfolding field_of
field_same b at ns k h hk =
    let w = within b (4 * length ns) at h in
    let n = length-encode ns in
    rw (four ns k hk, has_place-stored b at ns (4 * length ns) at, h, stored_yes b at ns h)
    (word-sets (encode ns) b (4 * length ns * at) (4 * k) (omega arith) (omega arith) ∙ word-encode ns k hk)

-- a number outside the place stands
word_other : (b : List ℕ) (at : ℕ) (ns : List ℕ) (x : ℕ) → (x + 4 ≤ 4 * length ns * at) ⊎ (4 * length ns * at + 4 * length ns ≤ x) → word (stored b at ns) x ≡ word b x
unfolding stored
word_other b at ns x h = go (has_place b (4 * length ns) at) where
  go : (t : Bool) → word (cond t (sets b (4 * length ns * at) (encode ns)) b) x ≡ word b x
  go true = word-sets_other (encode ns) b (4 * length ns * at) x (rw length-encode h)
  go false = refl

-- two numbers that differ: one is below the other
pub sides : (i j : ℕ) → (i ≡ j → ⊥) → (i < j) ⊎ (j < i)
sides i j h = go (ltb i j) refl where
  go : (t : Bool) → ltb i j ≡ t → (i < j) ⊎ (j < i)
  go true e = inl (ltb-true i j e)
  go false e = inr (omega (arith, ltb-false i j e, h))

-- a field of another place stands
pub field_other : (b : List ℕ) (at : ℕ) (ns : List ℕ) (i k : ℕ) → (i ≡ at → ⊥) → k < length ns
    → field_of (stored b at ns) (4 * length ns) i k ≡ field_of b (4 * length ns) i k
unfolding field_of
field_other b at ns i k h hk = rw (has_place-stored b at ns (4 * length ns) i, word_other b at ns (4 * length ns * i + 4 * k) side) where
  side : (4 * length ns * i + 4 * k + 4 ≤ 4 * length ns * at) ⊎ (4 * length ns * at + 4 * length ns ≤ 4 * length ns * i + 4 * k)
  side = ⊎_elim (λ (p : i < at). inl (omega (arith, apart (4 * length ns) i at p))) (λ (p : at < i). inr (omega (arith, apart (4 * length ns) at i p))) (sides i at h)
