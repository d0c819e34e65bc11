-- Laws of names: fields that make no range, and comparing element by element. Assumes nothing.
use mathlib.Core.Path.{◌≡◌, refl, ap}
use mathlib.Core.Bool.{Bool, true, false, ◌&&◌}
use mathlib.Core.List.{List, [], ◌∷◌}
use Prim.Native.Nat.{ℕ, ◌+◌, ◌/◌, ◌≤◌, ◌<◌}
use native.Mathlib.Omega.{arith}
use native.Mathlib.Numerals.{add-one}
use borrow.Author.Tests.{eq-eqb, ne_eqb, eqb-true, le-ltb}
use lib.Dec.{eqb}
use lib.ListN.{length, get_or, drop, drop_of_length-le}
use lib.Seq.{drop-cons}
use Rattle.places.specs.Places.{field_of}
use Rattle.records.specs.Names.{no_range, range_of, same}

-- fields that are not there make no range
pub range_none : (b : List ℕ) (size at k : ℕ) → size / 4 ≤ k → no_range ≡ range_of b size at k
unfolding no_range range_of field_of
range_none b size at k h = rw (le-ltb k (size / 4) h, le-ltb (k + 1) (size / 4) (omega arith))

pub same_refl : (xs : List ℕ) → same xs xs ≡ true
unfolding same
same_refl [] = refl
same_refl (x ∷ xs) = rw (eq-eqb x x refl, same_refl xs)

-- the test is true of equal lists alone
pub same_eq : (xs ys : List ℕ) → same xs ys ≡ true → xs ≡ ys
unfolding same
same_eq [] [] e = refl
same_eq [] (y ∷ ys) e = cc
same_eq (x ∷ xs) [] e = cc
same_eq (x ∷ xs) (y ∷ ys) e = go (eqb x y) refl e (same_eq xs ys) where
  go : (t : Bool) → eqb x y ≡ t → (t && same xs ys) ≡ true → (same xs ys ≡ true → xs ≡ ys) → x ∷ xs ≡ y ∷ ys
  go true h e ih = cc (eqb-true x y h, ih e)
  go false h e ih = cc

pub same_lengths : (xs ys : List ℕ) → (length xs ≡ length ys → ⊥) → same xs ys ≡ false
same_lengths xs ys h = go (same xs ys) refl where
  go : (t : Bool) → same xs ys ≡ t → t ≡ false
  go true e = absurd (h (ap length (same_eq xs ys e)))
  go false e = refl

module _ (xs ys : List ℕ) (i : ℕ) (hx : i < length xs) (hy : i < length ys) where
  pub same_next : get_or xs i 0 ≡ get_or ys i 0 → same (drop i xs) (drop i ys) ≡ same (drop (i + 1) xs) (drop (i + 1) ys)
  unfolding same
  same_next e = rw (drop-cons xs i 0 hx, drop-cons ys i 0 hy, eq-eqb _ _ e, add-one)

  pub same_differ : (get_or xs i 0 ≡ get_or ys i 0 → ⊥) → same (drop i xs) (drop i ys) ≡ false
  unfolding same
  same_differ e = rw (drop-cons xs i 0 hx, drop-cons ys i 0 hy, ne_eqb _ _ e)

pub same_end : (xs ys : List ℕ) (i : ℕ) → length xs ≤ i → length ys ≤ i → same (drop i xs) (drop i ys) ≡ true
unfolding same
same_end xs ys i hx hy = rw (drop_of_length-le xs hx, drop_of_length-le ys hy)
