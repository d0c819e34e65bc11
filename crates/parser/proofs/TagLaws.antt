-- Laws of handles: `!!`, and a `!` at both ends. Assumes nothing.
use mathlib.Core.Path.{◌≡◌, refl, sym}
use mathlib.Core.Bool.{Bool, true, false, ◌&&◌}
use mathlib.Core.List.{List, [], ◌∷◌}
use Prim.Native.Nat.{ℕ, suc, ◌-◌, ◌≤◌, ◌<◌}
use native.Mathlib.Omega.{arith}
use borrow.Author.Tests.{eq-eqb, ne_eqb}
use lib.Dec.{eqb}
use lib.ListN.{length, get_or}
use Rattle.records.specs.Names.{same}
use Rattle.records.proofs.NameLaws.{same_lengths}
use Rattle.rules.specs.Rules.{bang_last, named_handle?}
use Rattle.parser.specs.Tags.{secondary}

pub secondary-length : (h : List ℕ) → (length h ≡ 2 → ⊥) → false ≡ secondary h
unfolding secondary
secondary-length h d = sym (same_lengths h (33 ∷ 33 ∷ []) d)

pub secondary-first : (h : List ℕ) → length h ≡ 2 → (get_or h 0 0 ≡ 33 → ⊥) → false ≡ secondary h
unfolding secondary same
secondary-first [] l d = absurd (omega arith)
secondary-first (x ∷ xs) l d = rw (ne_eqb x 33 d)

pub secondary_second : (h : List ℕ) → length h ≡ 2 → get_or h 0 0 ≡ 33 → eqb (get_or h 1 0) 33 ≡ secondary h
unfolding secondary same
secondary_second [] l e = absurd (omega arith)
secondary_second (x ∷ []) l e = absurd (omega arith)
secondary_second (x ∷ y ∷ []) l e = rw (eq-eqb x 33 e) (go (eqb y 33)) where
  go : (t : Bool) → t ≡ t && true
  go true = refl
  go false = refl
secondary_second (x ∷ y ∷ z ∷ zs) l e = absurd (omega arith)

last : (x : ℕ) (xs : List ℕ) → bang_last (x ∷ xs) ≡ eqb (get_or (x ∷ xs) (length xs) 0) 33
unfolding bang_last
last x [] = refl
last x (y ∷ ys) = last y ys

pub named-short : (h : List ℕ) → length h < 2 → false ≡ named_handle? h
unfolding named_handle? bang_last
named-short [] l = refl
named-short (x ∷ []) l = go (eqb x 33) where
  go : (t : Bool) → false ≡ t && false
  go true = refl
  go false = refl
named-short (x ∷ y ∷ ys) l = absurd (omega arith)

pub named-first : (h : List ℕ) → 2 ≤ length h → (get_or h 0 0 ≡ 33 → ⊥) → false ≡ named_handle? h
unfolding named_handle?
named-first [] l d = absurd (omega arith)
named-first (x ∷ xs) l d = rw (ne_eqb x 33 d)

pub named_last : (h : List ℕ) → 2 ≤ length h → get_or h 0 0 ≡ 33 → eqb (get_or h (length h - 1) 0) 33 ≡ named_handle? h
unfolding named_handle?
named_last [] l e = absurd (omega arith)
named_last (x ∷ []) l e = absurd (omega arith)
named_last (x ∷ y ∷ ys) l e =
    let k : length (x ∷ y ∷ ys) - 1 ≡ suc (length ys) = omega arith in
    rw (eq-eqb x 33 e, k, last y ys)
