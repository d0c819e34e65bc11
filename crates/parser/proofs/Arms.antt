-- What an arm of a `match` on a kind tells of `one_of`. Assumes nothing.
use Prim.Native.Nat.{ℕ}
use mathlib.Core.Path.{◌≡◌, refl}
use mathlib.Core.Bool.{Bool, true, false, ◌||◌}
use mathlib.Core.List.{List, [], ◌∷◌}
use mathlib.Core.Logic.{inl, inr}
use borrow.Author.Tests.{eq-eqb, ne_eqb}
use lib.Dec.{eqb}
use types.Run.{OneOf}
use Rattle.rules.specs.Rules.Words.{one_of}

pub or_true : (a : Bool) → a || true ≡ true
or_true true = refl
or_true false = refl

pub one_of_lem : (ks : List ℕ) (x : ℕ) → OneOf ks x → one_of x ks ≡ true
unfolding one_of
one_of_lem [] x h = absurd h
one_of_lem (k ∷ []) x h = simp (eq-eqb _ _ h)
one_of_lem (k ∷ j ∷ ks) x (inl h) = simp (eq-eqb _ _ h)
one_of_lem (k ∷ j ∷ ks) x (inr h) = simp (one_of_lem (j ∷ ks) x h) (or_true (eqb x k))

pub none_of : (ks : List ℕ) (x : ℕ) → (OneOf ks x → ⊥) → one_of x ks ≡ false
unfolding one_of
none_of [] x h = refl
none_of (k ∷ []) x h = simp (ne_eqb _ _ h)
none_of (k ∷ j ∷ ks) x h = simp (ne_eqb _ _ (λ e. h (inl e)), none_of (j ∷ ks) x (λ e. h (inr e)))
