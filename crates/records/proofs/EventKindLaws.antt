-- The numbers of the kinds of events: the kind that is found has the number, and each kind is found by its own. Assumes nothing.
use mathlib.Core.Path.{◌≡◌, refl}
use mathlib.Core.Bool.{Bool, true, false, cond}
use mathlib.Core.List.{List, [], ◌∷◌}
use Prim.Native.Nat.{ℕ}
use lib.Dec.{eqb}
use borrow.Author.Tests.{eqb-true}
use Rattle.std.specs.Prelude.{Some, find}
use Rattle.std.proofs.lemmas.Option.{none-some, same_Some}
use Rattle.records.specs.EventKinds.{event_number, event_kinds, event_kind_of}
use Rattle.records.specs.declared.kinds.EventKind.{EventKind}
use Rattle.records.specs.declared.kinds.EventKind.TheVariants as k

found : (n : ℕ) (x : EventKind) (ys : List EventKind) → find (λ y. eqb (event_number y) n) ys ≡ Some x → event_number x ≡ n
found n x [] e = absurd (none-some x e)
found n x (y ∷ ys) e = go (eqb (event_number y) n) refl e (found n x ys) where
  go : (t : Bool) → eqb (event_number y) n ≡ t → cond t (Some y) (find (λ z. eqb (event_number z) n) ys) ≡ Some x
      → (find (λ z. eqb (event_number z) n) ys ≡ Some x → event_number x ≡ n) → event_number x ≡ n
  go true q f g = rw (← same_Some y x f) (eqb-true (event_number y) n q)
  go false q f g = g f

-- a number is that of the kind found
pub kind_number : (n : ℕ) (x : EventKind) → event_kind_of n ≡ Some x → event_number x ≡ n
unfolding event_kind_of
kind_number n x e = found n x event_kinds e

-- a kind is found again by its number
pub number_kind : (x : EventKind) → event_kind_of (event_number x) ≡ Some x
unfolding event_kind_of event_number
number_kind k.StreamStart = refl
number_kind k.StreamEnd = refl
number_kind k.DocumentStart = refl
number_kind k.DocumentEnd = refl
number_kind k.Alias = refl
number_kind k.Scalar = refl
number_kind k.SequenceStart = refl
number_kind k.SequenceEnd = refl
number_kind k.MappingStart = refl
number_kind k.MappingEnd = refl
