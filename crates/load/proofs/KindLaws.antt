-- The walk over the kinds that bytes hold, event by event. Assumes nothing.
use mathlib.Core.Path.{◌≡◌, refl, sym, ap, ◌∙◌}
use mathlib.Core.Bool.{Bool, true, false}
use mathlib.Core.List.{List, [], ◌∷◌}
use Prim.Native.Nat.{ℕ, zero, suc, ◌+◌, ◌-◌, ◌≤◌, ◌<◌}
use native.Mathlib.Omega.{arith}
use native.Mathlib.Numerals.{add-one}
use lib.Dec.{ltb}
use lib.ListN.{length}
use borrow.Author.Tests.{ltb-true, ltb-false}
use Rattle.places.specs.Places.{field_of, has_place}
use Rattle.std.specs.Prelude.{Option, Some}
use Rattle.std.proofs.lemmas.Option.{none-some}
use Rattle.records.specs.Events.{event_at, events_of}
use Rattle.records.specs.EventKinds.{event_number, event_kind_of}
use Rattle.records.specs.declared.kinds.EventKind.{EventKind}
use Rattle.records.proofs.EventKindLaws.{kind_number, number_kind}
use Rattle.rules.specs.Walk.{kinds, Place, to, no, lead, Walked, refused, finish, onward, walk}
use Rattle.load.specs.Load.{count, kind_at, from, answered, said}

module _ (bs : List ℕ) where
  length_kinds : (i n : ℕ) → length (kinds (events_of bs i n)) ≡ n
  unfolding kinds events_of
  length_kinds i zero = refl
  length_kinds i (suc n) = ap suc (length_kinds (suc i) n)

  pub length_from : (i : ℕ) → length (from bs i) ≡ count bs - i
  unfolding from
  length_from i = length_kinds i (count bs - i)

  pub from_none : (i : ℕ) → count bs ≤ i → from bs i ≡ []
  unfolding from kinds events_of
  from_none i h = let e : count bs - i ≡ 0 = omega arith in rw e

  from_more : (i : ℕ) → i < count bs → from bs i ≡ kind_at bs i ∷ from bs (i + 1)
  unfolding from kinds events_of kind_at
  from_more i h = let e : count bs - i ≡ suc (count bs - suc i) = omega arith in rw (add-one, e)

  -- no kind is read where there is no event
  pub there : (i : ℕ) {k : ℕ} → k ≡ kind_at bs i → (k ≡ 0 → ⊥) → i < count bs
  unfolding kind_at event_at field_of has_place
  there i e h = go (ltb i (count bs)) refl where
    go : (t : Bool) → ltb i (count bs) ≡ t → i < count bs
    go true q = ltb-true i (count bs) q
    go false q = absurd (h (e ∙ rw q))

  -- where a kind is found it has the number that is read, and there is an event
  module _ (i : ℕ) {kind : Option EventKind} (is : kind ≡ event_kind_of (kind_at bs i)) {x : EventKind} where
    pub number : kind ≡ Some x → kind_at bs i ≡ event_number x
    number e = sym (kind_number (kind_at bs i) x (sym is ∙ e))

    pub not_number : (kind ≡ Some x → ⊥) → kind_at bs i ≡ event_number x → ⊥
    not_number h e = h (is ∙ ap event_kind_of e ∙ number_kind x)

    pub found : kind ≡ Some x → i < count bs
    unfolding event_kind_of event_number
    found e = there i refl (λ z. none-some x (ap event_kind_of (sym z) ∙ sym is ∙ e))

  -- an event that leads on, one that is refused, and one that cannot stand or is not there
  pub leads : (i : ℕ) (p q : Place) → i < count bs → lead p (kind_at bs i) ≡ to q → walk p (from bs i) ≡ walk q (from bs (i + 1))
  unfolding walk onward
  leads i p q h e = rw (from_more i h, e)

  pub stops : (i m : ℕ) (p : Place) → i < count bs → lead p (kind_at bs i) ≡ no m → walk p (from bs i) ≡ refused m (from bs i)
  unfolding walk onward
  stops i m p h e = rw (from_more i h, e)

  pub cannot : (i : ℕ) (p : Place) → finish p ≡ refused 30 [] → lead p (kind_at bs i) ≡ no 30 → walk p (from bs i) ≡ refused 30 (from bs i)
  unfolding walk
  cannot i p f e = go (ltb i (count bs)) refl where
    go : (t : Bool) → ltb i (count bs) ≡ t → walk p (from bs i) ≡ refused 30 (from bs i)
    go true q = stops i 30 p (ltb-true i (count bs) q) e
    go false q = rw (from_none i (ltb-false i (count bs) q)) f

  -- the place of a refusal
  pub said_at : (m i : ℕ) (w : Walked) → i ≤ count bs → w ≡ refused m (from bs i) → said (count bs) w ≡ answered m i
  unfolding said
  said_at m i w h e = rw e (ap (answered m) (omega (arith, length_from i)))
