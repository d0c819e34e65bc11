-- Each answer of `load` is true of the bytes, and 0 is given exactly for those that the grammar derives. Assumes nothing.
use mathlib.Core.Path.{◌≡◌, refl, ap}
use mathlib.Core.Bool.{Bool, true, false, cond}
use mathlib.Core.Logic.{◌↔◌}
use mathlib.Core.List.{List}
use Prim.Native.Nat.{ℕ, ◌-◌, ◌%◌}
use native.Mathlib.Omega.{arith}
use lib.Dec.{eqb}
use lib.ListN.{length}
use borrow.Author.Tests.{eq-eqb, eqb-true, eqb-false}
use Rattle.records.specs.Events.{event_size}
use Rattle.rules.specs.Walk.{outside, walk, Walked}
use Rattle.load.specs.Load.{count, from, answered, said, loaded}
use Rattle.load.specs.Grammar.{Derived, Why, early, stray, full}
use Rattle.load.specs.Meaning.{Means, accepted, uneven, refused}
use Rattle.load.specs.declared.Answer.{Answer}
use Rattle.load.proofs.KindLaws.{length_from}
use Rattle.load.proofs.Accepts.{stream-walk}
use Rattle.load.proofs.Verdicts.{Verdict, passes, stops, verdict}

module _ (bs : List ℕ) where
  said_means : {w : Walked} → length bs % event_size ≡ 0 → Verdict outside (from bs 0) w → Means bs (said (count bs) w)
  unfolding said
  said_means h (passes r) = accepted h r
  said_means h (stops {rest = rest} i e r) =
      let j : count bs - length rest ≡ i = omega (arith, length_from bs 0) in
      rw j (refused h r)

  pub means : Means bs (loaded bs)
  unfolding loaded
  means = go (eqb (length bs % event_size) 0) refl where
    go : (t : Bool) → eqb (length bs % event_size) 0 ≡ t → Means bs (cond t (said (count bs) (walk outside (from bs 0))) (answered 20 0))
    go true e = said_means (eqb-true (length bs % event_size) 0 e) (verdict (from bs 0) outside tt)
    go false e = uneven (eqb-false (length bs % event_size) 0 e)

  pub accepts : length bs % event_size ≡ 0 → Derived (from bs 0) → loaded bs ≡ answered 0 0
  unfolding loaded said
  accepts h d = rw (eq-eqb (length bs % event_size) 0 h, d.is, stream-walk d.nodes d.nested)

why_not : {p : _} {ks : List ℕ} {m : ℕ} → Why p ks m → m ≡ 0 → ⊥
why_not (early h) e = omega arith
why_not (stray h) e = omega arith
why_not (full h d) e = omega arith

means_0 : {bs : List ℕ} {a : Answer} → Means bs a → a.number ≡ 0 → (length bs % event_size ≡ 0) × Derived (from bs 0)
unfolding answered
means_0 (accepted h d) e = (h, d)
means_0 (uneven h) e = absurd (omega arith)
means_0 (refused h r) e = absurd (why_not r.why e)

pub exactly : (bs : List ℕ) → ((loaded bs).number ≡ 0) ↔ ((length bs % event_size ≡ 0) × Derived (from bs 0))
unfolding answered
exactly bs = ((λ e. means_0 (means bs) e), (λ d. ap (λ (a : Answer). a.number) (accepts bs d.0 d.1)))
