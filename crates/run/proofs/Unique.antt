-- The run's contract, as the source states it, allows one answer and one content of each buffer. `Learnt κs a x s` is the
-- contract: lifetimes, arguments, result, and what stands behind the arguments at exit. Assumes nothing.
use mathlib.Core.Path.{◌≡◌, sym, ap, ◌∙◌}
use Rattle.run.specs.Run.{left}
use Rattle.run.proofs.run.Reads as run

pub run_unique : (κs : _) (a : _) (x y : _) (s t : _) → run.Learnt κs a x s → run.Learnt κs a y t
    → (x ≡ y) × (s.1.1.1.0.now ≡ t.1.1.1.0.now) × (s.1.1.1.1.0.now ≡ t.1.1.1.1.0.now)
    × (s.1.1.1.1.1.0.now ≡ t.1.1.1.1.1.0.now) × (s.1.1.1.1.1.1.0.now ≡ t.1.1.1.1.1.1.0.now)
unfolding left
run_unique κs a x y s t p q =
    let e = p ∙ sym q in
    (ap (λ l. l.answer) e, ap (λ l. l.events) e, ap (λ l. l.states) e, ap (λ l. l.anchors) e, ap (λ l. l.handles) e)
