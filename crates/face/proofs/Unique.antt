-- The face's contract, as the source states it, allows one number and one content of each buffer. Assumes nothing.
use mathlib.Core.Path.{◌≡◌, sym, ap, ◌∙◌}
use Rattle.face.specs.Face.{faced, walked}
use Rattle.face.proofs.saphyr_run.Reads as saphyr_run
use Rattle.face.proofs.saphyr_load.Reads as saphyr_load

pub saphyr_run_unique : (κs : _) (a : _) (x y : _) (s t : _) → saphyr_run.Learnt κs a x s → saphyr_run.Learnt κs a y t
    → (x ≡ y) × (s.1.1.1.1.0.now ≡ t.1.1.1.1.0.now) × (s.1.1.1.1.1.0.now ≡ t.1.1.1.1.1.0.now) × (s.1.1.1.1.1.1.0.now ≡ t.1.1.1.1.1.1.0.now) × (s.1.1.1.1.1.1.1.0.now ≡ t.1.1.1.1.1.1.1.0.now) × (s.1.1.1.1.1.1.1.1.0.now ≡ t.1.1.1.1.1.1.1.1.0.now)
unfolding faced
saphyr_run_unique κs a x y s t p q =
    let e = p ∙ sym q in
    (ap (λ l. l.number) e, ap (λ l. l.events) e, ap (λ l. l.states) e, ap (λ l. l.anchors) e, ap (λ l. l.handles) e, ap (λ l. l.answer) e)

pub saphyr_load_unique : (κs : _) (a : _) (x y : _) (s t : _) → saphyr_load.Learnt κs a x s → saphyr_load.Learnt κs a y t
    → (x ≡ y) × (s.1.0.now ≡ t.1.0.now)
unfolding walked
saphyr_load_unique κs a x y s t p q =
    let e = p ∙ sym q in
    (ap (λ l. l.number) e, ap (λ l. l.answer) e)
