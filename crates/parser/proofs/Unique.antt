-- Each public function's contract, as the source states it, allows one result. Assumes nothing.
use mathlib.Core.Path.{◌≡◌, sym, ◌∙◌}
use Rattle.parser.proofs.Machine.fresh.Reads as fresh
use Rattle.parser.proofs.Machine.step.Reads as step

pub fresh_unique : (κs : _) (a : _) (x y : _) (s t : _) → fresh.Learnt κs a x s → fresh.Learnt κs a y t → x ≡ y
fresh_unique κs a x y s t p q = p ∙ sym q

pub step_unique : (κs : _) (a : _) (x y : _) (s t : _) → step.Learnt κs a x s → step.Learnt κs a y t → x ≡ y
step_unique κs a x y s t p q = p ∙ sym q
