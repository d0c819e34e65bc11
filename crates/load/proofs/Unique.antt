-- The public function's contract, as the source states it, allows one result. `Learnt κs a x s` is the contract:
-- lifetimes, arguments, result, and what stands behind the arguments at exit. Assumes nothing.
use mathlib.Core.Path.{◌≡◌, sym, ◌∙◌}
use Rattle.load.proofs.load.Reads as load

pub load_unique : (κs : _) (a : _) (x y : _) (s t : _) → load.Learnt κs a x s → load.Learnt κs a y t → x ≡ y
load_unique κs a x y s t p q = p ∙ sym q
