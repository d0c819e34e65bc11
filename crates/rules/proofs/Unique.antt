-- Each public function's contract, as the source states it, allows one result. Assumes nothing.
use mathlib.Core.Path.{◌≡◌, sym, ◌∙◌}
use Rattle.rules.proofs.State.numbers.Reads as numbers
use Rattle.rules.proofs.State.back.Reads as back

pub numbers_unique : (κs : _) (a : _) (x y : _) (s t : _) → numbers.Learnt κs a x s → numbers.Learnt κs a y t → x ≡ y
numbers_unique κs a x y s t p q = p ∙ sym q

pub back_unique : (κs : _) (a : _) (x y : _) (s t : _) → back.Learnt κs a x s → back.Learnt κs a y t → x ≡ y
back_unique κs a x y s t p q = p ∙ sym q
