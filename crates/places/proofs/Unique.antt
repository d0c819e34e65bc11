-- Each public function's contract, as the source states it, allows one result and one content of each slice that it
-- changes. `Learnt κs a x s` is the contract: lifetimes, arguments, result, and what stands behind the arguments at exit.
-- Assumes nothing.
use mathlib.Core.Path.{◌≡◌, sym, ◌∙◌}
use Rattle.places.proofs.field.Reads as field
use Rattle.places.proofs.put_place.Reads as put_place
use Rattle.places.proofs.clear_all.Reads as clear_all
use Rattle.places.proofs.clear_used.Reads as clear_used

pub field_unique : (κs : _) (a : _) (x y : _) (s t : _) → field.Learnt κs a x s → field.Learnt κs a y t → x ≡ y
field_unique κs a x y s t p q = p ∙ sym q

pub put_place_unique : (κs : _) (a : _) (x y : _) (s t : _) → put_place.Learnt κs a x s → put_place.Learnt κs a y t → (x ≡ y) × (s.0.now ≡ t.0.now)
put_place_unique κs a x y s t p q = (p.room ∙ sym q.room, p.bytes ∙ sym q.bytes)

pub clear_all_unique : (κs : _) (a : _) (x y : _) (s t : _) → clear_all.Learnt κs a x s → clear_all.Learnt κs a y t → s.0.now ≡ t.0.now
clear_all_unique κs a x y s t p q = p ∙ sym q

pub clear_used_unique : (κs : _) (a : _) (x y : _) (s t : _) → clear_used.Learnt κs a x s → clear_used.Learnt κs a y t → s.0.now ≡ t.0.now
clear_used_unique κs a x y s t p q = p ∙ sym q
