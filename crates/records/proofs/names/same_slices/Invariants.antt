-- The slices are as long as one another, and are the same if what is left of both is.
use Rattle.std.proofs.Common.{◌≡◌, ◌≤◌, ◌-◌, length, drop}
use Rattle.records.specs.Names.{same}
use Rattle.records.proofs.names.same_slices.Given as goal

abbrev pub invariant-loop-i : goal.invariant-loop-i
invariant-loop-i l = (length l.x ≡ length l.y) × (l.i ≤ length l.x) × (same l.x l.y ≡ same (drop l.i l.x) (drop l.i l.y))

abbrev pub decreases-loop-i : goal.decreases-loop-i
decreases-loop-i l = length l.x - l.i
