-- What is used lies in the space, and the bytes left to read fall.
use Rattle.std.proofs.Common.{length, ◌-◌, ◌≤◌}
use Rattle.replay.proofs.read_full.Given as goal

abbrev pub invariant-loop-used : goal.invariant-loop-used
invariant-loop-used g l = l.used ≤ length l.space

abbrev pub decreases-loop-used : goal.decreases-loop-used
decreases-loop-used g l = length l.initial.space - l.used
