use mathlib.Core.Path.{◌≡◌}
use Prim.Native.Nat.{◌-◌, ◌≤◌}
use lib.ListN.{length}
use Rattle.run.specs.Apply.{Declaring}
use Rattle.run.proofs.apply.declare.Given as goal

abbrev pub invariant-loop-at : goal.invariant-loop-at
invariant-loop-at l =
    (l.from ≤ l.at) × (l.at - l.from ≤ l.to - l.from) × Declaring l.tokens l.text l.initial.bytes l.n l.from (l.at - l.from) l.used l.bytes × (length l.bytes ≡ length l.initial.bytes)

abbrev pub decreases-loop-at : goal.decreases-loop-at
decreases-loop-at l =
    l.to - l.at
