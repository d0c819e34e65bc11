-- The documents from 1 to `at` are read; the events left fall.
use Prim.Native.Nat.{◌-◌}
use Rattle.load.specs.Load.{count}
use Rattle.load.proofs.PartLaws.{Read}
use Rattle.load.proofs.load_stream.Given as goal

abbrev pub invariant-loop-at : goal.invariant-loop-at
invariant-loop-at l = Read l.events l.at

abbrev pub decreases-loop-at : goal.decreases-loop-at
decreases-loop-at l = count l.events - l.at
