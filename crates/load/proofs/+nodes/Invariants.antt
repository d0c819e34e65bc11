-- The walkers call each other: a node calls a collection with one less left, and a collection calls nodes with the same
-- left, so twice what is left falls, with one more for a collection. In a loop the events left fall.
use Rattle.std.proofs.Common.{◌+◌, ◌-◌}
use Rattle.rules.specs.Walk as k
use Rattle.load.specs.Load.{count}
use Rattle.load.proofs.PartLaws.{Been}
use Rattle.load.proofs.+nodes.Given as goal

abbrev pub decreases-load_mapping : goal.decreases-load_mapping
decreases-load_mapping l = l.left + l.left + 1

abbrev pub decreases-load_node : goal.decreases-load_node
decreases-load_node l = l.left + l.left

abbrev pub decreases-load_sequence : goal.decreases-load_sequence
decreases-load_sequence l = l.left + l.left + 1

abbrev pub invariant-load_mapping-loop-at : goal.invariant-load_mapping-loop-at
invariant-load_mapping-loop-at l = Been k.key l.events l.at l.left l.i

abbrev pub decreases-load_mapping-loop-at : goal.decreases-load_mapping-loop-at
decreases-load_mapping-loop-at l = count l.events - l.i

abbrev pub invariant-load_sequence-loop-i : goal.invariant-load_sequence-loop-i
invariant-load_sequence-loop-i l = Been k.sequence l.events l.at l.left l.i

abbrev pub decreases-load_sequence-loop-i : goal.decreases-load_sequence-loop-i
decreases-load_sequence-loop-i l = count l.events - l.i
