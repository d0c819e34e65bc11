-- The search from the start is the search from where it stands.
use Rattle.std.proofs.Common.{◌≡◌, ◌≤◌, ◌-◌}
use Rattle.tables.specs.Lookup.{find, find_from}
use Rattle.tables.proofs.lookup.find_name.Given as goal

abbrev pub invariant-loop-i : goal.invariant-loop-i
invariant-loop-i l = (l.i ≤ l.n) × (find l.text l.bytes l.size l.n l.name ≡ find_from l.text l.bytes l.size l.name l.i (l.n - l.i))

abbrev pub decreases-loop-i : goal.decreases-loop-i
decreases-loop-i l = l.n - l.i
