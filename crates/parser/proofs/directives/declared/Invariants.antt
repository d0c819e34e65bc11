use mathlib.Core.Path.{◌≡◌}
use mathlib.Core.Bool.{false}
use Prim.Native.Nat.{◌-◌, ◌≤◌}
use Rattle.parser.proofs.DirectiveLaws.{own}
use Rattle.parser.proofs.directives.declared.Given as goal

abbrev pub invariant-loop-i : goal.invariant-loop-i
invariant-loop-i l =
    (l.from ≤ l.i) × (l.i - l.from ≤ l.at - l.from) × (own l.tokens l.text l.name l.from (l.i - l.from) ≡ false)

abbrev pub decreases-loop-i : goal.decreases-loop-i
decreases-loop-i l =
    l.at - l.i
