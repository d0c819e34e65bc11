-- The run from the start is the run from where it stands.
use Rattle.std.proofs.Common.{◌≡◌, ◌≤◌, ◌-◌, length}
use Rattle.places.specs.Places.{places}
use Rattle.records.specs.Tokens.{token_size}
use Rattle.records.specs.Checks.{good_run}
use Rattle.records.proofs.checks.good_run.Given as goal

abbrev pub invariant-loop-i : goal.invariant-loop-i
invariant-loop-i l =
    (l.n ≡ places l.tokens token_size) × (l.i ≤ l.n)
    × (good_run l.tokens (length l.text) 0 l.n ≡ good_run l.tokens (length l.text) l.i (l.n - l.i))

abbrev pub decreases-loop-i : goal.decreases-loop-i
decreases-loop-i l = l.n - l.i
