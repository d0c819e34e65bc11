use native.Mathlib.Numerals.{add-one}
use Rattle.rules.specs.Rules.Words.{choose◌then◌else◌}
use Rattle.parser.proofs.flow.entry_at.Goals as goal

pub returns-then-first : goal.returns-then-first
unfolding choose◌then◌else◌
returns-then-first c =
    simp (add-one, c.if-first.true)

pub returns-else-first : goal.returns-else-first
unfolding choose◌then◌else◌
returns-else-first c =
    simp (add-one, c.if-first.false)
