use native.Mathlib.Numerals.{add-one}
use Rattle.rules.specs.Rules.Words.{choose◌then◌else◌}
use Rattle.parser.proofs.document.forgotten.Goals as goal

pub returns-then-forget : goal.returns-then-forget
unfolding choose◌then◌else◌
returns-then-forget c =
    simp (add-one, c.if-forget.true)

pub returns-else-forget : goal.returns-else-forget
unfolding choose◌then◌else◌
returns-else-forget c =
    simp (add-one, c.if-forget.false)
