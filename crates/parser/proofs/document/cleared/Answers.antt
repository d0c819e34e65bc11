use native.Mathlib.Numerals.{add-one}
use Rattle.rules.specs.Rules.Words.{choose◌then◌else◌}
use Rattle.parser.proofs.document.cleared.Goals as goal

pub returns-then-keep : goal.returns-then-keep
unfolding choose◌then◌else◌
returns-then-keep c =
    simp (add-one, c.if-keep.true)

pub returns-else-keep : goal.returns-else-keep
unfolding choose◌then◌else◌
returns-else-keep c =
    simp (add-one, c.if-keep.false)
