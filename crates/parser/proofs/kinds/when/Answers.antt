use native.Mathlib.Numerals.{add-one}
use Rattle.rules.specs.Rules.Words.{is}
use Rattle.parser.proofs.kinds.when.Goals as goal

pub returns-then-flag : goal.returns-then-flag
unfolding is
returns-then-flag c =
    simp (add-one, c.if-flag.true)

pub returns-else-flag : goal.returns-else-flag
unfolding is
returns-else-flag c =
    simp (add-one, c.if-flag.false)
