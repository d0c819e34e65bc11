use native.Mathlib.Numerals.{add-one}
use Rattle.rules.specs.Rules.Words.{is}
use Rattle.parser.proofs.flow.no_comma.Goals as goal

pub returns-then-first : goal.returns-then-first
unfolding is
returns-then-first c =
    simp (add-one, c.if-first.true)

pub returns-else-first : goal.returns-else-first
unfolding is
returns-else-first c =
    simp (add-one, c.if-first.false)
