use native.Mathlib.Numerals.{add-one}
use Rattle.rules.specs.Rules.Words.{empty_scalar}
use Rattle.parser.proofs.empty_scalar.Goals as goal

pub returns : goal.returns
unfolding empty_scalar
returns c =
    simp (add-one, c.plain.ensures)
