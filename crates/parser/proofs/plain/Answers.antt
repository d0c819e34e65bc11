use native.Mathlib.Numerals.{add-one}
use Rattle.rules.specs.Rules.Words.{plain}
use Rattle.parser.proofs.plain.Goals as goal

pub returns : goal.returns
unfolding plain
returns c =
    simp (add-one, c.no_tag.ensures, c.no_range.ensures)
