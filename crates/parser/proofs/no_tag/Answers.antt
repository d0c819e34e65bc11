use native.Mathlib.Numerals.{add-one}
use Rattle.rules.specs.Rules.Words.{no_tag}
use Rattle.parser.proofs.no_tag.Goals as goal

pub returns : goal.returns
unfolding no_tag
returns c =
    simp (add-one, c.no_range-2.ensures, c.no_range.ensures)
