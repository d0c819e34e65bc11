use native.Mathlib.Numerals.{add-one}
use Rattle.rules.specs.Rules.{passes}
use Rattle.rules.specs.Rules.Words.{among}
use Rattle.parser.proofs.document.marked.Goals as goal

pub returns-in_default : goal.returns-in_default
unfolding passes among
returns-in_default c =
    simp (add-one, c.in_default.is, ← c.read_token-read.ensures)

pub returns : goal.returns
unfolding passes among
returns c =
    simp (add-one, c.mark.ensures, c.in-Token.is, ← c.read_token-read.ensures)
