use native.Mathlib.Numerals.{add-one}
use Rattle.parser.specs.Answers.{refused_by}
use Rattle.parser.proofs.refused.Goals as goal

pub returns-in-Refused : goal.returns-in-Refused
unfolding refused_by
returns-in-Refused c =
    simp (add-one, c.in-Refused.is)

pub returns-in-Token : goal.returns-in-Token
unfolding refused_by
returns-in-Token c =
    simp (add-one, c.in-Token.is)
