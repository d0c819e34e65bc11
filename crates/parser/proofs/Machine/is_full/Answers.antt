use native.Mathlib.Numerals.{add-one}
use Rattle.parser.specs.Plans.{is_full}
use Rattle.parser.proofs.Machine.is_full.Goals as goal

pub returns-in-Here : goal.returns-in-Here
unfolding is_full
returns-in-Here c =
    simp (add-one, c.in-Here.is)

pub returns-in-Above : goal.returns-in-Above
unfolding is_full
returns-in-Above c =
    simp (add-one, c.in-Above.is)
