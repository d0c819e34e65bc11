use native.Mathlib.Numerals.{add-one}
use Rattle.parser.specs.Answers.{moved, over_of, state_after, open_after}
use Rattle.rules.specs.Rules.{pop_state}
use Rattle.parser.proofs.Machine.finish.Goals as goal

pub returns-in-Here : goal.returns-in-Here
unfolding moved pop_state over_of state_after open_after
returns-in-Here c =
    simp (add-one, c.next.ensures, c.goes.ensures, c.in-Here.is)

pub returns-in-Above : goal.returns-in-Above
unfolding moved pop_state over_of state_after open_after
returns-in-Above c =
    simp (add-one, c.next-in-Above.ensures, c.goes-in-Above.ensures, c.in-Above.is)
