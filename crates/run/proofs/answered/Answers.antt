use native.Mathlib.Omega.{arith}
use borrow.Author.Rules.{rules}
use Rattle.run.specs.Turns.{answered}
use Rattle.run.proofs.answered.Goals as goal

pub overflow_cast-count : goal.overflow_cast-count
unfolding answered
overflow_cast-count c =
    omega (arith, c.requires)

pub returns : goal.returns
unfolding answered
returns c =
    search rules
