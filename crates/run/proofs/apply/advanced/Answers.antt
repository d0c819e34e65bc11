use Rattle.run.specs.Apply.{advanced}
use Rattle.run.proofs.apply.advanced.Goals as goal

pub returns-in_default : goal.returns-in_default
unfolding advanced
returns-in_default c =
    rw c.in_default.is

pub returns : goal.returns
unfolding advanced
returns c =
    rw c.in-At.is
