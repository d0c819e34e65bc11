use borrow.Author.Rules.{rules}
use Rattle.run.specs.Turns.{stopped}
use Rattle.run.proofs.stopped.Goals as goal

pub returns : goal.returns
unfolding stopped
returns c =
    search rules
