use borrow.Author.Rules.{rules}
use Rattle.run.specs.Apply.{stands}
use Rattle.run.proofs.apply.stands.Goals as goal

pub returns : goal.returns
unfolding stands
returns c =
    search rules
