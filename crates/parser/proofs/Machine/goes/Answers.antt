use borrow.Author.Rules.{rules}
use Rattle.parser.specs.Answers.{goes}
use Rattle.parser.proofs.Machine.goes.Goals as goal

pub returns : goal.returns
unfolding goes
returns c =
    search rules
