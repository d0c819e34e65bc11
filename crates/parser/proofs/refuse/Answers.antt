use borrow.Author.Rules.{rules}
use Rattle.parser.specs.Answers.{refusing}
use Rattle.parser.proofs.refuse.Goals as goal

pub returns : goal.returns
unfolding refusing
returns c =
    search rules
