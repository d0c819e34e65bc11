use borrow.Author.Rules.{rules}
use Rattle.parser.specs.Answers.{next}
use Rattle.parser.proofs.Machine.next.Goals as goal

pub returns : goal.returns
unfolding next
returns c =
    search rules
