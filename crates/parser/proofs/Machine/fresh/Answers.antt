use borrow.Author.Rules.{rules}
use Rattle.parser.specs.Machine.{fresh}
use Rattle.parser.proofs.Machine.fresh.Goals as goal

pub returns : goal.returns
unfolding fresh
returns c =
    search rules
