use borrow.Author.Rules.{rules}
use Rattle.parser.specs.Nodes.{anchored}
use Rattle.parser.proofs.node.anchored.Goals as goal

pub returns : goal.returns
unfolding anchored
returns c =
    search rules
