use borrow.Author.Rules.{rules}
use Rattle.parser.specs.Nodes.{node_event}
use Rattle.parser.proofs.node.node_event.Goals as goal

pub returns : goal.returns
unfolding node_event
returns c =
    search rules
