use borrow.Author.Rules.{rules}
use Rattle.parser.specs.Nodes.{tag_only}
use Rattle.parser.proofs.node.tagged.Goals as goal

pub returns : goal.returns
unfolding tag_only
returns c =
    search rules
