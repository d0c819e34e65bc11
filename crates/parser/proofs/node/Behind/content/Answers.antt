use mathlib.Core.Path.{refl}
use Rattle.parser.specs.Nodes.{behind_content}
use Rattle.parser.proofs.node.Behind.content.Goals as goal

pub returns : goal.returns
unfolding behind_content
returns c =
    refl
