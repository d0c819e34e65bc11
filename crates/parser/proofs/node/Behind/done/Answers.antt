use mathlib.Core.Path.{refl}
use Rattle.parser.specs.Nodes.{behind_done}
use Rattle.parser.proofs.node.Behind.done.Goals as goal

pub returns : goal.returns
unfolding behind_done
returns c =
    refl
