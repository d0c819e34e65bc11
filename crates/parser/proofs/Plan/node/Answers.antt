use mathlib.Core.Path.{refl}
use Rattle.parser.specs.Plans.{plan_node}
use Rattle.parser.proofs.Plan.node.Goals as goal

pub returns : goal.returns
unfolding plan_node
returns c =
    refl
