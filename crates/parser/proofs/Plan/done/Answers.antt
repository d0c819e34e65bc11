use mathlib.Core.Path.{refl}
use Rattle.parser.specs.Plans.{plan_done}
use Rattle.parser.proofs.Plan.done.Goals as goal

pub returns : goal.returns
unfolding plan_done
returns c =
    refl
