use Rattle.std.proofs.Common.{refl}
use Rattle.records.specs.Checks.{refusing}
use Rattle.records.proofs.checks.refuse.Goals as goal

pub returns : goal.returns
unfolding refusing
returns c = refl
