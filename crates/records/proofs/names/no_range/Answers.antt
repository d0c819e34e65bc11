use Rattle.std.proofs.Common.{refl}
use Rattle.records.specs.Names.{no_range}
use Rattle.records.proofs.names.no_range.Goals as goal

pub returns : goal.returns
unfolding no_range
returns c = refl
