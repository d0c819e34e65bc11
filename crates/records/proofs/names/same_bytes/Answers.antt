use Rattle.records.specs.Names.{same_name}
use Rattle.records.proofs.names.same_bytes.Goals as goal

pub returns : goal.returns
unfolding same_name
returns c = cc
