use Rattle.std.proofs.Common.{rules}
use Rattle.tables.specs.States.{numbers_of}
use Rattle.tables.proofs.states.put_state.Goals as goal

pub returns : goal.returns
unfolding numbers_of
returns c = search rules
