use Rattle.tables.specs.States.{state_at}
use Rattle.tables.proofs.states.state_at.Goals as goal

pub returns : goal.returns
unfolding state_at
returns c = cc
