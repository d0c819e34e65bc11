use Rattle.records.specs.Events.{event_at}
use Rattle.records.proofs.events.event_at.Goals as goal

pub returns : goal.returns
unfolding event_at
returns c = cc
