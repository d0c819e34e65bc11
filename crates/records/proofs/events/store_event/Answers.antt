use Rattle.records.specs.Events.{numbers_of}
use Rattle.records.proofs.events.store_event.Goals as goal

pub returns : goal.returns
unfolding numbers_of
returns c = c.put_place.ensures
