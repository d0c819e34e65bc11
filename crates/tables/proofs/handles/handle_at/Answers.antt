use Rattle.tables.specs.Handles.{handle_at}
use Rattle.tables.proofs.handles.handle_at.Goals as goal

pub returns : goal.returns
unfolding handle_at
returns c = cc
