use Rattle.std.proofs.Common.{rules}
use Rattle.tables.specs.Handles.{numbers_of}
use Rattle.tables.proofs.handles.numbers_of.Goals as goal

pub returns : goal.returns
unfolding numbers_of
returns c = search rules
