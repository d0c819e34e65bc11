use Rattle.std.proofs.Common.{rules}
use Rattle.tables.specs.Anchors.{numbers_of}
use Rattle.tables.proofs.anchors.numbers_of.Goals as goal

pub returns : goal.returns
unfolding numbers_of
returns c = search rules
