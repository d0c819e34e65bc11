-- Fields that are not there make no range; else the two fields are those read.
use Rattle.std.proofs.Common.{◌∙◌}
use Rattle.records.specs.Names.{range_of}
use Rattle.records.proofs.NameLaws.{range_none}
use Rattle.records.proofs.names.range_at.Goals as goal

pub returns-then-k-size : goal.returns-then-k-size
returns-then-k-size c =
    let a = c.args in
    c.no_range.ensures ∙ range_none a.bytes.now a.size a.at a.k c.if-k-size.true

pub returns : goal.returns
unfolding range_of
returns c = cc
