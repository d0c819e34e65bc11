use Rattle.tables.specs.Anchors.{anchor_at}
use Rattle.tables.proofs.anchors.anchor_at.Goals as goal

pub returns : goal.returns
unfolding anchor_at
returns c = cc
