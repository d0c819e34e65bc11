use Rattle.parser.specs.Nodes.{known_of}
use Rattle.parser.proofs.NodeLaws.{anchor_none, anchor_at_lem}
use Rattle.parser.proofs.node.find_id.Goals as goal

pub returns-in_default : goal.returns-in_default
unfolding known_of
returns-in_default c =
    let a = c.args in
    rw (anchor_none a.text.now a.names.now a.n a.name c.find_anchor-found.ensures c.in_default.is)

pub returns : goal.returns
unfolding known_of
returns c =
    let a = c.args in
    rw (anchor_at_lem a.text.now a.names.now a.n a.name c.find_anchor-found.ensures _ c.in-At.is, ← c.anchor_at-a.ensures)
