use Rattle.rules.specs.Rules.{resolved}
use Rattle.parser.specs.Tags.{resolved_of}
use Rattle.parser.proofs.NodeLaws.{handle_none, handle_at_lem}
use Rattle.parser.proofs.tag.resolve_tag.Goals as goal

pub returns-in_default : goal.returns-in_default
unfolding resolved
returns-in_default c =
    let a = c.args in
    rw (handle_none a.text.now a.tags.now a.n a.r c.find_handle-found.ensures c.in_default.is) c.undeclared.ensures

pub returns : goal.returns
unfolding resolved resolved_of
returns c =
    let a = c.args in
    rw (handle_at_lem a.text.now a.tags.now a.n a.r c.find_handle-found.ensures _ c.in-At.is, ← c.handle_at-h.ensures)
