use Rattle.parser.proofs.TagLaws.{secondary-length, secondary-first, secondary_second}
use Rattle.parser.proofs.tag.is_secondary.Goals as goal

pub returns-then-handle-ne2 : goal.returns-then-handle-ne2
returns-then-handle-ne2 c =
    secondary-length c.args.handle.now c.if-handle-ne2.true

pub returns-then-handle-ne33 : goal.returns-then-handle-ne33
returns-then-handle-ne33 c =
    secondary-first c.args.handle.now c.if-handle-ne2.false c.if-handle-ne33.true

pub returns : goal.returns
returns c =
    secondary_second c.args.handle.now c.if-handle-ne2.false c.if-handle-ne33.false
