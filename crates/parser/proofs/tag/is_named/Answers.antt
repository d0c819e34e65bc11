use Rattle.parser.proofs.TagLaws.{named-short, named-first, named_last}
use Rattle.parser.proofs.tag.is_named.Goals as goal

pub returns-then-n-lt2 : goal.returns-then-n-lt2
returns-then-n-lt2 c =
    named-short c.args.handle.now c.if-n-lt2.true

pub returns-then-handle-ne33 : goal.returns-then-handle-ne33
returns-then-handle-ne33 c =
    named-first c.args.handle.now c.if-n-lt2.false c.if-handle-ne33.true

pub returns : goal.returns
returns c =
    named_last c.args.handle.now c.if-n-lt2.false c.if-handle-ne33.false
