use Rattle.parser.proofs.DocumentLaws.{mark_is, mark_ends, mark_none}
use Rattle.parser.proofs.kinds.mark.Goals as goal

pub returns-in-8 : goal.returns-in-8
returns-in-8 c =
    simp c.in-8.is (mark_is _)

pub returns-in-7 : goal.returns-in-7
returns-in-7 c =
    simp c.in-7.is (mark_ends _)

pub returns-in_default : goal.returns-in_default
returns-in_default c =
    mark_none _ _ c.in_default.in_default-own.rest.0.1 c.in_default.in_default-own.rest.1
