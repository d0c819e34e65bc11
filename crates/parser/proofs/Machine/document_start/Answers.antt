use Rattle.parser.specs.Machine.{lent}
use Rattle.parser.proofs.DocumentLaws.{start_past}
use Rattle.parser.proofs.Machine.document_start.Goals as goal

pub returns : goal.returns
unfolding lent
returns c =
    (simp (c.document_start_at.ensures.0, c.past-at.ensures) (start_past _ _ _), c.document_start_at.ensures.1)
