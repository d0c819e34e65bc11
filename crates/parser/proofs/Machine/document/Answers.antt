use mathlib.Core.List.{[]}
use Rattle.parser.specs.Machine.{lent}
use Rattle.parser.proofs.DocumentLaws.{document_room, document_full}
use Rattle.parser.proofs.Machine.document.Goals as goal

pub returns-then-self-terms : goal.returns-then-self-terms
unfolding lent
returns-then-self-terms c =
    simp (c.next.ensures, c.goes.ensures, c.forgotten-names.ensures, c.plain-event.ensures)
    (document_room (lent [] [] [] [] _) _ _ _ _ _ _ c.if-self-terms.true)

pub returns : goal.returns
unfolding lent
returns c =
    simp c.refuse.ensures (document_full (lent [] [] [] [] _) _ _ _ _ _ _ c.if-self-terms.false)
