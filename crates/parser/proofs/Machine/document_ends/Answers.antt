use native.Mathlib.Numerals.{add-one}
use Rattle.parser.specs.Answers.{refusing, decided, answer, state_after, open_after, names_after}
use Rattle.parser.specs.Machine.{given, lent}
use Rattle.rules.specs.Rules.{document_ends}
use Rattle.rules.specs.Run.{limit}
use Rattle.parser.proofs.DocumentLaws.{clears}
use Rattle.parser.proofs.Machine.document_ends.Goals as goal

pub returns : goal.returns
unfolding document_ends given refusing decided answer limit lent state_after open_after names_after
returns c =
    simp (add-one, c.next.ensures, c.goes.ensures, c.cleared-handles.ensures, c.plain-event.ensures, clears)
