use native.Mathlib.Numerals.{add-one}
use Rattle.parser.specs.Answers.{refusing}
use Rattle.parser.specs.Documents.{tag_directive}
use Rattle.parser.specs.Machine.{lent}
use Rattle.rules.specs.Rules.Words.{choose◌then◌else◌}
use Rattle.parser.proofs.Machine.tag_directive.Goals as goal

pub returns-then-declared : goal.returns-then-declared
unfolding tag_directive lent refusing choose◌then◌else◌
returns-then-declared c =
    simp (add-one, c.refuse.ensures, c.if-declared.true, ← c.declared.ensures)

pub returns : goal.returns
unfolding tag_directive lent refusing choose◌then◌else◌
returns c =
    simp (add-one, c.counted.ensures, c.find_handle-known.ensures, c.if-declared.false, ← c.declared.ensures)
