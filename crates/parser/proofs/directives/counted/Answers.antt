use native.Mathlib.Numerals.{add-one}
use borrow.Author.Tests.{lt-ltb, le-ltb, le-leb, lt-leb}
use Rattle.parser.specs.Answers.{refusing}
use Rattle.parser.specs.Documents.{counted}
use Rattle.rules.specs.Rules.Words.{choose◌then◌else◌}
use Rattle.parser.proofs.directives.counted.Goals as goal

pub returns-then-used-room : goal.returns-then-used-room
unfolding counted choose◌then◌else◌ refusing
returns-then-used-room c =
    simp (add-one, le-leb _ _ c.if-used-room.true, c.in-At.is)

pub returns-then-used-room-2 : goal.returns-then-used-room-2
unfolding counted choose◌then◌else◌ refusing
returns-then-used-room-2 c =
    simp (add-one, lt-ltb _ _ c.if-used-room-2.true, c.in-Nothing.is)

pub returns-else-used-room : goal.returns-else-used-room
unfolding counted choose◌then◌else◌ refusing
returns-else-used-room c =
    simp (add-one, c.refuse.ensures, lt-leb _ _ c.if-used-room.false, c.in-At.is)

pub returns-else-used-room-2 : goal.returns-else-used-room-2
unfolding counted choose◌then◌else◌ refusing
returns-else-used-room-2 c =
    simp (add-one, c.refuse-in-Nothing.ensures, le-ltb _ _ c.if-used-room-2.false, c.in-Nothing.is)
