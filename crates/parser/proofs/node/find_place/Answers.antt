use native.Mathlib.Numerals.{add-one}
use borrow.Author.Tests.{lt-ltb, le-ltb}
use Rattle.parser.specs.Nodes.{place_of, placed}
use Rattle.rules.specs.Rules.Words.{choose◌then◌else◌}
use Rattle.parser.proofs.node.find_place.Goals as goal

pub returns-then-n-room : goal.returns-then-n-room
unfolding place_of placed choose◌then◌else◌
returns-then-n-room c =
    simp (add-one, lt-ltb _ _ c.if-n-room.true, c.in_default.is, ← c.find_anchor-found.ensures)

pub returns-in_default : goal.returns-in_default
unfolding place_of placed choose◌then◌else◌
returns-in_default c =
    simp (add-one, le-ltb _ _ c.if-n-room.false, c.in_default.is, ← c.find_anchor-found.ensures)

pub returns : goal.returns
unfolding place_of placed choose◌then◌else◌
returns c =
    simp (add-one, c.in-At.is, ← c.find_anchor-found.ensures)
