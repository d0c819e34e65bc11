use native.Mathlib.Numerals.{add-one}
use borrow.Author.Tests.{ne_eqb}
use Rattle.parser.specs.Documents.{told}
use Rattle.rules.specs.Rules.Words.{choose◌then◌else◌, is}
use Rattle.parser.proofs.directives.declares.Goals as goal

pub returns-in_default : goal.returns-in_default
unfolding told choose◌then◌else◌ is
returns-in_default c =
    simp (add-one, c.in_default.is, ← c.read_token-read.ensures)

pub returns-then-t-eq-TAG_DIRECTIVE : goal.returns-then-t-eq-TAG_DIRECTIVE
unfolding told choose◌then◌else◌ is
returns-then-t-eq-TAG_DIRECTIVE c =
    simp (add-one, c.same_bytes.ensures, c.if-t-eq-TAG_DIRECTIVE.true, c.in-Token.is, ← c.read_token-read.ensures)

pub returns : goal.returns
unfolding told choose◌then◌else◌ is
returns c =
    simp (add-one, ne_eqb _ _ c.if-t-eq-TAG_DIRECTIVE.false, c.in-Token.is, ← c.read_token-read.ensures)
