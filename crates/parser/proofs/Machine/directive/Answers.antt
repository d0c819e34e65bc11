use mathlib.Core.Path.{◌∙◌}
use Rattle.parser.proofs.Turns.{tag_same}
use native.Mathlib.Numerals.{add-one}
use borrow.Author.Tests.{ne_eqb}
use Rattle.parser.specs.Answers.{refusing, refused_by}
use Rattle.parser.specs.Documents.{directive, directive_read}
use Rattle.parser.specs.Machine.{lent}
use Rattle.rules.specs.Rules.Words.{choose◌then◌else◌, is}
use Rattle.parser.proofs.Machine.directive.Goals as goal

pub returns-in_default : goal.returns-in_default
unfolding directive directive_read lent refusing refused_by choose◌then◌else◌ is
returns-in_default c =
    simp (add-one, c.refused.ensures, c.in_default.is, ← c.read_token-read.ensures)

pub returns-then-version : goal.returns-then-version
unfolding directive directive_read lent refusing refused_by choose◌then◌else◌ is
returns-then-version c =
    simp (add-one, c.refuse.ensures, c.if-version.true, c.if-t-eq-VERSION_DIRECTIVE.true, c.in-Token.is, ← c.read_token-read.ensures)

pub returns-then-t-eq-VERSION_DIRECTIVE : goal.returns-then-t-eq-VERSION_DIRECTIVE
unfolding directive directive_read lent refusing refused_by choose◌then◌else◌ is
returns-then-t-eq-VERSION_DIRECTIVE c =
    simp (add-one, c.if-version.false, c.if-t-eq-VERSION_DIRECTIVE.true, c.in-Token.is, ← c.read_token-read.ensures)

pub returns-then-t-eq-TAG_DIRECTIVE : goal.returns-then-t-eq-TAG_DIRECTIVE
unfolding directive directive_read lent refusing refused_by choose◌then◌else◌ is
returns-then-t-eq-TAG_DIRECTIVE c =
    simp (c.if-t-eq-TAG_DIRECTIVE.true, ne_eqb _ _ c.if-t-eq-VERSION_DIRECTIVE.false, c.in-Token.is, ← c.read_token-read.ensures) (c.tag_directive.ensures ∙ tag_same _ _ _ _ _ _ _)

pub returns-then-t-eq-RESERVED_DIRECTIVE : goal.returns-then-t-eq-RESERVED_DIRECTIVE
unfolding directive directive_read lent refusing refused_by choose◌then◌else◌ is
returns-then-t-eq-RESERVED_DIRECTIVE c =
    simp (add-one, c.if-t-eq-RESERVED_DIRECTIVE.true, ne_eqb _ _ c.if-t-eq-TAG_DIRECTIVE.false, ne_eqb _ _ c.if-t-eq-VERSION_DIRECTIVE.false, c.in-Token.is, ← c.read_token-read.ensures)

pub returns : goal.returns
unfolding directive directive_read lent refusing refused_by choose◌then◌else◌ is
returns c =
    simp (add-one, c.after_directives.ensures, ne_eqb _ _ c.if-t-eq-RESERVED_DIRECTIVE.false, ne_eqb _ _ c.if-t-eq-TAG_DIRECTIVE.false, ne_eqb _ _ c.if-t-eq-VERSION_DIRECTIVE.false, c.in-Token.is, ← c.read_token-read.ensures)
