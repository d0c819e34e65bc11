use mathlib.Core.Path.{◌∙◌}
use Rattle.parser.proofs.DocumentLaws.{document_same}
use native.Mathlib.Omega.{arith}
use Rattle.records.proofs.TokenLaws.{inside}
use Rattle.parser.proofs.By.{by_is, by_look, by_none, by_not}
use native.Mathlib.Numerals.{add-one}
use Rattle.parser.specs.Answers.{decided, answer, refused_by, refusing, state_after, open_after, names_after, handles_after}
use Rattle.parser.specs.Documents.{tags_of}
use Rattle.parser.specs.Machine.{lent}
use Rattle.rules.specs.Rules.{after_directives}
use Rattle.rules.specs.Rules.Words.{give, among}
use Rattle.rules.specs.Run.{limit}
use Rattle.parser.proofs.Machine.after_directives.Goals as goal

pub returns-in_default : goal.returns-in_default
unfolding after_directives tags_of decided answer limit lent give refused_by refusing state_after open_after names_after handles_after among
returns-in_default c =
    by_none (lent c.args.tokens.now c.args.text.now c.args.names.now c.args.tags.now c.args.terms) c.args.self _ _ _ _ c.read_token-read.ensures c.in_default.is (simp (add-one, c.refused.ensures, c.in_default.is))

pub overflow_add-at : goal.overflow_add-at
unfolding after_directives tags_of decided answer limit lent give refused_by refusing state_after open_after names_after handles_after among
overflow_add-at c =
    let tokens = c.well_formed.1.0 in
    omega (arith, inside _ _ _ c.read_token-read.ensures c.in-Token.is, tokens)

pub returns-then-t-eq-DOCUMENT_START : goal.returns-then-t-eq-DOCUMENT_START
unfolding after_directives tags_of decided answer limit lent give refused_by refusing state_after open_after names_after handles_after among
returns-then-t-eq-DOCUMENT_START c =
    by_look (lent c.args.tokens.now c.args.text.now c.args.names.now c.args.tags.now c.args.terms) c.args.self _ _ _ _ c.read_token-read.ensures c.in-Token.is (by_is (lent c.args.tokens.now c.args.text.now c.args.names.now c.args.tags.now c.args.terms) c.args.self _ _ _ _ _ _ c.if-t-eq-DOCUMENT_START.true ((rw add-one at c.document.ensures) ∙ document_same _ _ _ _ _ _ _))

pub returns-then-t-eq-BYTE_ORDER_MARK : goal.returns-then-t-eq-BYTE_ORDER_MARK
unfolding after_directives tags_of decided answer limit lent give refused_by refusing state_after open_after names_after handles_after among
returns-then-t-eq-BYTE_ORDER_MARK c =
    by_look (lent c.args.tokens.now c.args.text.now c.args.names.now c.args.tags.now c.args.terms) c.args.self _ _ _ _ c.read_token-read.ensures c.in-Token.is (by_not (lent c.args.tokens.now c.args.text.now c.args.names.now c.args.tags.now c.args.terms) c.args.self _ _ _ _ _ _ c.if-t-eq-DOCUMENT_START.false (by_is (lent c.args.tokens.now c.args.text.now c.args.names.now c.args.tags.now c.args.terms) c.args.self _ _ _ _ _ _ c.if-t-eq-BYTE_ORDER_MARK.true (simp (add-one, c.refuse.ensures))))

pub returns : goal.returns
unfolding after_directives tags_of decided answer limit lent give refused_by refusing state_after open_after names_after handles_after among
returns c =
    by_look (lent c.args.tokens.now c.args.text.now c.args.names.now c.args.tags.now c.args.terms) c.args.self _ _ _ _ c.read_token-read.ensures c.in-Token.is (by_not (lent c.args.tokens.now c.args.text.now c.args.names.now c.args.tags.now c.args.terms) c.args.self _ _ _ _ _ _ c.if-t-eq-DOCUMENT_START.false (by_not (lent c.args.tokens.now c.args.text.now c.args.names.now c.args.tags.now c.args.terms) c.args.self _ _ _ _ _ _ c.if-t-eq-BYTE_ORDER_MARK.false (simp (add-one, c.refuse-2.ensures))))
