use mathlib.Core.Path.{◌∙◌}
use Rattle.parser.proofs.DocumentLaws.{ends_same}
use native.Mathlib.Omega.{arith}
use Rattle.records.proofs.TokenLaws.{inside}
use Rattle.parser.proofs.By.{by_is, by_look, by_no, by_none, by_not, by_yes}
use native.Mathlib.Numerals.{add-one}
use Rattle.parser.specs.Answers.{decided, answer, refused_by, refusing, state_after, open_after, names_after, handles_after}
use Rattle.parser.specs.Machine.{lent}
use Rattle.rules.specs.Rules.{document_end_at}
use Rattle.rules.specs.Rules.Words.{give, among}
use Rattle.rules.specs.Run.{limit}
use Rattle.parser.proofs.Machine.document_end_at.Goals as goal

pub returns-in_default : goal.returns-in_default
unfolding document_end_at decided answer limit lent give refused_by refusing state_after open_after names_after handles_after among
returns-in_default c =
    by_none (lent c.args.tokens.now c.args.text.now c.args.names.now c.args.tags.now c.args.terms) c.args.self _ _ _ _ c.read_token-read.ensures c.in_default.is (simp (add-one, c.refused.ensures, c.in_default.is))

pub overflow_add-at : goal.overflow_add-at
unfolding document_end_at decided answer limit lent give refused_by refusing state_after open_after names_after handles_after among
overflow_add-at c =
    let tokens = c.well_formed.1.0 in
    omega (arith, inside _ _ _ c.read_token-read.ensures c.in-Token.is, tokens)

pub returns-then-t-eq-DOCUMENT_END : goal.returns-then-t-eq-DOCUMENT_END
unfolding document_end_at decided answer limit lent give refused_by refusing state_after open_after names_after handles_after among
returns-then-t-eq-DOCUMENT_END c =
    by_look (lent c.args.tokens.now c.args.text.now c.args.names.now c.args.tags.now c.args.terms) c.args.self _ _ _ _ c.read_token-read.ensures c.in-Token.is (by_is (lent c.args.tokens.now c.args.text.now c.args.names.now c.args.tags.now c.args.terms) c.args.self _ _ _ _ _ _ c.if-t-eq-DOCUMENT_END.true ((rw add-one at c.document_ends.ensures) ∙ ends_same _ _ _ _ _))

pub returns-then-directive : goal.returns-then-directive
unfolding document_end_at decided answer limit lent give refused_by refusing state_after open_after names_after handles_after among
returns-then-directive c =
    by_look (lent c.args.tokens.now c.args.text.now c.args.names.now c.args.tags.now c.args.terms) c.args.self _ _ _ _ c.read_token-read.ensures c.in-Token.is (by_not (lent c.args.tokens.now c.args.text.now c.args.names.now c.args.tags.now c.args.terms) c.args.self _ _ _ _ _ _ c.if-t-eq-DOCUMENT_END.false (by_yes (lent c.args.tokens.now c.args.text.now c.args.names.now c.args.tags.now c.args.terms) c.args.self _ _ _ _ _ c.directive.ensures c.if-directive.true (simp (add-one, c.refuse.ensures))))

pub returns : goal.returns
unfolding document_end_at decided answer limit lent give refused_by refusing state_after open_after names_after handles_after among
returns c =
    by_look (lent c.args.tokens.now c.args.text.now c.args.names.now c.args.tags.now c.args.terms) c.args.self _ _ _ _ c.read_token-read.ensures c.in-Token.is (by_not (lent c.args.tokens.now c.args.text.now c.args.names.now c.args.tags.now c.args.terms) c.args.self _ _ _ _ _ _ c.if-t-eq-DOCUMENT_END.false (by_no (lent c.args.tokens.now c.args.text.now c.args.names.now c.args.tags.now c.args.terms) c.args.self _ _ _ _ _ c.directive.ensures c.if-directive.false (c.document_ends-2.ensures ∙ ends_same _ _ _ _ _)))
