use mathlib.Core.Path.{◌∙◌}
use Rattle.parser.proofs.DocumentLaws.{document_same}
use native.Mathlib.Omega.{arith}
use Rattle.records.proofs.TokenLaws.{inside}
use Rattle.parser.proofs.By.{by_is, by_look, by_no, by_none, by_not, by_yes}
use mathlib.Core.Path.{refl}
use native.Mathlib.Numerals.{add-one}
use Rattle.parser.specs.Answers.{decided, answer, refused_by, refusing, state_after, open_after, names_after, handles_after}
use Rattle.parser.specs.Documents.{tags_of}
use Rattle.parser.specs.Machine.{lent}
use Rattle.parser.specs.Plans.{planned, plan_done}
use Rattle.rules.specs.Rules.{document_start_at}
use Rattle.rules.specs.Rules.Words.{give, among}
use Rattle.rules.specs.Run.{limit}
use Rattle.parser.proofs.Machine.document_start_at.Goals as goal

pub returns-in_default : goal.returns-in_default
unfolding document_start_at tags_of decided answer limit lent give refused_by refusing state_after open_after names_after handles_after among planned plan_done
returns-in_default c =
    (by_none (lent c.args.tokens.now c.args.text.now c.args.names.now c.args.tags.now c.args.terms) c.args.self _ _ _ _ c.read_token-read.ensures c.in_default.is (simp (add-one, c.declined.ensures, c.in_default.is)), rw c.declined.ensures tt)

pub overflow_add-at : goal.overflow_add-at
unfolding document_start_at tags_of decided answer limit lent give refused_by refusing state_after open_after names_after handles_after among planned plan_done
overflow_add-at c =
    let tokens = c.well_formed.1.0 in
    omega (arith, inside _ _ _ c.read_token-read.ensures c.in-Token.is, tokens)

pub returns-then-t-eq-STREAM_END : goal.returns-then-t-eq-STREAM_END
unfolding document_start_at tags_of decided answer limit lent give refused_by refusing state_after open_after names_after handles_after among planned plan_done
returns-then-t-eq-STREAM_END c =
    (by_look (lent c.args.tokens.now c.args.text.now c.args.names.now c.args.tags.now c.args.terms) c.args.self _ _ _ _ c.read_token-read.ensures c.in-Token.is (by_is (lent c.args.tokens.now c.args.text.now c.args.names.now c.args.tags.now c.args.terms) c.args.self _ _ _ _ _ _ c.if-t-eq-STREAM_END.true (simp (add-one, c.give.ensures, c.plain-event.ensures))), rw c.give.ensures tt)

pub returns-then-opens_document : goal.returns-then-opens_document
unfolding document_start_at tags_of decided answer limit lent give refused_by refusing state_after open_after names_after handles_after among planned plan_done
returns-then-opens_document c =
    (by_look (lent c.args.tokens.now c.args.text.now c.args.names.now c.args.tags.now c.args.terms) c.args.self _ _ _ _ c.read_token-read.ensures c.in-Token.is (by_not (lent c.args.tokens.now c.args.text.now c.args.names.now c.args.tags.now c.args.terms) c.args.self _ _ _ _ _ _ c.if-t-eq-STREAM_END.false (by_yes (lent c.args.tokens.now c.args.text.now c.args.names.now c.args.tags.now c.args.terms) c.args.self _ _ _ _ _ c.opens_document.ensures c.if-opens_document.true (simp (add-one, c.done.ensures, c.explicit_document_start-step.ensures)))), rw c.done.ensures tt)

pub returns-then-implicit : goal.returns-then-implicit
unfolding document_start_at tags_of decided answer limit lent give refused_by refusing state_after open_after names_after handles_after among planned plan_done
returns-then-implicit c =
    (by_look (lent c.args.tokens.now c.args.text.now c.args.names.now c.args.tags.now c.args.terms) c.args.self _ _ _ _ c.read_token-read.ensures c.in-Token.is (by_not (lent c.args.tokens.now c.args.text.now c.args.names.now c.args.tags.now c.args.terms) c.args.self _ _ _ _ _ _ c.if-t-eq-STREAM_END.false (by_no (lent c.args.tokens.now c.args.text.now c.args.names.now c.args.tags.now c.args.terms) c.args.self _ _ _ _ _ c.opens_document.ensures c.if-opens_document.false (by_yes (lent c.args.tokens.now c.args.text.now c.args.names.now c.args.tags.now c.args.terms) c.args.self _ _ _ _ _ refl c.if-implicit.true (rw c.done-then-implicit.ensures (c.document-step.ensures ∙ document_same _ _ _ _ _ _ _))))), rw c.done-then-implicit.ensures tt)

pub returns : goal.returns
unfolding document_start_at tags_of decided answer limit lent give refused_by refusing state_after open_after names_after handles_after among planned plan_done
returns c =
    (by_look (lent c.args.tokens.now c.args.text.now c.args.names.now c.args.tags.now c.args.terms) c.args.self _ _ _ _ c.read_token-read.ensures c.in-Token.is (by_not (lent c.args.tokens.now c.args.text.now c.args.names.now c.args.tags.now c.args.terms) c.args.self _ _ _ _ _ _ c.if-t-eq-STREAM_END.false (by_no (lent c.args.tokens.now c.args.text.now c.args.names.now c.args.tags.now c.args.terms) c.args.self _ _ _ _ _ c.opens_document.ensures c.if-opens_document.false (by_no (lent c.args.tokens.now c.args.text.now c.args.names.now c.args.tags.now c.args.terms) c.args.self _ _ _ _ _ refl c.if-implicit.false (simp (add-one, c.done-2.ensures, c.explicit_document_start-step-2.ensures))))), rw c.done-2.ensures tt)
