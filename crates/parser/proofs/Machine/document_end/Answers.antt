use Rattle.parser.proofs.DocumentLaws.{end_past}
use Rattle.parser.proofs.By.{by_is, by_look, by_none, by_not}
use native.Mathlib.Numerals.{add-one}
use Rattle.parser.specs.Answers.{decided, answer, refused_by, refusing, state_after, open_after, names_after, handles_after}
use Rattle.parser.specs.Machine.{small, lent}
use Rattle.parser.specs.Plans.{planned, plan_done}
use Rattle.rules.specs.Rules.{document_end}
use Rattle.rules.specs.Rules.Words.{give, among}
use Rattle.rules.specs.Run.{limit}
use Rattle.parser.proofs.Machine.document_end.Goals as goal

pub returns-in_default : goal.returns-in_default
unfolding document_end small decided answer limit lent give refused_by refusing state_after open_after names_after handles_after among planned plan_done
returns-in_default c =
    (by_none (lent c.args.tokens.now c.args.text.now c.args.names.now c.args.tags.now c.args.terms) c.args.self _ _ _ _ c.read_token-read.ensures c.in_default.is (simp (add-one, c.declined.ensures, c.in_default.is)), rw c.declined.ensures tt)

pub returns-then-t-eq-BYTE_ORDER_MARK : goal.returns-then-t-eq-BYTE_ORDER_MARK
unfolding document_end small decided answer limit lent give refused_by refusing state_after open_after names_after handles_after among planned plan_done
returns-then-t-eq-BYTE_ORDER_MARK c =
    (by_look (lent c.args.tokens.now c.args.text.now c.args.names.now c.args.tags.now c.args.terms) c.args.self _ _ _ _ c.read_token-read.ensures c.in-Token.is (by_is (lent c.args.tokens.now c.args.text.now c.args.names.now c.args.tags.now c.args.terms) c.args.self _ _ _ _ _ _ c.if-t-eq-BYTE_ORDER_MARK.true (simp (c.done.ensures, c.after_marks-step.ensures, c.past-next.ensures) (end_past _ _ _ _))), rw c.done.ensures tt)

pub returns : goal.returns
unfolding document_end small decided answer limit lent give refused_by refusing state_after open_after names_after handles_after among planned plan_done
returns c =
    (by_look (lent c.args.tokens.now c.args.text.now c.args.names.now c.args.tags.now c.args.terms) c.args.self _ _ _ _ c.read_token-read.ensures c.in-Token.is (by_not (lent c.args.tokens.now c.args.text.now c.args.names.now c.args.tags.now c.args.terms) c.args.self _ _ _ _ _ _ c.if-t-eq-BYTE_ORDER_MARK.false (simp (add-one, c.done-2.ensures, c.document_end_at.ensures))), rw c.done-2.ensures tt)
