use native.Mathlib.Omega.{arith}
use Rattle.records.proofs.TokenLaws.{inside}
use Rattle.parser.proofs.By.{by_is, by_look, by_none, by_not}
use Rattle.parser.proofs.PlanLaws.{by_item, by_no_item, by_first}
use native.Mathlib.Numerals.{add-one}
use Rattle.parser.specs.Answers.{decided, answer, refused_by, refusing, state_after, open_after, names_after, handles_after}
use Rattle.parser.specs.Machine.{lent}
use Rattle.parser.specs.Plans.{planned, plan_done}
use Rattle.rules.specs.Rules.{flow_sequence_entry, flow_sequence_at}
use Rattle.rules.specs.Rules.Words.{give, among}
use Rattle.rules.specs.Run.{limit}
use Rattle.parser.proofs.Machine.flow_sequence_entry.Goals as goal

pub returns-in_default : goal.returns-in_default
unfolding flow_sequence_entry flow_sequence_at decided answer limit lent give refused_by refusing state_after open_after names_after handles_after among planned plan_done
returns-in_default c =
    ((λ names tags terms. by_first (lent c.args.tokens.now c.args.text.now names tags terms) c.args.self _ _ _ _ c.skip_first-at.ensures (by_none (lent c.args.tokens.now c.args.text.now names tags terms) c.args.self _ _ _ _ c.read_token-read.ensures c.in_default.is (simp (add-one, c.declined.ensures, c.in_default.is)))), rw c.declined.ensures tt)

pub overflow_add-at : goal.overflow_add-at
unfolding flow_sequence_entry flow_sequence_at decided answer limit lent give refused_by refusing state_after open_after names_after handles_after among planned plan_done
overflow_add-at c =
    let tokens = c.well_formed.1.0 in
    omega (arith, inside _ _ _ c.read_token-read.ensures c.in-Token.is, tokens)

pub returns-then-t-eq-FLOW_SEQUENCE_END : goal.returns-then-t-eq-FLOW_SEQUENCE_END
unfolding flow_sequence_entry flow_sequence_at decided answer limit lent give refused_by refusing state_after open_after names_after handles_after among planned plan_done
returns-then-t-eq-FLOW_SEQUENCE_END c =
    ((λ names tags terms. by_first (lent c.args.tokens.now c.args.text.now names tags terms) c.args.self _ _ _ _ c.skip_first-at.ensures (by_look (lent c.args.tokens.now c.args.text.now names tags terms) c.args.self _ _ _ _ c.read_token-read.ensures c.in-Token.is (by_is (lent c.args.tokens.now c.args.text.now names tags terms) c.args.self _ _ _ _ _ _ c.if-t-eq-FLOW_SEQUENCE_END.true (simp (add-one, c.pop.ensures, c.plain.ensures))))), rw c.pop.ensures tt)

pub returns-then-no_comma : goal.returns-then-no_comma
unfolding flow_sequence_entry flow_sequence_at decided answer limit lent give refused_by refusing state_after open_after names_after handles_after among planned plan_done
returns-then-no_comma c =
    ((λ names tags terms. by_first (lent c.args.tokens.now c.args.text.now names tags terms) c.args.self _ _ _ _ c.skip_first-at.ensures (by_look (lent c.args.tokens.now c.args.text.now names tags terms) c.args.self _ _ _ _ c.read_token-read.ensures c.in-Token.is (by_not (lent c.args.tokens.now c.args.text.now names tags terms) c.args.self _ _ _ _ _ _ c.if-t-eq-FLOW_SEQUENCE_END.false (by_no_item (lent c.args.tokens.now c.args.text.now names tags terms) c.args.self _ _ _ _ _ c.no_comma.ensures c.if-no_comma.true (simp (add-one, c.decline.ensures)))))), rw c.decline.ensures tt)

pub overflow_add-next : goal.overflow_add-next
unfolding flow_sequence_entry flow_sequence_at decided answer limit lent give refused_by refusing state_after open_after names_after handles_after among planned plan_done
overflow_add-next c =
    let tokens = c.well_formed.1.0 in
    omega (arith, inside _ _ _ c.read_token-read.ensures c.in-Token.is, tokens)

pub returns : goal.returns
unfolding flow_sequence_entry flow_sequence_at decided answer limit lent give refused_by refusing state_after open_after names_after handles_after among planned plan_done
returns c =
    ((λ names tags terms. by_first (lent c.args.tokens.now c.args.text.now names tags terms) c.args.self _ _ _ _ c.skip_first-at.ensures (by_look (lent c.args.tokens.now c.args.text.now names tags terms) c.args.self _ _ _ _ c.read_token-read.ensures c.in-Token.is (by_not (lent c.args.tokens.now c.args.text.now names tags terms) c.args.self _ _ _ _ _ _ c.if-t-eq-FLOW_SEQUENCE_END.false (by_item (lent c.args.tokens.now c.args.text.now names tags terms) c.args.self _ _ _ _ _ c.no_comma.ensures c.if-no_comma.false (rw add-one at c.entry_at.ensures) (c.flow_entry.ensures.0 names tags terms))))), c.flow_entry.ensures.1)
