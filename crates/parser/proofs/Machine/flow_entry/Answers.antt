use native.Mathlib.Omega.{arith}
use Rattle.records.proofs.TokenLaws.{inside}
use Rattle.parser.proofs.By.{by_is, by_look, by_none, by_not}
use Rattle.parser.proofs.PlanLaws.{by_over}
use native.Mathlib.Numerals.{add-one}
use Rattle.parser.specs.Answers.{decided, answer, refused_by, refusing, state_after, open_after, names_after, handles_after}
use Rattle.parser.specs.Machine.{lent}
use Rattle.parser.specs.Plans.{planned, plan_done, plan_node}
use Rattle.rules.specs.Rules.{flow_entry}
use Rattle.rules.specs.Rules.Words.{give, among}
use Rattle.rules.specs.Run.{limit}
use Rattle.parser.proofs.Machine.flow_entry.Goals as goal

pub returns-in_default : goal.returns-in_default
unfolding flow_entry decided answer limit lent give refused_by refusing state_after open_after names_after handles_after among planned plan_done plan_node
returns-in_default c =
    ((λ names tags terms. by_none (lent c.args.tokens.now c.args.text.now names tags terms) c.args.self _ _ _ _ c.read_token-read.ensures c.in_default.is (simp (add-one, c.declined.ensures, c.in_default.is))), rw c.declined.ensures tt)

pub overflow_add-at : goal.overflow_add-at
unfolding flow_entry decided answer limit lent give refused_by refusing state_after open_after names_after handles_after among planned plan_done plan_node
overflow_add-at c =
    let tokens = c.well_formed.1.0 in
    omega (arith, inside _ _ _ c.read_token-read.ensures c.in-Token.is, tokens)

pub returns-then-t-eq-FLOW_SEQUENCE_END : goal.returns-then-t-eq-FLOW_SEQUENCE_END
unfolding flow_entry decided answer limit lent give refused_by refusing state_after open_after names_after handles_after among planned plan_done plan_node
returns-then-t-eq-FLOW_SEQUENCE_END c =
    ((λ names tags terms. by_look (lent c.args.tokens.now c.args.text.now names tags terms) c.args.self _ _ _ _ c.read_token-read.ensures c.in-Token.is (by_is (lent c.args.tokens.now c.args.text.now names tags terms) c.args.self _ _ _ _ _ _ c.if-t-eq-FLOW_SEQUENCE_END.true (simp (add-one, c.pop.ensures, c.plain.ensures)))), rw c.pop.ensures tt)

pub overflow_add-at-then-t-eq-KEY : goal.overflow_add-at-then-t-eq-KEY
unfolding flow_entry decided answer limit lent give refused_by refusing state_after open_after names_after handles_after among planned plan_done plan_node
overflow_add-at-then-t-eq-KEY c =
    let tokens = c.well_formed.1.0 in
    omega (arith, inside _ _ _ c.read_token-read.ensures c.in-Token.is, tokens)

pub returns-then-t-eq-KEY : goal.returns-then-t-eq-KEY
unfolding flow_entry decided answer limit lent give refused_by refusing state_after open_after names_after handles_after among planned plan_done plan_node
returns-then-t-eq-KEY c =
    ((λ names tags terms. by_look (lent c.args.tokens.now c.args.text.now names tags terms) c.args.self _ _ _ _ c.read_token-read.ensures c.in-Token.is (by_not (lent c.args.tokens.now c.args.text.now names tags terms) c.args.self _ _ _ _ _ _ c.if-t-eq-FLOW_SEQUENCE_END.false (by_is (lent c.args.tokens.now c.args.text.now names tags terms) c.args.self _ _ _ _ _ _ c.if-t-eq-KEY.true (simp (add-one, c.give.ensures, c.plain-pair.ensures))))), rw c.give.ensures tt)

pub returns : goal.returns
unfolding flow_entry decided answer limit lent give refused_by refusing state_after open_after names_after handles_after among planned plan_done plan_node
returns c =
    ((λ names tags terms. by_look (lent c.args.tokens.now c.args.text.now names tags terms) c.args.self _ _ _ _ c.read_token-read.ensures c.in-Token.is (by_not (lent c.args.tokens.now c.args.text.now names tags terms) c.args.self _ _ _ _ _ _ c.if-t-eq-FLOW_SEQUENCE_END.false (by_not (lent c.args.tokens.now c.args.text.now names tags terms) c.args.self _ _ _ _ _ _ c.if-t-eq-KEY.false (by_over (lent c.args.tokens.now c.args.text.now names tags terms) c.args.self _ _ _ c.read_token-read.ensures c.in-Token.is _ c.node.ensures)))), rw c.node.ensures (inside _ _ _ c.read_token-read.ensures c.in-Token.is))
