use native.Mathlib.Omega.{arith}
use Rattle.records.proofs.TokenLaws.{inside}
use Rattle.parser.proofs.By.{by_is, by_look, by_no, by_none, by_not, by_yes}
use Rattle.parser.proofs.PlanLaws.{by_over}
use native.Mathlib.Numerals.{add-one}
use Rattle.parser.specs.Answers.{decided, answer, refused_by, refusing, state_after, open_after, names_after, handles_after}
use Rattle.parser.specs.Machine.{small, lent}
use Rattle.parser.specs.Plans.{planned, plan_done, plan_node}
use Rattle.rules.specs.Rules.{flow_sequence_entry_mapping_value}
use Rattle.rules.specs.Rules.Words.{give, among}
use Rattle.rules.specs.Run.{limit}
use Rattle.parser.proofs.Machine.flow_sequence_entry_mapping_value.Goals as goal

pub returns-in_default : goal.returns-in_default
unfolding flow_sequence_entry_mapping_value small decided answer limit lent give refused_by refusing state_after open_after names_after handles_after among planned plan_done plan_node
returns-in_default c =
    ((λ names tags terms. by_none (lent c.args.tokens.now c.args.text.now names tags terms) c.args.self _ _ _ _ c.read_token-read.ensures c.in_default.is (simp (add-one, c.declined.ensures, c.in_default.is))), rw c.declined.ensures tt)

pub overflow_add-next : goal.overflow_add-next
unfolding flow_sequence_entry_mapping_value small decided answer limit lent give refused_by refusing state_after open_after names_after handles_after among planned plan_done plan_node
overflow_add-next c =
    let tokens = c.well_formed.1.0 in
    omega (arith, inside _ _ _ c.read_token-read.ensures c.in-Token.is, tokens)

pub returns-in_default-ahead : goal.returns-in_default-ahead
unfolding flow_sequence_entry_mapping_value small decided answer limit lent give refused_by refusing state_after open_after names_after handles_after among planned plan_done plan_node
returns-in_default-ahead c =
    ((λ names tags terms. by_look (lent c.args.tokens.now c.args.text.now names tags terms) c.args.self _ _ _ _ c.read_token-read.ensures c.in-Token.is (by_is (lent c.args.tokens.now c.args.text.now names tags terms) c.args.self _ _ _ _ _ _ c.if-t-eq-VALUE.true (by_none (lent c.args.tokens.now c.args.text.now names tags terms) c.args.self _ _ _ _ ((rw add-one at c.read_token-ahead.ensures)) c.in_default-ahead.is (simp (add-one, c.declined-in_default-ahead.ensures, c.in_default-ahead.is))))), rw c.declined-in_default-ahead.ensures tt)

pub returns-then-ends_single_value : goal.returns-then-ends_single_value
unfolding flow_sequence_entry_mapping_value small decided answer limit lent give refused_by refusing state_after open_after names_after handles_after among planned plan_done plan_node
returns-then-ends_single_value c =
    ((λ names tags terms. by_look (lent c.args.tokens.now c.args.text.now names tags terms) c.args.self _ _ _ _ c.read_token-read.ensures c.in-Token.is (by_is (lent c.args.tokens.now c.args.text.now names tags terms) c.args.self _ _ _ _ _ _ c.if-t-eq-VALUE.true (by_look (lent c.args.tokens.now c.args.text.now names tags terms) c.args.self _ _ _ _ ((rw add-one at c.read_token-ahead.ensures)) c.in-Token-ahead.is (by_yes (lent c.args.tokens.now c.args.text.now names tags terms) c.args.self _ _ _ _ _ c.ends_single_value.ensures c.if-ends_single_value.true (simp (add-one, c.give.ensures, c.empty_scalar.ensures)))))), rw c.give.ensures tt)

pub returns-then-t-eq-VALUE : goal.returns-then-t-eq-VALUE
unfolding flow_sequence_entry_mapping_value small decided answer limit lent give refused_by refusing state_after open_after names_after handles_after among planned plan_done plan_node
returns-then-t-eq-VALUE c =
    ((λ names tags terms. by_look (lent c.args.tokens.now c.args.text.now names tags terms) c.args.self _ _ _ _ c.read_token-read.ensures c.in-Token.is (by_is (lent c.args.tokens.now c.args.text.now names tags terms) c.args.self _ _ _ _ _ _ c.if-t-eq-VALUE.true (by_look (lent c.args.tokens.now c.args.text.now names tags terms) c.args.self _ _ _ _ ((rw add-one at c.read_token-ahead.ensures)) c.in-Token-ahead.is (by_no (lent c.args.tokens.now c.args.text.now names tags terms) c.args.self _ _ _ _ _ c.ends_single_value.ensures c.if-ends_single_value.false (by_over (lent c.args.tokens.now c.args.text.now names tags terms) c.args.self _ _ _ ((rw add-one at c.read_token-ahead.ensures)) c.in-Token-ahead.is _ (rw add-one at c.node.ensures)))))), rw c.node.ensures (inside _ _ _ c.read_token-ahead.ensures c.in-Token-ahead.is))

pub returns : goal.returns
unfolding flow_sequence_entry_mapping_value small decided answer limit lent give refused_by refusing state_after open_after names_after handles_after among planned plan_done plan_node
returns c =
    ((λ names tags terms. by_look (lent c.args.tokens.now c.args.text.now names tags terms) c.args.self _ _ _ _ c.read_token-read.ensures c.in-Token.is (by_not (lent c.args.tokens.now c.args.text.now names tags terms) c.args.self _ _ _ _ _ _ c.if-t-eq-VALUE.false (simp (add-one, c.give-2.ensures, c.empty_scalar-2.ensures)))), rw c.give-2.ensures tt)
