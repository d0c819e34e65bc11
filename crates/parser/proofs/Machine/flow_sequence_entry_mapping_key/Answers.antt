use native.Mathlib.Omega.{arith}
use Rattle.records.proofs.TokenLaws.{inside}
use Rattle.parser.proofs.By.{by_look, by_no, by_none, by_yes}
use Rattle.parser.proofs.PlanLaws.{by_over}
use native.Mathlib.Numerals.{add-one}
use Rattle.parser.specs.Answers.{decided, answer, refused_by, refusing, state_after, open_after, names_after, handles_after}
use Rattle.parser.specs.Machine.{small, lent}
use Rattle.parser.specs.Plans.{planned, plan_done, plan_node}
use Rattle.rules.specs.Rules.{flow_sequence_entry_mapping_key}
use Rattle.rules.specs.Rules.Words.{give, among}
use Rattle.rules.specs.Run.{limit}
use Rattle.parser.proofs.Machine.flow_sequence_entry_mapping_key.Goals as goal

pub returns-in_default : goal.returns-in_default
unfolding flow_sequence_entry_mapping_key small decided answer limit lent give refused_by refusing state_after open_after names_after handles_after among planned plan_done plan_node
returns-in_default c =
    ((λ names tags terms. by_none (lent c.args.tokens.now c.args.text.now names tags terms) c.args.self _ _ _ _ c.read_token-read.ensures c.in_default.is (simp (add-one, c.declined.ensures, c.in_default.is))), rw c.declined.ensures tt)

pub overflow_add-at : goal.overflow_add-at
unfolding flow_sequence_entry_mapping_key small decided answer limit lent give refused_by refusing state_after open_after names_after handles_after among planned plan_done plan_node
overflow_add-at c =
    let tokens = c.well_formed.1.0 in
    omega (arith, inside _ _ _ c.read_token-read.ensures c.in-Token.is, tokens)

pub returns-then-ends_single_key : goal.returns-then-ends_single_key
unfolding flow_sequence_entry_mapping_key small decided answer limit lent give refused_by refusing state_after open_after names_after handles_after among planned plan_done plan_node
returns-then-ends_single_key c =
    ((λ names tags terms. by_look (lent c.args.tokens.now c.args.text.now names tags terms) c.args.self _ _ _ _ c.read_token-read.ensures c.in-Token.is (by_yes (lent c.args.tokens.now c.args.text.now names tags terms) c.args.self _ _ _ _ _ c.ends_single_key.ensures c.if-ends_single_key.true (simp (add-one, c.give.ensures, c.empty_scalar-key.ensures)))), rw c.give.ensures tt)

pub returns : goal.returns
unfolding flow_sequence_entry_mapping_key small decided answer limit lent give refused_by refusing state_after open_after names_after handles_after among planned plan_done plan_node
returns c =
    ((λ names tags terms. by_look (lent c.args.tokens.now c.args.text.now names tags terms) c.args.self _ _ _ _ c.read_token-read.ensures c.in-Token.is (by_no (lent c.args.tokens.now c.args.text.now names tags terms) c.args.self _ _ _ _ _ c.ends_single_key.ensures c.if-ends_single_key.false (by_over (lent c.args.tokens.now c.args.text.now names tags terms) c.args.self _ _ _ c.read_token-read.ensures c.in-Token.is _ c.node.ensures))), rw c.node.ensures (inside _ _ _ c.read_token-read.ensures c.in-Token.is))
