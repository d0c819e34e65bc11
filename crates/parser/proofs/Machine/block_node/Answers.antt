use Rattle.records.proofs.TokenLaws.{inside}
use Rattle.parser.proofs.By.{by_none}
use Rattle.parser.proofs.PlanLaws.{by_here}
use native.Mathlib.Numerals.{add-one}
use Rattle.parser.specs.Answers.{decided, answer, refused_by, refusing, state_after, open_after, names_after, handles_after}
use Rattle.parser.specs.Machine.{small, lent}
use Rattle.parser.specs.Plans.{planned, plan_done, plan_node}
use Rattle.rules.specs.Rules.{parse_node}
use Rattle.rules.specs.Rules.Words.{give, among}
use Rattle.rules.specs.Run.{limit}
use Rattle.parser.proofs.Machine.block_node.Goals as goal

pub returns-in_default : goal.returns-in_default
unfolding parse_node small decided answer limit lent give refused_by refusing state_after open_after names_after handles_after among planned plan_done plan_node
returns-in_default c =
    ((λ names tags terms. by_none (lent c.args.tokens.now c.args.text.now names tags terms) c.args.self _ _ _ _ c.read_token-read.ensures c.in_default.is (simp (add-one, c.declined.ensures, c.in_default.is))), rw c.declined.ensures tt)

pub returns : goal.returns
unfolding parse_node small decided answer limit lent give refused_by refusing state_after open_after names_after handles_after among planned plan_done plan_node
returns c =
    ((λ names tags terms. by_here (lent c.args.tokens.now c.args.text.now names tags terms) c.args.self _ _ _ c.read_token-read.ensures c.in-Token.is c.node.ensures), rw c.node.ensures (inside _ _ _ c.read_token-read.ensures c.in-Token.is))
