use mathlib.Core.Path.{sym, ◌∙◌}
use Rattle.parser.proofs.PlanLaws.{full_node, placed_node}
use Rattle.parser.specs.Machine.{lent}
use Rattle.parser.specs.Plans.{planned}
use Rattle.parser.proofs.Machine.step.Goals as goal

pub returns-then-is_full : goal.returns-then-is_full
unfolding lent planned
returns-then-is_full c =
    c.refuse.ensures ∙ sym (full_node (lent c.args.tokens.now c.args.text.now c.args.names.now c.args.tags.now c.args.terms) c.args.self _ _ _ _ _ c.is_full.ensures c.if-is_full.true) ∙ (rw c.in-Node.is at c.plan-plan.ensures.0)

pub parse_node-requires : goal.parse_node-requires
unfolding lent planned
parse_node-requires c =
    rw c.in-Node.is at c.plan-plan.ensures.1

pub returns-else-is_full : goal.returns-else-is_full
unfolding lent planned
returns-else-is_full c =
    c.parse_node.ensures ∙ sym (placed_node (lent c.args.tokens.now c.args.text.now c.args.names.now c.args.tags.now c.args.terms) c.args.self _ _ _ _ _ c.is_full.ensures c.if-is_full.false) ∙ (rw c.in-Node.is at c.plan-plan.ensures.0)

pub returns-in-Nothing : goal.returns-in-Nothing
unfolding lent planned
returns-in-Nothing c =
    rw c.in-Nothing.is at c.plan-plan.ensures.0
