use mathlib.Core.Path.{◌∙◌}
use native.Mathlib.Omega.{arith}
use native.Mathlib.Numerals.{add-one}
use Rattle.parser.proofs.By.{by_is, by_not}
use Rattle.parser.specs.Machine.{lent}
use Rattle.parser.specs.Answers.{decided, over_of}
use Rattle.parser.specs.Nodes.{behind}
use Rattle.rules.specs.Rules.{node_from}
use Rattle.parser.proofs.Machine.parse_node.Goals as goal

pub overflow_add-at : goal.overflow_add-at
unfolding node_from decided lent behind
overflow_add-at c =
    omega (arith, c.requires, c.well_formed.1.0)

pub returns-then-t-eq-ALIAS : goal.returns-then-t-eq-ALIAS
unfolding node_from decided lent behind
returns-then-t-eq-ALIAS c =
    by_is (lent c.args.tokens.now c.args.text.now c.args.names.now c.args.tags.now c.args.terms) c.args.self _ _ _ _ _ _ c.if-t-eq-ALIAS.true (rw add-one at c.alias.ensures)

pub properties-behind-requires : goal.properties-behind-requires
unfolding node_from decided lent behind
properties-behind-requires c =
    c.requires

pub node_content-requires : goal.node_content-requires
unfolding node_from decided lent behind
node_content-requires c =
    let tokens = c.well_formed.1.0 in
    omega (arith, (rw c.in-At.is at c.properties-behind.ensures.1), tokens)

pub returns-in-At : goal.returns-in-At
unfolding node_from decided lent behind
returns-in-At c =
    let a = c.args in
    by_not (lent c.args.tokens.now c.args.text.now c.args.names.now c.args.tags.now c.args.terms) c.args.self _ _ _ _ _ _ c.if-t-eq-ALIAS.false (c.node_content.ensures ∙ (rw c.in-At.is at (c.properties-behind.ensures.0 (over_of a.over) a.block a.indentless)))

pub returns-in-Nothing : goal.returns-in-Nothing
unfolding node_from decided lent behind
returns-in-Nothing c =
    let a = c.args in
    by_not (lent c.args.tokens.now c.args.text.now c.args.names.now c.args.tags.now c.args.terms) c.args.self _ _ _ _ _ _ c.if-t-eq-ALIAS.false (rw c.in-Nothing.is at (c.properties-behind.ensures.0 (over_of a.over) a.block a.indentless))
