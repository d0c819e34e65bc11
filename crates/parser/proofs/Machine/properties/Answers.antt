use mathlib.Core.Path.{refl}
use native.Mathlib.Omega.{arith}
use native.Mathlib.Numerals.{add-one}
use Rattle.parser.proofs.By.{by_is, by_not}
use Rattle.parser.proofs.NodeLaws.{by_content}
use Rattle.parser.specs.Machine.{lent}
use Rattle.parser.specs.Answers.{decided, names_after}
use Rattle.parser.specs.Nodes.{bare, names_of, properties_of, behind_content}
use Rattle.rules.specs.Rules.{node_properties, no_properties}
use Rattle.parser.proofs.Machine.properties.Goals as goal

pub overflow_add-at : goal.overflow_add-at
unfolding node_properties no_properties decided lent bare names_of properties_of names_after behind_content
overflow_add-at c =
    omega (arith, c.requires, c.well_formed.1.0)

pub returns-then-t-eq-ANCHOR : goal.returns-then-t-eq-ANCHOR
unfolding node_properties no_properties decided lent bare names_of properties_of names_after behind_content
returns-then-t-eq-ANCHOR c =
    ((λ o b i. by_is (lent c.args.tokens.now c.args.text.now c.args.names.now c.args.tags.now c.args.terms) c.args.self _ _ _ _ _ _ c.if-t-eq-ANCHOR.true (rw add-one at (c.anchor_first.ensures.0 o b i))), c.anchor_first.ensures.1)

pub overflow_add-at-then-t-eq-TAG : goal.overflow_add-at-then-t-eq-TAG
unfolding node_properties no_properties decided lent bare names_of properties_of names_after behind_content
overflow_add-at-then-t-eq-TAG c =
    omega (arith, c.requires, c.well_formed.1.0)

pub returns-then-t-eq-TAG : goal.returns-then-t-eq-TAG
unfolding node_properties no_properties decided lent bare names_of properties_of names_after behind_content
returns-then-t-eq-TAG c =
    ((λ o b i. by_not (lent c.args.tokens.now c.args.text.now c.args.names.now c.args.tags.now c.args.terms) c.args.self _ _ _ _ _ _ c.if-t-eq-ANCHOR.false (by_is (lent c.args.tokens.now c.args.text.now c.args.names.now c.args.tags.now c.args.terms) c.args.self _ _ _ _ _ _ c.if-t-eq-TAG.true (rw add-one at (c.tag_first.ensures.0 o b i)))), c.tag_first.ensures.1)

pub returns : goal.returns
unfolding node_properties no_properties decided lent bare names_of properties_of names_after behind_content
returns c = (
  (λ o b i. by_not (lent c.args.tokens.now c.args.text.now c.args.names.now c.args.tags.now c.args.terms) c.args.self _ _ _ _ _ _ c.if-t-eq-ANCHOR.false (by_not (lent c.args.tokens.now c.args.text.now c.args.names.now c.args.tags.now c.args.terms) c.args.self _ _ _ _ _ _ c.if-t-eq-TAG.false (by_content (lent c.args.tokens.now c.args.text.now c.args.names.now c.args.tags.now c.args.terms) c.args.self _ o b i _ _ refl _ (rw c.bare.ensures at c.content.ensures)))),
  rw c.content.ensures c.requires,
)
