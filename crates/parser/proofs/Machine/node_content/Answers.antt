use native.Mathlib.Numerals.{add-one}
use borrow.Author.Tests.{eq-eqb, ne_eqb}
use Rattle.parser.specs.Answers.{refusing, moved}
use Rattle.parser.specs.Nodes.{named_answer, properties_of, node_event}
use Rattle.rules.specs.Rules.{content, node}
use Rattle.rules.specs.Rules.Words.{choose◌then◌else◌, is}
use Rattle.parser.proofs.Machine.node_content.Goals as goal

pub returns-then-when : goal.returns-then-when
unfolding named_answer content node choose◌then◌else◌ properties_of refusing node_event is moved
returns-then-when c =
    simp (add-one, c.collection.ensures, c.if-when.true, ← c.when.ensures)

pub returns-then-t-eq-SCALAR : goal.returns-then-t-eq-SCALAR
unfolding named_answer content node choose◌then◌else◌ properties_of refusing node_event is moved
returns-then-t-eq-SCALAR c =
    simp (eq-eqb _ _ c.if-t-eq-SCALAR.true, c.if-when.false, ← c.when.ensures) (rw add-one at c.scalar.ensures)

pub returns-then-t-eq-FLOW_SEQUENCE_START : goal.returns-then-t-eq-FLOW_SEQUENCE_START
unfolding named_answer content node choose◌then◌else◌ properties_of refusing node_event is moved
returns-then-t-eq-FLOW_SEQUENCE_START c =
    simp (add-one, c.collection-then-t-eq-FLOW_SEQUENCE_START.ensures, eq-eqb _ _ c.if-t-eq-FLOW_SEQUENCE_START.true, ne_eqb _ _ c.if-t-eq-SCALAR.false, c.if-when.false, ← c.when.ensures)

pub returns-then-t-eq-FLOW_MAPPING_START : goal.returns-then-t-eq-FLOW_MAPPING_START
unfolding named_answer content node choose◌then◌else◌ properties_of refusing node_event is moved
returns-then-t-eq-FLOW_MAPPING_START c =
    simp (add-one, c.collection-then-t-eq-FLOW_MAPPING_START.ensures, eq-eqb _ _ c.if-t-eq-FLOW_MAPPING_START.true, ne_eqb _ _ c.if-t-eq-FLOW_SEQUENCE_START.false, ne_eqb _ _ c.if-t-eq-SCALAR.false, c.if-when.false, ← c.when.ensures)

pub returns : goal.returns
unfolding named_answer content node choose◌then◌else◌ properties_of refusing node_event is moved
returns c =
    simp (add-one, c.block_content.ensures, ne_eqb _ _ c.if-t-eq-FLOW_MAPPING_START.false, ne_eqb _ _ c.if-t-eq-FLOW_SEQUENCE_START.false, ne_eqb _ _ c.if-t-eq-SCALAR.false, c.if-when.false, ← c.when.ensures)
