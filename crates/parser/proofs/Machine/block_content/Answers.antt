use native.Mathlib.Numerals.{add-one}
use Rattle.parser.specs.Answers.{refusing}
use Rattle.parser.specs.Nodes.{named_answer, properties_of, node_event}
use Rattle.rules.specs.Rules.{block_content, node}
use Rattle.rules.specs.Rules.Words.{choose◌then◌else◌}
use Rattle.parser.proofs.Machine.block_content.Goals as goal

pub returns-then-when : goal.returns-then-when
unfolding named_answer block_content node choose◌then◌else◌ properties_of refusing node_event
returns-then-when c =
    simp (add-one, c.collection.ensures, c.if-when.true, ← c.when.ensures)

pub returns-then-when-2 : goal.returns-then-when-2
unfolding named_answer block_content node choose◌then◌else◌ properties_of refusing node_event
returns-then-when-2 c =
    simp (add-one, c.collection-then-when-2.ensures, c.if-when-2.true, ← c.when-2.ensures, c.if-when.false, ← c.when.ensures)

pub returns-then-p : goal.returns-then-p
unfolding named_answer block_content node choose◌then◌else◌ properties_of refusing node_event
returns-then-p c =
    simp (add-one, c.scalar.ensures, c.no_range.ensures, c.if-p.true, c.if-when-2.false, ← c.when-2.ensures, c.if-when.false, ← c.when.ensures)

pub returns : goal.returns
unfolding named_answer block_content node choose◌then◌else◌ properties_of refusing node_event
returns c =
    simp (add-one, c.refuse.ensures, c.if-p.false, c.if-when-2.false, ← c.when-2.ensures, c.if-when.false, ← c.when.ensures)
