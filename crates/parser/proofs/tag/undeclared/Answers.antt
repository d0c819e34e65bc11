use Rattle.rules.specs.Rules.{undeclared}
use Rattle.rules.specs.Rules.Words.{choose◌then◌else◌}
use Rattle.parser.specs.Tags.{resolved_of, secondary}
use Rattle.parser.proofs.tag.undeclared.Goals as goal

pub returns-then-is_secondary : goal.returns-then-is_secondary
unfolding undeclared resolved_of secondary choose◌then◌else◌
returns-then-is_secondary c =
    simp (c.no_range.ensures, ← c.part_of-handle.ensures, ← c.is_secondary.ensures, c.if-is_secondary.true)

pub returns-then-is_named : goal.returns-then-is_named
unfolding undeclared resolved_of secondary choose◌then◌else◌
returns-then-is_named c =
    simp (← c.part_of-handle.ensures, ← c.is_secondary.ensures, c.if-is_secondary.false, ← c.is_named.ensures, c.if-is_named.true)

pub returns : goal.returns
unfolding undeclared resolved_of secondary choose◌then◌else◌
returns c =
    simp (← c.part_of-handle.ensures, ← c.is_secondary.ensures, c.if-is_secondary.false, ← c.is_named.ensures, c.if-is_named.false)
