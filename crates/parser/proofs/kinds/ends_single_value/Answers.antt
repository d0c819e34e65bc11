use native.Mathlib.Numerals.{add-one}
use borrow.Author.Tests.{ne_eqb}
use Rattle.rules.specs.Rules.Words.{one_of}
use Rattle.parser.proofs.kinds.ends_single_value.Goals as goal

pub returns-in-17 : goal.returns-in-17
unfolding one_of
returns-in-17 c =
    simp (add-one, c.in-17.is)

pub returns-in-13 : goal.returns-in-13
unfolding one_of
returns-in-13 c =
    simp (add-one, c.in-13.is)

pub returns-in_default : goal.returns-in_default
unfolding one_of
returns-in_default c =
    simp (add-one, ne_eqb _ _ c.in_default.in_default-own.rest.0.1, ne_eqb _ _ c.in_default.in_default-own.rest.1)
