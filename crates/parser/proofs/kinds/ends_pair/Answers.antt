use native.Mathlib.Numerals.{add-one}
use borrow.Author.Tests.{ne_eqb}
use Rattle.rules.specs.Rules.Words.{one_of}
use Rattle.parser.proofs.kinds.ends_pair.Goals as goal

pub returns-in-18 : goal.returns-in-18
unfolding one_of
returns-in-18 c =
    simp (add-one, c.in-18.is)

pub returns-in-19 : goal.returns-in-19
unfolding one_of
returns-in-19 c =
    simp (add-one, c.in-19.is)

pub returns-in-11 : goal.returns-in-11
unfolding one_of
returns-in-11 c =
    simp (add-one, c.in-11.is)

pub returns-in_default : goal.returns-in_default
unfolding one_of
returns-in_default c =
    simp (add-one, ne_eqb _ _ c.in_default.in_default-own.rest.0.0.1, ne_eqb _ _ c.in_default.in_default-own.rest.0.1, ne_eqb _ _ c.in_default.in_default-own.rest.1)
