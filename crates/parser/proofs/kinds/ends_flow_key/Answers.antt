use native.Mathlib.Numerals.{add-one}
use borrow.Author.Tests.{ne_eqb}
use Rattle.rules.specs.Rules.Words.{one_of}
use Rattle.parser.proofs.kinds.ends_flow_key.Goals as goal

pub returns-in-19 : goal.returns-in-19
unfolding one_of
returns-in-19 c =
    simp (add-one, c.in-19.is)

pub returns-in-17 : goal.returns-in-17
unfolding one_of
returns-in-17 c =
    simp (add-one, c.in-17.is)

pub returns-in-15 : goal.returns-in-15
unfolding one_of
returns-in-15 c =
    simp (add-one, c.in-15.is)

pub returns-in_default : goal.returns-in_default
unfolding one_of
returns-in_default c =
    simp (add-one, ne_eqb _ _ c.in_default.in_default-own.rest.0.0.1, ne_eqb _ _ c.in_default.in_default-own.rest.0.1, ne_eqb _ _ c.in_default.in_default-own.rest.1)
