use native.Mathlib.Numerals.{add-one}
use borrow.Author.Tests.{ne_eqb}
use Rattle.rules.specs.Rules.Words.{one_of}
use Rattle.parser.proofs.kinds.opens_document.Goals as goal

pub returns-in-3 : goal.returns-in-3
unfolding one_of
returns-in-3 c =
    simp (add-one, c.in-3.is)

pub returns-in-4 : goal.returns-in-4
unfolding one_of
returns-in-4 c =
    simp (add-one, c.in-4.is)

pub returns-in-5 : goal.returns-in-5
unfolding one_of
returns-in-5 c =
    simp (add-one, c.in-5.is)

pub returns-in-6 : goal.returns-in-6
unfolding one_of
returns-in-6 c =
    simp (add-one, c.in-6.is)

pub returns-in_default : goal.returns-in_default
unfolding one_of
returns-in_default c =
    simp (add-one, ne_eqb _ _ c.in_default.in_default-own.rest.0.0.0.1, ne_eqb _ _ c.in_default.in_default-own.rest.0.0.1, ne_eqb _ _ c.in_default.in_default-own.rest.0.1, ne_eqb _ _ c.in_default.in_default-own.rest.1)
