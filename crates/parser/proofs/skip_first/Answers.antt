use native.Mathlib.Omega.{arith}
use Rattle.records.proofs.TokenLaws.{inside}
use native.Mathlib.Numerals.{add-one}
use Rattle.parser.specs.Plans.{behind_first}
use Rattle.parser.proofs.skip_first.Goals as goal

pub returns-in_default : goal.returns-in_default
unfolding behind_first
returns-in_default c =
    simp (add-one, c.in_default.is, ← c.read_token-read.ensures, c.if-first.true)

pub overflow_add-result : goal.overflow_add-result
unfolding behind_first
overflow_add-result c =
    let tokens = c.well_formed.1.0 in
    omega (arith, inside _ _ _ c.read_token-read.ensures c.in-Token.is, tokens)

pub returns-then-first : goal.returns-then-first
unfolding behind_first
returns-then-first c =
    simp (add-one, c.in-Token.is, ← c.read_token-read.ensures, c.if-first.true)

pub returns : goal.returns
unfolding behind_first
returns c =
    simp (add-one, c.if-first.false)
