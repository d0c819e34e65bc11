-- The first place from the start on is the first from where the loop stands.
use native.Mathlib.Omega.{arith}
use native.Mathlib.Numerals.{add-one}
use mathlib.Core.Path.{refl, sym, ◌∙◌}
use Prim.Native.Nat.{◌-◌}
use Rattle.places.specs.Places.{places}
use Rattle.records.specs.Tokens.{token_size}
use Rattle.parser.specs.Documents.{marks}
use Rattle.parser.proofs.DocumentLaws.{past_on, past_end, passes_inside}
use Rattle.parser.proofs.document.past.Goals as goal

pub loop-i-init : goal.loop-i-init
loop-i-init c =
    refl

-- a mark stands in the list
pub overflow_add-i : goal.overflow_add-i
overflow_add-i c =
    let a = c.args in
    let stands = passes_inside a.tokens.now a.text.now (marks a.ends) c.loop-i.i (sym c.marked.ensures ∙ c.loop-i-test.true) in
    let tokens = c.well_formed.0 in
    omega (arith, stands, tokens)

pub loop-i-smaller : goal.loop-i-smaller
loop-i-smaller c =
    let a = c.args in
    omega (arith, passes_inside a.tokens.now a.text.now (marks a.ends) c.loop-i.i (sym c.marked.ensures ∙ c.loop-i-test.true))

pub loop-i-preserved : goal.loop-i-preserved
loop-i-preserved c =
    let a = c.args in
    let told = sym c.marked.ensures ∙ c.loop-i-test.true in
    let stands = passes_inside a.tokens.now a.text.now (marks a.ends) c.loop-i.i told in
    c.loop-i.invariant ∙ past_on a.tokens.now a.text.now (marks a.ends) c.loop-i.i stands told ∙ rw add-one

pub returns : goal.returns
returns c =
    let a = c.args in
    sym (c.loop-i.invariant ∙ past_end a.tokens.now a.text.now (marks a.ends) c.loop-i.i (places a.tokens.now token_size - c.loop-i.i) (sym c.marked.ensures ∙ c.loop-i-test.false))
