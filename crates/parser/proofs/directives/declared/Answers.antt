-- None of the directives before the loop's place has the handle.
use native.Mathlib.Omega.{arith}
use native.Mathlib.Numerals.{add-one}
use mathlib.Core.Path.{◌≡◌, sym, ◌∙◌}
use mathlib.Core.Bool.{false}
use Prim.Native.Nat.{suc, ◌-◌}
use Rattle.parser.proofs.DirectiveLaws.{own, own_none, own_at, own_found}
use Rattle.parser.proofs.directives.declared.Goals as goal

pub loop-i-init : goal.loop-i-init
loop-i-init c =
    let a = c.args in
    let e : a.from - a.from ≡ 0 = omega arith in
    (omega arith, omega arith, rw e (own_none a.tokens.now a.text.now a.name a.from))

pub returns-then-declares : goal.returns-then-declares
returns-then-declares c =
    let a = c.args in
    sym (own_found a.tokens.now a.text.now a.name a.from c.loop-i.i a.at c.loop-i.invariant.0 (omega arith) (sym c.declares.ensures ∙ c.if-declares.true))

pub overflow_add-i : goal.overflow_add-i
overflow_add-i c =
    omega arith

pub loop-i-smaller : goal.loop-i-smaller
loop-i-smaller c =
    omega arith

pub loop-i-preserved : goal.loop-i-preserved
loop-i-preserved c =
    let a = c.args in
    let e : own a.tokens.now a.text.now a.name a.from (suc c.loop-i.i - a.from) ≡ false = own_at a.tokens.now a.text.now a.name a.from c.loop-i.i c.loop-i.invariant.0 ∙ rw (c.loop-i.invariant.2, sym c.declares.ensures ∙ c.if-declares.false) in
    (omega arith, omega arith, rw add-one e)

pub returns : goal.returns
returns c =
    let a = c.args in
    let e : c.loop-i.i - a.from ≡ a.at - a.from = omega arith in
    sym (rw e at c.loop-i.invariant.2)
