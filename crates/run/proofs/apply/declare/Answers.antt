-- After each turn the handles of the tokens before `at` are entered.
use native.Mathlib.Omega.{arith}
use mathlib.Core.Path.{◌≡◌, refl, ◌∙◌}
use Prim.Native.Nat.{suc, ◌+◌, ◌-◌}
use Rattle.run.proofs.ApplyLaws.{declared_start, declared_more}
use Rattle.run.proofs.apply.declare.Goals as goal

pub loop-at-init : goal.loop-at-init
loop-at-init c =
    let a = c.args in
    let z : a.from - a.from ≡ 0 = omega arith in
    (omega arith, omega arith, rw z (declared_start a.tokens.now a.text.now a.bytes.now a.n a.from), refl)

pub overflow_add-at : goal.overflow_add-at
overflow_add-at c =
    omega arith

pub loop-at-smaller : goal.loop-at-smaller
loop-at-smaller c =
    omega (arith, c.loop-at-test.true)

pub loop-at-preserved : goal.loop-at-preserved
loop-at-preserved c =
    let a = c.args in
    let k : c.loop-at.at + 1 - a.from ≡ suc (c.loop-at.at - a.from) = omega arith in
    (omega arith, omega (arith, c.loop-at-test.true), rw k (declared_more a.tokens.now a.text.now a.bytes.now a.n a.from (c.loop-at.at - a.from) c.loop-at.used c.loop-at.at c.loop-at.bytes c.declare_at-used.result c.declare_at-used.new.bytes (omega arith) c.loop-at.invariant.3 c.loop-at.invariant.2 c.declare_at-used.ensures), c.declare_at-used.auto.bytes ∙ c.loop-at.invariant.3)

pub returns : goal.returns
returns c =
    let a = c.args in
    let e : a.to - a.from ≡ c.loop-at.at - a.from = omega (arith, c.loop-at-test.false) in
    rw e c.loop-at.invariant.2
