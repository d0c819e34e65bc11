use native.Mathlib.Omega.{arith}
use mathlib.Core.Path.{sym, ◌∙◌}
use Rattle.places.proofs.PlaceLaws.{below}
use Rattle.tables.specs.States.{state_size, numbers_of}
use Rattle.run.proofs.ApplyLaws.{pushed, not_pushed}
use Rattle.run.proofs.apply.push.Goals as goal

pub overflow_add-result : goal.overflow_add-result
unfolding numbers_of
overflow_add-result c =
    let a = c.args in
    omega (arith, below a.bytes.now state_size a.n (sym c.put_state.ensures.room ∙ c.if-put_state.true))

pub returns-then-put_state : goal.returns-then-put_state
returns-then-put_state c =
    let a = c.args in
    pushed a.bytes.now a.n a.p c.numbers-numbers.result c.numbers-numbers.ensures c.put_state.result c.put_state.new.bytes c.put_state.ensures c.if-put_state.true

pub returns-else-put_state : goal.returns-else-put_state
returns-else-put_state c =
    let a = c.args in
    not_pushed a.bytes.now a.n a.p c.numbers-numbers.result c.numbers-numbers.ensures c.put_state.result c.put_state.new.bytes c.put_state.ensures c.if-put_state.false
