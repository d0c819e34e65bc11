use native.Mathlib.Omega.{arith}
use Rattle.run.proofs.ApplyLaws.{some_open, pops, pops_none}
use Rattle.run.proofs.apply.pop.Goals as goal

pub overflow_sub-n : goal.overflow_sub-n
overflow_sub-n c =
    let a = c.args in
    omega (arith, some_open a.bytes.now a.n c.in-State.p c.pop_state-popped.new.bytes (rw c.in-State.is at c.pop_state-popped.ensures))

pub returns-in-State : goal.returns-in-State
returns-in-State c =
    let a = c.args in
    rw (c.stands.ensures, c.back.ensures) (pops a.bytes.now a.n c.in-State.p c.pop_state-popped.new.bytes (rw c.in-State.is at c.pop_state-popped.ensures))

pub returns-in-Nothing : goal.returns-in-Nothing
returns-in-Nothing c =
    let a = c.args in
    pops_none a.bytes.now a.n c.pop_state-popped.new.bytes (rw c.in-Nothing.is at c.pop_state-popped.ensures)
