-- A read of the last place, and a store of zeros there.
use Rattle.std.proofs.Common.{true, false, ◌-◌, arith}
use Rattle.tables.proofs.StateLaws.{pop_none, popped_by}
use Rattle.tables.proofs.states.pop_state.Goals as goal

pub returns-then-n-eq0 : goal.returns-then-n-eq0
returns-then-n-eq0 c = let a = c.args in pop_none a.bytes.now a.n c.if-n-eq0.true

pub returns-then-put_state : goal.returns-then-put_state
returns-then-put_state c =
    let a = c.args in
    let put = c.put_state in
    let read = c.state_at-top in
    popped_by a.bytes.now a.n (a.n - 1) put.result true read.result put.new.bytes (omega arith) read.ensures put.ensures c.if-put_state.true

pub returns-else-put_state : goal.returns-else-put_state
returns-else-put_state c =
    let a = c.args in
    let put = c.put_state in
    let read = c.state_at-top in
    popped_by a.bytes.now a.n (a.n - 1) put.result false read.result put.new.bytes (omega arith) read.ensures put.ensures c.if-put_state.false
