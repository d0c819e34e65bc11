use Rattle.run.proofs.ApplyLaws.{entered_used, entered_full}
use Rattle.run.proofs.apply.enter.Goals as goal

pub returns-in-Used : goal.returns-in-Used
returns-in-Used c =
    let a = c.args in
    entered_used a.text.now a.bytes.now a.n a.h c.enter_handle-entered.new.bytes c.in-Used.used (rw c.in-Used.is at c.enter_handle-entered.ensures)

pub returns-in-Full : goal.returns-in-Full
returns-in-Full c =
    let a = c.args in
    entered_full a.text.now a.bytes.now a.n a.h c.enter_handle-entered.new.bytes (rw c.in-Full.is at c.enter_handle-entered.ensures)
