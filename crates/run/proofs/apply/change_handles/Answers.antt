use mathlib.Core.Path.{refl}
use Rattle.places.proofs.UnusedLaws.{unused_cleared}
use Rattle.tables.specs.Tables.{table}
use Rattle.tables.specs.Handles.{handles_of}
use Rattle.run.specs.Apply.{Handling}
use Rattle.run.proofs.apply.change_handles.Goals as goal

pub returns-in-Keep : goal.returns-in-Keep
unfolding Handling
returns-in-Keep c =
    rw c.in-Keep.is (refl, λ u. u)

pub returns-in-Declare : goal.returns-in-Declare
unfolding Handling
returns-in-Declare c =
    rw c.in-Declare.is c.declare.ensures

pub returns-in-Forget : goal.returns-in-Forget
unfolding Handling handles_of table
returns-in-Forget c =
    let clear = c.clear_used.ensures in
    rw c.in-Forget.is (clear, refl, λ l u. rw clear (unused_cleared l u))
