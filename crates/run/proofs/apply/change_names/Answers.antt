use mathlib.Core.Path.{refl}
use Rattle.places.proofs.UnusedLaws.{unused_cleared}
use Rattle.tables.specs.Tables.{table}
use Rattle.tables.specs.Anchors.{anchors_of}
use Rattle.run.specs.Apply.{Naming}
use Rattle.run.proofs.apply.change_names.Goals as goal

pub returns-in-Keep : goal.returns-in-Keep
unfolding Naming
returns-in-Keep c =
    rw c.in-Keep.is (refl, λ u. u)

pub returns-in-Put : goal.returns-in-Put
unfolding Naming
returns-in-Put c =
    rw c.in-Put.is c.put_name.ensures

pub returns-in-Forget : goal.returns-in-Forget
unfolding Naming anchors_of table
returns-in-Forget c =
    let clear = c.clear_used.ensures in
    rw c.in-Forget.is (clear, refl, λ l u. rw clear (unused_cleared l u))
