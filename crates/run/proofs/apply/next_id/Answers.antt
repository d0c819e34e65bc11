use native.Mathlib.Omega.{arith}
use native.Mathlib.Numerals.{add-one}
use Rattle.run.specs.Apply.{numbered}
use Rattle.run.proofs.apply.next_id.Goals as goal

pub overflow_add-result : goal.overflow_add-result
unfolding numbered
overflow_add-result c =
    let p = c.requires in
    omega arith

pub returns-in-Keep : goal.returns-in-Keep
unfolding numbered
returns-in-Keep c =
    rw c.in-Keep.is

pub returns-in-Put : goal.returns-in-Put
unfolding numbered
returns-in-Put c =
    rw (c.in-Put.is, add-one)

pub returns-in-Forget : goal.returns-in-Forget
unfolding numbered
returns-in-Forget c =
    rw c.in-Forget.is
