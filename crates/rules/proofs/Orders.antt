-- The rules do their acts in the order of parser.rs: one table under one statement. Assumes nothing.
use mathlib.Core.Path.{◌≡◌, refl}
use mathlib.Core.Bool.{true}
use Rattle.rules.specs.Orders as o
use Rattle.rules.proofs.Starred.{computing}

pub orders_right : o.all_in_order o.orders ≡ true
unfolding computing o.lent o.order o.in_order o.all_in_order o.declared_twice o.orders
orders_right = refl
