-- A list for each number 0 to 14, each setting, tag source and style is answered as by the Rust: one table under one statement.
-- Assumes nothing.
use mathlib.Core.Path.{◌≡◌, refl}
use mathlib.Core.Bool.{true}
use Rattle.rules.specs.Starred as s
use Rattle.rules.specs.Numbers as n
use Rattle.rules.proofs.Starred.{computing}

pub every_number_right : s.check_all n.every_number ≡ true
unfolding computing n.every_number
every_number_right = refl
