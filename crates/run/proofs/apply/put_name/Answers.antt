use native.Mathlib.Omega.{arith}
use mathlib.Core.Path.{sym, ◌∙◌}
use Rattle.places.proofs.PlaceLaws.{below}
use Rattle.tables.specs.Anchors.{anchor_size, numbers_of}
use Rattle.run.proofs.ApplyLaws.{named_next, named_own, not_named}
use Rattle.run.proofs.apply.put_name.Goals as goal

pub overflow_add-result : goal.overflow_add-result
unfolding numbers_of
overflow_add-result c =
    let a = c.args in
    omega (arith, below a.bytes.now anchor_size a.i (sym c.put_anchor.ensures.room ∙ c.if-put_anchor.true), c.if-i-n.true)

pub returns-then-i-n : goal.returns-then-i-n
returns-then-i-n c =
    let a = c.args in
    named_next a.bytes.now a.n a.i a.a c.put_anchor.result c.put_anchor.new.bytes c.put_anchor.ensures c.if-i-n.true

pub returns-else-i-n : goal.returns-else-i-n
returns-else-i-n c =
    let a = c.args in
    named_own a.bytes.now a.n a.i a.a c.put_anchor.result c.put_anchor.new.bytes c.put_anchor.ensures c.if-i-n.false

pub returns-else-put_anchor : goal.returns-else-put_anchor
returns-else-put_anchor c =
    let a = c.args in
    not_named a.bytes.now a.n a.i a.a c.put_anchor.result c.put_anchor.new.bytes c.put_anchor.ensures c.if-put_anchor.false
