-- What the search found says the place, and the store whether it was there.
use Rattle.std.proofs.Common.{true, false, sym, ◌∙◌, ◌*◌, length, arith}
use Rattle.places.proofs.PlaceLaws.{below}
use Rattle.tables.specs.Lookup.{place_for, used_after}
use Rattle.tables.specs.declared.lookup.Found.TheVariants as found
use Rattle.tables.proofs.LookupLaws.{entered_by}
use Rattle.tables.proofs.lookup.enter_name.Goals as goal

pub overflow_add-result : goal.overflow_add-result
overflow_add-result c =
    let a = c.args in
    let put = c.put_place-in-Nothing in
    omega (arith, below a.bytes.now (4 * length a.numbers.now) a.n (sym put.ensures.room ∙ c.if-put_place-2.true))

pub returns-then-put_place : goal.returns-then-put_place
unfolding place_for used_after
returns-then-put_place c =
    let a = c.args in
    let put = c.put_place in
    entered_by a.text.now a.bytes.now a.n a.name a.numbers.now (found.At c.in-At.i) put.result true put.new.bytes c.in-At.ensures put.ensures c.if-put_place.true

pub returns-else-put_place : goal.returns-else-put_place
unfolding place_for used_after
returns-else-put_place c =
    let a = c.args in
    let put = c.put_place in
    entered_by a.text.now a.bytes.now a.n a.name a.numbers.now (found.At c.in-At.i) put.result false put.new.bytes c.in-At.ensures put.ensures c.if-put_place.false

pub returns-then-put_place-2 : goal.returns-then-put_place-2
unfolding place_for used_after
returns-then-put_place-2 c =
    let a = c.args in
    let put = c.put_place-in-Nothing in
    entered_by a.text.now a.bytes.now a.n a.name a.numbers.now found.Nothing put.result true put.new.bytes c.in-Nothing.ensures put.ensures c.if-put_place-2.true

pub returns-else-put_place-2 : goal.returns-else-put_place-2
unfolding place_for used_after
returns-else-put_place-2 c =
    let a = c.args in
    let put = c.put_place-in-Nothing in
    entered_by a.text.now a.bytes.now a.n a.name a.numbers.now found.Nothing put.result false put.new.bytes c.in-Nothing.ensures put.ensures c.if-put_place-2.false
