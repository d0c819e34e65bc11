-- What of the range lies in the text: nothing, what is left from its start, or all of it.
use Rattle.std.proofs.Common.{◌≡◌, refl, sym, ◌∙◌, ◌-◌, [], length, drop, length-drop, arith}
use lib.ListN.{drop_of_length-le}
use lib.Seq.{take_all, take-nil}
use Rattle.records.specs.Names.{part}
use Rattle.records.proofs.names.part_of.Goals as goal

pub returns-then-from-text : goal.returns-then-from-text
unfolding part
returns-then-from-text c =
    let a = c.args in
    let e : drop a.r.from a.text.now ≡ [] = drop_of_length-le a.text.now {i = a.r.from} (omega arith) in
    rw (e, take-nil)

pub returns-then-to-from : goal.returns-then-to-from
unfolding part
returns-then-to-from c =
    let a = c.args in
    let e : a.r.to - a.r.from ≡ 0 = omega arith in
    rw e

pub returns-then-to-text : goal.returns-then-to-text
unfolding part
returns-then-to-text c =
    let a = c.args in
    let d = drop a.r.from a.text.now in
    take_all (length a.text.now - a.r.from) d (simp length-drop (omega arith)) ∙ sym (take_all (a.r.to - a.r.from) d (simp length-drop (omega arith)))

pub returns : goal.returns
unfolding part
returns c = refl
