-- The slices differ in length, at an index, or nowhere.
use Rattle.std.proofs.Common.{sym, ◌∙◌, arith}
use Rattle.records.proofs.NameLaws.{same_lengths, same_next, same_differ, same_end}
use Rattle.records.proofs.names.same_slices.Goals as goal

pub returns-then-x-y : goal.returns-then-x-y
returns-then-x-y c = sym (same_lengths _ _ c.if-x-y.true)

pub returns-then-x-i : goal.returns-then-x-i
returns-then-x-i c =
    let a = c.args in
    let l = c.loop-i in
    sym (l.invariant.2 ∙ same_differ a.x.now a.y.now l.i (omega arith) (omega arith) c.if-x-i.true)

pub loop-i-preserved : goal.loop-i-preserved
loop-i-preserved c =
    let a = c.args in
    let l = c.loop-i in
    (omega arith, omega arith, l.invariant.2 ∙ same_next a.x.now a.y.now l.i (omega arith) (omega arith) c.if-x-i.false)

pub returns : goal.returns
returns c =
    let a = c.args in
    let l = c.loop-i in
    sym (l.invariant.2 ∙ same_end a.x.now a.y.now l.i (omega arith) (omega arith))
