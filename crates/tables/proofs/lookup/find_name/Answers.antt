-- A turn finds the name at its place, or leaves the search to the next one.
use Rattle.std.proofs.Common.{◌≡◌, sym, ◌∙◌, ◌+◌, ◌-◌, arith}
use native.Mathlib.Nat.{sub-zero}
use Rattle.tables.specs.Lookup.{find}
use Rattle.tables.proofs.LookupLaws.{find_hit, find_miss, find_none}
use Rattle.tables.proofs.lookup.find_name.Goals as goal

pub loop-i-init : goal.loop-i-init
unfolding find
loop-i-init c = (omega arith, rw sub-zero)

pub returns-then-same_bytes : goal.returns-then-same_bytes
returns-then-same_bytes c =
    let a = c.args in
    let l = c.loop-i in
    let o = c.range_at-other in
    let s = c.same_bytes in
    sym (l.invariant.1 ∙ find_hit a.text.now a.bytes.now a.size a.name l.i (a.n - l.i) o.result s.result (omega arith) o.ensures s.ensures c.if-same_bytes.true)

pub loop-i-preserved : goal.loop-i-preserved
loop-i-preserved c =
    let a = c.args in
    let l = c.loop-i in
    let o = c.range_at-other in
    let s = c.same_bytes in
    let e : a.n - l.i - 1 ≡ a.n - (l.i + 1) = omega arith in
    (omega arith, l.invariant.1 ∙ find_miss a.text.now a.bytes.now a.size a.name l.i (a.n - l.i) o.result s.result (omega arith) o.ensures s.ensures c.if-same_bytes.false ∙ rw e)

pub returns : goal.returns
returns c =
    let a = c.args in
    let l = c.loop-i in
    sym (l.invariant.1 ∙ find_none a.text.now a.bytes.now a.size a.name l.i (a.n - l.i) (omega arith))
