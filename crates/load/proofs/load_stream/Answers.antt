use native.Mathlib.Omega.{arith}
use Rattle.std.proofs.lemmas.Result.{err_from_is_err_and}
use Rattle.load.proofs.PartLaws.{uneven, not_started, started, read_more, not_read, not_over, all_read}
use Rattle.load.proofs.load_stream.Goals as goal

pub returns-then-events-ne0 : goal.returns-then-events-ne0
returns-then-events-ne0 c = uneven _ c.if-events-ne0.true

pub returns-then-ne : goal.returns-then-ne
returns-then-ne c = not_started _ c.if-events-ne0.false c.kind_at.ensures (λ z. grind arith)

pub loop-at-init : goal.loop-at-init
loop-at-init c = started c.kind_at.ensures (grind arith)

pub loop-at-preserved : goal.loop-at-preserved
loop-at-preserved c =
    read_more _ c.if-events-ne0.false c.loop-at.invariant c.kind_at-in-loop-at.ensures (λ z. grind arith) c.in_ok-at.ensures

pub returns-in_err-at : goal.returns-in_err-at
returns-in_err-at c =
    let p = err_from_is_err_and c.from_residual.result c.from_residual.ensures.1 in
    rw (p.1, p.2)
    (not_read _ c.if-events-ne0.false c.loop-at.invariant c.kind_at-in-loop-at.ensures (λ z. grind arith) c.in_err-at.ensures)

pub returns-then-at-events : goal.returns-then-at-events
returns-then-at-events c =
    not_over _ c.if-events-ne0.false c.loop-at.invariant c.kind_at-in-loop-at.ensures (grind arith) c.if-at-events.true

pub returns : goal.returns
returns c =
    all_read _ c.if-events-ne0.false c.loop-at.invariant c.kind_at-in-loop-at.ensures (grind arith) c.if-at-events.false
