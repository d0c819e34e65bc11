-- What the run tells is what is left of it tells, from where it stands.
use native.Mathlib.Omega.{arith}
use mathlib.Core.Path.{refl, ◌∙◌}
use Rattle.run.specs.Turns.{Turned}
use Rattle.run.proofs.TurnLaws.{few, going_start, going_on, going_ends, going_stops}
use Rattle.run.proofs.steps.Goals as goal

pub loop-next-init : goal.loop-next-init
loop-next-init c =
    let a = c.args in
    (going_start a.tokens.now a.text.now a.terms a.events.now a.states.now a.anchors.now a.handles.now c.fresh-m.result c.requires c.fresh-m.ensures, refl, refl, refl, refl)

pub turn-turned-requires : goal.turn-turned-requires
turn-turned-requires c =
    c.loop-next.invariant.0.here

pub overflow_add-count : goal.overflow_add-count
overflow_add-count c =
    let a = c.args in
    omega (arith, few a.tokens.now a.text.now a.terms c.loop-next.count c.loop-next.states c.loop-next.anchors c.loop-next.handles c.loop-next.m c.loop-next.invariant.0.here)

pub loop-next-smaller : goal.loop-next-smaller
unfolding Turned
loop-next-smaller c =
    let o = rw c.in-On.is at c.turn-turned.ensures in
    omega (arith, o.room, c.loop-next.invariant.1)

pub loop-next-preserved : goal.loop-next-preserved
unfolding Turned
loop-next-preserved c =
    let a = c.args in (
      going_on a.tokens.now a.text.now a.terms a.events.now c.loop-next.events c.loop-next.states c.loop-next.anchors c.loop-next.handles c.loop-next.m c.loop-next.count c.loop-next.invariant.0
          c.turn-turned.new.events c.turn-turned.new.states c.turn-turned.new.anchors c.turn-turned.new.handles
          c.in-On.next c.turn-turned.auto.events (rw c.in-On.is at c.turn-turned.ensures),
      c.turn-turned.auto.events ∙ c.loop-next.invariant.1,
      c.turn-turned.auto.states ∙ c.loop-next.invariant.2,
      c.turn-turned.auto.anchors ∙ c.loop-next.invariant.3,
      c.turn-turned.auto.handles ∙ c.loop-next.invariant.4,
    )

pub overflow_add-count-in-Ended : goal.overflow_add-count-in-Ended
overflow_add-count-in-Ended c =
    let a = c.args in
    omega (arith, few a.tokens.now a.text.now a.terms c.loop-next.count c.loop-next.states c.loop-next.anchors c.loop-next.handles c.loop-next.m c.loop-next.invariant.0.here)

pub answered-requires : goal.answered-requires
answered-requires c =
    let a = c.args in
    omega (arith, few a.tokens.now a.text.now a.terms c.loop-next.count c.loop-next.states c.loop-next.anchors c.loop-next.handles c.loop-next.m c.loop-next.invariant.0.here)

pub returns-in-Ended : goal.returns-in-Ended
unfolding Turned
returns-in-Ended c =
    let a = c.args in
    rw c.answered.ensures (going_ends a.tokens.now a.text.now a.terms a.events.now c.loop-next.events c.loop-next.states c.loop-next.anchors c.loop-next.handles c.loop-next.m c.loop-next.count c.loop-next.invariant.0
    c.turn-turned.new.events c.turn-turned.new.states c.turn-turned.new.anchors c.turn-turned.new.handles
    (rw c.in-Ended.is at c.turn-turned.ensures))

pub answered-requires-in-Stopped : goal.answered-requires-in-Stopped
answered-requires-in-Stopped c =
    let a = c.args in
    omega (arith, few a.tokens.now a.text.now a.terms c.loop-next.count c.loop-next.states c.loop-next.anchors c.loop-next.handles c.loop-next.m c.loop-next.invariant.0.here)

pub returns-in-Stopped : goal.returns-in-Stopped
unfolding Turned
returns-in-Stopped c =
    let a = c.args in
    rw c.answered-in-Stopped.ensures (going_stops a.tokens.now a.text.now a.terms a.events.now c.loop-next.events c.loop-next.states c.loop-next.anchors c.loop-next.handles c.loop-next.m c.loop-next.count c.loop-next.invariant.0
    c.turn-turned.new.events c.turn-turned.new.states c.turn-turned.new.anchors c.turn-turned.new.handles
    _ _ (rw c.in-Stopped.is at c.turn-turned.ensures))
