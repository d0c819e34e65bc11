use mathlib.Core.Path.{◌≡◌}
use Prim.Native.Nat.{◌-◌}
use lib.ListN.{length}
use Rattle.places.specs.Places.{places}
use Rattle.records.specs.Events.{event_size}
use Rattle.run.proofs.TurnLaws.{Going}
use Rattle.run.proofs.steps.Given as goal

abbrev pub invariant-loop-next : goal.invariant-loop-next
invariant-loop-next l =
    Going l.tokens l.text l.terms l.initial.events l.events l.states l.anchors l.handles l.m l.count
    × (length l.events ≡ length l.initial.events) × (length l.states ≡ length l.initial.states) × (length l.anchors ≡ length l.initial.anchors) × (length l.handles ≡ length l.initial.handles)

abbrev pub decreases-loop-next : goal.decreases-loop-next
decreases-loop-next l =
    places l.initial.events event_size - l.count
