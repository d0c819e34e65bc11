use mathlib.Core.Path.{sym, ◌∙◌}
use Rattle.run.proofs.TurnLaws.{few_ids, turned_taken, turned_halts, turned_sticks}
use Rattle.run.proofs.turn.Goals as goal

pub take-requires : goal.take-requires
take-requires c =
    let a = c.args in
    few_ids a.tokens.now a.text.now a.terms a.count a.states.now a.anchors.now a.handles.now a.m c.requires c.in-Next.s (sym c.step-step.ensures ∙ c.in-Next.is)

pub returns-in-Next : goal.returns-in-Next
returns-in-Next c =
    let a = c.args in
    turned_taken a.tokens.now a.text.now a.terms a.count a.states.now a.anchors.now a.handles.now a.m c.requires a.events.now c.in-Next.s (sym c.step-step.ensures ∙ c.in-Next.is) c.take.result
    c.take.new.events c.take.new.states c.take.new.anchors c.take.new.handles
    c.take.auto.states c.take.auto.anchors c.take.auto.handles c.take.ensures

pub returns-in-Refused : goal.returns-in-Refused
returns-in-Refused c =
    let a = c.args in
    turned_halts a.tokens.now a.text.now a.terms a.count a.states.now a.anchors.now a.handles.now a.m c.requires a.events.now c.in-Refused.e (sym c.step-step.ensures ∙ c.in-Refused.is)

pub returns-in-Stuck : goal.returns-in-Stuck
returns-in-Stuck c =
    let a = c.args in
    rw c.stopped.ensures (turned_sticks a.tokens.now a.text.now a.terms a.count a.states.now a.anchors.now a.handles.now a.m c.requires a.events.now (sym c.step-step.ensures ∙ c.in-Stuck.is))
