use mathlib.Core.Path.{◌∙◌}
use borrow.Author.Rules.{rules}
use Rattle.run.proofs.RunLaws.{tidy-cleared, run-left}
use Rattle.run.proofs.run.Goals as goal

pub checked_run-answer-requires : goal.checked_run-answer-requires
checked_run-answer-requires c =
    search (rules, tidy-cleared)

pub returns : goal.returns
returns c =
    let a = c.args in
    run-left a.tokens.now a.text.now a.settings a.events.now a.states.now a.anchors.now a.handles.now c.checked_run-answer.result c.checked_run-answer.new.events c.clear_work.new.states c.clear_work.new.anchors c.clear_work.new.handles c.checked_run-answer.new.states c.checked_run-answer.new.anchors c.checked_run-answer.new.handles c.clear_work-2.new.states c.clear_work-2.new.anchors c.clear_work-2.new.handles
    (c.clear_work.auto.states, c.clear_work.auto.anchors, c.clear_work.auto.handles)
    (c.checked_run-answer.auto.states ∙ c.clear_work.auto.states, c.checked_run-answer.auto.anchors ∙ c.clear_work.auto.anchors, c.checked_run-answer.auto.handles ∙ c.clear_work.auto.handles)
    c.checked_run-answer.ensures c.clear_work-2.ensures
