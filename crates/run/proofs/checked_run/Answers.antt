use native.Mathlib.Omega.{arith}
use mathlib.Core.Path.{sym, ◌∙◌}
use Rattle.run.proofs.RunLaws.{ready, told_passed, told_refused}
use Rattle.run.proofs.checked_run.Goals as goal

pub steps-requires : goal.steps-requires
steps-requires c =
    let a = c.args in
    ready a.tokens.now a.text.now a.settings a.events.now a.states.now a.anchors.now a.handles.now _ (sym c.first_checks-checked.ensures ∙ c.in-Passed.is) c.terms_of-terms.result c.terms_of-terms.ensures c.requires

pub answered-requires : goal.answered-requires
answered-requires c =
    omega arith

pub returns-in-Passed : goal.returns-in-Passed
returns-in-Passed c =
    let a = c.args in
    c.steps.ensures ∙ sym (told_passed a.tokens.now a.text.now a.settings a.events.now a.states.now a.anchors.now a.handles.now _ (sym c.first_checks-checked.ensures ∙ c.in-Passed.is) c.terms_of-terms.result c.terms_of-terms.ensures)

pub returns-in-Refused : goal.returns-in-Refused
returns-in-Refused c =
    let a = c.args in
    rw c.answered.ensures (told_refused a.tokens.now a.text.now a.settings a.events.now a.states.now a.anchors.now a.handles.now _ (sym c.first_checks-checked.ensures ∙ c.in-Refused.is))
