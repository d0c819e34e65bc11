-- The rule from the start on is the rule from where the loop stands; `used` are the handles up to there.
-- behind a directive that is told, the list goes on
use native.Mathlib.Omega.{arith}
use native.Mathlib.Numerals.{add-one}
use mathlib.Core.Path.{sym, ◌∙◌}
use Rattle.parser.specs.Machine.{lent}
use Rattle.parser.proofs.Turns.{turn, turned_done, turned_on, turn_start, declared_none}
use Rattle.parser.proofs.Machine.explicit_document_start.Goals as goal

pub loop-step-init : goal.loop-step-init
unfolding lent
loop-step-init c =
    let a = c.args in
    let x = lent a.tokens.now a.text.now a.names.now a.tags.now a.terms in
    (omega arith, turn_start x a.self a.at, declared_none x a.self a.at)

pub returns-in-Done : goal.returns-in-Done
unfolding lent
returns-in-Done c =
    let a = c.args in
    let x = lent a.tokens.now a.text.now a.names.now a.tags.now a.terms in
    let t = turn x a.self a.at c.loop-step.i c.loop-step.version c.loop-step.used c.loop-step.invariant.0 c.loop-step.invariant.2 in
    sym (c.loop-step.invariant.1 ∙ turned_done x a.self a.at _ c.loop-step.i t (sym c.directive-met.ensures ∙ c.in-Done.is))

-- behind a directive that is told, the list goes on
pub overflow_add-i : goal.overflow_add-i
unfolding lent
overflow_add-i c =
    let a = c.args in
    let x = lent a.tokens.now a.text.now a.names.now a.tags.now a.terms in
    let t = turn x a.self a.at c.loop-step.i c.loop-step.version c.loop-step.used c.loop-step.invariant.0 c.loop-step.invariant.2 in
    let goes = turned_on x a.self a.at _ c.loop-step.i t (sym c.directive-met.ensures ∙ c.in-On.is) in
    let tokens = c.well_formed.1.0 in
    omega (arith, goes.0, tokens)

pub loop-step-smaller : goal.loop-step-smaller
unfolding lent
loop-step-smaller c =
    let a = c.args in
    let x = lent a.tokens.now a.text.now a.names.now a.tags.now a.terms in
    let t = turn x a.self a.at c.loop-step.i c.loop-step.version c.loop-step.used c.loop-step.invariant.0 c.loop-step.invariant.2 in
    let goes = turned_on x a.self a.at _ c.loop-step.i t (sym c.directive-met.ensures ∙ c.in-On.is) in
    omega (arith, goes.0)

pub loop-step-preserved : goal.loop-step-preserved
unfolding lent
loop-step-preserved c =
    let a = c.args in
    let x = lent a.tokens.now a.text.now a.names.now a.tags.now a.terms in
    let t = turn x a.self a.at c.loop-step.i c.loop-step.version c.loop-step.used c.loop-step.invariant.0 c.loop-step.invariant.2 in
    let goes = turned_on x a.self a.at _ c.loop-step.i t (sym c.directive-met.ensures ∙ c.in-On.is) in
    (omega arith, rw add-one (c.loop-step.invariant.1 ∙ goes.1), rw add-one goes.2)
