use mathlib.Core.Path.{sym, ◌∙◌}
use Rattle.run.proofs.ApplyLaws.{declared_refused, declared_other, declared_tag}
use Rattle.run.proofs.apply.declare_at.Goals as goal

pub returns-in_default : goal.returns-in_default
returns-in_default c =
    let a = c.args in
    declared_refused a.tokens.now a.text.now a.bytes.now a.n a.at _ (sym c.read_token-read.ensures ∙ c.in_default.is)

pub returns-then-t-eq-TAG_DIRECTIVE : goal.returns-then-t-eq-TAG_DIRECTIVE
returns-then-t-eq-TAG_DIRECTIVE c =
    let a = c.args in
    declared_tag a.tokens.now a.text.now a.bytes.now a.n a.at _ c.enter.result c.enter.new.bytes (sym c.read_token-read.ensures ∙ c.in-Token.is) c.if-t-eq-TAG_DIRECTIVE.true c.enter.ensures

pub returns : goal.returns
returns c =
    let a = c.args in
    declared_other a.tokens.now a.text.now a.bytes.now a.n a.at _ (sym c.read_token-read.ensures ∙ c.in-Token.is) c.if-t-eq-TAG_DIRECTIVE.false
