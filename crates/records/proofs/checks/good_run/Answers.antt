-- A bad record ends the run, a good one goes on, and behind the last place it is at its end.
use Rattle.std.proofs.Common.{◌≡◌, refl, sym, ap, ◌∙◌, ◌+◌, ◌-◌, length, true, false, arith}
use Rattle.places.specs.Places.{places}
use Rattle.records.specs.Tokens.{token_size, read_at, found}
use Rattle.records.proofs.CheckLaws.{good_run_bad, good_run_good, good_run_none}
use Rattle.records.proofs.checks.good_run.Goals as goal

pub returns-in_default : goal.returns-in_default
returns-in_default c =
    let a = c.args in
    let l = c.loop-i in
    let bad : found (read_at a.tokens.now (length a.text.now) l.i) ≡ false = ap found (sym c.in_default.ensures) in
    sym (l.invariant.2 ∙ good_run_bad a.tokens.now (length a.text.now) l.i (places a.tokens.now token_size - l.i) (omega arith) bad)

pub loop-i-preserved : goal.loop-i-preserved
loop-i-preserved c =
    let a = c.args in
    let l = c.loop-i in
    let good : found (read_at a.tokens.now (length a.text.now) l.i) ≡ true = ap found (sym c.in-Token.ensures) in
    let e : places a.tokens.now token_size - l.i - 1 ≡ places a.tokens.now token_size - (l.i + 1) = omega arith in
    (refl, omega arith, l.invariant.2 ∙ good_run_good a.tokens.now (length a.text.now) l.i (places a.tokens.now token_size - l.i) (omega arith) good ∙ rw e)

pub returns : goal.returns
returns c =
    let a = c.args in
    let l = c.loop-i in
    let e : places a.tokens.now token_size - l.i ≡ 0 = omega arith in
    sym (l.invariant.2 ∙ rw e (good_run_none a.tokens.now (length a.text.now) l.i))
