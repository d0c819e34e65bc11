use native.Mathlib.Omega.{arith}
use Rattle.records.proofs.TokenLaws.{inside}
use Rattle.parser.proofs.By.{by_is, by_look, by_none, by_not}
use native.Mathlib.Numerals.{add-one}
use Rattle.parser.specs.Answers.{decided, answer, refused_by, refusing, state_after, open_after, names_after, handles_after}
use Rattle.parser.specs.Machine.{small, lent}
use Rattle.parser.specs.Plans.{planned, plan_done}
use Rattle.rules.specs.Rules.{stream_start}
use Rattle.rules.specs.Rules.Words.{give, among}
use Rattle.rules.specs.Run.{limit}
use Rattle.parser.proofs.Machine.stream_start.Goals as goal

pub returns-in_default : goal.returns-in_default
unfolding stream_start small decided answer limit lent give refused_by refusing state_after open_after names_after handles_after among planned plan_done
returns-in_default c =
    ((λ names tags terms. by_none (lent c.args.tokens.now c.args.text.now names tags terms) c.args.self _ _ _ _ c.read_token-read.ensures c.in_default.is (simp (add-one, c.declined.ensures, c.in_default.is))), rw c.declined.ensures tt)

pub overflow_add-at : goal.overflow_add-at
unfolding stream_start small decided answer limit lent give refused_by refusing state_after open_after names_after handles_after among planned plan_done
overflow_add-at c =
    let tokens = c.well_formed.1.0 in
    omega (arith, inside _ _ _ c.read_token-read.ensures c.in-Token.is, tokens)

pub returns-then-t-eq-STREAM_START : goal.returns-then-t-eq-STREAM_START
unfolding stream_start small decided answer limit lent give refused_by refusing state_after open_after names_after handles_after among planned plan_done
returns-then-t-eq-STREAM_START c =
    ((λ names tags terms. by_look (lent c.args.tokens.now c.args.text.now names tags terms) c.args.self _ _ _ _ c.read_token-read.ensures c.in-Token.is (by_is (lent c.args.tokens.now c.args.text.now names tags terms) c.args.self _ _ _ _ _ _ c.if-t-eq-STREAM_START.true (simp (add-one, c.give.ensures, c.plain-event.ensures)))), rw c.give.ensures tt)

pub returns : goal.returns
unfolding stream_start small decided answer limit lent give refused_by refusing state_after open_after names_after handles_after among planned plan_done
returns c =
    ((λ names tags terms. by_look (lent c.args.tokens.now c.args.text.now names tags terms) c.args.self _ _ _ _ c.read_token-read.ensures c.in-Token.is (by_not (lent c.args.tokens.now c.args.text.now names tags terms) c.args.self _ _ _ _ _ _ c.if-t-eq-STREAM_START.false (simp (add-one, c.decline.ensures)))), rw c.decline.ensures tt)
