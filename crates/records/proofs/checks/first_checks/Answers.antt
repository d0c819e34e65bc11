-- Each answer is the check that failed first.
use Rattle.std.proofs.Common.{length, arith}
use borrow.Author.Tests.{eq-eqb, ne_eqb, lt-ltb, le-ltb}
use Rattle.records.specs.Checks.{most_text, first_checks, check_records}
use Rattle.records.proofs.checks.first_checks.Goals as goal

pub returns-then-tokens-ne0 : goal.returns-then-tokens-ne0
unfolding first_checks
returns-then-tokens-ne0 c = simp (ne_eqb _ _ c.if-tokens-ne0.true) c.refuse.ensures

pub returns-then-n-gt-MOST_TOKENS : goal.returns-then-n-gt-MOST_TOKENS
unfolding first_checks
returns-then-n-gt-MOST_TOKENS c =
    simp (eq-eqb _ _ c.if-tokens-ne0.false, lt-ltb _ _ c.if-n-gt-MOST_TOKENS.true)
    c.refuse-then-n-gt-MOST_TOKENS.ensures

pub returns-then-good-n : goal.returns-then-good-n
unfolding first_checks check_records
returns-then-good-n c =
    simp (eq-eqb _ _ c.if-tokens-ne0.false, le-ltb _ _ c.if-n-gt-MOST_TOKENS.false, le-ltb most_text (length c.args.text.now) (omega arith), ← c.good_run-good.ensures, lt-ltb _ _ c.if-good-n.true)
    c.refuse-then-good-n.ensures

pub returns : goal.returns
unfolding first_checks check_records
returns c =
    simp (eq-eqb _ _ c.if-tokens-ne0.false, le-ltb _ _ c.if-n-gt-MOST_TOKENS.false, le-ltb most_text (length c.args.text.now) (omega arith), ← c.good_run-good.ensures, le-ltb _ _ c.if-good-n.false)
