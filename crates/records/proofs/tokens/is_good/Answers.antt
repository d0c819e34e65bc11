-- Each test in its order; a good token has passed them all.
use Rattle.std.proofs.Common.{arith}
use borrow.Author.Tests.{le-leb}
use Rattle.places.proofs.Steps.{steps}
use Rattle.records.specs.Tokens.{good}
use Rattle.records.proofs.tokens.is_good.Goals as goal

pub returns-then-within_text : goal.returns-then-within_text
unfolding good
returns-then-within_text c =
    let t = c.args.t in
    simp (le-leb 1 t.kind (omega arith), le-leb t.kind 23 (omega arith), le-leb t.style 4 (omega arith), ← c.within_text-then-within_text.ensures, ← c.within_text.ensures, c.if-within_text.true)

pub returns-else-within_text : goal.returns-else-within_text
unfolding good
returns-else-within_text c = search (steps, ← c.within_text.ensures, c.if-within_text.false)
