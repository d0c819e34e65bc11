use Rattle.records.specs.Tokens.{range_if}
use Rattle.records.proofs.tokens.range_if.Goals as goal

pub returns-then-used : goal.returns-then-used
unfolding range_if
returns-then-used c = cc

pub returns-else-used : goal.returns-else-used
unfolding range_if
returns-else-used c = cc
