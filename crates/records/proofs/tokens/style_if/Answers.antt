use Rattle.records.specs.Tokens.{style_if}
use Rattle.records.proofs.tokens.style_if.Goals as goal

pub returns-then-used : goal.returns-then-used
unfolding style_if
returns-then-used c = cc

pub returns-else-used : goal.returns-else-used
unfolding style_if
returns-else-used c = cc
