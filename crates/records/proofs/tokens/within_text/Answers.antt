use Rattle.records.specs.Tokens.{within}
use Rattle.places.proofs.Steps.{steps}
use Rattle.records.proofs.tokens.within_text.Goals as goal

pub returns-then-r : goal.returns-then-r
unfolding within
returns-then-r c = search (steps, c.wide.ensures)

pub returns-else-r : goal.returns-else-r
unfolding within
returns-else-r c = search steps
