use Rattle.records.specs.Tokens.{last_end}
use Rattle.places.proofs.Steps.{steps}
use Rattle.records.proofs.tokens.last_end.Goals as goal

pub returns-then-n-eq0 : goal.returns-then-n-eq0
unfolding last_end
returns-then-n-eq0 c = search steps

pub returns : goal.returns
unfolding last_end
returns c = search steps
