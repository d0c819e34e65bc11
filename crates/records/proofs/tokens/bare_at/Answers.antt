use Rattle.records.specs.Tokens.{bare_at}
use Rattle.records.proofs.tokens.bare_at.Goals as goal

pub returns : goal.returns
unfolding bare_at
returns c = cc
