use Rattle.records.specs.Tokens.{token_at}
use Rattle.records.proofs.tokens.token_at.Goals as goal

pub returns : goal.returns
unfolding token_at
returns c = cc
