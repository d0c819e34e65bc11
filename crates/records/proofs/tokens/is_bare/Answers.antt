use Rattle.records.specs.Tokens.{bare}
use Rattle.places.proofs.Steps.{steps}
use Rattle.records.proofs.tokens.is_bare.Goals as goal

pub returns-then-kind-lt-STREAM_START : goal.returns-then-kind-lt-STREAM_START
unfolding bare
returns-then-kind-lt-STREAM_START c = search steps

pub returns-then-kind-ge-ALIAS : goal.returns-then-kind-ge-ALIAS
unfolding bare
returns-then-kind-ge-ALIAS c = search steps

pub returns : goal.returns
unfolding bare
returns c = search steps
