use Rattle.rules.specs.Run.{ended}
use Rattle.run.proofs.is_end.Goals as goal

pub returns : goal.returns
unfolding ended
returns c =
    rw (← c.numbers-p.ensures)
