use Rattle.parser.proofs.declined.Goals as goal

pub returns : goal.returns
returns c =
    simp (c.done.ensures, c.refused.ensures)
