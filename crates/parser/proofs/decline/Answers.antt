use Rattle.parser.proofs.decline.Goals as goal

pub returns : goal.returns
returns c =
    simp (c.done.ensures, c.refuse.ensures)
