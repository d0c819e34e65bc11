use Rattle.parser.proofs.Machine.give.Goals as goal

pub returns : goal.returns
returns c =
    simp (c.done.ensures, c.next.ensures, c.goes-m.ensures)
