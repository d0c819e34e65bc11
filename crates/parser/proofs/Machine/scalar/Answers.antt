use native.Mathlib.Numerals.{add-one}
use Rattle.parser.proofs.Machine.scalar.Goals as goal

pub returns : goal.returns
returns c =
    simp (add-one, c.finish.ensures, c.node_event-event.ensures)
