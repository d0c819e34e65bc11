use native.Mathlib.Numerals.{add-one}
use Rattle.parser.proofs.Machine.collection.Goals as goal

pub returns : goal.returns
returns c =
    simp (add-one, c.begin.ensures, c.node_event-event.ensures, c.no_range.ensures)
