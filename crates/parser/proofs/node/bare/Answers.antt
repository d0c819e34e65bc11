use native.Mathlib.Numerals.{add-one}
use Rattle.parser.specs.Nodes.{bare}
use Rattle.parser.proofs.node.bare.Goals as goal

pub returns : goal.returns
unfolding bare
returns c =
    simp (add-one, c.no_tag.ensures)
