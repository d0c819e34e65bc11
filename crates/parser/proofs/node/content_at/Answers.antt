use Rattle.parser.specs.Nodes.{behind_of}
use Rattle.parser.proofs.node.content_at.Goals as goal

pub returns-in_default : goal.returns-in_default
unfolding behind_of
returns-in_default c =
    simp (c.done.ensures, c.refused.ensures, c.in_default.is, ← c.read_token-read.ensures)

pub returns : goal.returns
unfolding behind_of
returns c =
    simp (c.content.ensures, c.in-Token.is, ← c.read_token-read.ensures)
