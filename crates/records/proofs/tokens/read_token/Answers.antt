-- Past the end, a bare token, another good one, or a bad record.
use Rattle.std.proofs.Common.{sym, ◌∙◌}
use borrow.Author.Tests.{lt-leb}
use Rattle.places.proofs.Steps.{steps}
use Rattle.records.specs.Tokens.{read_at, refused}
use Rattle.records.proofs.TokenLaws.{read_bare}
use Rattle.records.proofs.tokens.read_token.Goals as goal

pub returns-then-at-tokens : goal.returns-then-at-tokens
unfolding read_at refused
returns-then-at-tokens c = search (steps, c.last_end-place.ensures)

pub returns-then-is_bare : goal.returns-then-is_bare
returns-then-is_bare c =
    rw c.bare_at.ensures (sym (read_bare _ _ _ c.if-at-tokens.false c.field-kind.ensures (sym c.is_bare.ensures ∙ c.if-is_bare.true)))

pub returns-then-is_good : goal.returns-then-is_good
unfolding read_at refused
returns-then-is_good c =
    simp (lt-leb _ _ c.if-at-tokens.false, ← c.token_at-t.ensures, ← c.is_good.ensures, c.if-is_good.true)

pub returns-else-is_good : goal.returns-else-is_good
unfolding read_at refused
returns-else-is_good c =
    simp (lt-leb _ _ c.if-at-tokens.false, ← c.token_at-t.ensures, ← c.is_good.ensures, c.if-is_good.false)
