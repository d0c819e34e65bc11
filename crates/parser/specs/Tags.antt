-- What a handle stands for, as the code hands it on.
use Rattle.std.specs.Prelude.{ℕ, Bool, List, [], ◌∷◌}
use Rattle.records.specs.Names.{same}
use Rattle.rules.specs.Rules as rules
use Rattle.parser.specs.declared.tag.Resolved.{Resolved}
use Rattle.parser.specs.declared.tag.Resolved.TheVariants as t

-- `!!`
unfoldable pub secondary : List ℕ → Bool
secondary handle = same handle (33 ∷ 33 ∷ [])

unfoldable pub resolved_of : Resolved → rules.Resolved
resolved_of t.Undeclared = rules.Undeclared
resolved_of (t.Tagged source prefix) = rules.Tagged source prefix
