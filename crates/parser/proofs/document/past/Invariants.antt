use mathlib.Core.Path.{◌≡◌}
use Prim.Native.Nat.{◌-◌}
use Rattle.places.specs.Places.{places}
use Rattle.records.specs.Tokens.{token_size}
use Rattle.rules.specs.Rules.{past}
use Rattle.parser.specs.Documents.{unset, marks}
use Rattle.parser.proofs.document.past.Given as goal

abbrev pub invariant-loop-i : goal.invariant-loop-i
invariant-loop-i l =
    past (unset l.tokens l.text) (marks l.ends) (places l.tokens token_size - l.at) l.at ≡ past (unset l.tokens l.text) (marks l.ends) (places l.tokens token_size - l.i) l.i

abbrev pub decreases-loop-i : goal.decreases-loop-i
decreases-loop-i l =
    places l.tokens token_size - l.i
