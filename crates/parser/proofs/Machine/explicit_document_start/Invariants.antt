use mathlib.Core.Path.{◌≡◌}
use Prim.Native.Nat.{◌-◌, ◌≤◌}
use Rattle.places.specs.Places.{places}
use Rattle.records.specs.Tokens.{token_size}
use Rattle.rules.specs.Rules.{explicit_document_start}
use Rattle.parser.specs.Machine.{lent}
use Rattle.parser.specs.Answers.{decided}
use Rattle.parser.proofs.Turns.{onward, declared_to}
use Rattle.parser.proofs.Machine.explicit_document_start.Given as goal

abbrev pub invariant-loop-step : goal.invariant-loop-step
invariant-loop-step l =
    (l.at ≤ l.i) × (decided (lent l.tokens l.text l.names l.tags l.terms) l.self (λ g m. explicit_document_start g m l.at) ≡ onward (lent l.tokens l.text l.names l.tags l.terms) l.self l.at (places l.tokens token_size - l.i) l.i l.version) × (l.used ≡ declared_to (lent l.tokens l.text l.names l.tags l.terms) l.self l.at l.i)

abbrev pub decreases-loop-step : goal.decreases-loop-step
decreases-loop-step l =
    places l.tokens token_size - l.i
