-- The list of A tokens that gives the most events: StreamStart, A - 2 times DocumentStart, StreamEnd.
use Rattle.std.specs.Prelude.{◌≡◌, ℕ, zero, suc, ◌-◌, List, [], ◌∷◌, length}
use Rattle.records.specs.declared.tokens.Token.{Token}
use Rattle.rules.specs.Rules.{STREAM_START, STREAM_END, DOCUMENT_START}
use Rattle.rules.specs.Run.{Outcome}
use Rattle.rules.specs.Starred.{bare}

unfoldable pub starts : ℕ → List Token
starts zero = bare STREAM_END 0 0 ∷ []
starts (suc k) = bare DOCUMENT_START 0 0 ∷ starts k

unfoldable pub documents : ℕ → List Token
documents A = bare STREAM_START 0 0 ∷ starts (A - 2)

-- a run accepts, with so many events
pub record Ends (o : Outcome) (count : ℕ) : Type 0 where
  pub number : o.number ≡ 0
  pub events : length o.events ≡ count
