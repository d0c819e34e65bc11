-- Lists of tokens as what a run is given: those that passed the first checks, and the machines that a run comes through.
use Rattle.std.specs.Prelude.{◌≡◌, ℕ, zero, suc, ◌≤◌, ◌<◌, Bool, false, List, [], ◌∷◌, length}
use Rattle.records.specs.Tokens.{refused, read_at}
use Rattle.records.specs.declared.tokens.Token.{Token}
use Rattle.records.specs.declared.tokens.Read.{Read}
use Rattle.records.specs.declared.tokens.Read.TheVariants as read
use Rattle.records.specs.declared.events.Event.{Event}
use Rattle.rules.specs.Rules.{Given}
use Rattle.rules.specs.Run.{Rooms, Model, fresh, Go, step, ended}

-- each record is a token; past the end 14 at one place
pub record Listed (g : Given) : Type 0 where
  pub token : ℕ → Token
  pub place : ℕ
  pub within : (at : ℕ) → at < g.count → g.read at ≡ read.Token (token at)
  pub past : (at : ℕ) → g.count ≤ at → g.read at ≡ refused 14 place

-- the end of the last token, 0 if there is none
unfoldable pub last_token_end : List Token → ℕ
last_token_end [] = 0
last_token_end (t ∷ []) = t.end
last_token_end (t ∷ (u ∷ ts)) = last_token_end (u ∷ ts)

unfoldable pub read_in : ℕ → List Token → ℕ → Read
read_in place [] at = refused 14 place
read_in place (t ∷ ts) zero = read.Token t
read_in place (t ∷ ts) (suc at) = read_in place ts at

-- a plain list of tokens
unfoldable pub listed : List Token → List ℕ → Bool → Bool → Given
listed tokens text keep forget = record {
  count = length tokens;
  read = read_in (last_token_end tokens) tokens;
  text = text;
  keep = keep;
  forget = forget;
}

-- n token records
unfoldable pub in_bytes : List ℕ → ℕ → List ℕ → Bool → Bool → Given
in_bytes b n text keep forget =
    record { count = n; read = read_at b (length text); text = text; keep = keep; forget = forget }

-- a machine that a run comes to after n events
pub data Reached (r : Rooms) (g : Given) : ℕ → Model → Type 0 where
  start : Reached r g 0 fresh
  on : {n : ℕ} {m m' : Model} (e : Event) → Reached r g n m → ended m.state ≡ false → step r g m ≡ Go e m'
      → Reached r g (suc n) m'
