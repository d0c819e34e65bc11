-- A list of tokens as the bytes that a caller lends.
use Rattle.std.specs.Prelude.{ℕ, ◌^◌, Bool, true, ◌&&◌, ◌||◌, List, [], ◌∷◌, ◌++◌, eqb, ltb}
use Rattle.places.specs.Words.{encode}
use Rattle.records.specs.Tokens.{uses_a, uses_b, uses_style, good}
use Rattle.records.specs.declared.names.Range.{Range}
use Rattle.records.specs.declared.tokens.Token.{Token}

-- the eight numbers of a token's record
unfoldable pub numbers : Token → List ℕ
numbers t = t.kind ∷ t.start ∷ t.end ∷ t.a.from ∷ t.a.to ∷ t.b.from ∷ t.b.to ∷ t.style ∷ []

unfoldable pub as_bytes : List Token → List ℕ
as_bytes [] = []
as_bytes (t ∷ ts) = encode (numbers t) ++ as_bytes ts

unfoldable pub small : List ℕ → Bool
small [] = true
small (n ∷ ns) = ltb n (2 ^ 32) && small ns

unfoldable pub empty : Range → Bool
empty r = eqb r.from 0 && eqb r.to 0

-- fields that the kind does not use are 0
unfoldable pub tidy : Token → Bool
tidy t = (uses_a t.kind || empty t.a) && ((uses_b t.kind || empty t.b) && (uses_style t.kind || eqb t.style 0))

-- a token that a record can hold, with its ranges in a text of `size` bytes
unfoldable pub sound : ℕ → Token → Bool
sound size t = good size t && (small (numbers t) && tidy t)

unfoldable pub all_sound : ℕ → List Token → Bool
all_sound size [] = true
all_sound size (t ∷ ts) = sound size t && all_sound size ts
