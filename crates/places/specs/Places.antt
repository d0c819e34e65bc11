-- Places: records of one size that stand one after another in lent bytes.
use Rattle.std.specs.Prelude.{◌≡◌, ℕ, ◌+◌, ◌*◌, ◌/◌, ◌≤◌, min, Bool, cond, List, ◌++◌, length, get_or, drop, replicate, ltb}
use Rattle.std.proofs.lemmas.List.Edits.{sets}
use Rattle.places.specs.Words.{word, encode}

-- how many places of `size` bytes a buffer has: its length divided by that, rounded down
abbrev pub places : List ℕ → ℕ → ℕ
places b size = length b / size

unfoldable pub has_place : List ℕ → ℕ → ℕ → Bool
has_place b size at = ltb at (places b size)

-- field k of a place, 0 where there is no such field or no such place
unfoldable pub field_of : List ℕ → ℕ → ℕ → ℕ → ℕ
field_of b size at k = cond (ltb k (size / 4)) (cond (has_place b size at) (word b (size * at + 4 * k)) 0) 0

-- the buffer with the numbers in place `at`, as it was where there is no such place
unfoldable pub stored : List ℕ → ℕ → List ℕ → List ℕ
stored b at ns = cond (has_place b (4 * length ns) at) (sets b (4 * length ns * at) (encode ns)) b

-- storing says whether there was the place
pub record Put (before : List ℕ) (at : ℕ) (ns : List ℕ) (r : Bool) (after : List ℕ) : Type 0 where
  pub room : r ≡ has_place before (4 * length ns) at
  pub bytes : after ≡ stored before at ns

-- the first n bytes are 0, the others stand
unfoldable pub zeroed : ℕ → List ℕ → List ℕ
zeroed n b = replicate n 0 ++ drop n b

-- the first n places are 0, all of them where there are fewer; other bytes stand
unfoldable pub cleared_places : List ℕ → ℕ → ℕ → List ℕ
cleared_places b size n = zeroed (size * min n (places b size)) b

-- with n places in use the unused ones are zero: every byte from place n on is 0, those that make no whole place too
pub record Unused (b : List ℕ) (size n : ℕ) : Type 0 where
  pub zero : (i : ℕ) → size * n ≤ i → get_or b i 0 ≡ 0
