-- What the C face leaves: the number that it returns, and every byte that it was lent.
use Rattle.std.specs.Prelude.{ℕ, ◌%◌, ◌^◌, Bool, not, cond, List, [], ◌∷◌, eqb, ltb, length}
use Rattle.places.specs.Places.{stored}
use Rattle.run.specs.Run.{answer_size, Left, runs}
use Rattle.run.specs.declared.Answer.{Answer}
use Rattle.load.specs.Load.{loaded}
use Rattle.load.specs.declared.Answer as load

pub record Faced : Type 0 where
  pub number : ℕ
  pub events : List ℕ
  pub states : List ℕ
  pub anchors : List ℕ
  pub handles : List ℕ
  pub answer : List ℕ

unfoldable pub faced : ℕ → List ℕ → List ℕ → List ℕ → List ℕ → List ℕ → Faced
faced number events states anchors handles answer =
    record { number = number; events = events; states = states; anchors = anchors; handles = handles; answer = answer }

-- a setting is on where it is not 0
unfoldable pub on : ℕ → Bool
on n = not (eqb n 0)

-- number, count and place, 4 bytes each; the bytes behind them stand
unfoldable pub answered : List ℕ → Answer → List ℕ
answered answer a = stored answer 0 (a.number ∷ a.count ∷ a.place ∷ [])

-- what a run left, with its answer written out
unfoldable pub returned : Left → List ℕ → Faced
returned l answer =
    faced l.answer.number l.events l.states l.anchors l.handles (answered answer l.answer)

-- 28 touches nothing
unfoldable pub saphyr_run : List ℕ → List ℕ → ℕ → ℕ → List ℕ → List ℕ → List ℕ → List ℕ → List ℕ → Faced
saphyr_run tokens text keep forget events states anchors handles answer =
    cond (ltb (length answer) answer_size) (faced 28 events states anchors handles answer)
    (returned (runs tokens text (record { keep = on keep; forget = on forget }) events states anchors handles) answer)

-- what the walk leaves: the number that it returns, and the answer buffer
pub record Walked : Type 0 where
  pub number : ℕ
  pub answer : List ℕ

unfoldable pub walked : ℕ → List ℕ → Walked
walked number answer = record { number = number; answer = answer }

-- an index has 4 bytes here
unfoldable pub said : load.Answer → List ℕ → Walked
said a answer = walked a.number (stored answer 0 (a.number ∷ a.count ∷ a.place % 2 ^ 32 ∷ []))

unfoldable pub saphyr_load : List ℕ → List ℕ → Walked
saphyr_load events answer = cond (ltb (length answer) answer_size) (walked 28 answer) (said (loaded events) answer)
