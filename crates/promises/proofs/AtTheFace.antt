-- Demand 1 at the C face, of any call of `saphyr_run` by its contract: an answer buffer too short, and what an answer leaves of
-- its buffer. Assumes nothing.
use mathlib.Core.Path.{◌≡◌, refl, sym, ap, ◌∙◌}
use mathlib.Core.Bool.{Bool, true, false, cond}
use mathlib.Core.List.{List, [], ◌∷◌}
use mathlib.Core.Logic.{inr}
use Prim.Native.Nat.{ℕ, ◌*◌, ◌≤◌, ◌<◌}
use native.Mathlib.Omega.{arith}
use borrow.Author.Tests.{lt-ltb, le-ltb}
use lib.ListN.{length, get_or}
use lib.Seq.{sets}
use Rattle.places.specs.Words.{encode}
use Rattle.places.specs.Places.{places, has_place, stored}
use Rattle.places.proofs.WordLaws.{length-encode, get_or-sets_other}
use Rattle.places.proofs.PlaceLaws.{field_same}
use Rattle.run.specs.Run.{answer_size, Left, left, runs}
use Rattle.run.specs.declared.Answer.{Answer}
use Rattle.face.specs.Face.{Faced, faced, on, answered, returned, saphyr_run}
use Rattle.face.proofs.saphyr_run.Reads as contract
use Rattle.promises.specs.Calls.{answer_in}

-- an answer is read back as it was written
answer_back : (b : List ℕ) (x : Answer) → answer_size ≤ length b → answer_in (answered b x) ≡ x
unfolding answer_in answered has_place
answer_back b x h =
    let ns = x.number ∷ x.count ∷ x.place ∷ [] in
    let p : has_place b answer_size 0 ≡ true = lt-ltb 0 (places b answer_size) (omega arith) in
    rw (field_same b 0 ns 0 p (omega arith), field_same b 0 ns 1 p (omega arith), field_same b 0 ns 2 p (omega arith))

answer-past : (b : List ℕ) (x : Answer) (i : ℕ) → answer_size ≤ i → get_or (answered b x) i 0 ≡ get_or b i 0
unfolding answered stored has_place
answer-past b x i h = go (has_place b answer_size 0) where
  ns : List ℕ
  ns = x.number ∷ x.count ∷ x.place ∷ []

  go : (t : Bool) → get_or (cond t (sets b (answer_size * 0) (encode ns)) b) i 0 ≡ get_or b i 0
  go true = get_or-sets_other (encode ns) b (answer_size * 0) i (inr (omega (arith, length-encode ns)))
  go false = refl

module _ (tokens text : List ℕ) (keep forget : ℕ) (events states anchors handles answer : List ℕ) where
  abbrev run_of : Left
  run_of = runs tokens text (record { keep = on keep; forget = on forget }) events states anchors handles

  abbrev called : Faced
  called = saphyr_run tokens text keep forget events states anchors handles answer

  short : length answer < answer_size → called ≡ faced 28 events states anchors handles answer
  unfolding saphyr_run
  short h = rw (lt-ltb (length answer) answer_size h)

  enough : answer_size ≤ length answer → called ≡ returned run_of answer
  unfolding saphyr_run
  enough h = rw (le-ltb (length answer) answer_size h)

  module _ (number : ℕ) (e s n t b : List ℕ) (h : answer_size ≤ length answer) (k : faced number e s n t b ≡ called) where
    as_run : faced number e s n t b ≡ returned run_of answer
    as_run = k ∙ enough h

    same_answer : answer_in b ≡ run_of.answer
    unfolding faced returned
    same_answer = ap (λ (f : Faced). answer_in f.answer) as_run ∙ answer_back answer run_of.answer h

    -- with room for its answer, the face leaves what the run leaves
    pub face_leaves : left (answer_in b) e s n t ≡ run_of
    unfolding faced returned left
    face_leaves = λ i. record {
      answer = same_answer i;
      events = (as_run i).events;
      states = (as_run i).states;
      anchors = (as_run i).anchors;
      handles = (as_run i).handles;
    }

    same_number : number ≡ (answer_in b).number
    unfolding faced returned
    same_number = ap (λ (f : Faced). f.number) as_run ∙ sym (ap (λ (y : Answer). y.number) same_answer)

    same_rest : (i : ℕ) → answer_size ≤ i → get_or b i 0 ≡ get_or answer i 0
    unfolding faced returned
    same_rest i l = ap (λ (f : Faced). get_or f.answer i 0) as_run ∙ answer-past answer run_of.answer i l

module _ (κs : _) (a : _) (x : _) (s : _) (k : contract.Learnt κs a x s) where
  -- "unless the answer itself has no room (28)": nothing is touched
  pub no_room_to_answer : length a.1.1.1.1.1.1.1.1.0.now < answer_size
      → (x ≡ 28) × (s.1.1.1.1.0.now ≡ a.1.1.1.1.0.now) × (s.1.1.1.1.1.0.now ≡ a.1.1.1.1.1.0.now)
      × (s.1.1.1.1.1.1.0.now ≡ a.1.1.1.1.1.1.0.now) × (s.1.1.1.1.1.1.1.0.now ≡ a.1.1.1.1.1.1.1.0.now)
      × (s.1.1.1.1.1.1.1.1.0.now ≡ a.1.1.1.1.1.1.1.1.0.now)
  unfolding faced
  no_room_to_answer h =
      let q = k ∙ short _ _ _ _ _ _ _ _ _ h in
      (ap (λ f. f.number) q, ap (λ f. f.events) q, ap (λ f. f.states) q, ap (λ f. f.anchors) q, ap (λ f. f.handles) q, ap (λ f. f.answer) q)

  module _ (h : answer_size ≤ length a.1.1.1.1.1.1.1.1.0.now) where
    -- the number is returned too
    pub number_returned : x ≡ (answer_in s.1.1.1.1.1.1.1.1.0.now).number
    number_returned = same_number _ _ _ _ _ _ _ _ _ _ _ _ _ _ _ h k

    -- "answer bytes past 12 untouched"
    pub answer_rest : (i : ℕ) → answer_size ≤ i
        → get_or s.1.1.1.1.1.1.1.1.0.now i 0 ≡ get_or a.1.1.1.1.1.1.1.1.0.now i 0
    answer_rest = same_rest _ _ _ _ _ _ _ _ _ _ _ _ _ _ _ h k
