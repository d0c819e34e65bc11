-- Demand 1: any input, one answer. Each sentence of it, of any call. Assumes nothing.
use mathlib.Core.Path.{◌≡◌, refl, sym, ◌∙◌}
use mathlib.Core.Bool.{Bool, true, false, not, cond, ◌||◌}
use mathlib.Core.List.{List}
use mathlib.Core.Logic.{◌⊎◌, inl, inr}
use Prim.Native.Nat.{ℕ, ◌*◌, ◌%◌, ◌^◌, ◌≤◌}
use native.Mathlib.Omega.{arith}
use borrow.Author.Tests.{le-leb, lt-leb, eqb-true}
use lib.Dec.{ltb, eqb}
use lib.ListN.{length, get_or}
use Rattle.places.specs.Places.{places}
use Rattle.records.specs.Checks.{most_tokens, most_text, good_run, refusing, check_records, first_checks}
use Rattle.records.specs.Says.{Number, checked_says}
use Rattle.records.specs.declared.tokens.Refusal.{Refusal}
use Rattle.records.specs.declared.checks.Checked.{Checked}
use Rattle.records.specs.declared.checks.Checked.TheVariants as checked
use Rattle.records.proofs.CheckLaws.{passed}
use Rattle.records.proofs.EventLaws.{length-written}
use Rattle.rules.specs.Rules.Words.{Given}
use Rattle.rules.specs.Run.{Rooms}
use Rattle.rules.proofs.ListLaws.{checked_list}
use Rattle.rules.proofs.Runs as rules
use Rattle.rules.proofs.NeverStuck.{Answer, plain, no_event, no_place, answered, short_range}
use Rattle.records.specs.Events.{event_size, written}
use Rattle.records.specs.Tokens.{token_size}
use Rattle.run.specs.Run.{Left, left, runs, rooms_of, told, checked_run}
use Rattle.face.specs.Face.{on}
use Rattle.promises.specs.Calls.{Call, Leaves, by_run, by_face}
use Rattle.promises.specs.Demands.{known, of_first_checks, Zero, given, rooms, by_rules}
use Rattle.promises.proofs.AtTheFace.{face_leaves}
use Rattle.promises.proofs.ByteLaws.{false_true}
use Rattle.promises.proofs.WrittenLaws.{written_other, cleared_zero}

-- the answer, and the lent bytes afterwards, by the definition of the run
unfoldable pub after : Call → Left
after c = runs c.tokens c.text c.settings c.events c.states c.anchors c.handles

-- a call leaves that, whichever function was called
pub leaves : {c : Call} {l : Left} → Leaves c l → l ≡ after c
unfolding after left on
leaves (by_run κs a x s k) = k
leaves (by_face κs a x s k room) = face_leaves _ _ _ _ _ _ _ _ _ _ _ _ _ _ _ room k

-- a call that runs: the answer and the events are the rules'
pub record Ran (c : Call) (l : Left) : Type 0 where
  pub number : l.answer.number ≡ (by_rules c).number
  pub count : l.answer.count ≡ length (by_rules c).events
  pub place : l.answer.place ≡ (by_rules c).place
  pub events : l.events ≡ written c.events 0 (by_rules c).events

abbrev pub checks : Call → Checked
checks c = first_checks c.tokens (length c.text)

abbrev pub Passes : Call → Type 0
Passes c = checks c ≡ checked.Passed (places c.tokens token_size)

pub ran : {c : Call} {l : Left} → Leaves c l → Passes c → Ran c l
unfolding after runs rooms_of checked_run told by_rules given rooms
ran k q = let e = leaves k in record { number = rw (e, q); count = rw (e, q); place = rw (e, q); events = rw (e, q) }

-- what the first checks say of a call: a number and its place, which are the answer's, or nothing
pub data Judged (c : Call) (l : Left) : Type 0 where
  refused : (number place : ℕ) → checked_says (checks c) ≡ Number number place → of_first_checks number ≡ true → l.answer.number ≡ number
      → l.answer.place ≡ place → l.answer.count ≡ 0 → l.events ≡ c.events → Judged c l
  passed_on : Passes c → Ran c l → Judged c l

-- the first checks refuse with 20, 26, 27 or 21
numbered : (b : List ℕ) (size : ℕ) (e : Refusal) → first_checks b size ≡ checked.Refused e → of_first_checks e.number ≡ true
unfolding first_checks check_records refusing of_first_checks
numbered b size e q =
    go (eqb (length b % token_size) 0) (ltb most_tokens (places b token_size)) (ltb most_text size) (ltb (good_run b size 0 (places b token_size)) (places b token_size)) q where
      is : (n p : ℕ) → checked.Refused (record { number = n; place = p }) ≡ checked.Refused e → of_first_checks n ≡ true → of_first_checks e.number ≡ true
      is n p r k = let i : n ≡ e.number = cc in rw i at k

      go : (w m t r : Bool) → cond (not w) (refusing 20 0) (cond m (refusing 26 0) (cond t (refusing 27 0) (cond r (refusing 21 (good_run b size 0 (places b token_size) % 2 ^ 32)) (checked.Passed (places b token_size))))) ≡ checked.Refused e
          → of_first_checks e.number ≡ true
      go false m t r q = is 20 0 q refl
      go true true t r q = is 26 0 q refl
      go true false true r q = is 27 0 q refl
      go true false false true q = is 21 _ q refl
      go true false false false q = let z : ◌≡◌ {A = ℕ} 0 1 = cc in absurd (omega arith)

pub judged : {c : Call} {l : Left} → Leaves c l → Judged c l
unfolding after runs checked_run
judged {c = c} {l = l} k = go (checks c) refl where
  e : l ≡ after c
  e = leaves k

  go : (r : Checked) → checks c ≡ r → Judged c l
  go (checked.Refused f) q =
      refused f.number f.place (rw q) (numbered c.tokens (length c.text) f q) (rw (e, q)) (rw (e, q)) (rw (e, q)) (rw (e, q))
  go (checked.Passed n) q =
      let i : n ≡ places c.tokens token_size = (passed c.tokens (length c.text) n q).count in
      passed_on (rw i at q) (ran k (rw i at q))

-- the numbers of the run itself are 0 to 14 and 22 to 25
abbrev pub Of-run : ℕ → Type 0
Of-run n = (n ≤ 14) ⊎ ((22 ≤ n) × (n ≤ 25))

run_range : {r : Rooms} {g : Given} {lim n : ℕ} → Answer r g lim n → Of-run n
run_range (plain h) = inl h
run_range (no_event e h) = inr (omega arith)
run_range (no_place p e h) = inr (omega (arith, short_range p))

run_number : (n : ℕ) → Of-run n → known n ≡ true
unfolding known
run_number n (inl h) = rw (le-leb n 14 h)
run_number n (inr h) = rw (lt-leb n 14 (omega arith), le-leb 20 n (omega arith), le-leb n 27 (omega arith))

first_range : (n : ℕ) → of_first_checks n ≡ true → ((20 ≤ n) × (n ≤ 21)) ⊎ ((26 ≤ n) × (n ≤ 27))
unfolding of_first_checks
first_range n h = go (eqb n 20) (eqb n 21) (eqb n 26) (eqb n 27) refl refl refl refl h where
  go : (a b c d : Bool) → eqb n 20 ≡ a → eqb n 21 ≡ b → eqb n 26 ≡ c → eqb n 27 ≡ d → a || (b || (c || d)) ≡ true
      → ((20 ≤ n) × (n ≤ 21)) ⊎ ((26 ≤ n) × (n ≤ 27))
  go true b c d e f g i h = inl (omega (arith, eqb-true n 20 e))
  go false true c d e f g i h = inl (omega (arith, eqb-true n 21 f))
  go false false true d e f g i h = inr (omega (arith, eqb-true n 26 g))
  go false false false true e f g i h = inr (omega (arith, eqb-true n 27 i))
  go false false false false e f g i h = absurd (false_true h)

-- no number of the first checks is one of the run itself
pub not_first : (n : ℕ) → of_first_checks n ≡ true → Of-run n → ⊥
not_first n h = go (first_range n h) where
  go : ((20 ≤ n) × (n ≤ 21)) ⊎ ((26 ≤ n) × (n ≤ 27)) → Of-run n → ⊥
  go (inl r) (inl k) = omega arith
  go (inl r) (inr k) = omega arith
  go (inr r) (inl k) = omega arith
  go (inr r) (inr k) = omega arith

-- an accepted call passed the first checks
pub accepted_passes : {c : Call} {l : Left} → Leaves c l → l.answer.number ≡ 0 → Passes c
accepted_passes {c = c} {l = l} k z = go (judged k) where
  go : Judged c l → Passes c
  go (refused n p s h e f z' w) = absurd (not_first n h (inl (omega arith)))
  go (passed_on q r) = q

first_number : (n : ℕ) → of_first_checks n ≡ true → known n ≡ true
unfolding known
first_number n h = go (first_range n h) where
  go : ((20 ≤ n) × (n ≤ 21)) ⊎ ((26 ≤ n) × (n ≤ 27)) → known n ≡ true
  go (inl r) = rw (lt-leb n 14 (omega arith), le-leb 20 n (omega arith), le-leb n 27 (omega arith))
  go (inr r) = rw (lt-leb n 14 (omega arith), le-leb 20 n (omega arith), le-leb n 27 (omega arith))

-- what the run of a list that passed answers
pub ruled : (c : Call) → first_checks c.tokens (length c.text) ≡ checked.Passed (places c.tokens token_size)
    → Answer (rooms c) (given c) (places c.events event_size) (by_rules c).number
unfolding by_rules given
ruled c q = answered (rooms c) (checked_list c.tokens (places c.tokens token_size) c.text c.settings.keep c.settings.forget q) (places c.events event_size)

-- as many events as there is room for
pub fits : (c : Call) → length (by_rules c).events ≤ places c.events event_size
unfolding by_rules
fits c = let n = (rules.ran (rooms c) (given c) (places c.events event_size)).room in omega arith

module _ {c : Call} {l : Left} (k : Leaves c l) where
  -- "one answer with a number": one of document 01's
  pub a_number : known l.answer.number ≡ true
  a_number = go (judged k) where
    go : Judged c l → known l.answer.number ≡ true
    go (refused n p s h e f z w) = rw e (first_number n h)
    go (passed_on q r) = rw r.number (run_number _ (run_range (ruled c q)))

  -- "A list that fails the first checks writes no event": their number and place are the answer
  pub no_event_written : (n p : ℕ) → checked_says (checks c) ≡ Number n p
      → (l.answer.number ≡ n) × (l.answer.count ≡ 0) × (l.answer.place ≡ p) × (l.events ≡ c.events)
  no_event_written n p s = go (judged k) where
    go : Judged c l → (l.answer.number ≡ n) × (l.answer.count ≡ 0) × (l.answer.place ≡ p) × (l.events ≡ c.events)
    go (refused m o t h e f z w) =
        let i : Number m o ≡ Number n p = sym t ∙ s in
        let a : m ≡ n = cc in
        let b : o ≡ p = cc in
        (e ∙ a, z, f ∙ b, w)
    go (passed_on q r) = let z : ◌≡◌ {A = ℕ} 0 1 = cc in absurd (omega arith)

  -- and no other answer has one of their numbers
  pub by_first_checks : of_first_checks l.answer.number ≡ true → checked_says (checks c) ≡ Number l.answer.number l.answer.place
  by_first_checks i = go (judged k) where
    go : Judged c l → checked_says (checks c) ≡ Number l.answer.number l.answer.place
    go (refused m o t h e f z w) = rw (e, f) t
    go (passed_on q r) = absurd (not_first _ i (rw r.number (run_range (ruled c q))))

  -- the events that are counted have room
  pub count_fits : l.answer.count ≤ places c.events event_size
  count_fits = go (judged k) where
    go : Judged c l → l.answer.count ≤ places c.events event_size
    go (refused n p s h e f z w) = rw z (omega arith)
    go (passed_on q r) = rw r.count (fits c)

  -- "the events before it stand and the rest of the event buffer is untouched"
  pub rest_untouched : (i : ℕ) → event_size * l.answer.count ≤ i → get_or l.events i 0 ≡ get_or c.events i 0
  rest_untouched i b = go (judged k) where
    go : Judged c l → get_or l.events i 0 ≡ get_or c.events i 0
    go (refused n p s h e f z w) = rw w
    go (passed_on q r) = rw r.events (written_other (by_rules c).events c.events 0 i (inr (omega (arith, r.count))))

  pub events_long : length l.events ≡ length c.events
  events_long = go (judged k) where
    go : Judged c l → length l.events ≡ length c.events
    go (refused n p s h e f z w) = rw w
    go (passed_on q r) = rw r.events (length-written c.events 0 (by_rules c).events)

  -- "Work memory ends all zero"
  pub states_zero : Zero (length c.states) l.states
  unfolding after runs
  states_zero = rw (leaves k) (cleared_zero c.states)

  pub anchors_zero : Zero (length c.anchors) l.anchors
  unfolding after runs
  anchors_zero = rw (leaves k) (cleared_zero c.anchors)

  pub handles_zero : Zero (length c.handles) l.handles
  unfolding after runs
  handles_zero = rw (leaves k) (cleared_zero c.handles)
