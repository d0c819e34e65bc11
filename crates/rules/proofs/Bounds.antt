-- Demand 3: the room that a list needs is known in advance. Assumes nothing.
use mathlib.Core.Path.{◌≡◌, refl, ap, ◌∙◌}
use mathlib.Core.Bool.{Bool, true, false}
use Prim.Native.Nat.{ℕ, zero, suc, ◌+◌, ◌-◌, ◌*◌, ◌≤◌}
use native.Mathlib.Omega.{arith}
use borrow.Author.Tests.{eqb-true}
use lib.ListN.{length}
use Rattle.rules.specs.States.{numbers}
use Rattle.rules.specs.Rules as w
use Rattle.rules.specs.Rules.{Given, Place}
use Rattle.rules.specs.Run.{Rooms, room, Model, fresh, ended, run}
use Rattle.rules.specs.Lists.{Listed, Reached}
use Rattle.rules.specs.declared.State.{State}
use Rattle.rules.specs.declared.State.TheVariants as s
use Rattle.rules.proofs.StateLaws.{back-numbers, back-past}
use Rattle.rules.proofs.Weights.{weigh, value_at, when, closed_at}
use Rattle.rules.proofs.Runs.{Stops, accepts, halts, sticks, fills, ran}
use Rattle.rules.proofs.Sound.{Sound, kept_step, reached_sound}
use Rattle.rules.proofs.NeverStuck.{never_stuck, Answer, plain, no_event, no_place, answered, most, kept_positive}

enough : {r : Rooms} {g : Given} {lim n : ℕ} → Answer r g lim n → 3 * g.count ≤ lim → ((p : Place) → g.count ≤ room r p)
    → n ≤ 14
enough (plain h) i k = h
enough (no_event e h) i k = absurd (omega arith)
enough (no_place p e h) i k = absurd (omega (arith, k p))

-- room for three events and one place of each kind for each token is never short
pub places_suffice : (r : Rooms) {g : Given} → Listed g → (n : ℕ) → 3 * g.count ≤ n → ((p : Place) → g.count ≤ room r p)
    → (run r g n fresh).number ≤ 14
places_suffice r l n h k = enough (answered r l n) h k

pub is_end : (state : State) → ended state ≡ true → s.End ≡ state
unfolding ended
is_end state e = back-past (numbers state) (omega (arith, eqb-true (numbers state).rank 21 e)) ∙ back-numbers state

-- where the last token taken is a StreamEnd, one was taken
closed_token : {g : Given} (l : Listed g) (at : ℕ) → 1 ≤ closed_at l at → (1 ≤ at) × ((l.token (at - 1)).kind ≡ w.STREAM_END)
unfolding w.is
closed_token l zero h = absurd (omega arith)
closed_token l (suc i) h =
    let e : suc i - 1 ≡ i = omega arith in
    (omega arith, rw e (eqb-true (l.token i).kind w.STREAM_END (so (w.is (l.token i) w.STREAM_END) h)))
  where
    so : (t : Bool) → 1 ≤ when t 1 → t ≡ true
    so true h = refl
    so false h = absurd (omega arith)

module _ (r : Rooms) {g : Given} (l : Listed g) (n : ℕ) where
  pub last_sound : Sound l (0 + length (run r g n fresh).events) (run r g n fresh).last
  last_sound = reached_sound l (ran r g n).reached

  pub at_most_3T : length (run r g n fresh).events ≤ 3 * g.count
  at_most_3T = omega (arith, most (run r g n fresh).last last_sound)

  stops_ended : {k number place : ℕ} {m : Model} → Reached r g k m → Stops r g n k m number place → number ≡ 0
      → ended m.state ≡ true
  stops_ended h (accepts e) q = e
  stops_ended {m = m} h (halts e p) q = absurd (omega (arith, kept_positive (kept_step l m e (reached_sound l h)) p))
  stops_ended h (sticks e p) q = absurd (never_stuck l h e p)
  stops_ended h (fills ev m' e p i) q = absurd (omega arith)

  pub accepted_ended : (run r g n fresh).number ≡ 0 → s.End ≡ (run r g n fresh).last.state
  accepted_ended q = is_end _ (stops_ended (ran r g n).reached (ran r g n).stops q)

  -- the last token that an accepted run took is the StreamEnd
  pub accepted_last : (run r g n fresh).number ≡ 0
      → (1 ≤ (run r g n fresh).last.at) × ((l.token ((run r g n fresh).last.at - 1)).kind ≡ w.STREAM_END)
  accepted_last q =
      closed_token l (run r g n fresh).last.at (omega (arith, last_sound.closed, ap (λ (x : State). (weigh x).ends) (accepted_ended q)))

  -- an accepted run that took A tokens has at most 3A - 4 events
  pub accepted_3A_4 : (run r g n fresh).number ≡ 0 → length (run r g n fresh).events + 4 ≤ 3 * (run r g n fresh).last.at
  accepted_3A_4 q =
      let o = run r g n fresh in
      omega (arith, last_sound.paid, ap (λ (x : State). (weigh x).pays (value_at l o.last.at)) (accepted_ended q))
