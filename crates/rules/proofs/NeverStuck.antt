-- No step of a list is stuck, at any point of a run; so what a run can answer, and that 29 is not of it. Assumes nothing.
use mathlib.Core.Path.{◌≡◌, refl}
use mathlib.Core.Bool.{Bool, true, false, ◌&&◌}
use Prim.Native.Nat.{ℕ, ◌*◌, ◌≤◌, ◌<◌}
use native.Mathlib.Omega.{arith}
use lib.Dec.{T, leb, leb→le}
use Rattle.rules.specs.Rules as w
use Rattle.rules.specs.Rules.{Given, Place}
use Rattle.rules.specs.Run.{Rooms, room, short, Model, fresh, Step, Halt, Stuck, step, STUCK, ended, run}
use Rattle.rules.specs.Lists.{Listed, Reached, on}
use Rattle.rules.proofs.WordLaws.{own}
use Rattle.rules.proofs.Weights.{value_at, lawful}
use Rattle.rules.proofs.Runs.{Stops, accepts, halts, sticks, fills, ran}
use Rattle.rules.proofs.Sound.{Sound, Kept, gone, halted, lacks, kept_step, reached_sound}

kept_stuck : {r : Rooms} {g : Given} {l : Listed g} {n : ℕ} {x : Step} → Kept r l n x → x ≡ Stuck → ⊥
kept_stuck (gone e m h) q = let z : ◌≡◌ {A = ℕ} 0 1 = cc in absurd (omega arith)
kept_stuck (halted n p h) q = let z : ◌≡◌ {A = ℕ} 0 1 = cc in absurd (omega arith)
kept_stuck (lacks p h) q = let z : ◌≡◌ {A = ℕ} 0 1 = cc in absurd (omega arith)

pub never_stuck : {r : Rooms} {g : Given} {n : ℕ} {m : Model} → Listed g → Reached r g n m → ended m.state ≡ false
    → step r g m ≡ Stuck → ⊥
never_stuck {m = m} l h a = kept_stuck (kept_step l m a (reached_sound l h))

own_range : (n : ℕ) → T (own n) → (1 ≤ n) × (n ≤ 14)
own_range n h = go (leb 1 n) (leb→le 1 n) h where
  go : (t : Bool) → (T t → 1 ≤ n) → T (t && leb n 14) → (1 ≤ n) × (n ≤ 14)
  go true i h = (i tt, leb→le n 14 h)
  go false i h = absurd h

pub short_range : (p : Place) → (23 ≤ short p) × (short p ≤ 25)
unfolding short
short_range w.OpenPlace = omega arith
short_range w.AnchorPlace = omega arith
short_range w.HandlePlace = omega arith

-- the answers of a run of a list with these rooms, and lim places for events: 0 to 14, or 22 to 25 where a room is short
pub data Answer (r : Rooms) (g : Given) (lim n : ℕ) : Type 0 where
  plain : n ≤ 14 → Answer r g lim n
  no_event : n ≡ 22 → lim < 3 * g.count → Answer r g lim n
  no_place : (p : Place) → n ≡ short p → room r p < g.count → Answer r g lim n

-- a machine has given no more than three events for each token
pub most : {g : Given} {l : Listed g} {e : ℕ} (m : Model) → Sound l e m → e ≤ 3 * g.count
most {l = l} m h = omega (arith, lawful m.state (value_at l m.at))

-- a refusal's number is not 0
pub kept_positive : {r : Rooms} {g : Given} {l : Listed g} {k : ℕ} {x : Step} {number place : ℕ} → Kept r l k x
    → x ≡ Halt number place → 0 < number
kept_positive (gone e m h) q = let z : ◌≡◌ {A = ℕ} 0 1 = cc in absurd (omega arith)
kept_positive {number = number} (halted n p h) q = let i : n ≡ number = cc in omega (arith, own_range n h)
kept_positive {number = number} (lacks p h) q = let i : short p ≡ number = cc in omega (arith, short_range p)

module _ (r : Rooms) {g : Given} (l : Listed g) (lim : ℕ) where
  kept_halt : {k : ℕ} {x : Step} {number place : ℕ} → Kept r l k x → x ≡ Halt number place → Answer r g lim number
  kept_halt (gone e m h) q = let z : ◌≡◌ {A = ℕ} 0 1 = cc in absurd (omega arith)
  kept_halt {number = number} (halted n p h) q = let i : n ≡ number = cc in plain (omega (arith, own_range n h))
  kept_halt (lacks p h) q = no_place p (cc) h

  stops_answer : {k number place : ℕ} {m : Model} → Reached r g k m → Stops r g lim k m number place → Answer r g lim number
  stops_answer h (accepts e) = plain (omega arith)
  stops_answer {m = m} h (halts e q) = kept_halt (kept_step l m e (reached_sound l h)) q
  stops_answer h (sticks e q) = absurd (never_stuck l h e q)
  stops_answer h (fills ev m' e q i) = no_event refl (omega (arith, most m' (reached_sound l (on ev h e q))))

  pub answered : Answer r g lim (run r g lim fresh).number
  answered = stops_answer (ran r g lim).reached (ran r g lim).stops

never : {r : Rooms} {g : Given} {lim n : ℕ} → Answer r g lim n → n ≡ STUCK → ⊥
never (plain h) q = omega arith
never (no_event e h) q = omega arith
never (no_place p e h) q = omega (arith, short_range p)

pub run_never_stuck : (r : Rooms) {g : Given} → Listed g → (n : ℕ) → (run r g n fresh).number ≡ STUCK → ⊥
run_never_stuck r l n = never (answered r l n)
