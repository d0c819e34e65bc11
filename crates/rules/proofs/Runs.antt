-- A run is its steps one after another, up to the first that refuses or has no room for its event. Assumes nothing.
use mathlib.Core.Path.{◌≡◌, refl, subst}
use mathlib.Core.Bool.{Bool, true, false}
use Prim.Native.Nat.{ℕ, zero, suc, ◌+◌, ◌≤◌}
use native.Mathlib.Omega.{arith}
use lib.ListN.{length}
use Rattle.records.specs.declared.events.Event.{Event}
use Rattle.rules.specs.States.{numbers, ranked}
use Rattle.rules.specs.Rules.{choose◌then◌else◌, Given}
use Rattle.rules.specs.Run.{Rooms, Model, fresh, Step, Go, Halt, Stuck, step, Outcome, stop, store, ended, STUCK, onward, run}
use Rattle.rules.specs.Lists.{Reached, start, on}

-- how a run stops at m after k events, with room for lim
pub data Stops (r : Rooms) (g : Given) (lim k : ℕ) (m : Model) : ℕ → ℕ → Type 0 where
  accepts : ended m.state ≡ true → Stops r g lim k m 0 0
  halts : {number place : ℕ} → ended m.state ≡ false → step r g m ≡ Halt number place → Stops r g lim k m number place
  sticks : ended m.state ≡ false → step r g m ≡ Stuck → Stops r g lim k m STUCK 0
  fills : (e : Event) (m' : Model) → ended m.state ≡ false → step r g m ≡ Go e m' → k ≡ lim → Stops r g lim k m 22 0

-- what a run comes to that starts after k events
pub record Ran (r : Rooms) (g : Given) (lim k : ℕ) (o : Outcome) : Type 0 where
  pub room : k + length o.events ≤ lim
  pub reached : Reached r g (k + length o.events) o.last
  pub stops : Stops r g lim (k + length o.events) o.last o.number o.place

module _ (r : Rooms) (g : Given) (lim : ℕ) where
  ran_stop : {k : ℕ} (m : Model) (number place : ℕ) → k ≤ lim → Reached r g k m → Stops r g lim k m number place
      → Ran r g lim k (stop m number place)
  unfolding stop
  ran_stop {k} m number place b h s =
      let q : k ≡ k + 0 = omega arith in
      record {
        room = omega arith;
        reached = subst (λ (i : ℕ). Reached r g i m) q h;
        stops = subst (λ (i : ℕ). Stops r g lim i m number place) q s;
      }

  ran_store : {k : ℕ} (e : Event) (o : Outcome) → Ran r g lim (suc k) o → Ran r g lim k (store e o)
  unfolding store
  ran_store {k} e o h =
      let q : suc k + length o.events ≡ k + suc (length o.events) = omega arith in
      record {
        room = omega (arith, h.room);
        reached = subst (λ (i : ℕ). Reached r g i o.last) q h.reached;
        stops = subst (λ (i : ℕ). Stops r g lim i o.last o.number o.place) q h.stops;
      }

  -- a step, and then what its event is stored to or not
  ran_onward : {k : ℕ} (m : Model) (s : Step) (f : Event → Model → Outcome) → step r g m ≡ s → k ≤ lim → Reached r g k m
      → ended m.state ≡ false
      → ((e : Event) (m' : Model) → step r g m ≡ Go e m' → Ran r g lim k (f e m')) → Ran r g lim k (onward m s f)
  unfolding onward
  ran_onward m (Go e m') f q b h n i = i e m' q
  ran_onward m (Halt number place) f q b h n i = ran_stop m number place b h (halts n q)
  ran_onward m Stuck f q b h n i = ran_stop m STUCK 0 b h (sticks n q)

  pub run_ran : (n k : ℕ) (m : Model) → n + k ≡ lim → Reached r g k m → ended m.state ≡ false → Ran r g lim k (run r g n m)
  unfolding run choose◌then◌else◌
  run_ran zero k m q h n = ran_onward m (step r g m) _ refl (omega arith) h n λ e m' p. ran_stop m 22 0 (omega arith) h (fills e m' n p (omega arith))
  run_ran (suc i) k m q h n = ran_onward m (step r g m) _ refl (omega arith) h n λ e m' p. ran_store e _
      (go m' (on e h n p) (ended m'.state) refl (run_ran i (suc k) m' (omega arith)))
    where
      go : (m' : Model) → Reached r g (suc k) m' → (t : Bool) → ended m'.state ≡ t
          → (Reached r g (suc k) m' → ended m'.state ≡ false → Ran r g lim (suc k) (run r g i m'))
          → Ran r g lim (suc k) (choose t then stop m' 0 0 else run r g i m')
      go m' h' true e f = ran_stop m' 0 0 (omega arith) h' (accepts e)
      go m' h' false e f = f h' e

  pub ran : Ran r g lim 0 (run r g lim fresh)
  unfolding fresh ended numbers ranked
  ran = run_ran lim 0 fresh (omega arith) start refl
