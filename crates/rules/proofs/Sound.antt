-- What holds at every machine that a run of a list comes to. Assumes nothing.
use mathlib.Core.Path.{◌≡◌, refl, subst}
use mathlib.Core.Bool.{Bool, true, false}
use mathlib.Core.List.{List, [], ◌∷◌}
use Prim.Native.Nat.{ℕ, suc, ◌+◌, ◌*◌, ◌≤◌, ◌<◌}
use native.Mathlib.Omega.{arith}
use borrow.Author.Tests.{leb-false}
use lib.Dec.{T, leb}
use lib.ListN.{length}
use Rattle.records.specs.declared.events.Event.{Event}
use Rattle.rules.specs.Rules.{choose◌then◌else◌, Given, Change, Move, Stay, Push, Pop, Place, Decision, Refused}
use Rattle.rules.specs.Run.{Rooms, room, short, limit, Model, small, fresh, Step, Go, Halt, named, handled, after, moved, settle, step, ended}
use Rattle.rules.specs.Lists.{Listed, Reached, start, on}
use Rattle.rules.specs.declared.State.{State}
use Rattle.rules.proofs.WordLaws.{own, refused, wants, next}
use Rattle.rules.proofs.Weights.{weigh, value_at, closed_at, put, told, Facts, lawful}
use Rattle.rules.proofs.Sizes.{named-length, handled-length}
use Rattle.rules.proofs.Steps.{Fair, fair_machine}

-- what the open states still owe
abbrev pub owed : List State → ℕ
owed [] = 0
owed (p ∷ stack) = (weigh p).owes + owed stack

-- a state inside a document stands over another one, and none of those waits or is End
abbrev pub Stands : State → List State → Type 0
Stands state [] = (weigh state).level ≡ 0
Stands state (p ∷ stack) = ((weigh state).level ≡ 1) × ((weigh p).waits + (weigh p).ends ≡ 0) × Stands p stack

-- a machine after e events, in this state at place a over these open states, with x anchors and y handles
pub record Sound-at {g : Given} (l : Listed g) (e : ℕ) (state : State) (a : ℕ) (stack : List State) (x y : ℕ) : Type 0 where
  pub paid : e + (weigh state).pays (value_at l a) + owed stack ≤ 3 * a + 1
  pub deep : (weigh state).rises + length stack ≤ a
  pub stands : Stands state stack
  pub within : (weigh state).waits + a ≤ g.count
  pub closed : (weigh state).ends ≤ closed_at l a
  pub anchors : x ≤ a
  pub handles : y ≤ a

abbrev pub Sound : {g : Given} → Listed g → ℕ → Model → Type 0
Sound l e m = Sound-at l e m.state m.at m.stack (length m.anchors) (length m.handles)

-- a step that leaves such a machine, refuses by a number of the rules or lacks a place; Stuck has no case
pub data Kept (r : Rooms) {g : Given} (l : Listed g) (e : ℕ) : Step → Type 0 where
  gone : (ev : Event) (m : Model) → Sound l (suc e) m → Kept r l e (Go ev m)
  halted : (n p : ℕ) → T (own n) → Kept r l e (Halt n p)
  lacks : (p : Place) → room r p < g.count → Kept r l e (Halt (short p) 0)

stands_swap : (state p : State) (stack : List State) → (weigh p).level ≡ (weigh state).level → Stands state stack → Stands p stack
stands_swap state p [] e h = omega arith
stands_swap state p (q ∷ stack) e h = (omega arith, h.1, h.2)

-- the facts of a change from m, and a machine that is m but for the open states
abbrev Facts-of : {g : Given} → Listed g → Model → Change → Move → Type 0
Facts-of l m c mv = Facts l ((weigh m.state).pays (value_at l m.at)) (weigh m.state).rises (weigh m.state).level m.at c.at mv (put c.names) (told c.tags)

abbrev Sound-over : {g : Given} → Listed g → ℕ → Model → List State → Type 0
Sound-over l e m stack = Sound-at l e m.state m.at stack (length m.anchors) (length m.handles)

module _ {r : Rooms} {g : Given} (l : Listed g) {e : ℕ} (m : Model) where
  -- whatever the move, the tables hold no more than the tokens taken
  kept_after : (c : Change) {mv : Move} {below : List State} (state : State) (stack : List State) → Facts-of l m c mv
      → Sound-over l e m below
      → ((x y : ℕ) → x ≤ c.at → y ≤ c.at → Sound-at l (suc e) state c.at stack x y) → Kept r l e (after g m c state stack)
  unfolding after
  kept_after c state stack f h k =
      let x : length (named g m c.names) ≤ c.at = omega (arith, named-length g m c.names) in
      let y : length (handled g m c.tags) ≤ c.at = omega (arith, handled-length g m c.tags) in
      gone _ _ (k _ _ x y)

  kept_moved : (c : Change) (mv : Move) (stack : List State) → Facts-of l m c mv → Sound-over l e m stack
      → Kept r l e (moved g m c mv stack)
  unfolding moved
  kept_moved c (Stay state) stack f h = kept_after c state stack f h λ x y i j. record {
    paid = omega arith;
    deep = omega arith;
    stands = stands_swap m.state state stack f.leveled h.stands;
    within = f.within;
    closed = f.closed;
    anchors = i;
    handles = j;
  }
  kept_moved c (Push p state) stack f h = kept_after c state (p ∷ stack) f h λ x y i j. record {
    paid = omega arith;
    deep = omega arith;
    stands = (f.leveled.1, f.leveled.2, stands_swap m.state p stack f.leveled.0 h.stands);
    within = f.within;
    closed = f.closed;
    anchors = i;
    handles = j;
  }
  kept_moved c Pop [] f h = absurd (omega arith)
  kept_moved c Pop (p ∷ stack) f h = kept_after c p stack f h λ x y i j. record {
    paid = omega (arith, lawful p (value_at l c.at));
    deep = omega (arith, lawful p (value_at l c.at));
    stands = h.stands.2;
    within = omega arith;
    closed = omega arith;
    anchors = i;
    handles = j;
  }

  kept_limit : {d : Decision}
      → Fair l (small m) ((weigh m.state).pays (value_at l m.at)) (weigh m.state).rises (weigh m.state).level d
      → Sound l e m → Kept r l e (settle g m (limit r d))
  unfolding settle limit choose◌then◌else◌ small
  kept_limit (refused n p k) h = halted n p k
  kept_limit (wants p n {d = d} k f) h = go (leb n (room r p)) refl (kept_limit f h) where
    go : (t : Bool) → leb n (room r p) ≡ t → Kept r l e (settle g m (limit r d))
        → Kept r l e (settle g m (choose t then limit r d else Refused (short p) 0))
    go true q i = i
    go false q i = lacks p (omega (arith, leb-false n (room r p) q))
  kept_limit (next c f) h = kept_moved c c.move m.stack f h

  pub kept_step : ended m.state ≡ false → Sound l e m → Kept r l e (step r g m)
  unfolding step small
  kept_step n h = kept_limit (fair_machine l (small m) m.state (omega arith) n (omega arith)) h

pub fresh-sound : {g : Given} (l : Listed g) → Sound l 0 fresh
unfolding fresh
fresh-sound l = omega arith

pub reached_sound : {r : Rooms} {g : Given} (l : Listed g) {n : ℕ} {m : Model} → Reached r g n m → Sound l n m
reached_sound l start = fresh-sound l
reached_sound {r} l (on {n = n} {m = m} {m' = m'} e h a q) = go (kept_step l m a (reached_sound l h)) q where
  go : {x : Step} → Kept r l n x → x ≡ Go e m' → Sound l (suc n) m'
  go (gone ev m'' k) p = let i : m'' ≡ m' = cc in subst (λ (y : Model). Sound l (suc n) y) i k
  go (halted j p k) p' = let z : ◌≡◌ {A = ℕ} 0 1 = cc in absurd (omega arith)
  go (lacks p k) p' = let z : ◌≡◌ {A = ℕ} 0 1 = cc in absurd (omega arith)
