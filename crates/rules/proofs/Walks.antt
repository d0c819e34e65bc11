-- Every accepted run passes the walk of `load`, or nests deeper than 1,000. Assumes nothing.
use mathlib.Core.Path.{◌≡◌, refl}
use mathlib.Core.Bool.{Bool, true, false, cond}
use mathlib.Core.List.{List, [], ◌∷◌, ◌++◌}
use mathlib.Core.Logic.{◌⊎◌, inl, inr, ⊎_elim}
use Prim.Native.Nat.{ℕ, zero, suc}
use native.Mathlib.Omega.{arith}
use lib.Dec.{leb, ltb, eqb}
use lib.ListN.{length}
use Rattle.records.specs.declared.events.Event.{Event}
use Rattle.rules.specs.States.{numbers, ranked}
use Rattle.rules.specs.Rules.{choose◌then◌else◌, Given, Change, Move, Stay, Push, Pop, Decision, Refused}
use Rattle.rules.specs.Run.{Rooms, room, short, limit, Model, small, fresh, Step, Go, Halt, Stuck, after, moved, settle, step, Outcome, stop, store, ended, onward, run}
use Rattle.rules.specs.Lists as lists
use Rattle.rules.specs.Lists.{Listed, Reached}
use Rattle.rules.specs.Walk as k
use Rattle.rules.specs.Walk.{Open, Place, May, Path, kinds}
use Rattle.rules.specs.declared.State.{State}
use Rattle.rules.proofs.WordLaws.{refused, wants, next}
use Rattle.rules.proofs.Weights.{weigh}
use Rattle.rules.proofs.Sound.{Stands, reached_sound}
use Rattle.rules.proofs.Bounds.{accepted_ended}
use Rattle.rules.proofs.WalkSteps.{standing, place, adds, Returns, returns, Leads, Walks, walks_machine}

-- what the open states stand for
abbrev under : List State → List Open
under [] = []
under (p ∷ stack) = adds (standing p) ++ under stack

abbrev Return : List State → Type 0
Return [] = Unit {0}
Return (p ∷ stack) = Returns (standing p) × Return stack

abbrev stand : Model → Place
stand m = place (standing m.state) (under m.stack)

nothing_open : (state : State) (stack : List State) → Stands state stack → (weigh state).level ≡ 0 → under stack ≡ []
nothing_open state [] h z = refl
nothing_open state (p ∷ stack) h z = absurd (omega arith)

data Onto (p : Place) : Step → Type 0 where
  goes : (e : Event) (m : Model) → May p e.kind (stand m) → Return m.stack → Onto p (Go e m)
  halts : (n q : ℕ) → Onto p (Halt n q)
  sticks : Onto p Stuck

module _ (r : Rooms) {g : Given} (l : Listed g) where
  module _ (m : Model) where
    onto_moved : (c : Change) (mv : Move) (stack : List State) → Leads m.state c.event.kind mv → Stands m.state stack
        → Return stack
        → Onto (place (standing m.state) (under stack)) (moved g m c mv stack)
    unfolding moved after
    onto_moved c (Stay state) stack h b i = goes _ _ (h (under stack) (nothing_open m.state stack b)) i
    onto_moved c (Push p state) stack h b i =
        let x = h (under stack) (nothing_open m.state stack b) in
        let y : Return (p ∷ stack) = (x.1, i) in
        goes _ _ x.0 y
    onto_moved c Pop [] h b i = sticks
    onto_moved c Pop (p ∷ stack) h b i =
        let x = h (under (p ∷ stack)) (nothing_open m.state (p ∷ stack) b) in
        goes _ _ (rw (← returns (standing p) i.0 (under stack)) at x) i.1

    onto_limit : {d : Decision} → Walks m.state d → Stands m.state m.stack → Return m.stack
        → Onto (stand m) (settle g m (limit r d))
    unfolding settle limit choose◌then◌else◌
    onto_limit (refused n p x) b i = halts n p
    onto_limit (wants p n {d = d} x h) b i = go (leb n (room r p)) (onto_limit h b i) where
      go : (t : Bool) → Onto (stand m) (settle g m (limit r d))
          → Onto (stand m) (settle g m (choose t then limit r d else Refused (short p) 0))
      go true o = o
      go false o = halts _ _
    onto_limit (next c h) b i = onto_moved c c.move m.stack h b i

  -- the events of a run lead from where its machine stands to where the last one does
  abbrev Reaches : Model → Outcome → Type 0
  Reaches m o = Path (stand m) (kinds o.events) (stand o.last)

  reaches_stop : (m : Model) (number place : ℕ) → Reaches m (stop m number place)
  unfolding stop kinds
  reaches_stop m number place = k.here

  reaches_onward : (m : Model) {x : Step} (f : Event → Model → Outcome) → Onto (stand m) x → step r g m ≡ x
      → ((e : Event) (m' : Model) → step r g m ≡ Go e m' → May (stand m) e.kind (stand m') → Return m'.stack → Reaches m (f e m'))
      → Reaches m (onward m x f)
  unfolding onward
  reaches_onward m f (goes e m' h i) q j = j e m' q h i
  reaches_onward m f (halts n p) q j = reaches_stop m n p
  reaches_onward m f sticks q j = reaches_stop m _ 0

  reaches_store : (m m' : Model) (e : Event) (o : Outcome) → May (stand m) e.kind (stand m') → Reaches m' o
      → Reaches m (store e o)
  unfolding store kinds
  reaches_store m m' e o h j = k.on h j

  reaches_run : (n i : ℕ) (m : Model) → Reached r g i m → Return m.stack → ended m.state ≡ false → Reaches m (run r g n m)
  unfolding run step choose◌then◌else◌
  reaches_run zero i m h b a =
      reaches_onward m _ (onto_limit m (walks_machine l (small m) m.state a) (reached_sound l h).stands b) refl λ e m' q x y. reaches_stop m 22 0
  reaches_run (suc n) i m h b a =
      reaches_onward m _ (onto_limit m (walks_machine l (small m) m.state a) (reached_sound l h).stands b) refl λ e m' q x y.
      reaches_store m m' e _ x (go m' (ended m'.state) refl (reaches_run n (suc i) m' (lists.on e h a q) y))
    where
      go : (m' : Model) (t : Bool) → ended m'.state ≡ t → (ended m'.state ≡ false → Reaches m' (run r g n m'))
          → Reaches m' (choose t then stop m' 0 0 else run r g n m')
      go m' true q f = reaches_stop m' 0 0
      go m' false q f = f q

  -- an accepted run's events are StreamStart, documents of one node each, StreamEnd, and nothing more
  pub accepted_path : (n : ℕ) → (run r g n fresh).number ≡ 0 → Path k.outside (kinds (run r g n fresh).events) k.over
  unfolding fresh ended numbers ranked
  accepted_path n q =
      let e : stand (run r g n fresh).last ≡ k.over = rw (← accepted_ended r l n q) in
      rw e at (reaches_run n 0 fresh lists.start tt refl)

-- a kind that ends nothing begins a node, whatever is open
pub begins : (o : List Open) (kind : ℕ) → eqb kind 8 ≡ false → eqb kind 10 ≡ false → k.within o kind ≡ k.begin o kind
unfolding k.within
begins [] kind e f = refl
begins (k.sequence ∷ o) kind e f = rw e
begins (k.key ∷ o) kind e f = rw f
begins (k.value ∷ o) kind e f = refl

enters : (t : Bool) (p : Place) → (cond t (k.to p) (k.no 31) ≡ k.to p) ⊎ (cond t (k.to p) (k.no 31) ≡ k.no 31)
enters true p = inl refl
enters false p = inr refl

-- an event that may come leads on, or opens the 1,001st collection
pub may_lead : {p q : Place} {kind : ℕ} → May p kind q → (k.lead p kind ≡ k.to q) ⊎ (k.lead p kind ≡ k.no 31)
unfolding k.lead k.within k.begin k.enter
may_lead k.stream_start = inl refl
may_lead k.stream_end = inl refl
may_lead k.document_start = inl refl
may_lead k.document_end = inl refl
may_lead (k.alias {o = o}) = inl (begins o 5 refl refl)
may_lead (k.scalar {o = o}) = inl (begins o 6 refl refl)
may_lead (k.sequence_start {o = o}) = rw (begins o 7 refl refl) (enters (ltb (length o) 1000) _)
may_lead k.sequence_end = inl refl
may_lead (k.mapping_start {o = o}) = rw (begins o 9 refl refl) (enters (ltb (length o) 1000) _)
may_lead k.mapping_end = inl refl

path_passes : {p q : Place} {ks : List ℕ} → Path p ks q → q ≡ k.over → k.Passes (k.walk p ks)
unfolding k.walk k.onward k.finish
path_passes k.here e = rw e k.well
path_passes (k.on m path) e = ⊎_elim (λ q. rw q (path_passes path e)) (λ q. rw q (k.too_deep _)) (may_lead m)

pub accepted_walks : (r : Rooms) {g : Given} → Listed g → (n : ℕ) → (run r g n fresh).number ≡ 0
    → k.Passes (k.walk k.outside (kinds (run r g n fresh).events))
accepted_walks r l n q = path_passes (accepted_path r l n q) refl
