-- What a run needs: its acts that take a place, in their order, in the run where no place is ever missing; and what it comes
-- to where one is.
use Rattle.std.specs.Prelude.{◌≡◌, ℕ, zero, suc, ◌*◌, ◌≤◌, max, Bool, List, [], ◌∷◌, ◌++◌, ltb}
use Rattle.records.specs.declared.events.Event.{Event}
use Rattle.rules.specs.Rules.{choose◌then◌else◌, Given, Place, OpenPlace, AnchorPlace, HandlePlace, Decision, Next, Refused, Unreachable, Wants, state_machine, Hit, Miss, Got}
use Rattle.rules.specs.Run.{Rooms, room, short, Model, small, fresh, Step, Go, Halt, Stuck, settle, Outcome, ended, run}

-- from here on n places of a kind are in use, or n events are stored
pub data Need : Type 0 where
  Work : Place → ℕ → Need
  Store : ℕ → Need

-- more than is lent, with n places for events
unfoldable pub lacks : Rooms → ℕ → Need → Bool
lacks r n (Work p k) = ltb (room r p) k
lacks r n (Store k) = ltb n k

unfoldable pub lacked : Need → ℕ
lacked (Work p k) = short p
lacked (Store k) = 22

-- a decision with every want met, and what it wants before what comes after it
unfoldable pub granted : Decision → Decision
granted (Next c) = Next c
granted (Refused number place) = Refused number place
granted Unreachable = Unreachable
granted (Wants p n d) = granted d

unfoldable pub wanted : Decision → List Need → List Need
wanted (Next c) after = after
wanted (Refused number place) after = after
wanted Unreachable after = after
wanted (Wants p n d) after = Work p n ∷ wanted d after

unfoldable pub decided : Given → Model → Decision
decided g m = state_machine g (small m) m.state

unfoldable pub free_step : Given → Model → Step
free_step g m = settle g m (granted (decided g m))

unfoldable pub later : Step → (Model → List Need) → List Need
later (Go e m) k = k m
later (Halt number place) k = []
later Stuck k = []

-- the needs of the run from m on, after e events, up to n more
unfoldable pub needs : Given → ℕ → ℕ → Model → List Need
needs g zero e m = wanted (decided g m) (later (free_step g m) λ m'. Store (suc e) ∷ [])
needs g (suc n) e m =
    wanted (decided g m) (later (free_step g m) λ m'. Store (suc e) ∷ (choose ended m'.state then [] else needs g n (suc e) m'))

unfoldable pub all_needs : Given → List Need
all_needs g = needs g (3 * g.count) 0 fresh

-- the most that is in use of each
pub record Peaks : Type 0 where
  pub events : ℕ
  pub opens : ℕ
  pub anchors : ℕ
  pub handles : ℕ

unfoldable pub raise : Need → Peaks → Peaks
raise (Store k) p = record { events = max k p.events; opens = p.opens; anchors = p.anchors; handles = p.handles }
raise (Work OpenPlace k) p = record { events = p.events; opens = max k p.opens; anchors = p.anchors; handles = p.handles }
raise (Work AnchorPlace k) p = record { events = p.events; opens = p.opens; anchors = max k p.anchors; handles = p.handles }
raise (Work HandlePlace k) p = record { events = p.events; opens = p.opens; anchors = p.anchors; handles = max k p.handles }

unfoldable pub peaks : List Need → Peaks
peaks [] = record { events = 0; opens = 0; anchors = 0; handles = 0 }
peaks (x ∷ xs) = raise x (peaks xs)

pub record Fits (r : Rooms) (n : ℕ) (p : Peaks) : Type 0 where
  pub events : p.events ≤ n
  pub opens : p.opens ≤ r.opens
  pub anchors : p.anchors ≤ r.anchors
  pub handles : p.handles ≤ r.handles

-- room enough for any list of that length
unfoldable pub enough : Given → Rooms
enough g = record { opens = g.count; anchors = g.count; handles = g.count }

unfoldable pub ample : Given → Outcome
ample g = run (enough g) g (3 * g.count) fresh

-- the events of a run are a beginning of another's
pub record Begins (es all : List Event) : Type 0 where
  pub rest : List Event
  pub joined : es ++ rest ≡ all

-- a run beside the one that lacks nothing, by the first need that is not met
pub data Cut (o whole : Outcome) : Hit Need → Type 0 where
  same : o ≡ whole → Cut o whole Miss
  cut : (x : Need) → o.number ≡ lacked x → o.place ≡ 0 → Begins o.events whole.events → Cut o whole (Got x)

-- 22 to 25
abbrev pub Short : ℕ → Type 0
Short n = (22 ≤ n) × (n ≤ 25)

-- no less of any kind of place
pub record Wider (r r' : Rooms) : Type 0 where
  pub opens : r.opens ≤ r'.opens
  pub anchors : r.anchors ≤ r'.anchors
  pub handles : r.handles ≤ r'.handles
