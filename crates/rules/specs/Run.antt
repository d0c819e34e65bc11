-- A step with the places that are lent, what it leaves, and the run.
use Rattle.std.specs.Prelude.{ℕ, zero, suc, ◌-◌, Bool, List, [], ◌∷◌, leb, eqb, length}
use Rattle.records.specs.declared.events.Event.{Event}
use Rattle.tables.specs.Tables.{entered}
use Rattle.tables.specs.Anchors as anchors
use Rattle.tables.specs.declared.anchors.Anchor.{Anchor}
use Rattle.tables.specs.declared.handles.Handle.{Handle}
use Rattle.rules.specs.States.{END, numbers}
use Rattle.rules.specs.Rules.{choose◌then◌else◌, Given, Small, Move, Stay, Push, Pop, Names, NamesKept, NamePut, NamesForgotten, Tags, TagsKept, TagsDeclared, TagsForgotten, Change, Place, OpenPlace, AnchorPlace, HandlePlace, Decision, Next, Refused, Unreachable, Wants, declare, state_machine}
use Rattle.rules.specs.declared.State.{State}
use Rattle.rules.specs.declared.State.TheVariants as s

-- the places lent in the work memory
pub record Rooms : Type 0 where
  pub opens : ℕ
  pub anchors : ℕ
  pub handles : ℕ

unfoldable pub room : Rooms → Place → ℕ
room r OpenPlace = r.opens
room r AnchorPlace = r.anchors
room r HandlePlace = r.handles

-- the number of the kind of place that is short
unfoldable pub short : Place → ℕ
short OpenPlace = 23
short AnchorPlace = 24
short HandlePlace = 25

-- a decision with what is lent: the first want that is not met refuses
unfoldable pub limit : Rooms → Decision → Decision
limit r (Next c) = Next c
limit r (Refused number place) = Refused number place
limit r Unreachable = Unreachable
limit r (Wants p n d) = choose leb n (room r p) then limit r d else Refused (short p) 0

-- the machine whole: the open states with the last on top, the tables with the oldest first
pub record Model : Type 0 where
  pub state : State
  pub at : ℕ
  pub stack : List State
  pub anchors : List Anchor
  pub handles : List Handle
  pub next : ℕ

unfoldable pub small : Model → Small
small m = record {
  state = m.state;
  at = m.at;
  depth = length m.stack;
  anchors = m.anchors;
  handles = m.handles;
  next = m.next;
}

-- "A fresh parser starts at one fixed state"
unfoldable pub fresh : Model
fresh = record { state = s.StreamStart; at = 0; stack = []; anchors = []; handles = []; next = 1 }

unfoldable pub named : Given → Model → Names → List Anchor
named g m NamesKept = m.anchors
named g m (NamePut r) = entered (anchors.named g.text r) (record { name = r; id = m.next }) m.anchors
named g m NamesForgotten = []

-- an id is used up by each anchor, and never given back
unfoldable pub numbered : ℕ → Names → ℕ
numbered n NamesKept = n
numbered n (NamePut r) = suc n
numbered n NamesForgotten = n

unfoldable pub handled : Given → Model → Tags → List Handle
handled g m TagsKept = m.handles
handled g m (TagsDeclared i j) = declare g (j - i) i m.handles
handled g m TagsForgotten = []

-- what a step leaves: an event and the next machine, a refusal with its place, or a pop from no open state
pub data Step : Type 0 where
  Go : Event → Model → Step
  Halt : ℕ → ℕ → Step
  Stuck : Step

unfoldable pub after : Given → Model → Change → State → List State → Step
after g m c state stack = Go c.event (record {
  state = state;
  at = c.at;
  stack = stack;
  anchors = named g m c.names;
  handles = handled g m c.tags;
  next = numbered m.next c.names;
})

unfoldable pub moved : Given → Model → Change → Move → List State → Step
moved g m c (Stay state) stack = after g m c state stack
moved g m c (Push p state) stack = after g m c state (p ∷ stack)
moved g m c Pop [] = Stuck
moved g m c Pop (state ∷ stack) = after g m c state stack

-- a want is never left: `limit` has judged them all
unfoldable pub settle : Given → Model → Decision → Step
settle g m (Next c) = moved g m c c.move m.stack
settle g m (Refused number place) = Halt number place
settle g m Unreachable = Stuck
settle g m (Wants p n d) = Stuck

unfoldable pub step : Rooms → Given → Model → Step
step r g m = settle g m (limit r (state_machine g (small m) m.state))

-- what a run leaves: the answer's number and place, the events, and the machine where it stopped
pub record Outcome : Type 0 where
  pub number : ℕ
  pub place : ℕ
  pub events : List Event
  pub last : Model

unfoldable pub stop : Model → ℕ → ℕ → Outcome
stop m number place = record { number = number; place = place; events = []; last = m }

unfoldable pub store : Event → Outcome → Outcome
store e o = record { number = o.number; place = o.place; events = e ∷ o.events; last = o.last }

-- StreamEnd was given
unfoldable pub ended : State → Bool
ended state = eqb (numbers state).rank END

-- the number of a step that pops from no open state; no run from the fresh machine meets it
abbrev pub STUCK : ℕ
STUCK = 29

unfoldable pub onward : Model → Step → (Event → Model → Outcome) → Outcome
onward m (Go e m') k = k e m'
onward m (Halt number place) k = stop m number place
onward m Stuck k = stop m STUCK 0

-- the run from m on, with room for n events: an event is stored last in its step
unfoldable pub run : Rooms → Given → ℕ → Model → Outcome
run r g zero m = onward m (step r g m) λ e m'. stop m 22 0
run r g (suc n) m = onward m (step r g m) λ e m'. store e (choose ended m'.state then stop m' 0 0 else run r g n m')
