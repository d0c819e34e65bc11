-- The answer of a step: what the rule decided, as the code hands it on.
use Rattle.std.specs.Prelude.{ℕ}
use Rattle.records.specs.declared.events.Event.{Event}
use Rattle.records.specs.declared.tokens.Read.{Read}
use Rattle.records.specs.declared.tokens.Read.TheVariants as read
use Rattle.records.specs.Says.{Says, Goes, Number}
use Rattle.tables.specs.Lookup.{find, place_for}
use Rattle.tables.specs.Anchors.{anchor_size}
use Rattle.rules.specs.Rules as rules
use Rattle.rules.specs.Rules.Words as r
use Rattle.rules.specs.Run.{limit, STUCK}
use Rattle.rules.specs.declared.State.{State}
use Rattle.parser.specs.Machine.{Lent, given, small, rooms}
use Rattle.parser.specs.declared.Machine.{Machine}
use Rattle.parser.specs.declared.Over.{Over}
use Rattle.parser.specs.declared.Over.TheVariants as v
use Rattle.parser.specs.declared.Open.{Open}
use Rattle.parser.specs.declared.Open.TheVariants as o
use Rattle.parser.specs.declared.Names.{Names}
use Rattle.parser.specs.declared.Names.TheVariants as n
use Rattle.parser.specs.declared.Handles.{Handles}
use Rattle.parser.specs.declared.Handles.TheVariants as h
use Rattle.parser.specs.declared.Step.{Step}
use Rattle.parser.specs.declared.Step.TheVariants as st

unfoldable pub refusing : ℕ → ℕ → Step
refusing number place = st.Refused (record { number = number; place = place })

unfoldable pub refused_by : Read → Step
refused_by (read.Refused e) = st.Refused e
refused_by (read.Token t) = st.Stuck

unfoldable pub goes : Machine → ℕ → State → Machine
goes m at state = record { state = state; at = at; depth = m.depth; names = m.names; handles = m.handles; next = m.next }

unfoldable pub next : Machine → Event → Open → Names → Handles → Step
next m event states names handles = st.Next (record { machine = m; event = event; states = states; names = names; handles = handles })

unfoldable pub over_of : Over → rules.Over
over_of v.Here = rules.Here
over_of (v.Above p) = rules.Above p

-- the state that the machine goes to; where an open state is popped, it is known only from the places
unfoldable pub state_after : Machine → r.Move → State
state_after m (r.Stay state) = state
state_after m (r.Push p state) = state
state_after m r.Pop = m.state

unfoldable pub open_after : r.Move → Open
open_after (r.Stay state) = o.Keep
open_after (r.Push p state) = o.Push p
open_after r.Pop = o.Pop

-- a name goes into its own place, else into the next
unfoldable pub names_after : Lent → Machine → r.Names → Names
names_after x m r.NamesKept = n.Keep
names_after x m (r.NamePut name) =
    n.Put (place_for (find x.text x.names anchor_size m.names name) m.names) (record { name = name; id = m.next })
names_after x m r.NamesForgotten = n.Forget

unfoldable pub handles_after : r.Tags → Handles
handles_after r.TagsKept = h.Keep
handles_after (r.TagsDeclared i j) = h.Declare i j
handles_after r.TagsForgotten = h.Forget

-- a step that was taken, with no change of the handles
unfoldable pub moved : Machine → ℕ → r.Move → Event → Names → Step
moved m at move event names = next (goes m at (state_after m move)) event (open_after move) names h.Keep

-- a want is never left: `limit` has judged them all
unfoldable pub answer : Lent → Machine → r.Decision → Step
answer x m (r.Next c) =
    next (goes m c.at (state_after m c.move)) c.event (open_after c.move) (names_after x m c.names) (handles_after c.tags)
answer x m (r.Refused number place) = refusing number place
answer x m r.Unreachable = st.Stuck
answer x m (r.Wants p n d) = st.Stuck

-- what a rule decides, with the places that are lent
unfoldable pub decided : Lent → Machine → (r.Given → r.Small → r.Decision) → Step
decided x m rule = answer x m (limit (rooms x.terms) (rule (given x) (small x m)))

-- document 01's number and place for each case of a step: an event, a refusal, or a pop from no open state
abbrev pub step_says : Step → Says Event
step_says (st.Next s) = Goes s.event
step_says (st.Refused e) = Number e.number e.place
step_says st.Stuck = Number STUCK 0

-- and of what a rule decides
abbrev pub rule_says : r.Decision → Says Event
rule_says (r.Next c) = Goes c.event
rule_says (r.Refused number place) = Number number place
rule_says r.Unreachable = Number STUCK 0
rule_says (r.Wants p n d) = Number STUCK 0
