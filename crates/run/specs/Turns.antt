-- Contracts of one turn of a run: what it finds, and what it leaves. Who reads `Run` needs none of them.
use Rattle.std.specs.Prelude.{◌≡◌, ℕ, suc, ◌-◌, ◌/◌, ◌<◌, Bool, true, false, cond, List, length}
use Rattle.places.specs.Places.{places, has_place, stored, Unused}
use Rattle.records.specs.Checks.{first_checks}
use Rattle.records.specs.Events.{event_size, numbers_of}
use Rattle.records.specs.Says.{Says, Goes, Number}
use Rattle.records.specs.declared.checks.Checked.TheVariants as checked
use Rattle.records.specs.declared.events.Event.{Event}
use Rattle.records.specs.Tokens.{token_size}
use Rattle.tables.specs.Anchors.{anchor_size, anchors_of}
use Rattle.tables.specs.Handles.{handle_size, handles_of}
use Rattle.tables.specs.States.{state_size}
use Rattle.rules.specs.Rules.Words.{Given}
use Rattle.rules.specs.Run.{Model, Outcome, stop, store, ended, STUCK}
use Rattle.rules.specs.Run as rules
use Rattle.rules.specs.Lists.{in_bytes, Reached}
use Rattle.parser.specs.Machine.{rooms, fresh}
use Rattle.parser.specs.declared.Machine.{Machine}
use Rattle.parser.specs.declared.Terms.{Terms}
use Rattle.parser.specs.declared.Stepped.{Stepped}
use Rattle.run.specs.Apply.{opens_of, Applying}
use Rattle.run.specs.Run.{Told, cleared}
use Rattle.run.specs.declared.Answer.{Answer}
use Rattle.run.specs.declared.Settings.{Settings}
use Rattle.run.specs.declared.Went.{Went}
use Rattle.run.specs.declared.Went.TheVariants as went
use Rattle.run.specs.declared.apply.Applied.{Applied}
use Rattle.run.specs.declared.apply.Applied.TheVariants as applied

unfoldable pub stopped : ℕ → ℕ → Went
stopped number place = went.Stopped (record { number = number; place = place })

-- document 01's number and place for each case: the run goes on, 0 at StreamEnd, or a refusal
abbrev pub went_says : Went → Says Machine
went_says (went.On m) = Goes m
went_says went.Ended = Number 0 0
went_says (went.Stopped e) = Number e.number e.place

unfoldable pub answered : ℕ → ℕ → ℕ → Answer
answered number count place = record { number = number; count = count; place = place }

unfoldable pub tell : Answer → List ℕ → Told
tell answer events = record { answer = answer; events = events }

-- the terms of a run whose work buffers have these lengths
unfoldable pub terms_of : Settings → ℕ → ℕ → ℕ → Terms
terms_of settings states anchors handles = record {
  states = states / state_size;
  names = anchors / anchor_size;
  handles = handles / handle_size;
  keep = settings.keep;
  forget = settings.forget;
}

pub record Cleared (s a h s' a' h' : List ℕ) : Type 0 where
  pub states : s' ≡ cleared s
  pub anchors : a' ≡ cleared a
  pub handles : h' ≡ cleared h

-- the machine whole, as the rules see it
unfoldable pub model_of : List ℕ → List ℕ → List ℕ → Machine → Model
model_of states anchors handles m = record {
  state = m.state;
  at = m.at;
  stack = opens_of states m.depth;
  anchors = anchors_of anchors m.names;
  handles = handles_of handles m.handles;
  next = m.next;
}

unfoldable pub given_of : List ℕ → List ℕ → Terms → Given
given_of tokens text terms = in_bytes tokens (places tokens token_size) text terms.keep terms.forget

-- the places that the machine does not use are zero
pub record Tidy (s a h : List ℕ) (m : Machine) : Type 0 where
  pub states : Unused s state_size m.depth
  pub anchors : Unused a anchor_size m.names
  pub handles : Unused h handle_size m.handles

-- a machine that a run has come to after `count` events, and that goes on
pub record Here (tokens text : List ℕ) (terms : Terms) (count : ℕ) (states anchors handles : List ℕ) (m : Machine) : Type 0 where
  pub passed : first_checks tokens (length text) ≡ checked.Passed (places tokens token_size)
  pub opens : terms.states ≡ places states state_size
  pub names : terms.names ≡ places anchors anchor_size
  pub tags : terms.handles ≡ places handles handle_size
  pub reached : Reached (rooms terms) (given_of tokens text terms) count (model_of states anchors handles m)
  pub on : ended m.state ≡ false
  pub unused : Tidy states anchors handles m

-- what the turns of a run rely on
pub record Ready (tokens text : List ℕ) (terms : Terms) (states anchors handles : List ℕ) : Type 0 where
  pub passed : first_checks tokens (length text) ≡ checked.Passed (places tokens token_size)
  pub opens : terms.states ≡ places states state_size
  pub names : terms.names ≡ places anchors anchor_size
  pub tags : terms.handles ≡ places handles handle_size
  pub unused : Tidy states anchors handles fresh

-- what is left of the run, with as many places for events
unfoldable pub rest : List ℕ → List ℕ → Terms → ℕ → Model → Outcome
rest tokens text terms n m = rules.run (rooms terms) (given_of tokens text terms) n m

-- taking a step: it is applied, and its event is stored last
unfoldable pub taken_turn : Applied → Bool → Went
taken_turn applied.Stuck room = stopped STUCK 0
taken_turn (applied.Next m) true = cond (ended m.state) went.Ended (went.On m)
taken_turn (applied.Next m) false = stopped 22 0

unfoldable pub taken_bytes : Applied → List ℕ → ℕ → Event → List ℕ
taken_bytes applied.Stuck events count e = events
taken_bytes (applied.Next m) events count e = stored events count (numbers_of e)

pub record Taking (tokens text : List ℕ) (s : Stepped) (count : ℕ) (events states anchors handles : List ℕ) (r : Went) (events' states' anchors' handles' : List ℕ) : Type 0 where
  pub applied : Applied
  pub applying : Applying tokens text states anchors handles s applied states' anchors' handles'
  pub turn : r ≡ taken_turn applied (has_place events event_size count)
  pub bytes : events' ≡ taken_bytes applied events count s.event

-- the run goes on: an event was stored, and the machine is one that it has come to
pub record On (tokens text : List ℕ) (terms : Terms) (count : ℕ) (events states anchors handles : List ℕ) (m : Machine) (events' states' anchors' handles' : List ℕ) (m' : Machine) : Type 0 where
  pub event : Event
  pub room : count < places events event_size
  pub bytes : events' ≡ stored events count (numbers_of event)
  pub here : Here tokens text terms (suc count) states' anchors' handles' m'
  pub rest :
      rest tokens text terms (places events event_size - count) (model_of states anchors handles m)
      ≡ store event (rest tokens text terms (places events event_size - suc count) (model_of states' anchors' handles' m'))

-- it has ended with an event
pub record Ended (o : Outcome) (count : ℕ) (events events' : List ℕ) : Type 0 where
  pub event : Event
  pub last : Model
  pub bytes : events' ≡ stored events count (numbers_of event)
  pub rest : o ≡ store event (stop last 0 0)

-- it has stopped with none
pub record Stopped (o : Outcome) (number place : ℕ) (events events' : List ℕ) : Type 0 where
  pub last : Model
  pub bytes : events' ≡ events
  pub rest : o ≡ stop last number place

module _ (tokens text : List ℕ) (terms : Terms) (count : ℕ) (events states anchors handles : List ℕ) (m : Machine) where
  unfoldable pub Turned : Went → List ℕ → List ℕ → List ℕ → List ℕ → Type 0
  Turned (went.On m') events' states' anchors' handles' =
      On tokens text terms count events states anchors handles m events' states' anchors' handles' m'
  Turned went.Ended events' states' anchors' handles' =
      Ended (rest tokens text terms (places events event_size - count) (model_of states anchors handles m)) count events events'
  Turned (went.Stopped e) events' states' anchors' handles' =
      Stopped (rest tokens text terms (places events event_size - count) (model_of states anchors handles m)) e.number e.place events events'
