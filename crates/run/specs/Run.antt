-- What a run leaves: its answer, and every byte that it was lent.
use Rattle.std.specs.Prelude.{ℕ, List, length}
use Rattle.places.specs.Places.{places, zeroed}
use Rattle.records.specs.Checks.{first_checks}
use Rattle.records.specs.Events.{event_size, written}
use Rattle.records.specs.declared.checks.Checked.{Checked}
use Rattle.records.specs.declared.checks.Checked.TheVariants as checked
use Rattle.tables.specs.States.{state_size}
use Rattle.tables.specs.Anchors.{anchor_size}
use Rattle.tables.specs.Handles.{handle_size}
use Rattle.rules.specs.Run.{Rooms, Outcome, fresh}
use Rattle.rules.specs.Run as rules
use Rattle.rules.specs.Lists.{in_bytes}
use Rattle.run.specs.declared.Answer.{Answer}
use Rattle.run.specs.declared.Settings.{Settings}

-- bytes of an answer at the face: number, count and place
abbrev pub answer_size : ℕ
answer_size = 12

pub record Left : Type 0 where
  pub answer : Answer
  pub events : List ℕ
  pub states : List ℕ
  pub anchors : List ℕ
  pub handles : List ℕ

unfoldable pub cleared : List ℕ → List ℕ
cleared b = zeroed (length b) b

-- the places of the work memory
unfoldable pub rooms_of : List ℕ → List ℕ → List ℕ → Rooms
rooms_of states anchors handles =
    record { opens = places states state_size; anchors = places anchors anchor_size; handles = places handles handle_size }

-- the answer and the event bytes; the work memory is zeroed whole
pub record Told : Type 0 where
  pub answer : Answer
  pub events : List ℕ

unfoldable pub told : List ℕ → Outcome → Told
told events o = record {
  answer = record { number = o.number; count = length o.events; place = o.place };
  events = written events 0 o.events;
}

-- a list that the first checks refuse is not run
unfoldable pub checked_run : Checked → List ℕ → List ℕ → Settings → Rooms → List ℕ → Told
checked_run (checked.Refused e) tokens text settings rooms events =
    record { answer = record { number = e.number; count = 0; place = e.place }; events = events }
checked_run (checked.Passed n) tokens text settings rooms events =
    told events (rules.run rooms (in_bytes tokens n text settings.keep settings.forget) (places events event_size) fresh)

unfoldable pub runs : List ℕ → List ℕ → Settings → List ℕ → List ℕ → List ℕ → List ℕ → Left
runs tokens text settings events states anchors handles =
    let t = checked_run (first_checks tokens (length text)) tokens text settings (rooms_of states anchors handles) events in
    record {
      answer = t.answer;
      events = t.events;
      states = cleared states;
      anchors = cleared anchors;
      handles = cleared handles;
    }

unfoldable pub left : Answer → List ℕ → List ℕ → List ℕ → List ℕ → Left
left answer events states anchors handles =
    record { answer = answer; events = events; states = states; anchors = anchors; handles = handles }
