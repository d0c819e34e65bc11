-- What `load` answers: what the walk of the rules says of the kinds that the bytes hold.
use Rattle.std.specs.Prelude.{ℕ, ◌-◌, ◌%◌, cond, List, eqb, length, Result, Ok, Err}
use Rattle.places.specs.Places.{places}
use Rattle.records.specs.Events.{event_size, event_at, events_of}
use Rattle.rules.specs.Walk.{kinds, outside, Walked, passed, refused, walk}
use Rattle.load.specs.declared.Answer.{Answer}
use Rattle.load.specs.declared.Fault.{Fault}
use Rattle.load.specs.declared.Fault.TheVariants.{Uneven, Unexpected, TooDeep}

-- how many events there are
abbrev pub count : List ℕ → ℕ
count bs = places bs event_size

-- the kind of an event; 0 where there is no such event
unfoldable pub kind_at : List ℕ → ℕ → ℕ
kind_at bs i = (event_at bs i).kind

-- the kinds of all events from index i on
unfoldable pub from : List ℕ → ℕ → List ℕ
from bs i = kinds (events_of bs i (count bs - i))

unfoldable pub answered : ℕ → ℕ → Answer
answered number place = record { number = number; count = 0; place = place }

-- the number of a fault, and the index of the event at which it is given
abbrev pub number_of : Fault → ℕ
number_of Uneven = 20
number_of (Unexpected i) = 30
number_of (TooDeep i) = 31

abbrev pub place_of : Fault → ℕ
place_of Uneven = 0
place_of (Unexpected i) = i
place_of (TooDeep i) = i

abbrev pub answer_of : Fault → Answer
answer_of e = answered (number_of e) (place_of e)

abbrev pub stream_answer : Result Unit Fault → Answer
stream_answer (Ok u) = answered 0 0
stream_answer (Err e) = answer_of e

-- the answer of a walk over n events: 0, or a number with the index of the event at which it is given
unfoldable pub said : ℕ → Walked → Answer
said n passed = answered 0 0
said n (refused m rest) = answered m (n - length rest)

unfoldable pub loaded : List ℕ → Answer
loaded bs = cond (eqb (length bs % event_size) 0) (said (count bs) (walk outside (from bs 0))) (answered 20 0)
