-- Demand 3: room known in advance, of the run on bytes. Assumes nothing.
use mathlib.Core.Path.{◌≡◌, refl, sym, ap, ◌∙◌}
use mathlib.Core.Bool.{true}
use mathlib.Core.Logic.{◌↔◌, inr}
use Prim.Native.Nat.{ℕ, zero, suc, ◌+◌, ◌-◌, ◌*◌, ◌≤◌, ◌<◌}
use native.Mathlib.Omega.{arith}
use borrow.Author.Tests.{le-leb}
use lib.ListN.{length}
use Rattle.places.specs.Places.{places}
use Rattle.records.specs.Checks.{most_tokens, most_text}
use Rattle.records.specs.Names.{no_range}
use Rattle.records.specs.Tokens.{token_size, good, within}
use Rattle.records.specs.Events.{event_size}
use Rattle.tables.specs.States.{state_size}
use Rattle.rules.specs.Rules.Words.{Place, OpenPlace, AnchorPlace, HandlePlace, first}
use Rattle.rules.specs.Run.{room, fresh, run}
use Rattle.rules.specs.Lists.{Listed, in_bytes}
use Rattle.rules.specs.Documents.{starts, documents}
use Rattle.rules.specs.Starred.{bare}
use Rattle.rules.specs.Needs.{lacks, all_needs, peaks, Fits, ample, Begins, Cut, Short, Wider}
use Rattle.rules.proofs.ListLaws.{checked_list}
use Rattle.rules.proofs.Bounds.{places_suffice, last_sound, accepted_last, accepted_3A_4}
use Rattle.rules.proofs.Witness.{witness, documents-length}
use Rattle.rules.proofs.Rooms.{by_order, beginning, fitting, exactly, more_room}
use Rattle.run.specs.Run.{Left}
use Rattle.promises.specs.Bytes.{as_bytes, numbers, small, empty, tidy, sound, all_sound}
use Rattle.promises.specs.Calls.{Call, Leaves}
use Rattle.promises.specs.Demands.{given, rooms, by_rules, Roomy, taken, Accepted, Grown}
use Rattle.promises.proofs.Demand1.{Passes, ran, Judged, refused, passed_on, judged, not_first, accepted_passes}
use Rattle.promises.proofs.Demand2.{Right, every_event_right, Written, on_list, written-passes, written-given}

-- a call that passes the first checks lends a list of tokens
pub as_list : (c : Call) → Passes c → Listed (given c)
unfolding given
as_list c q = checked_list c.tokens (places c.tokens token_size) c.text c.settings.keep c.settings.forget q

room_for : (c : Call) (n : ℕ) → Roomy c n → (p : Place) → n ≤ room (rooms c) p
unfolding rooms room
room_for c n m OpenPlace = m.states
room_for c n m AnchorPlace = m.anchors
room_for c n m HandlePlace = m.handles

-- "For T tokens, 3T events and T places each for open states, anchors and handles never run short", for refused lists too
pub never_short : {c : Call} {l : Left} → Leaves c l → Roomy c (places c.tokens token_size) → Short l.answer.number → ⊥
unfolding by_rules given in_bytes
never_short {c = c} {l = l} k m s = go (judged k) where
  go : Judged c l → ⊥
  go (refused n p t h e f z w) = not_first n h (inr (rw e at s))
  go (passed_on q r) = omega (arith, r.number, places_suffice (rooms c) (as_list c q) (places c.events event_size) m.events (room_for c (places c.tokens token_size) m))

-- a call answered 0 is an accepted stream: the tokens that its run took, up to the StreamEnd
pub accepted_stream : {c : Call} {l : Left} → Leaves c l → l.answer.number ≡ 0 → Accepted c l (taken c)
unfolding by_rules given in_bytes taken
accepted_stream {c = c} k z =
    let q = accepted_passes k z in
    let l = as_list c q in
    let n = places c.events event_size in
    let e = accepted_last (rooms c) l n (sym (ran k q).number ∙ z) in
    let w = (last_sound (rooms c) l n).within in
    record {
      number = z;
      took = refl;
      some = e.0;
      last = l.token (taken c - 1);
      found = l.within (taken c - 1) (omega arith);
      end = e.1;
    }

-- "an accepted stream of A tokens gives at most 3A - 4 events", StreamEnd counted
pub at_most : {c : Call} {l : Left} → Leaves c l → (A : ℕ) → Accepted c l A → l.answer.count + 4 ≤ 3 * A
unfolding by_rules taken
at_most {c = c} k A a =
    let q = accepted_passes k a.number in
    let r = ran k q in
    let h = accepted_3A_4 (rooms c) (as_list c q) (places c.events event_size) (sym r.number ∙ a.number) in
    omega (arith, h, a.took, r.count)

-- "for each A from 2 to 65,536 some stream gives exactly that many": StreamStart, A - 2 times DocumentStart, StreamEnd
starts-sound : (size k : ℕ) → all_sound size (starts k) ≡ true
unfolding starts all_sound sound good within numbers small tidy empty bare no_range
starts-sound size zero = rw (le-leb 0 size (omega arith))
starts-sound size (suc k) = rw (le-leb 0 size (omega arith)) (starts-sound size k)

documents-sound : (size A : ℕ) → all_sound size (documents A) ≡ true
unfolding documents all_sound sound good within numbers small tidy empty bare no_range
documents-sound size A = rw (le-leb 0 size (omega arith)) (starts-sound size (A - 2))

pub exactly_that_many : (A : ℕ) → 2 ≤ A → A ≤ most_tokens → (c : Call) (l : Left) → Leaves c l → c.tokens ≡ as_bytes (documents A) → length c.text ≤ most_text
    → 3 * A - 4 ≤ places c.events event_size → 0 < places c.states state_size → (l.answer.number ≡ 0) × (l.answer.count ≡ 3 * A - 4)
unfolding by_rules rooms on_list
exactly_that_many A two most c l k e t n o =
    let w : Written c (documents A) = record { bytes = e; sound = documents-sound (length c.text) A; few = rw (documents-length A two) most; short = t } in
    let r = every_event_right k (written-passes c (documents A) w) in
    let x = witness (rooms c) A (places c.events event_size) c.text c.settings.keep c.settings.forget two o n in
    let y = rw (sym (written-given c (documents A) w)) at x in
    (r.number ∙ y.number, r.count ∙ y.events)

-- "with less room the answer is no room exactly when the rules need more before they end"
module _ {c : Call} {l : Left} (k : Leaves c l) (q : Passes c) where
  need : Listed (given c)
  need = as_list c q

  pub no_room_exactly : Short l.answer.number ↔ (Fits (rooms c) (places c.events event_size) (peaks (all_needs (given c))) → ⊥)
  unfolding by_rules
  no_room_exactly = rw (every_event_right k q).number (exactly need (rooms c) (places c.events event_size))

  -- which number, by the order of acts: the first need that is not met
  pub first_unmet : Cut (by_rules c) (ample (given c)) (first (lacks (rooms c) (places c.events event_size)) (all_needs (given c)))
  unfolding by_rules
  first_unmet = by_order need (rooms c) (places c.events event_size)

  -- otherwise the answer and all events are those with room enough
  pub enough_room : Fits (rooms c) (places c.events event_size) (peaks (all_needs (given c))) → Right l (ample (given c))
  unfolding by_rules
  enough_room f = rw (fitting need (rooms c) (places c.events event_size) f) at (every_event_right k q)

  -- the events of a short run are a beginning of the full run's
  pub a_beginning : Begins (by_rules c).events (ample (given c)).events
  unfolding by_rules
  a_beginning = beginning need (rooms c) (places c.events event_size)

-- more room never changes an answer that is not 22 to 25
pub more_never_changes : {c d : Call} {l m : Left} → Leaves c l → Leaves d m → Grown c d → Passes c → (Short l.answer.number → ⊥) → Right m (by_rules c)
unfolding by_rules given rooms
more_never_changes {c = c} {d = d} x y g q s =
    let p : Passes d = rw (sym g.tokens, sym g.text) q in
    let e : given d ≡ given c = rw (g.tokens, g.text, g.settings) in
    let h : Wider (rooms c) (rooms d) = record { opens = g.states; anchors = g.anchors; handles = g.handles } in
    let k : by_rules d ≡ by_rules c = ap (λ x. run (rooms d) x (places d.events event_size) fresh) e ∙ more_room (rooms c) (rooms d) (given c) (places c.events event_size) (places d.events event_size) h g.events (rw (every_event_right x q).number at s) in
    rw k at (every_event_right y p)
