-- Demand 2: every event right. The answer and each event are those of the rules of the steps; the starred lists of document 01,
-- as bytes, are answered as it says, and a list for each number as by the Rust. Assumes nothing.
use mathlib.Core.Path.{◌≡◌, refl, ◌∙◌}
use mathlib.Core.Bool.{Bool, true, ◌&&◌}
use mathlib.Core.List.{List, [], ◌∷◌}
use Prim.Native.Nat.{ℕ, ◌+◌, ◌≤◌, ◌<◌}
use native.Mathlib.Omega.{arith}
use borrow.Author.Tests.{eqb-true, leb-true, ltb-true}
use lib.Dec.{eqb, leb, ltb}
use lib.ListN.{length, get_or}
use Rattle.places.specs.Places.{places}
use Rattle.records.specs.Checks.{most_tokens, most_text}
use Rattle.records.specs.Tokens.{good, within}
use Rattle.records.specs.declared.names.Range.{Range}
use Rattle.records.specs.declared.events.Event.{Event}
use Rattle.records.specs.declared.events.Tag.{Tag}
use Rattle.records.specs.declared.tokens.Token.{Token}
use Rattle.records.specs.Events.{event_size}
use Rattle.rules.specs.Rules.Words.{Given, plain}
use Rattle.rules.specs.Run.{Outcome}
use Rattle.rules.specs.Lists.{listed}
use Rattle.rules.specs.Needs.{ample, enough}
use Rattle.rules.specs.Starred.{Pick, Case, same_range, same_tag, same_event, picked, as_said, check, check_all, starred}
use Rattle.rules.specs.Numbers.{every_number}
use Rattle.rules.proofs.ListLaws.{plain_list}
use Rattle.rules.proofs.Rooms.{fitting, needs_bounded}
use Rattle.rules.proofs.Starred.{computing, starred_right}
use Rattle.rules.proofs.Numbers.{every_number_right}
use Rattle.run.specs.Run.{Left}
use Rattle.promises.specs.Bytes.{as_bytes, numbers, small, empty, tidy, sound, all_sound}
use Rattle.promises.specs.Calls.{Call, Leaves}
use Rattle.promises.specs.Demands.{Holds, given, rooms, by_rules, Roomy, Lends, Shown, Answered, Each}
use Rattle.promises.proofs.ByteLaws.{and_both, checks_pass, given_back, places_bytes}
use Rattle.promises.proofs.WrittenLaws.{written_each}
use Rattle.promises.proofs.Demand1.{Passes, ran, fits}

-- "Events, spans, anchor ids, resolved tags and the first refusal are equal to the step rules": number, place, and each event
-- in its place
pub record Right (l : Left) (o : Outcome) : Type 0 where
  pub number : l.answer.number ≡ o.number
  pub place : l.answer.place ≡ o.place
  pub count : l.answer.count ≡ length o.events
  pub each : (k : ℕ) → k < length o.events → Holds l.events k (get_or o.events k (plain 0 0 0 0))

pub every_event_right : {c : Call} {l : Left} → Leaves c l → Passes c → Right l (by_rules c)
every_event_right {c = c} k p =
    let r = ran k p in
    let n = fits c in
    record {
      number = r.number;
      place = r.place;
      count = r.count;
      each = λ k l. let q : 0 + k ≡ k = omega arith in rw r.events (rw q at (written_each (plain 0 0 0 0) (by_rules c).events c.events 0 k (omega arith) l));
    }

-- the tokens of a call, written out as its bytes
pub record Written (c : Call) (ts : List Token) : Type 0 where
  pub bytes : c.tokens ≡ as_bytes ts
  pub sound : all_sound (length c.text) ts ≡ true
  pub few : length ts ≤ most_tokens
  pub short : length c.text ≤ most_text

unfoldable pub on_list : Call → List Token → Given
on_list c ts = listed ts c.text c.settings.keep c.settings.forget

pub written-passes : (c : Call) (ts : List Token) → Written c ts → Passes c
written-passes c ts w = rw (w.bytes, places_bytes ts) (checks_pass (length c.text) ts w.sound w.few w.short)

pub written-given : (c : Call) (ts : List Token) → Written c ts → given c ≡ on_list c ts
unfolding given on_list
written-given c ts w = rw (w.bytes, places_bytes ts) (given_back ts c.text c.settings.keep c.settings.forget w.sound)

-- with room enough, the run is the one that lacks nothing
pub roomy_run : (c : Call) (ts : List Token) → Written c ts → Roomy c (length ts) → by_rules c ≡ ample (on_list c ts)
unfolding by_rules rooms on_list listed enough
roomy_run c ts w m =
    let l = plain_list ts c.text c.settings.keep c.settings.forget in
    let b = needs_bounded l in
    rw (written-given c ts w) (fitting l (rooms c) (places c.events event_size) (record { events = omega arith; opens = omega arith; anchors = omega arith; handles = omega arith }))

pub list_right : {c : Call} {l : Left} → Leaves c l → (ts : List Token) → Written c ts → Roomy c (length ts) → Right l (ample (on_list c ts))
list_right {c = c} k ts w m = rw (roomy_run c ts w m) at (every_event_right k (written-passes c ts w))

range_is : (r s : Range) → same_range r s ≡ true → r ≡ s
unfolding same_range
range_is r s h =
    let x = and_both (eqb r.from s.from) _ h in
    λ i. record { from = eqb-true r.from s.from x.0 i; to = eqb-true r.to s.to x.1 i }

tag_is : (t u : Tag) → same_tag t u ≡ true → t ≡ u
unfolding same_tag
tag_is t u h =
    let x = and_both (eqb t.source u.source) _ h in
    let y = and_both (same_range t.prefix u.prefix) _ x.1 in
    λ i. record { source = eqb-true t.source u.source x.0 i; prefix = range_is t.prefix u.prefix y.0 i; suffix = range_is t.suffix u.suffix y.1 i }

event_is : (d e : Event) → same_event d e ≡ true → d ≡ e
unfolding same_event
event_is d e h =
    let a = and_both (eqb d.kind e.kind) _ h in
    let b = and_both (eqb d.start e.start) _ a.1 in
    let c = and_both (eqb d.end e.end) _ b.1 in
    let f = and_both (eqb d.number e.number) _ c.1 in
    let g = and_both (eqb d.style e.style) _ f.1 in
    let k = and_both (same_range d.value e.value) _ g.1 in
    λ i. record {
      kind = eqb-true d.kind e.kind a.0 i;
      start = eqb-true d.start e.start b.0 i;
      end = eqb-true d.end e.end c.0 i;
      number = eqb-true d.number e.number f.0 i;
      style = eqb-true d.style e.style g.0 i;
      value = range_is d.value e.value k.0 i;
      tag = tag_is d.tag e.tag k.1 i;
    }

-- each event that is shown is one of the run's
unfoldable below : ℕ → List Pick → Bool
below n [] = true
below n (p ∷ ps) = ltb p.index n && below n ps

shown : (l : Left) (o : Outcome) (ps : List Pick) → Right l o → below (length o.events) ps ≡ true → picked o.events ps ≡ true → Shown l.events ps
unfolding below picked
shown l o [] r h k = tt
shown l o (p ∷ ps) r h k =
    let x = and_both (ltb p.index (length o.events)) _ h in
    let y = and_both (same_event (get_or o.events p.index (plain 0 0 0 0)) p.event) _ k in
    let e = event_is _ _ y.0 in
    (rw e at (r.each p.index (ltb-true p.index (length o.events) x.0)), shown l o ps r x.1 y.1)

-- a list that records can hold
unfoldable fine : Case → Bool
fine k = all_sound (length k.text) k.tokens && (leb (length k.tokens) most_tokens && (leb (length k.text) most_text && below k.count k.picks))

lent_list : (k : Case) (c : Call) → Lends c k → on_list c k.tokens ≡ listed k.tokens k.text k.keep k.forget
unfolding on_list
lent_list k c l = rw (l.text, l.keep, l.forget)

said : (k : Case) → fine k ≡ true → check k ≡ true → Answered k
unfolding fine check as_said
said k f h c l called lends =
    let a = and_both (all_sound (length k.text) k.tokens) _ f in
    let b = and_both (leb (length k.tokens) most_tokens) _ a.1 in
    let d = and_both (leb (length k.text) most_text) _ b.1 in
    let w : Written c k.tokens = record { bytes = lends.tokens; sound = rw lends.text a.0; few = leb-true (length k.tokens) most_tokens b.0; short = rw lends.text (leb-true (length k.text) most_text d.0) } in
    let o = ample (listed k.tokens k.text k.keep k.forget) in
    let r : Right l o = rw (lent_list k c lends) at (list_right called k.tokens w lends.room) in
    let n = and_both (eqb o.number k.number) _ h in
    let m = and_both (eqb (length o.events) k.count) _ n.1 in
    let p = and_both (eqb o.place k.place) _ m.1 in
    let e : length o.events ≡ k.count = eqb-true (length o.events) k.count m.0 in
    record {
      number = r.number ∙ eqb-true o.number k.number n.0;
      count = r.count ∙ e;
      place = r.place ∙ eqb-true o.place k.place p.0;
      events = shown l o k.picks r (rw e d.1) p.1;
    }

unfoldable all_fine : List Case → Bool
all_fine [] = true
all_fine (k ∷ ks) = fine k && all_fine ks

each_said : (ks : List Case) → all_fine ks ≡ true → check_all ks ≡ true → Each Answered ks
unfolding all_fine check_all
each_said [] f h = tt
each_said (k ∷ ks) f h =
    let x = and_both (fine k) (all_fine ks) f in
    let y = and_both (check k) (check_all ks) h in
    (said k x.0 y.0, each_said ks x.1 y.1)

-- to unfold this is to unfold the words of a table, and of what is fine
unfoldable judging : Bool
unfolding computing all_fine fine below all_sound sound good within numbers small tidy empty
judging = true

starred_fine : all_fine starred ≡ true
unfolding judging
starred_fine = refl

every_number_fine : all_fine every_number ≡ true
unfolding judging every_number
every_number_fine = refl

-- the starred lists of document 01 as bytes, with room enough
pub starred_on_bytes : Each Answered starred
starred_on_bytes = each_said starred starred_fine starred_right

-- and a list for each number 0 to 14, each setting, tag source and style
pub every_number_on_bytes : Each Answered every_number
every_number_on_bytes = each_said every_number every_number_fine every_number_right
