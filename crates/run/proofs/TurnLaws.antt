-- One turn of a run, and what is told of the whole. Assumes nothing.
use mathlib.Core.Path.{◌≡◌, refl, sym, ap, ◌∙◌}
use mathlib.Core.Bool.{Bool, true, false, cond}
use mathlib.Core.List.{List}
use Prim.Native.Nat.{ℕ, zero, suc, ◌+◌, ◌-◌, ◌*◌, ◌≤◌, ◌<◌}
use native.Mathlib.Nat.{add-zero, zero-add, sub-zero}
use native.Mathlib.Numerals.{add-one}
use native.Mathlib.Omega.{arith}
use lib.ListN.{length}
use Rattle.places.specs.Places.{places, has_place, stored}
use Rattle.records.specs.Events.{event_size, numbers_of}
use Rattle.records.specs.Says.{Number}
use Rattle.records.specs.declared.events.Event.{Event}
use Rattle.records.specs.declared.tokens.Refusal.{Refusal}
use Rattle.records.proofs.CheckLaws as checks
use Rattle.tables.specs.Tables.{stack, table}
use Rattle.tables.specs.Anchors.{anchors_of}
use Rattle.tables.specs.Handles.{handles_of}
use Rattle.rules.specs.States.{numbers, ranked}
use Rattle.rules.specs.Rules.{state_machine}
use Rattle.rules.specs.Rules.Words.{choose◌then◌else◌, Given}
use Rattle.rules.specs.Run as run
use Rattle.rules.specs.Run.{Rooms, Model, Go, Halt, Stuck, step, Outcome, stop, store, ended, STUCK, onward}
use Rattle.rules.specs.Lists.{in_bytes, start, on}
use Rattle.rules.proofs.Granted.{reached_fits, reached_next}
use Rattle.rules.proofs.ListLaws.{checked_list}
use Rattle.rules.proofs.Sound.{reached_sound}
use Rattle.rules.proofs.NeverStuck.{most}
use Rattle.parser.specs.Machine.{lent, rooms, fresh}
use Rattle.parser.specs.Answers.{decided}
use Rattle.parser.specs.declared.Machine.{Machine}
use Rattle.parser.specs.declared.Terms.{Terms}
use Rattle.parser.specs.declared.Stepped.{Stepped}
use Rattle.parser.specs.declared.Step.TheVariants as st
use Rattle.run.specs.Apply.{opens_of}
use Rattle.records.specs.Events.{written}
use Rattle.records.specs.Tokens.{token_size}
use Rattle.run.specs.Run.{Told, told}
use Rattle.run.specs.Turns.{stopped, went_says, answered, tell, model_of, given_of, Tidy, Ready, Here, rest, taken_turn, taken_bytes, Taking, On, Ended, Stopped, Turned}
use Rattle.run.specs.declared.Went.{Went}
use Rattle.run.specs.declared.Went.TheVariants as went
use Rattle.run.specs.declared.apply.Applied.{Applied}
use Rattle.run.specs.declared.apply.Applied.TheVariants as applied
use Rattle.run.proofs.ApplyLaws.{is_place, no_place}
use Rattle.run.proofs.StepLaws.{Tidied, stepped, step_halts, step_sticks, step_taken, taken_next}

-- a run by its first step
module _ (r : Rooms) (g : Given) (m : Model) where
  run_halts : (n number place : ℕ) → step r g m ≡ Halt number place → run.run r g n m ≡ stop m number place
  unfolding run.run onward
  run_halts zero number place e = rw e
  run_halts (suc n) number place e = rw e

  run_sticks : (n : ℕ) → step r g m ≡ Stuck → run.run r g n m ≡ stop m STUCK 0
  unfolding run.run onward
  run_sticks zero e = rw e
  run_sticks (suc n) e = rw e

  module _ (e : Event) (m' : Model) (q : step r g m ≡ Go e m') where
    run_full : (n : ℕ) → n ≡ 0 → run.run r g n m ≡ stop m 22 0
    unfolding run.run onward
    run_full n z = rw (z, q)

    run_ends : (n k : ℕ) → n ≡ suc k → ended m'.state ≡ true → run.run r g n m ≡ store e (stop m' 0 0)
    unfolding run.run onward choose◌then◌else◌
    run_ends n k z i = rw (z, q, i)

    run_goes : (n k : ℕ) → n ≡ suc k → ended m'.state ≡ false → run.run r g n m ≡ store e (run.run r g k m')
    unfolding run.run onward choose◌then◌else◌
    run_goes n k z i = rw (z, q, i)

stored_none : (b : List ℕ) (at : ℕ) (ns : List ℕ) → has_place b (4 * length ns) at ≡ false → stored b at ns ≡ b
unfolding stored
stored_none b at ns e = rw e

module _ (tokens text : List ℕ) (terms : Terms) (count : ℕ) (states anchors handles : List ℕ) (m : Machine) (h : Here tokens text terms count states anchors handles m) where
  -- there are few events, and fewer ids
  pub few : count ≤ 196608
  unfolding given_of in_bytes
  few =
      let l = checked_list tokens (places tokens token_size) text terms.keep terms.forget h.passed in
      let s = checks.passed tokens (length text) (places tokens token_size) h.passed in
      omega (arith, most {l = l} (model_of states anchors handles m) (reached_sound l h.reached), s.few)

  pub few_ids : (s : Stepped) → decided (lent tokens text anchors handles terms) m (λ g m. state_machine g m m.state) ≡ st.Next s
      → suc s.machine.next < 4294967296
  unfolding model_of
  few_ids s q = omega (arith, few, reached_next h.reached, taken_next tokens text terms states anchors handles m (reached_fits h.reached) s q)

  -- the turns that store no event
  module _ (events : List ℕ) where
    pub turned_halts : (e : Refusal) → decided (lent tokens text anchors handles terms) m (λ g m. state_machine g m m.state) ≡ st.Refused e
        → Turned tokens text terms count events states anchors handles m (went.Stopped e) events states anchors handles
    unfolding Turned rest
    turned_halts e q = record {
      last = _;
      bytes = refl;
      rest = run_halts (rooms terms) (given_of tokens text terms) (model_of states anchors handles m) (places events event_size - count) e.number e.place
          (step_halts tokens text terms states anchors handles m e q);
    }

    pub turned_sticks : decided (lent tokens text anchors handles terms) m (λ g m. state_machine g m m.state) ≡ st.Stuck
        → Turned tokens text terms count events states anchors handles m (stopped STUCK 0) events states anchors handles
    unfolding Turned rest stopped
    turned_sticks q = record {
      last = _;
      bytes = refl;
      rest = run_sticks (rooms terms) (given_of tokens text terms) (model_of states anchors handles m) (places events event_size - count)
          (step_sticks tokens text terms states anchors handles m q);
    }

    -- a step that was taken
    module _ (events' states' anchors' handles' : List ℕ) (e : Event) (ls : length states' ≡ length states) (la : length anchors' ≡ length anchors) (lh : length handles' ≡ length handles) where
      here_on : (m' : Machine) → step (rooms terms) (given_of tokens text terms) (model_of states anchors handles m) ≡ Go e (model_of states' anchors' handles' m')
          → ended m'.state ≡ false → Tidy states' anchors' handles' m' → Here tokens text terms (suc count) states' anchors' handles' m'
      unfolding model_of
      here_on m' q i u = record {
        passed = h.passed;
        opens = rw ls h.opens;
        names = rw la h.names;
        tags = rw lh h.tags;
        reached = on e h.reached h.on q;
        on = i;
        unused = u;
      }

      went_on : (o : Applied) (t : Bool) → has_place events event_size count ≡ t
          → step (rooms terms) (given_of tokens text terms) (model_of states anchors handles m) ≡ stepped o e states' anchors' handles'
          → events' ≡ taken_bytes o events count e → Tidied o states' anchors' handles'
          → Turned tokens text terms count events states anchors handles m (taken_turn o t) events' states' anchors' handles'
      unfolding Turned rest stopped taken_turn taken_bytes stepped Tidied numbers_of model_of
      went_on applied.Stuck t p q b u = record {
        last = _;
        bytes = b;
        rest = run_sticks (rooms terms) (given_of tokens text terms) (model_of states anchors handles m) (places events event_size - count) q;
      }
      went_on (applied.Next m') false p q b u = record {
        last = _;
        bytes = b ∙ stored_none events count (numbers_of e) p;
        rest = run_full (rooms terms) (given_of tokens text terms) (model_of states anchors handles m) e (model_of states' anchors' handles' m') q (places events event_size - count) (omega (arith, no_place events event_size count p));
      }
      went_on (applied.Next m') true p q b u = go (ended m'.state) refl where
        left : places events event_size - count ≡ suc (places events event_size - suc count)
        left = omega (arith, is_place events event_size count p)

        go : (t : Bool) → ended m'.state ≡ t
            → Turned tokens text terms count events states anchors handles m (cond t went.Ended (went.On m')) events' states' anchors' handles'
        go true i = record {
          event = e;
          last = model_of states' anchors' handles' m';
          bytes = b;
          rest = run_ends (rooms terms) (given_of tokens text terms) (model_of states anchors handles m) e (model_of states' anchors' handles' m') q (places events event_size - count) (places events event_size - suc count) left i;
        }
        go false i = record {
          event = e;
          room = is_place events event_size count p;
          bytes = b;
          here = here_on m' q i u;
          rest = run_goes (rooms terms) (given_of tokens text terms) (model_of states anchors handles m) e (model_of states' anchors' handles' m') q (places events event_size - count) (places events event_size - suc count) left i;
        }

    pub turned_taken : (s : Stepped) → decided (lent tokens text anchors handles terms) m (λ g m. state_machine g m m.state) ≡ st.Next s
        → (w : Went) (events' states' anchors' handles' : List ℕ) → length states' ≡ length states → length anchors' ≡ length anchors → length handles' ≡ length handles
        → Taking tokens text s count events states anchors handles w events' states' anchors' handles'
        → Turned tokens text terms count events states anchors handles m w events' states' anchors' handles'
    turned_taken s q w events' states' anchors' handles' ls la lh t =
        let k = step_taken tokens text terms states anchors handles m (reached_fits h.reached) s q t.applied states' anchors' handles' h.opens h.names h.tags h.unused t.applying in
        rw t.turn (went_on events' states' anchors' handles' s.event ls la lh t.applied (has_place events event_size count) refl k.0 t.bytes k.1)

-- a turn that ends the run ends it with the number and the place of the rules
module _ (tokens text : List ℕ) (terms : Terms) (count : ℕ) (events states anchors handles : List ℕ) (m : Machine) where
  abbrev to_come : Outcome
  to_come = rest tokens text terms (places events event_size - count) (model_of states anchors handles m)

  pub went_says_lem : (w : Went) (events' states' anchors' handles' : List ℕ)
      → Turned tokens text terms count events states anchors handles m w events' states' anchors' handles'
      → (n p : ℕ) → went_says w ≡ Number n p → (to_come.number ≡ n) × (to_come.place ≡ p)
  unfolding Turned store stop
  went_says_lem (went.On m') e s a h t n p q = let z : ◌≡◌ {A = ℕ} 0 1 = cc in absurd (omega arith)
  went_says_lem went.Ended e s a h t n p q =
      let i : ◌≡◌ {A = ℕ} 0 n = cc in
      let j : ◌≡◌ {A = ℕ} 0 p = cc in
      (rw t.rest i, rw t.rest j)
  went_says_lem (went.Stopped f) e s a h t n p q =
      let i : f.number ≡ n = cc in
      let j : f.place ≡ p = cc in
      (rw t.rest i, rw t.rest j)

-- what is told of a run that has stored `count` events
abbrev pub finish : ℕ → List ℕ → Outcome → Told
finish count b o = record { answer = answered o.number (count + length o.events) o.place; events = written b count o.events }

pub finish_start : (b : List ℕ) (o : Outcome) → told b o ≡ finish 0 b o
unfolding told answered
finish_start b o = rw zero-add

pub finish-on : (count : ℕ) (b : List ℕ) (e : Event) (o : Outcome) → finish count b (store e o) ≡ finish (suc count) (stored b count (numbers_of e)) o
unfolding store written
finish-on count b e o = let q : count + suc (length o.events) ≡ suc count + length o.events = omega arith in rw q

pub finish-stop : (count : ℕ) (b : List ℕ) (m : Model) (number place : ℕ) → finish count b (stop m number place) ≡ tell (answered number count place) b
unfolding stop written tell
finish-stop count b m number place = rw add-zero

-- with nothing in use the bytes do not matter
fresh_model : (states anchors handles : List ℕ) → model_of states anchors handles fresh ≡ run.fresh
unfolding model_of fresh run.fresh opens_of stack anchors_of handles_of table
fresh_model states anchors handles = refl

begun : ended fresh.state ≡ false
unfolding fresh ended numbers ranked
begun = refl

-- the run so far: what it tells is what is left of it tells
pub record Going (tokens text : List ℕ) (terms : Terms) (events₀ events states anchors handles : List ℕ) (m : Machine) (count : ℕ) : Type 0 where
  pub here : Here tokens text terms count states anchors handles m
  pub law :
      told events₀ (rest tokens text terms (places events₀ event_size) run.fresh)
      ≡ finish count events (rest tokens text terms (places events event_size - count) (model_of states anchors handles m))

module _ (tokens text : List ℕ) (terms : Terms) (events₀ : List ℕ) where
  pub going_start : (states anchors handles : List ℕ) (m : Machine) → Ready tokens text terms states anchors handles → m ≡ fresh
      → Going tokens text terms events₀ events₀ states anchors handles m 0
  unfolding fresh
  going_start states anchors handles m r e = record {
    here = record {
      passed = r.passed;
      opens = r.opens;
      names = r.names;
      tags = r.tags;
      reached = rw model start;
      on = rw e begun;
      unused = rw e r.unused;
    };
    law = rw (model, sub-zero) (finish_start events₀ _);
  } where
    model : model_of states anchors handles m ≡ run.fresh
    model = rw e (fresh_model states anchors handles)

  module _ (events states anchors handles : List ℕ) (m : Machine) (count : ℕ) (g : Going tokens text terms events₀ events states anchors handles m count)
      (events' states' anchors' handles' : List ℕ) where
    pub going_on : (m' : Machine) → length events' ≡ length events
        → On tokens text terms count events states anchors handles m events' states' anchors' handles' m'
        → Going tokens text terms events₀ events' states' anchors' handles' m' (count + 1)
    going_on m' l o =
        let left : ℕ → Outcome = λ n. rest tokens text terms n (model_of states' anchors' handles' m') in
        let last : finish (suc count) (stored events count (numbers_of o.event)) (left (places events event_size - suc count)) ≡ finish (suc count) events' (left (places events' event_size - suc count)) =
        rw (l, o.bytes) in
        rw add-one (record {
          here = o.here;
          law = g.law ∙ ap (finish count events) o.rest ∙ finish-on count events o.event (left (places events event_size - suc count)) ∙ last;
        })

    pub going_ends : Ended (rest tokens text terms (places events event_size - count) (model_of states anchors handles m)) count events events'
        → tell (answered 0 (count + 1) 0) events' ≡ told events₀ (rest tokens text terms (places events₀ event_size) run.fresh)
    going_ends o =
        rw (add-one, o.bytes)
        (sym (g.law ∙ ap (finish count events) o.rest ∙ finish-on count events o.event (stop o.last 0 0) ∙ finish-stop (suc count) (stored events count (numbers_of o.event)) o.last 0 0))

    pub going_stops : (number place : ℕ) → Stopped (rest tokens text terms (places events event_size - count) (model_of states anchors handles m)) number place events events'
        → tell (answered number count place) events' ≡ told events₀ (rest tokens text terms (places events₀ event_size) run.fresh)
    going_stops number place o =
        rw o.bytes (sym (g.law ∙ ap (finish count events) o.rest ∙ finish-stop count events o.last number place))
