-- The first checks, the turns and the clearing make the run. Assumes nothing.
use mathlib.Core.Path.{◌≡◌, ap, ◌∙◌}
use mathlib.Core.List.{List}
use Prim.Native.Nat.{ℕ}
use lib.ListN.{length}
use lib.Seq.{drop-length}
use Rattle.places.specs.Places.{places, zeroed}
use Rattle.places.proofs.UnusedLaws.{unused_all}
use Rattle.records.specs.Checks.{first_checks}
use Rattle.records.specs.declared.checks.Checked.TheVariants as checked
use Rattle.records.specs.declared.tokens.Refusal.{Refusal}
use Rattle.records.proofs.CheckLaws as checks
use Rattle.records.specs.Tokens.{token_size}
use Rattle.records.specs.Events.{event_size}
use Rattle.tables.specs.Handles.{handle_size}
use Rattle.tables.specs.Anchors.{anchor_size}
use Rattle.tables.specs.States.{state_size}
use Rattle.rules.specs.Run.{fresh}
use Rattle.parser.specs.Machine as machine
use Rattle.parser.specs.Machine.{rooms}
use Rattle.parser.specs.declared.Machine.{Machine}
use Rattle.parser.specs.declared.Terms.{Terms}
use Rattle.run.specs.Run.{told, cleared, rooms_of, checked_run, runs, left}
use Rattle.run.specs.Turns.{answered, tell, terms_of, Cleared, given_of, Tidy, Ready, rest}
use Rattle.run.specs.declared.Answer.{Answer}
use Rattle.run.specs.declared.Settings.{Settings}

module _ (tokens text : List ℕ) (settings : Settings) (events states anchors handles : List ℕ) where
  -- a list that passed
  module _ (n : ℕ) (e : first_checks tokens (length text) ≡ checked.Passed n) (t : Terms) (i : t ≡ terms_of settings (length states) (length anchors) (length handles)) where
    passed_all : first_checks tokens (length text) ≡ checked.Passed (places tokens token_size)
    passed_all = e ∙ ap checked.Passed (checks.passed tokens (length text) n e).count

    pub ready : Tidy states anchors handles machine.fresh → Ready tokens text t states anchors handles
    unfolding terms_of
    ready u = record { passed = passed_all; opens = rw i; names = rw i; tags = rw i; unused = u }

    pub told_passed : checked_run (first_checks tokens (length text)) tokens text settings (rooms_of states anchors handles) events
        ≡ told events (rest tokens text t (places events event_size) fresh)
    unfolding checked_run rest rooms rooms_of given_of terms_of
    told_passed = rw (passed_all, i)

  pub told_refused : (e : Refusal) → first_checks tokens (length text) ≡ checked.Refused e
      → tell (answered e.number 0 e.place) events ≡ checked_run (first_checks tokens (length text)) tokens text settings (rooms_of states anchors handles) events
  unfolding checked_run tell answered
  told_refused e q = rw q

-- cleared work memory is zero, whatever is in use
pub tidy-cleared : {s a h s' a' h' : List ℕ} (m : Machine) → Cleared s a h s' a' h' → Tidy s' a' h' m
unfolding cleared
tidy-cleared {s} {a} {h} m c = rw (c.states, c.anchors, c.handles) (record {
  states = unused_all s state_size m.depth;
  anchors = unused_all a anchor_size m.names;
  handles = unused_all h handle_size m.handles;
})

-- zeroing does not ask what stood there
pub zeroed-whole : (b c : List ℕ) → length b ≡ length c → zeroed (length b) b ≡ zeroed (length c) c
unfolding zeroed
zeroed-whole b c e = rw (drop-length b, drop-length c, e)

-- the work memory is cleared before and behind
pub run-left : (tokens text : List ℕ) (settings : Settings) (events states anchors handles : List ℕ) (r : Answer) (events' s a h s' a' h' s'' a'' h'' : List ℕ)
    → (length s ≡ length states) × (length a ≡ length anchors) × (length h ≡ length handles)
    → (length s' ≡ length states) × (length a' ≡ length anchors) × (length h' ≡ length handles)
    → tell r events' ≡ checked_run (first_checks tokens (length text)) tokens text settings (rooms_of s a h) events
    → Cleared s' a' h' s'' a'' h''
    → left r events' s'' a'' h'' ≡ runs tokens text settings events states anchors handles
unfolding left runs cleared tell rooms_of
run-left tokens text settings events states anchors handles r events' s a h s' a' h' s'' a'' h'' l l' e k =
    let q : tell r events' ≡ checked_run (first_checks tokens (length text)) tokens text settings (rooms_of states anchors handles) events = rw (l.0, l.1, l.2) at e in
    let x : s'' ≡ zeroed (length states) states = k.states ∙ zeroed-whole s' states l'.0 in
    let y : a'' ≡ zeroed (length anchors) anchors = k.anchors ∙ zeroed-whole a' anchors l'.1 in
    let z : h'' ≡ zeroed (length handles) handles = k.handles ∙ zeroed-whole h' handles l'.2 in
    rw (x, y, z, ← q)
