-- One turn of the directives: the rule goes on behind a directive, or answers. Assumes nothing.
use mathlib.Core.Path.{◌≡◌, refl, sym, ◌∙◌}
use mathlib.Core.Bool.{Bool, true, false}
use mathlib.Core.List.{[]}
use Prim.Native.Nat.{ℕ, zero, suc, ◌+◌, ◌-◌, ◌≤◌, ◌<◌}
use native.Mathlib.Omega.{arith}
use native.Mathlib.Numerals.{add-one}
use borrow.Author.Tests.{eqb-true, ne_eqb, le-leb, lt-leb, ltb-true, ltb-false}
use lib.Dec.{leb, ltb}
use lib.ListN.{length}
use Rattle.places.specs.Places.{places}
use Rattle.records.specs.Tokens.{token_size, read_at}
use Rattle.records.specs.declared.tokens.Token.{Token}
use Rattle.records.specs.declared.tokens.Refusal.{Refusal}
use Rattle.records.specs.declared.tokens.Read.{Read}
use Rattle.records.specs.declared.tokens.Read.TheVariants as read
use Rattle.records.proofs.TokenLaws.{inside}
use Rattle.tables.specs.Lookup.{find}
use Rattle.tables.specs.Handles.{handle_size, named, handle_at, handles_of}
use Rattle.tables.specs.declared.lookup.Found.{Found}
use Rattle.tables.specs.declared.lookup.Found.TheVariants as found
use Rattle.tables.proofs.TableLaws.{length_table}
use Rattle.rules.specs.Rules as rules
use Rattle.rules.specs.Rules.{declare, parser_process_directives, after_directives, explicit_document_start}
use Rattle.rules.specs.Rules.Words as r
use Rattle.rules.specs.Rules.Words.{choose◌then◌else◌, is, first, hit?, look, seen}
use Rattle.rules.specs.Run.{limit, room, short}
use Rattle.parser.specs.Machine.{Lent, lent, given, small, rooms}
use Rattle.parser.specs.Answers.{answer, decided, refusing}
use Rattle.parser.specs.Documents.{unset, counted, tag_directive, directive_read, directive}
use Rattle.parser.specs.declared.Machine.{Machine}
use Rattle.parser.specs.declared.Step.{Step}
use Rattle.parser.specs.declared.Step.TheVariants as st
use Rattle.parser.specs.declared.directives.Directive.{Directive}
use Rattle.parser.specs.declared.directives.Directive.TheVariants as d
use Rattle.parser.proofs.NodeLaws.{handle_none, handle_at_lem}
use Rattle.parser.proofs.DirectiveLaws.{declare-unset, own, count_other, count_kept, count_new}

hit_got : {A : Type 0} {h : r.Hit A} {a : A} → h ≡ r.Got a → hit? h ≡ true
unfolding hit?
hit_got e = rw e

hit_miss : {A : Type 0} {h : r.Hit A} → h ≡ r.Miss → hit? h ≡ false
unfolding hit?
hit_miss e = rw e

not_tag : (t : Token) → is t r.VERSION_DIRECTIVE ≡ true → is t r.TAG_DIRECTIVE ≡ false
unfolding is
not_tag t e = let k = eqb-true t.kind 3 e in ne_eqb t.kind 4 (λ h. omega arith)

less : (a b : ℕ) → ltb a b ≡ leb (a + 1) b
less a b = go (ltb a b) refl where
  go : (t : Bool) → ltb a b ≡ t → t ≡ leb (a + 1) b
  go true e = let h = ltb-true a b e in sym (le-leb (a + 1) b (omega arith))
  go false e = let h = ltb-false a b e in sym (lt-leb (a + 1) b (omega arith))

module _ (x : Lent) (m : Machine) (from : ℕ) where
  -- the answer of the rule for the directives from `at` on, in the n next tokens
  abbrev pub onward : ℕ → ℕ → Bool → Step
  onward n at version = answer x m (limit (rooms x.terms) (parser_process_directives (given x) (small x m) from n at version (after_directives (given x) (small x m) from)))

  -- how many handles there are up to `at`
  abbrev pub declared_to : ℕ → ℕ
  declared_to at = length (declare (unset x.tokens x.text) (at - from) from (handles_of x.tags m.handles))

  -- what one turn at `at` tells of an answer
  pub data Turned (o : Step) (at : ℕ) : Directive → Type 0 where
    done : (s : Step) → o ≡ s → Turned o at (d.Done s)
    on : (v : Bool) (u : ℕ) → at < places x.tokens token_size → o ≡ onward (places x.tokens token_size - suc at) (suc at) v → u ≡ declared_to (suc at) → Turned o at (d.On v u)

  turn_refused : (n at : ℕ) (version : Bool) (e : Refusal) → read_at x.tokens (length x.text) at ≡ read.Refused e → onward n at version ≡ st.Refused e
  unfolding parser_process_directives after_directives look seen given limit answer refusing
  turn_refused zero at version e q = rw q
  turn_refused (suc n) at version e q = rw q

  module _ (at : ℕ) (version : Bool) (used : ℕ) (t : Token) (behind : from ≤ at) (q : read_at x.tokens (length x.text) at ≡ read.Token t)
      (u : used ≡ declared_to at) where
    abbrev rest : Bool → r.Decision
    rest v = parser_process_directives (given x) (small x m) from (places x.tokens token_size - suc at) (suc at) v (after_directives (given x) (small x m) from)

    abbrev answered : r.Decision → Step
    answered d = answer x m (limit (rooms x.terms) d)

    here : at < places x.tokens token_size
    here = inside x.tokens (length x.text) at refl q

    -- the handle is kept or new, and there is room for all or not
    turn_room : (L : ℕ) → L ≡ declared_to (suc at) → (b : Bool) → leb L x.terms.handles ≡ b → (e : Directive)
        → e ≡ (choose b then d.On version L else d.Done (refusing 25 0)) → Turned (answered (r.Wants r.HandlePlace (declared_to (suc at)) (rest version))) at e
    unfolding limit answer refusing rooms room short choose◌then◌else◌
    turn_room L l true b e k = rw (k, ← l, b) (on version L here refl l)
    turn_room L l false b e k = rw (k, ← l, b) (done _ refl)

    turn_counted : is t r.TAG_DIRECTIVE ≡ true → own x.tokens x.text t.a from (at - from) ≡ false → (f : Found) → f ≡ find x.text x.tags handle_size m.handles t.a
        → Turned (answered (r.Wants r.HandlePlace (declared_to (suc at)) (rest version))) at (counted x.terms.handles f version used)
    unfolding counted
    turn_counted k o (found.At i) e =
        let h : hit? (first (named x.text t.a) (handles_of x.tags m.handles)) ≡ true = hit_got (handle_at_lem x.text x.tags m.handles t.a e i refl) in
        turn_room used (u ∙ count_kept x.tokens x.text from at (handles_of x.tags m.handles) behind t q k o h) _ refl _ refl
    turn_counted k o found.Nothing e =
        let h : hit? (first (named x.text t.a) (handles_of x.tags m.handles)) ≡ false = hit_miss (handle_none x.text x.tags m.handles t.a e refl) in
        turn_room (used + 1) (rw (add-one, u) (count_new x.tokens x.text from at (handles_of x.tags m.handles) behind t q k o h)) _ refl _ (rw (less used x.terms.handles))

    turn_tag : is t r.TAG_DIRECTIVE ≡ true → Turned (answered (rules.tag_directive (given x) (small x m) from at t (rest version))) at (tag_directive x m from at version used t)
    unfolding rules.tag_directive tag_directive given small limit answer refusing choose◌then◌else◌
    turn_tag k =
        rw (declare-unset x (at - from) from [], declare-unset x (suc at - from) from (handles_of x.tags m.handles))
        (go (own x.tokens x.text t.a from (at - from)) refl)
      where
        go : (b : Bool) → own x.tokens x.text t.a from (at - from) ≡ b
            → Turned (answered (choose b then r.Refused 4 t.start else r.Wants r.HandlePlace (declared_to (suc at)) (rest version))) at (choose b then d.Done (refusing 4 t.start) else counted x.terms.handles (find x.text x.tags handle_size m.handles t.a) version used)
        go true o = done _ refl
        go false o = turn_counted k o _ refl

    other : is t r.TAG_DIRECTIVE ≡ false → used ≡ declared_to (suc at)
    other n = u ∙ count_other x.tokens x.text from at (handles_of x.tags m.handles) behind t q n

    -- what the rule does with the token
    turn_token : Turned (onward (suc (places x.tokens token_size - suc at)) at version) at (directive_read x m from at version used (read.Token t))
    unfolding parser_process_directives directive_read look seen given limit answer refusing decided choose◌then◌else◌
    turn_token = rw q (version? (is t r.VERSION_DIRECTIVE) refl) where
      reserved : (b : Bool) → is t r.TAG_DIRECTIVE ≡ false
          → Turned (answered (choose b then rest version else after_directives (given x) (small x m) from at)) at (choose b then d.On version used else d.Done (decided x m (λ g m. after_directives g m from at)))
      reserved true n = on version used here refl (other n)
      reserved false n = done _ refl

      tag? : (b : Bool) → is t r.TAG_DIRECTIVE ≡ b
          → Turned (answered (choose b then rules.tag_directive (given x) (small x m) from at t (rest version) else choose is t r.RESERVED_DIRECTIVE then rest version else after_directives (given x) (small x m) from at)) at (choose b then tag_directive x m from at version used t else choose is t r.RESERVED_DIRECTIVE then d.On version used else d.Done (decided x m (λ g m. after_directives g m from at)))
      tag? true k = turn_tag k
      tag? false n = reserved (is t r.RESERVED_DIRECTIVE) n

      twice? : (b : Bool) → is t r.TAG_DIRECTIVE ≡ false
          → Turned (answered (choose b then r.Refused 3 t.start else rest true)) at (choose b then d.Done (refusing 3 t.start) else d.On true used)
      twice? true n = done _ refl
      twice? false n = on true used here refl (other n)

      version? : (b : Bool) → is t r.VERSION_DIRECTIVE ≡ b
          → Turned (answered (choose b then (choose version then r.Refused 3 t.start else rest true) else choose is t r.TAG_DIRECTIVE then rules.tag_directive (given x) (small x m) from at t (rest version) else choose is t r.RESERVED_DIRECTIVE then rest version else after_directives (given x) (small x m) from at)) at (choose b then (choose version then d.Done (refusing 3 t.start) else d.On true used) else choose is t r.TAG_DIRECTIVE then tag_directive x m from at version used t else choose is t r.RESERVED_DIRECTIVE then d.On version used else d.Done (decided x m (λ g m. after_directives g m from at)))
      version? true k = twice? version (not_tag t k)
      version? false n = tag? (is t r.TAG_DIRECTIVE) refl

  pub turn : (at : ℕ) (version : Bool) (used : ℕ) → from ≤ at → used ≡ declared_to at
      → Turned (onward (places x.tokens token_size - at) at version) at (directive x m from at version used)
  unfolding directive directive_read
  turn at version used behind u = go (read_at x.tokens (length x.text) at) refl where
    go : (e : Read) → read_at x.tokens (length x.text) at ≡ e
        → Turned (onward (places x.tokens token_size - at) at version) at (directive_read x m from at version used e)
    go (read.Refused e) q = done _ (turn_refused (places x.tokens token_size - at) at version e q)
    go (read.Token t) q =
        let h : at < places x.tokens token_size = inside x.tokens (length x.text) at refl q in
        let n : places x.tokens token_size - at ≡ suc (places x.tokens token_size - suc at) = omega arith in
        rw n (turn_token at version used t behind q u)

  -- the turn that answers, and the turn that goes on
  pub turned_done : (o : Step) (at : ℕ) {e : Directive} {s : Step} → Turned o at e → e ≡ d.Done s → o ≡ s
  turned_done o at (done s p) q = cc
  turned_done o at (on v u h p k) q = let z : ◌≡◌ {A = ℕ} 0 1 = cc in absurd (omega arith)

  pub turned_on : (o : Step) (at : ℕ) {e : Directive} {v : Bool} {u : ℕ} → Turned o at e → e ≡ d.On v u
      → (at < places x.tokens token_size) × (o ≡ onward (places x.tokens token_size - suc at) (suc at) v) × (u ≡ declared_to (suc at))
  turned_on o at (done s p) q = let z : ◌≡◌ {A = ℕ} 0 1 = cc in absurd (omega arith)
  turned_on o at {v = v} {u = u} (on v' u' h p k) q =
      let e : v' ≡ v = cc in
      let f : u' ≡ u = cc in
      (h, rw e at p, rw f at k)

  -- the rule at the start, and what the loop starts with
  pub turn_start : decided x m (λ g m. explicit_document_start g m from) ≡ onward (places x.tokens token_size - from) from false
  unfolding decided explicit_document_start given
  turn_start = refl

  pub declared_none : m.handles ≡ declared_to from
  unfolding declare handles_of
  declared_none = let e : from - from ≡ 0 = omega arith in rw e (sym (length_table (handle_at x.tags) (handle_at x.tags) 0 m.handles))

-- the other anchors are not looked at
pub tag_same : (x : Lent) (m : Machine) (from at : ℕ) (version : Bool) (used : ℕ) (t : Token)
    → tag_directive (lent x.tokens x.text [] x.tags x.terms) m from at version used t ≡ tag_directive x m from at version used t
unfolding tag_directive lent
tag_same x m from at version used t = refl
