-- The bound of demand 3 is met, for every number of tokens from 2 on and all settings. Assumes nothing.
use mathlib.Core.Path.{◌≡◌, refl, ap, ◌∙◌}
use mathlib.Core.Bool.{Bool, true, false}
use mathlib.Core.List.{List, [], ◌∷◌}
use Prim.Native.Nat.{ℕ, zero, suc, ◌+◌, ◌-◌, ◌*◌, ◌≤◌, ◌<◌}
use mathlib.Core.Logic.{⊎_elim}
use native.Mathlib.Nat.{sub_self, eq-or-lt_of_le}
use native.Mathlib.Omega.{arith}
use borrow.Author.Tests.{le-leb}
use lib.ListN.{length}
use Rattle.records.specs.declared.tokens.Token.{Token}
use Rattle.records.specs.declared.tokens.Read.TheVariants as read
use Rattle.records.specs.declared.events.Event.{Event}
use Rattle.rules.specs.States.{numbers, ranked}
use Rattle.rules.specs.Rules as w
use Rattle.rules.specs.Rules.{choose◌then◌else◌, Given, Small, Decision}
use Rattle.rules.specs.Run.{Rooms, room, limit, Model, small, fresh, named, numbered, handled, Go, after, moved, settle, step, Outcome, stop, store, ended, onward, run}
use Rattle.rules.specs.Lists.{read_in, listed}
use Rattle.rules.specs.Starred.{bare}
use Rattle.rules.specs.Documents.{starts, documents, Ends}
use Rattle.rules.specs.declared.State.{State}
use Rattle.rules.specs.declared.State.TheVariants as s

-- the two tokens that end a document
data Border : Token → Type 0 where
  start : Border (bare w.DOCUMENT_START 0 0)
  end : Border (bare w.STREAM_END 0 0)

look_is : (g : Given) (at : ℕ) {t : Token} (k : Token → Decision) → g.read at ≡ read.Token t → w.look g at k ≡ k t
unfolding w.look w.seen
look_is g at k e = rw e

past_none : (g : Given) (at : ℕ) {t : Token} (ks : List ℕ) (n : ℕ) → g.read at ≡ read.Token t → w.among t ks ≡ false
    → w.past g ks n at ≡ at
unfolding w.past w.passes choose◌then◌else◌
past_none g at ks zero e q = refl
past_none g at ks (suc n) e q = rw (e, q)

module _ (g : Given) (m : Small) where
  no_directives : (from n : ℕ) (version : Bool) (k : ℕ → Decision) → g.read m.at ≡ read.Token (bare w.DOCUMENT_START 0 0)
      → w.parser_process_directives g m from n m.at version k ≡ k m.at
  unfolding w.parser_process_directives choose◌then◌else◌ w.is bare
  no_directives from zero version k e = refl
  no_directives from (suc n) version k e = look_is g m.at _ e

  -- a document's content is missing where one of them comes, and the document ends there
  content_missing : {t : Token} → Border t → g.read m.at ≡ read.Token t
      → w.document_content g m ≡ w.give m.at w.Pop (w.plain 6 0 0 0)
  unfolding w.document_content w.empty_scalar choose◌then◌else◌ w.among w.one_of bare
  content_missing start e = look_is g m.at _ e
  content_missing end e = look_is g m.at _ e

  document_over : {t : Token} → Border t → g.read m.at ≡ read.Token t
      → w.document_end g m ≡ w.document_ends g m.at (bare w.DOCUMENT_START 0 0) s.DocumentStart
  unfolding w.document_end w.document_end_at w.document_ends choose◌then◌else◌ w.is w.among w.one_of bare
  document_over start e = look_is g m.at _ e ∙ look_is g m.at _ e
  document_over end e = look_is g m.at _ e ∙ look_is g m.at _ e

  outer : {t : Token} → Border t → g.read m.at ≡ read.Token t → (implicit : Bool)
      → w.document_start g m implicit ≡ w.document_start_at g m implicit m.at
  unfolding w.document_start w.among w.one_of bare
  outer start e implicit = ap (w.document_start_at g m implicit) (past_none g m.at _ _ e refl)
  outer end e implicit = ap (w.document_start_at g m implicit) (past_none g m.at _ _ e refl)

  document_opened : (implicit : Bool) → g.read m.at ≡ read.Token (bare w.DOCUMENT_START 0 0)
      → w.document_start g m implicit ≡ w.document g m (suc m.at) (bare w.DOCUMENT_START 0 0) 1 s.DocumentContent (w.TagsDeclared m.at m.at)
  unfolding w.document_start_at w.explicit_document_start w.after_directives choose◌then◌else◌ w.is w.among w.one_of bare
  document_opened implicit e = outer start e implicit ∙ look_is g m.at _ e ∙ no_directives m.at _ false _ e ∙ look_is g m.at _ e

  stream_ended : (implicit : Bool) → g.read m.at ≡ read.Token (bare w.STREAM_END 0 0)
      → w.document_start g m implicit ≡ w.give (suc m.at) (w.Stay s.End) (w.plain 2 0 0 0)
  unfolding w.document_start_at choose◌then◌else◌ w.is bare
  stream_ended implicit e = outer end e implicit ∙ look_is g m.at _ e

-- a machine with nothing in its tables, behind the token i
unfoldable machine : State → ℕ → List State → Model
machine state i stack = record { state = state; at = suc i; stack = stack; anchors = []; handles = []; next = 1 }

no_names : (g : Given) (m : Model) (t : Bool) → m.anchors ≡ [] → named g m (choose t then w.NamesForgotten else w.NamesKept) ≡ []
unfolding named choose◌then◌else◌
no_names g m true e = refl
no_names g m false e = e

no_number : (n : ℕ) (t : Bool) → numbered n (choose t then w.NamesForgotten else w.NamesKept) ≡ n
unfolding numbered choose◌then◌else◌
no_number n true = refl
no_number n false = refl

no_tags : (g : Given) (m : Model) (t : Bool) → m.handles ≡ [] → handled g m (choose t then w.TagsKept else w.TagsForgotten) ≡ []
unfolding handled choose◌then◌else◌
no_tags g m true e = e
no_tags g m false e = refl

-- between documents: the flag says whether one may start without its marker
data Outer : State → Bool → Type 0 where
  first : Outer s.ImplicitDocumentStart true
  later : Outer s.DocumentStart false

outer_machine : (g : Given) (m : Small) {state : State} {implicit : Bool} → Outer state implicit
    → w.state_machine g m state ≡ w.document_start g m implicit
unfolding w.state_machine
outer_machine g m first = refl
outer_machine g m later = refl

module _ (r : Rooms) (g : Given) where
  opened : (i : ℕ) {state : State} {implicit : Bool} → Outer state implicit → 0 < r.opens
      → g.read (suc i) ≡ read.Token (bare w.DOCUMENT_START 0 0)
      → step r g (machine state i []) ≡ Go (w.plain 3 0 0 1) (machine s.DocumentContent (suc i) (s.DocumentEnd ∷ []))
  unfolding step limit settle moved after handled w.declare machine room small w.document w.push_state w.document_names choose◌then◌else◌ bare
  opened i {state} {implicit} o h e =
      let m = machine state i [] in
      rw (outer_machine g (small m) o, document_opened g (small m) implicit e, le-leb 1 r.opens h, no_names g m g.forget refl, no_number 1 g.forget, sub_self (suc i))

  emptied : (i : ℕ) {t : Token} → Border t → g.read (suc i) ≡ read.Token t
      → step r g (machine s.DocumentContent i (s.DocumentEnd ∷ [])) ≡ Go (w.plain 6 0 0 0) (machine s.DocumentEnd i [])
  unfolding step limit settle moved after named numbered handled machine small w.state_machine w.give
  emptied i b e = rw (content_missing g (small (machine s.DocumentContent i (s.DocumentEnd ∷ []))) b e)

  closed : (i : ℕ) {t : Token} → Border t → g.read (suc i) ≡ read.Token t
      → step r g (machine s.DocumentEnd i []) ≡ Go (w.plain 4 0 0 0) (machine s.DocumentStart i [])
  unfolding step limit settle moved after named numbered machine small w.state_machine w.document_ends bare
  closed i b e =
      let m = machine s.DocumentEnd i [] in
      rw (document_over g (small m) b e, no_tags g m g.keep refl)

  finished : (i : ℕ) {state : State} {implicit : Bool} → Outer state implicit
      → g.read (suc i) ≡ read.Token (bare w.STREAM_END 0 0)
      → step r g (machine state i []) ≡ Go (w.plain 2 0 0 0) (machine s.End (suc i) [])
  unfolding step limit settle moved after named numbered handled machine small w.give
  finished i {state} {implicit} o e =
      let m = machine state i [] in
      rw (outer_machine g (small m) o, stream_ended g (small m) implicit e)

  run_go : (n : ℕ) (m m' : Model) (e : Event) → step r g m ≡ Go e m' → ended m'.state ≡ false
      → run r g (suc n) m ≡ store e (run r g n m')
  unfolding run onward choose◌then◌else◌
  run_go n m m' e q f = rw (q, f)

  run_end : (n : ℕ) (m m' : Model) (e : Event) → step r g m ≡ Go e m' → ended m'.state ≡ true
      → run r g (suc n) m ≡ store e (stop m' 0 0)
  unfolding run onward choose◌then◌else◌
  run_end n m m' e q f = rw (q, f)

ends_store : (e : Event) {o : Outcome} {c d : ℕ} → Ends o c → d ≡ suc c → Ends (store e o) d
unfolding store
ends_store e h q = record { number = h.number; events = omega arith }

-- room for the events of d documents, the StreamEnd and n more
rounds : ℕ → ℕ → ℕ
rounds zero n = suc n
rounds (suc d) n = suc (suc (suc (rounds d n)))

rounds_is : (d n : ℕ) → rounds d n ≡ 3 * d + 1 + n
unfolding rounds
rounds_is zero n = omega arith
rounds_is (suc d) n = omega (arith, rounds_is d n)

record Bordered (g : Given) (i : ℕ) : Type 0 where
  token : Token
  border : Border token
  there : g.read (suc i) ≡ read.Token token

module _ (r : Rooms) (g : Given) (k : ℕ) (room-one : 0 < r.opens)
    (reads : (i : ℕ) → i < k → g.read (suc i) ≡ read.Token (bare w.DOCUMENT_START 0 0))
    (last : g.read (suc k) ≡ read.Token (bare w.STREAM_END 0 0)) where
  bordered : (i : ℕ) → i ≤ k → Bordered g i
  bordered i h = ⊎_elim
      (λ q. record { token = _; border = end; there = rw q last })
      (λ q. record { token = _; border = start; there = reads i q })
      (eq-or-lt_of_le h)

  one_document : (i n : ℕ) {state : State} {implicit : Bool} → Outer state implicit → i < k
      → run r g (suc (suc (suc n))) (machine state i [])
      ≡ store (w.plain 3 0 0 1) (store (w.plain 6 0 0 0) (store (w.plain 4 0 0 0) (run r g n (machine s.DocumentStart (suc i) []))))
  unfolding ended numbers ranked machine
  one_document i n {state} o h =
      let b = bordered (suc i) h in
      run_go r g _ (machine state i []) _ _ (opened r g i o room-one (reads i h)) refl
      ∙ ap (store (w.plain 3 0 0 1)) (run_go r g _ _ _ _ (emptied r g (suc i) b.border b.there) refl
      ∙ ap (store (w.plain 6 0 0 0)) (run_go r g _ _ _ _ (closed r g (suc i) b.border b.there) refl))

  all_documents : (d i n : ℕ) {state : State} {implicit : Bool} → Outer state implicit → i + d ≡ k
      → Ends (run r g (rounds d n) (machine state i [])) (3 * d + 1)
  unfolding rounds ended numbers ranked machine stop store
  all_documents zero i n {state} o q =
      let p : i ≡ k = omega arith in
      rw (p, run_end r g n (machine state k []) _ _ (finished r g k o last) refl) (record { number = refl; events = refl })
  all_documents (suc d) i n o q =
      rw (one_document i (rounds d n) o (omega arith))
      (ends_store _ (ends_store _ (ends_store _ (all_documents d (suc i) n later (omega arith)) refl) refl) (omega arith))

read_start : (place k i : ℕ) → i < k → read_in place (starts k) i ≡ read.Token (bare w.DOCUMENT_START 0 0)
unfolding read_in starts
read_start place zero i h = absurd (omega arith)
read_start place (suc k) zero h = refl
read_start place (suc k) (suc i) h = read_start place k i (omega arith)

read_end : (place k : ℕ) → read_in place (starts k) k ≡ read.Token (bare w.STREAM_END 0 0)
unfolding read_in starts
read_end place zero = refl
read_end place (suc k) = read_end place k

starts-length : (k : ℕ) → length (starts k) ≡ suc k
unfolding starts
starts-length zero = refl
starts-length (suc k) = ap suc (starts-length k)

pub documents-length : (A : ℕ) → 2 ≤ A → length (documents A) ≡ A
unfolding documents
documents-length A h = omega (arith, starts-length (A - 2))

started : (r : Rooms) (g : Given) → g.read 0 ≡ read.Token (bare w.STREAM_START 0 0)
    → step r g fresh ≡ Go (w.plain 1 0 0 0) (machine s.ImplicitDocumentStart 0 [])
unfolding step limit settle moved after named numbered handled machine small fresh w.state_machine w.stream_start w.give choose◌then◌else◌ w.is bare
started r g e = rw (look_is g 0 _ e)

-- exactly 3A - 4 events, with room for them and for one open state
pub witness : (r : Rooms) (A n : ℕ) (text : List ℕ) (keep forget : Bool) → 2 ≤ A → 0 < r.opens → 3 * A - 4 ≤ n
    → Ends (run r (listed (documents A) text keep forget) n fresh) (3 * A - 4)
unfolding ended numbers ranked machine listed documents read_in
witness r A n text keep forget h o l =
    let g = listed (documents A) text keep forget in
    let k = A - 2 in
    let x = n - (3 * A - 4) in
    let q : n ≡ suc (rounds k x) = omega (arith, rounds_is k x) in
    rw (q, run_go r g (rounds k x) fresh _ _ (started r g refl) refl)
    (ends_store _ (all_documents r g k o (read_start _ k) (read_end _ k) k 0 x first (omega arith)) (omega arith))
