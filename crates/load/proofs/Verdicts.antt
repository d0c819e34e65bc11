-- What the walk says of a list is true: what passes is derived, and what is refused cannot stand where it is. Assumes nothing.
use mathlib.Core.Path.{◌≡◌, refl, sym, ap, ◌∙◌, subst}
use mathlib.Core.Bool.{Bool, true, false, cond}
use mathlib.Core.Logic.{◌⊎◌, inl, inr, ⊎_elim}
use mathlib.Core.List.{List, [], ◌∷◌, ◌++◌, append_assoc}
use Prim.Native.Nat.{ℕ, suc, max, ◌+◌, ◌≤◌}
use native.Mathlib.Omega.{arith}
use lib.Dec.{eqb, ltb}
use lib.ListN.{length}
use borrow.Author.Tests.{eqb-true, ltb-true, ltb-false}
use Rattle.rules.specs.Walk.{Open, Place, outside, between, inside, after, over, ended, Lead, to, no, enter, begin, within, lead, finish, onward, walk, Walked, passed, refused, May}
use Rattle.rules.specs.Walk as k
use Rattle.rules.proofs.Walks.{may_lead}
use Rattle.load.specs.Grammar.{Tree, alias, scalar, sequence, mapping, Trees, none, more, Pairs, done, pair, tree, trees, pairs, depth, depths, deep, documents, stream, Derived, Why, early, stray, full, Refusal}
use Rattle.load.proofs.Accepts.{on, can_end}

-- at most 1,000 are open
abbrev Small : Place → Type 0
Small outside = Unit {0}
Small between = Unit {0}
Small (inside o) = length o ≤ 1000
Small after = Unit {0}
Small over = Unit {0}

ended-small : (o : List Open) → length o ≤ 1000 → Small (ended o)
ended-small [] h = tt
ended-small (k.sequence ∷ o) h = h
ended-small (k.key ∷ o) h = h
ended-small (k.value ∷ o) h = h

-- what an event does at a place: it may stand there, or not, or 1,000 are open
data Does (p : Place) (kind : ℕ) : Lead → Type 0 where
  leads : {q : Place} → May p kind q → Small q → Does p kind (to q)
  cannot : Does p kind (no 30)
  deep_in : (o : List Open) → p ≡ inside o → (kind ≡ 7) ⊎ (kind ≡ 9) → length o ≡ 1000 → Does p kind (no 31)

does_if : (p : Place) (kind n : ℕ) {a b : Lead} → (kind ≡ n → Does p kind a) → Does p kind b → Does p kind (cond (eqb kind n) a b)
does_if p kind n {a = a} {b = b} f g = go (eqb kind n) refl where
  go : (t : Bool) → eqb kind n ≡ t → Does p kind (cond t a b)
  go true e = f (eqb-true kind n e)
  go false e = g

does_enter : (o : List Open) (kind : ℕ) (x : Open) → length o ≤ 1000 → (kind ≡ 7) ⊎ (kind ≡ 9) → May (inside o) kind (inside (x ∷ o))
    → Does (inside o) kind (enter x o)
unfolding enter
does_enter o kind x s e m = go (ltb (length o) 1000) refl where
  go : (t : Bool) → ltb (length o) 1000 ≡ t → Does (inside o) kind (cond t (to (inside (x ∷ o))) (no 31))
  go true q = leads m (omega (arith, ltb-true (length o) 1000 q))
  go false q = deep_in o refl e (omega (arith, ltb-false (length o) 1000 q))

does_begin : (o : List Open) (kind : ℕ) → length o ≤ 1000 → Does (inside o) kind (begin o kind)
unfolding begin
does_begin o kind s =
    does_if _ kind 5 (λ e. leads (rw e k.alias) (ended-small o s))
    (does_if _ kind 6 (λ e. leads (rw e k.scalar) (ended-small o s))
    (does_if _ kind 7 (λ e. does_enter o kind k.sequence s (inl e) (rw e k.sequence_start))
    (does_if _ kind 9 (λ e. does_enter o kind k.key s (inr e) (rw e k.mapping_start)) cannot)))

does : (p : Place) (kind : ℕ) → Small p → Does p kind (lead p kind)
unfolding lead within
does outside kind s = does_if _ kind 1 (λ e. leads (rw e k.stream_start) tt) cannot
does between kind s =
    does_if _ kind 2 (λ e. leads (rw e k.stream_end) tt) (does_if _ kind 3 (λ e. leads (rw e k.document_start) (omega arith)) cannot)
does (inside []) kind s = does_begin [] kind s
does (inside (k.sequence ∷ o)) kind s =
    does_if _ kind 8 (λ e. leads (rw e k.sequence_end) (ended-small o (omega arith))) (does_begin (k.sequence ∷ o) kind s)
does (inside (k.key ∷ o)) kind s =
    does_if _ kind 10 (λ e. leads (rw e k.mapping_end) (ended-small o (omega arith))) (does_begin (k.key ∷ o) kind s)
does (inside (k.value ∷ o)) kind s = does_begin (k.value ∷ o) kind s
does after kind s = does_if _ kind 4 (λ e. leads (rw e k.document_end) tt) cannot
does over kind s = cannot

-- what the grammar leaves to come, where a node has ended in these collections and at a place
abbrev Documents : List ℕ → Type 0
Documents ks = (ts : Trees) × (ks ≡ documents ts ++ (2 ∷ [])) × (depths ts ≤ 1000)

abbrev After : List Open → List ℕ → Type 0
After [] ks = (ms : List ℕ) × (ks ≡ 4 ∷ ms) × Documents ms
After (k.sequence ∷ o) ks =
    (ts : Trees) × (ms : List ℕ) × (ks ≡ trees ts ++ (8 ∷ ms)) × (depths ts + suc (length o) ≤ 1000) × After o ms
After (k.key ∷ o) ks =
    (t : Tree) × (ps : Pairs) × (ms : List ℕ) × (ks ≡ tree t ++ (pairs ps ++ (10 ∷ ms))) × (max (depth t) (deep ps) + suc (length o) ≤ 1000) × After o ms
After (k.value ∷ o) ks =
    (ps : Pairs) × (ms : List ℕ) × (ks ≡ pairs ps ++ (10 ∷ ms)) × (deep ps + suc (length o) ≤ 1000) × After o ms

abbrev Inside : List Open → List ℕ → Type 0
Inside [] ks = (t : Tree) × (ms : List ℕ) × (ks ≡ tree t ++ ms) × (depth t ≤ 1000) × After [] ms
Inside (k.sequence ∷ o) ks = After (k.sequence ∷ o) ks
Inside (k.key ∷ o) ks = After (k.value ∷ o) ks
Inside (k.value ∷ o) ks = After (k.key ∷ o) ks

abbrev Rest : Place → List ℕ → Type 0
Rest outside ks = Derived ks
Rest between ks = Documents ks
Rest (inside o) ks = Inside o ks
Rest after ks = After [] ks
Rest over ks = ks ≡ []

ended-rest : (o : List Open) (ks : List ℕ) → Rest (ended o) ks → After o ks
ended-rest [] ks r = r
ended-rest (k.sequence ∷ o) ks r = r
ended-rest (k.key ∷ o) ks r = r
ended-rest (k.value ∷ o) ks r = r

-- a node before what comes after it
before : (o : List Open) (t : Tree) (ms : List ℕ) → depth t + length o ≤ 1000 → After o ms → Inside o (tree t ++ ms)
unfolding tree depth
before [] t ms h a = (t, ms, refl, omega arith, a)
before (k.sequence ∷ o) t ms h a = (
  more t a.0,
  a.1,
  ap (λ (l : List ℕ). tree t ++ l) a.2 ∙ sym (append_assoc (tree t) (trees a.0) (8 ∷ a.1)),
  omega (arith, a.3),
  a.4,
)
before (k.key ∷ o) t ms h a = (
  pair t a.0 a.1,
  a.2,
  ap (λ (l : List ℕ). tree t ++ l) (a.3 ∙ sym (append_assoc (tree a.0) (pairs a.1) (10 ∷ a.2)))
      ∙ sym (append_assoc (tree t) (tree a.0 ++ pairs a.1) (10 ∷ a.2)),
  omega (arith, a.4),
  a.5,
)
before (k.value ∷ o) t ms h a = (t, a.0, a.1, ap (λ (l : List ℕ). tree t ++ l) a.2, omega (arith, a.3), a.4)

one_more : {p q : Place} {kind : ℕ} (ks : List ℕ) → May p kind q → Small p → Small q → Rest q ks → Rest p (kind ∷ ks)
unfolding tree depth documents stream
one_more ks k.stream_start s t r = record { nodes = r.0; is = ap (λ (l : List ℕ). 1 ∷ l) r.1; nested = r.2 }
one_more ks k.stream_end s t r = (none, ap (λ (l : List ℕ). 2 ∷ l) r, omega arith)
one_more ks k.document_start s t r =
    let a = r.4 in (
      more r.0 a.2.0,
      ap (λ (l : List ℕ). 3 ∷ l)
          (r.2 ∙ ap (λ (l : List ℕ). tree r.0 ++ l) (a.1 ∙ ap (λ (l : List ℕ). 4 ∷ l) a.2.1)
          ∙ sym (append_assoc (tree r.0) (4 ∷ documents a.2.0) (2 ∷ []))),
      omega (arith, r.3, a.2.2),
    )
one_more ks k.document_end s t r = (ks, refl, r)
one_more ks (k.alias {o = o}) s t r = before o alias ks (omega arith) (ended-rest o ks r)
one_more ks (k.scalar {o = o}) s t r = before o scalar ks (omega arith) (ended-rest o ks r)
one_more ks (k.sequence_start {o = o}) s t r =
    subst (Inside o) (ap (λ (l : List ℕ). 7 ∷ l) (append_assoc (trees r.0) (8 ∷ []) r.1 ∙ sym r.2))
    (before o (sequence r.0) r.1 (omega (arith, r.3)) r.4)
one_more ks (k.sequence_end {o = o}) s t r = (none, ks, refl, omega arith, ended-rest o ks r)
one_more ks (k.mapping_start {o = o}) s t r =
    subst (Inside o) (ap (λ (l : List ℕ). 9 ∷ l) (append_assoc (pairs r.0) (10 ∷ []) r.1 ∙ sym r.2))
    (before o (mapping r.0) r.1 (omega (arith, r.3)) r.4)
one_more ks (k.mapping_end {o = o}) s t r = (done, ks, refl, omega arith, ended-rest o ks r)

pub data Verdict (p : Place) (ks : List ℕ) : Walked → Type 0 where
  passes : Rest p ks → Verdict p ks passed
  stops : {m : ℕ} {rest : List ℕ} (i : ℕ) → i + length rest ≡ length ks → Refusal p ks m i → Verdict p ks (refused m rest)

here : (p : Place) (ks : List ℕ) (m : ℕ) → Why p ks m → Verdict p ks (refused m ks)
here p ks m why = stops {rest = ks} 0 (omega arith) (record {
  before = [];
  rest = ks;
  is = refl;
  index = refl;
  place = p;
  path = k.here;
  end = (can_end p).0;
  ends = (can_end p).1;
  why = why;
})

behind : {p q : Place} {kind : ℕ} {ks : List ℕ} {w : Walked} → lead p kind ≡ to q → May p kind q → Small p → Small q → Verdict q ks w
    → Verdict p (kind ∷ ks) w
behind {ks = ks} e m s t (passes r) = passes (one_more ks m s t r)
behind {p = p} {q = q} {kind = kind} e m s t (stops {rest = rest} i h r) = stops {rest = rest} (suc i) (omega arith) (record {
  before = kind ∷ r.before;
  rest = r.rest;
  is = ap (λ (l : List ℕ). kind ∷ l) r.is;
  index = ap suc r.index;
  place = r.place;
  path = k.on m r.path;
  end = r.end;
  ends = on p q kind (r.before ++ r.end) e ∙ r.ends;
  why = r.why;
})

-- what leads nowhere may not stand
strays : (p q : Place) (kind : ℕ) → lead p kind ≡ no 30 → May p kind q → ⊥
strays p q kind e m = ⊎_elim
    (λ (h : lead p kind ≡ to q). let z : ◌≡◌ {A = ℕ} 0 1 = cc in omega arith)
    (λ (h : lead p kind ≡ no 31). let z : ◌≡◌ {A = ℕ} 30 31 = cc in omega arith)
    (may_lead m)

step : (p : Place) (kind : ℕ) (ks : List ℕ) {l : Lead} → Small p → lead p kind ≡ l → Does p kind l
    → ((q : Place) → Small q → Verdict q ks (walk q ks)) → Verdict p (kind ∷ ks) (onward l (kind ∷ ks) λ q. walk q ks)
unfolding onward
step p kind ks s e (leads {q = q} m t) f = behind e m s t (f q t)
step p kind ks s e cannot f = here p (kind ∷ ks) 30 (stray (λ q. strays p q kind e))
step p kind ks s e (deep_in o h j d) f = rw h (here (inside o) (kind ∷ ks) 31 (full j d))

pub verdict : (ks : List ℕ) (p : Place) → Small p → Verdict p ks (walk p ks)
unfolding walk finish
verdict [] outside s = here outside [] 30 (early λ e. let z : ◌≡◌ {A = ℕ} 0 1 = cc in omega arith)
verdict [] between s = here between [] 30 (early λ e. let z : ◌≡◌ {A = ℕ} 0 1 = cc in omega arith)
verdict [] (inside o) s = here (inside o) [] 30 (early λ e. let z : ◌≡◌ {A = ℕ} 0 1 = cc in omega arith)
verdict [] after s = here after [] 30 (early λ e. let z : ◌≡◌ {A = ℕ} 0 1 = cc in omega arith)
verdict [] over s = passes refl
verdict (kind ∷ ks) p s = step p kind ks s refl (does p kind s) (verdict ks)
