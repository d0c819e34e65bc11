-- The directives before a document: whose handle stands among them, how many there are, and how the rule goes on from one
-- to the next. Assumes nothing.
use mathlib.Core.Path.{◌≡◌, refl, sym, ap, ◌∙◌}
use mathlib.Core.Bool.{Bool, true, false, ◌||◌, cond}
use mathlib.Core.List.{List, [], ◌∷◌}
use Prim.Native.Nat.{ℕ, zero, suc, ◌+◌, ◌-◌, ◌≤◌, ◌<◌}
use native.Mathlib.Omega.{arith}
use lib.ListN.{length}
use Rattle.records.specs.Names.{part, same_name}
use Rattle.records.specs.Tokens.{read_at}
use Rattle.records.specs.declared.names.Range.{Range}
use Rattle.records.specs.declared.tokens.Token.{Token}
use Rattle.records.specs.declared.tokens.Read.{Read}
use Rattle.records.specs.declared.tokens.Read.TheVariants as read
use Rattle.records.proofs.NameLaws.{same_eq}
use Rattle.tables.specs.Tables.{entered}
use Rattle.tables.specs.Handles.{named}
use Rattle.tables.specs.declared.handles.Handle.{Handle}
use Rattle.rules.specs.Lists.{in_bytes}
use Rattle.rules.proofs.Sizes.{entered_size}
use Rattle.rules.proofs.Granted.{declare_more}
use Rattle.rules.specs.Rules.{declare, declare_read}
use Rattle.rules.specs.Rules.Words as r
use Rattle.rules.specs.Rules.Words.{choose◌then◌else◌, is, first, hit?}
use Rattle.parser.specs.Machine.{Lent, given}
use Rattle.parser.specs.Documents.{unset, told}
use Rattle.parser.proofs.Arms.{or_true}

or_false : (b : Bool) → b ≡ b || false
or_false true = refl
or_false false = refl

or_assoc : (a b c : Bool) → (a || b) || c ≡ a || (b || c)
or_assoc true b c = refl
or_assoc false b c = refl

read_unset : (x : Lent) (r : Read) (hs : List Handle) → declare_read (given x) r hs ≡ declare_read (unset x.tokens x.text) r hs
unfolding declare_read given unset in_bytes
read_unset x (read.Token t) hs = refl
read_unset x (read.Refused e) hs = refl

-- what is declared is what reading shows, whatever is set
pub declare-unset : (x : Lent) (n at : ℕ) (hs : List Handle) → declare (given x) n at hs ≡ declare (unset x.tokens x.text) n at hs
unfolding declare given unset in_bytes
declare-unset x zero at hs = refl
declare-unset x (suc n) at hs =
    declare-unset x n (suc at) (declare_read (given x) (read_at x.tokens (length x.text) at) hs)
    ∙ ap (λ l. declare (unset x.tokens x.text) n (suc at) l) (read_unset x (read_at x.tokens (length x.text) at) hs)

-- equal names are found alike
alike : (text : List ℕ) (a b c : Range) → same_name text a b ≡ true → same_name text a c ≡ same_name text b c
unfolding same_name
alike text a b c h = rw (same_eq (part text a) (part text b) h)

-- a name is found behind an entry: among the old ones, or it is the new one's
entered_hit : (text : List ℕ) (name : Range) (h : Handle) (hs : List Handle)
    → hit? (first (named text name) (entered (named text h.name) h hs)) ≡ hit? (first (named text name) hs) || same_name text h.name name
unfolding hit? first entered named choose◌then◌else◌
entered_hit text name h [] = go (same_name text h.name name) where
  go : (b : Bool) → hit? (choose b then r.Got h else r.Miss) ≡ b
  go true = refl
  go false = refl
entered_hit text name h (y ∷ ys) = go (same_name text y.name h.name) refl (entered_hit text name h ys) where
  old : (b : Bool) → hit? (choose b then r.Got h else first (named text name) ys) ≡ hit? (choose b then r.Got y else first (named text name) ys) || b
  old true = refl
  old false = or_false (hit? (first (named text name) ys))

  new : (b : Bool) → hit? (first (named text name) (entered (named text h.name) h ys)) ≡ hit? (first (named text name) ys) || same_name text h.name name
      → hit? (choose b then r.Got y else first (named text name) (entered (named text h.name) h ys)) ≡ hit? (choose b then r.Got y else first (named text name) ys) || same_name text h.name name
  new true ih = refl
  new false ih = ih

  go : (b : Bool) → same_name text y.name h.name ≡ b
      → hit? (first (named text name) (entered (named text h.name) h ys)) ≡ hit? (first (named text name) ys) || same_name text h.name name
      → hit? (first (named text name) (cond b (h ∷ ys) (y ∷ entered (named text h.name) h ys))) ≡ hit? (choose same_name text y.name name then r.Got y else first (named text name) ys) || same_name text h.name name
  go true p ih = rw (alike text y.name h.name name p) (old (same_name text h.name name))
  go false p ih = new (same_name text y.name name) ih

module _ (tokens text : List ℕ) (name : Range) where
  read_hit : (r : Read) (hs : List Handle)
      → hit? (first (named text name) (declare_read (unset tokens text) r hs)) ≡ hit? (first (named text name) hs) || told text name r
  unfolding declare_read told unset in_bytes choose◌then◌else◌
  read_hit (read.Refused e) hs = or_false _
  read_hit (read.Token t) hs = go (is t r.TAG_DIRECTIVE) where
    go : (b : Bool) → hit? (first (named text name) (choose b then entered (named text t.a) (record { name = t.a; prefix = t.b }) hs else hs)) ≡ hit? (first (named text name) hs) || (choose b then same_name text t.a name else false)
    go true = entered_hit text name (record { name = t.a; prefix = t.b }) hs
    go false = or_false _

  -- whether one of n directives has the handle
  abbrev pub own : ℕ → ℕ → Bool
  own from n = hit? (first (named text name) (declare (unset tokens text) n from []))

  pub own_next : (from n : ℕ) → own from (suc n) ≡ own from n || told text name (read_at tokens (length text) (from + n))
  unfolding unset in_bytes
  own_next from n =
      ap (λ l. hit? (first (named text name) l)) (declare_more (unset tokens text) n from [])
      ∙ read_hit (read_at tokens (length text) (from + n)) (declare (unset tokens text) n from [])

  pub own_none : (from : ℕ) → own from 0 ≡ false
  unfolding declare first hit?
  own_none from = refl

  -- once declared, it stays so
  own_stays : (from n k : ℕ) → own from n ≡ true → own from (k + n) ≡ true
  own_stays from n zero e = let q : 0 + n ≡ n = omega arith in rw q e
  own_stays from n (suc k) e = let q : suc k + n ≡ suc (k + n) = omega arith in rw q (own_next from (k + n) ∙ rw (own_stays from n k e))

  -- the directive at i, behind those from `from` on
  pub own_at : (from i : ℕ) → from ≤ i → own from (suc i - from) ≡ own from (i - from) || told text name (read_at tokens (length text) i)
  own_at from i h =
      let q : suc i - from ≡ suc (i - from) = omega arith in
      let e : from + (i - from) ≡ i = omega arith in
      rw q (rw e at (own_next from (i - from)))

  pub own_found : (from i at : ℕ) → from ≤ i → i < at → told text name (read_at tokens (length text) i) ≡ true → own from (at - from) ≡ true
  own_found from i at h l e =
      let q : at - from ≡ (at - suc i) + (suc i - from) = omega arith in
      rw q (own_stays from (suc i - from) (at - suc i) (own_at from i h ∙ rw e (or_true (own from (i - from)))))

  -- a name stands among the kept ones or is declared
  pub either : (from n : ℕ) (hs : List Handle)
      → hit? (first (named text name) (declare (unset tokens text) n from hs)) ≡ hit? (first (named text name) hs) || own from n
  unfolding declare unset in_bytes
  either from zero hs = or_false _ ∙ rw (own_none from)
  either from (suc n) hs =
      ap (λ l. hit? (first (named text name) l)) (declare_more (unset tokens text) n from hs)
      ∙ read_hit (read_at tokens (length text) (from + n)) (declare (unset tokens text) n from hs)
      ∙ rw (either from n hs, own_next from n) (or_assoc (hit? (first (named text name) hs)) (own from n) _)

-- the handles behind n directives: a kept one takes no place, a new one takes the next
module _ (tokens text : List ℕ) (from i : ℕ) (hs : List Handle) (h : from ≤ i) where
  count_at : declare (unset tokens text) (suc i - from) from hs ≡ declare_read (unset tokens text) (read_at tokens (length text) i) (declare (unset tokens text) (i - from) from hs)
  unfolding unset in_bytes
  count_at =
      let q : suc i - from ≡ suc (i - from) = omega arith in
      let e : from + (i - from) ≡ i = omega arith in
      rw q (rw e at (declare_more (unset tokens text) (i - from) from hs))

  pub count_other : (t : Token) → read_at tokens (length text) i ≡ read.Token t → is t r.TAG_DIRECTIVE ≡ false
      → length (declare (unset tokens text) (i - from) from hs) ≡ length (declare (unset tokens text) (suc i - from) from hs)
  unfolding declare_read choose◌then◌else◌
  count_other t e n = rw (count_at, e, n)

  count_tag : (t : Token) → read_at tokens (length text) i ≡ read.Token t → is t r.TAG_DIRECTIVE ≡ true
      → own tokens text t.a from (i - from) ≡ false
      → length (declare (unset tokens text) (suc i - from) from hs) ≡ (choose hit? (first (named text t.a) hs) || false then length (declare (unset tokens text) (i - from) from hs) else suc (length (declare (unset tokens text) (i - from) from hs)))
  unfolding declare_read choose◌then◌else◌ unset in_bytes
  count_tag t e n o =
      rw (count_at, e, n)
      (entered_size (named text t.a) (record { name = t.a; prefix = t.b }) (declare (unset tokens text) (i - from) from hs)
      ∙ rw (either tokens text t.a from (i - from) hs, o))

  pub count_kept : (t : Token) → read_at tokens (length text) i ≡ read.Token t → is t r.TAG_DIRECTIVE ≡ true
      → own tokens text t.a from (i - from) ≡ false → hit? (first (named text t.a) hs) ≡ true
      → length (declare (unset tokens text) (i - from) from hs) ≡ length (declare (unset tokens text) (suc i - from) from hs)
  unfolding choose◌then◌else◌
  count_kept t e n o k = sym (count_tag t e n o ∙ rw k)

  pub count_new : (t : Token) → read_at tokens (length text) i ≡ read.Token t → is t r.TAG_DIRECTIVE ≡ true
      → own tokens text t.a from (i - from) ≡ false → hit? (first (named text t.a) hs) ≡ false
      → suc (length (declare (unset tokens text) (i - from) from hs)) ≡ length (declare (unset tokens text) (suc i - from) from hs)
  unfolding choose◌then◌else◌
  count_new t e n o k = sym (count_tag t e n o ∙ rw k)
