-- Laws of the document states: what is forgotten, marks, and reading with no setting. Assumes nothing.
use mathlib.Core.Path.{◌≡◌, refl}
use mathlib.Core.Bool.{Bool, true, false}
use mathlib.Core.List.{List, [], ◌∷◌}
use Prim.Native.Nat.{ℕ, zero, suc, ◌-◌, ◌≤◌, ◌<◌}
use native.Mathlib.Omega.{arith}
use borrow.Author.Tests.{le-leb, lt-leb, ne_eqb, ltb-true, ltb-false}
use lib.Dec.{leb, ltb}
use lib.ListN.{length}
use Rattle.places.specs.Places.{places}
use Rattle.records.specs.Tokens.{token_size, read_at, refused}
use Rattle.records.specs.declared.tokens.Read.{Read}
use Rattle.records.specs.declared.tokens.Read.TheVariants as read
use Rattle.records.proofs.TokenLaws as t
use Rattle.rules.specs.Lists.{in_bytes}
use Rattle.records.specs.declared.tokens.Token.{Token}
use Rattle.rules.specs.declared.State.{State}
use Rattle.rules.specs.declared.State.TheVariants as s
use Rattle.rules.specs.Run.{limit, room, short}
use Rattle.rules.specs.Rules.{passes, past, document, document_names, document_ends, document_start, document_start_at, after_marks}
use Rattle.rules.specs.Rules.Words as r
use Rattle.rules.specs.Rules.Words.{choose◌then◌else◌, one_of}
use Rattle.parser.specs.Machine.{Lent, lent, given, small, rooms}
use Rattle.parser.specs.Answers.{goes, next, refusing, state_after, open_after, names_after, handles_after, answer, decided}
use Rattle.parser.specs.Documents.{unset, marks, tags_of}
use Rattle.parser.specs.declared.Machine.{Machine}
use Rattle.parser.specs.declared.Open.TheVariants as o
use Rattle.parser.specs.declared.Names.TheVariants as n
use Rattle.parser.specs.declared.Handles.{Handles}
use Rattle.parser.specs.declared.Handles.TheVariants as h

pub forgets : (x : Lent) (m : Machine) (b : Bool)
    → names_after x m (choose b then r.NamesForgotten else r.NamesKept) ≡ (choose b then n.Forget else n.Keep)
unfolding names_after choose◌then◌else◌
forgets x m true = refl
forgets x m false = refl

pub clears : (b : Bool) → handles_after (choose b then r.TagsKept else r.TagsForgotten) ≡ (choose b then h.Keep else h.Forget)
unfolding handles_after choose◌then◌else◌
clears true = refl
clears false = refl

pub tags_after : (hs : Handles) → handles_after (tags_of hs) ≡ hs
unfolding handles_after tags_of
tags_after h.Keep = refl
tags_after (h.Declare i j) = refl
tags_after h.Forget = refl

module _ (x : Lent) (m : Machine) (at : ℕ) (t : Token) (explicit : ℕ) (state : State) where
  pub document_room : (hs : Handles) → m.depth < x.terms.states
      → next (goes m at state) (r.plain 3 t.start t.end explicit) (o.Push s.DocumentEnd) (choose x.terms.forget then n.Forget else n.Keep) hs ≡ decided x m (λ g m. document g m at t explicit state (tags_of hs))
  unfolding decided document r.push_state document_names given small limit answer rooms room state_after open_after choose◌then◌else◌
  document_room hs h = rw (le-leb (suc m.depth) x.terms.states h, forgets x m x.terms.forget, tags_after hs)

  pub document_full : (tags : r.Tags) → x.terms.states ≤ m.depth → refusing 23 0 ≡ decided x m (λ g m. document g m at t explicit state tags)
  unfolding decided document r.push_state small limit answer rooms room short choose◌then◌else◌
  document_full tags h = rw (lt-leb (suc m.depth) x.terms.states (omega arith))

  -- nothing lent is looked at
  pub document_same : (tags : r.Tags) → decided (lent [] [] [] [] x.terms) m (λ g m. document g m at t explicit state tags)
      ≡ answer x m (limit (rooms x.terms) (document (given x) (small x m) at t explicit state tags))
  unfolding decided lent document r.push_state document_names given small limit answer names_after rooms room short choose◌then◌else◌
  document_same tags = go (leb (suc m.depth) x.terms.states) x.terms.forget where
    ends : Lent → Bool → r.Decision
    ends y f = r.Next (record { at = at; move = r.Push s.DocumentEnd state; event = r.plain 3 t.start t.end explicit; names = choose f then r.NamesForgotten else r.NamesKept; tags = tags })

    go : (b f : Bool) → answer (lent [] [] [] [] x.terms) m (choose b then ends x f else r.Refused 23 0) ≡ answer x m (choose b then ends x f else r.Refused 23 0)
    go true true = refl
    go true false = refl
    go false f = refl

pub ends_same : (x : Lent) (m : Machine) (at : ℕ) (t : Token) (state : State) → decided (lent [] [] [] [] x.terms) m (λ g m. document_ends g at t state)
    ≡ answer x m (limit (rooms x.terms) (document_ends (given x) at t state))
unfolding decided lent document_ends given limit answer names_after
ends_same x m at t state = refl

-- a mark, a document end, another kind
pub mark_is : (b : Bool) → true ≡ one_of 8 (marks b)
unfolding one_of marks
mark_is true = refl
mark_is false = refl

pub mark_ends : (b : Bool) → b ≡ one_of 7 (marks b)
unfolding one_of marks
mark_ends true = refl
mark_ends false = refl

pub mark_none : (k : ℕ) (b : Bool) → (k ≡ 8 → ⊥) → (k ≡ 7 → ⊥) → false ≡ one_of k (marks b)
unfolding one_of marks
mark_none k true h i = rw (ne_eqb k 8 h, ne_eqb k 7 i)
mark_none k false h i = rw (ne_eqb k 8 h)

-- the marks are those that reading shows, whatever is set
pub past-unset : (x : Lent) (ks : List ℕ) (n at : ℕ) → past (given x) ks n at ≡ past (unset x.tokens x.text) ks n at
unfolding past given unset in_bytes
past-unset x ks zero at = refl
past-unset x ks (suc n) at = rw (past-unset x ks n (suc at))

module _ (x : Lent) (m : Machine) where
  pub start_past : (implicit : Bool)
      → decided x m (λ g s. document_start_at g s implicit (past (unset x.tokens x.text) (marks true) (places x.tokens token_size - m.at) m.at)) ≡ decided x m (λ g s. document_start g s implicit)
  unfolding decided document_start marks given small
  start_past implicit = rw (past-unset x (7 ∷ 8 ∷ []) (places x.tokens token_size - m.at) m.at)

  pub end_past : (place at : ℕ)
      → decided x m (λ g m. after_marks g place (past (unset x.tokens x.text) (marks false) (places x.tokens token_size - at) at)) ≡ answer x m (limit (rooms x.terms) (after_marks (given x) place (past (given x) (8 ∷ []) ((given x).count - at) at)))
  unfolding decided marks given
  end_past place at = rw (past-unset x (8 ∷ []) (places x.tokens token_size - at) at)

-- a record that is no token has no kind
none : (ks : List ℕ) (number place : ℕ) (r : Read) → r ≡ refused number place → passes ks r ≡ true → ⊥
unfolding passes refused
none ks number place (read.Token t) e h = let z : ◌≡◌ {A = ℕ} 0 1 = cc in absurd (omega arith)
none ks number place (read.Refused q) e h = let z : ◌≡◌ {A = ℕ} 0 1 = cc in absurd (omega arith)

module _ (tokens text ks : List ℕ) (at : ℕ) where
  pub past_on : at < places tokens token_size → passes ks (read_at tokens (length text) at) ≡ true
      → past (unset tokens text) ks (places tokens token_size - at) at ≡ past (unset tokens text) ks (places tokens token_size - suc at) (suc at)
  unfolding past unset in_bytes choose◌then◌else◌
  past_on h e = go (places tokens token_size - at) (omega arith) where
    go : (n : ℕ) → n ≡ suc (places tokens token_size - suc at)
        → past (unset tokens text) ks n at ≡ past (unset tokens text) ks (places tokens token_size - suc at) (suc at)
    go n q = rw (q, e)

  pub past_end : (n : ℕ) → passes ks (read_at tokens (length text) at) ≡ false → past (unset tokens text) ks n at ≡ at
  unfolding past unset in_bytes choose◌then◌else◌
  past_end zero e = refl
  past_end (suc n) e = rw e

  pub passes_inside : passes ks (read_at tokens (length text) at) ≡ true → at < places tokens token_size
  passes_inside e = go (ltb at (places tokens token_size)) refl where
    go : (b : Bool) → ltb at (places tokens token_size) ≡ b → at < places tokens token_size
    go true q = ltb-true at (places tokens token_size) q
    go false q = absurd (none ks 14 _ (read_at tokens (length text) at) (t.past_end tokens (length text) at (ltb-false at (places tokens token_size) q)) e)
