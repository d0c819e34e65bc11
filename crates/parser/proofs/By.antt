-- How a step's answer follows its rule, one word at a time: an answer is the rule's where it is what the rule goes on to.
-- Assumes nothing.
use mathlib.Core.Path.{◌≡◌, sym, ◌∙◌}
use mathlib.Core.Bool.{Bool, true, false}
use Prim.Native.Nat.{ℕ, suc, ◌<◌, ◌≤◌}
use lib.ListN.{length}
use borrow.Author.Tests.{eq-eqb, ne_eqb, le-leb, lt-leb}
use native.Mathlib.Omega.{arith}
use Rattle.records.specs.Tokens.{read_at}
use Rattle.records.specs.declared.tokens.Token.{Token}
use Rattle.records.specs.declared.tokens.Refusal.{Refusal}
use Rattle.records.specs.declared.tokens.Read.{Read}
use Rattle.records.specs.declared.tokens.Read.TheVariants as read
use Rattle.rules.specs.Rules.Words.{Decision, Wants, Place, look, seen, is, choose◌then◌else◌}
use Rattle.rules.specs.Run.{Rooms, limit, room, short}
use Rattle.parser.specs.Machine.{Lent, given}
use Rattle.parser.specs.Answers.{answer, refusing}
use Rattle.parser.specs.declared.Machine.{Machine}
use Rattle.parser.specs.declared.Step.{Step}
use Rattle.parser.specs.declared.Step.TheVariants as st

module _ (x : Lent) (m : Machine) (w : Rooms) (a : Step) where
  pub by_look : (at : ℕ) (k : Token → Decision) {r : Read} {t : Token} → r ≡ read_at x.tokens (length x.text) at → r ≡ read.Token t
      → a ≡ answer x m (limit w (k t)) → a ≡ answer x m (limit w (look (given x) at k))
  unfolding look seen given
  by_look at k {r} {t} e f q = rw (sym e ∙ f) q

  pub by_none : (at : ℕ) (k : Token → Decision) {r : Read} {e : Refusal} → r ≡ read_at x.tokens (length x.text) at → r ≡ read.Refused e
      → a ≡ st.Refused e → a ≡ answer x m (limit w (look (given x) at k))
  unfolding look seen given limit answer refusing
  by_none at k {r} {e} p f q = rw (sym p ∙ f) q

  pub by_is : (t : Token) (n : ℕ) (d e : Decision) → t.kind ≡ n → a ≡ answer x m (limit w d) → a ≡ answer x m (limit w (choose is t n then d else e))
  unfolding is choose◌then◌else◌
  by_is t n d e h q = rw (eq-eqb t.kind n h) q

  pub by_not : (t : Token) (n : ℕ) (d e : Decision) → (t.kind ≡ n → ⊥) → a ≡ answer x m (limit w e) → a ≡ answer x m (limit w (choose is t n then d else e))
  unfolding is choose◌then◌else◌
  by_not t n d e h q = rw (ne_eqb t.kind n h) q

  -- a test that the code makes by a call
  pub by_yes : (b : Bool) (d e : Decision) {s : Bool} → s ≡ b → s ≡ true → a ≡ answer x m (limit w d) → a ≡ answer x m (limit w (choose b then d else e))
  unfolding choose◌then◌else◌
  by_yes b d e h k q = rw (sym h ∙ k) q

  pub by_no : (b : Bool) (d e : Decision) {s : Bool} → s ≡ b → s ≡ false → a ≡ answer x m (limit w e) → a ≡ answer x m (limit w (choose b then d else e))
  unfolding choose◌then◌else◌
  by_no b d e h k q = rw (sym h ∙ k) q

  -- a place that is wanted, and is there or not
  pub by_room : (p : Place) (n : ℕ) (d : Decision) → n < room w p → a ≡ answer x m (limit w d) → a ≡ answer x m (limit w (Wants p (suc n) d))
  unfolding limit choose◌then◌else◌
  by_room p n d h q = rw (le-leb (suc n) (room w p) h) q

  pub by_full : (p : Place) (n : ℕ) (d : Decision) → room w p ≤ n → a ≡ refusing (short p) 0 → a ≡ answer x m (limit w (Wants p (suc n) d))
  unfolding limit choose◌then◌else◌ answer
  by_full p n d h q = rw (lt-leb (suc n) (room w p) (omega arith)) q
