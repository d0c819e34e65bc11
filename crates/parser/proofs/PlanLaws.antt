-- Laws of plans: what a state calls, where its node stands, and what a step makes of it. Assumes nothing.
use mathlib.Core.Path.{◌≡◌, refl, sym, ◌∙◌}
use mathlib.Core.Bool.{Bool, true, false, not, ◌&&◌}
use Prim.Native.Nat.{ℕ, suc}
use native.Mathlib.Omega.{arith}
use borrow.Author.Tests.{leb-true, leb-false}
use lib.ListN.{length}
use Rattle.records.specs.Tokens.{read_at}
use Rattle.records.specs.declared.tokens.Token.{Token}
use Rattle.records.specs.declared.tokens.Read.{Read}
use Rattle.records.specs.declared.tokens.Read.TheVariants as read
use Rattle.rules.specs.Rules as rules
use Rattle.rules.specs.Rules.Words as r
use Rattle.rules.specs.Rules.Words.{choose◌then◌else◌, look, seen, is}
use Rattle.rules.specs.Run.{Rooms, limit, room, short}
use Rattle.rules.specs.declared.State.{State}
use Rattle.rules.specs.declared.State.TheVariants as s
use Rattle.parser.specs.Machine.{Lent, given, small, rooms}
use Rattle.parser.specs.Answers.{over_of, answer, refusing, decided}
use Rattle.parser.specs.Plans.{opening, plan_node, planned, turn_of, behind_first, is_full}
use Rattle.parser.specs.declared.Machine.{Machine}
use Rattle.parser.specs.declared.Over.{Over}
use Rattle.parser.specs.declared.Over.TheVariants as v
use Rattle.parser.specs.declared.Step.{Step}
use Rattle.parser.specs.declared.Step.TheVariants as st
use Rattle.parser.specs.declared.Plan.{Plan}
use Rattle.parser.specs.declared.Wanted.TheVariants as wanted
use Rattle.parser.specs.declared.Turn.{Turn}
use Rattle.parser.specs.declared.Turn.TheVariants as t
use Rattle.parser.proofs.By.{by_room, by_full}

-- the rule that a turn stands for
unfoldable pub called : r.Given → r.Small → Turn → r.Decision
called g m t.StreamStart = rules.stream_start g m
called g m (t.DocumentStart implicit) = rules.document_start g m implicit
called g m t.DocumentContent = rules.document_content g m
called g m t.DocumentEnd = rules.document_end g m
called g m t.BlockNode = rules.parse_node g m m.at rules.Here true false
called g m (t.BlockSequenceEntry first) = rules.block_sequence_entry g m first
called g m t.IndentlessSequenceEntry = rules.indentless_sequence_entry g m
called g m (t.BlockMappingKey first) = rules.block_mapping_key g m first
called g m t.BlockMappingValue = rules.block_mapping_value g m
called g m (t.FlowSequenceEntry first) = rules.flow_sequence_entry g m first
called g m t.FlowSequenceEntryMappingKey = rules.flow_sequence_entry_mapping_key g m
called g m t.FlowSequenceEntryMappingValue = rules.flow_sequence_entry_mapping_value g m
called g m (t.FlowSequenceEntryMappingEnd mark) = rules.flow_sequence_entry_mapping_end m mark
called g m (t.FlowMappingKey first) = rules.flow_mapping_key g m first
called g m (t.FlowMappingValue empty) = rules.flow_mapping_value g m empty
called g m t.End = r.Unreachable

calls : (g : r.Given) (m : r.Small) (state : State) → rules.state_machine g m state ≡ called g m (turn_of state)
unfolding rules.state_machine called turn_of
calls g m s.StreamStart = refl
calls g m s.ImplicitDocumentStart = refl
calls g m s.DocumentStart = refl
calls g m s.DocumentContent = refl
calls g m s.DocumentEnd = refl
calls g m s.BlockNode = refl
calls g m s.BlockSequenceFirstEntry = refl
calls g m s.BlockSequenceEntry = refl
calls g m s.IndentlessSequenceEntry = refl
calls g m s.BlockMappingFirstKey = refl
calls g m s.BlockMappingKey = refl
calls g m s.BlockMappingValue = refl
calls g m s.FlowSequenceFirstEntry = refl
calls g m s.FlowSequenceEntry = refl
calls g m s.FlowSequenceEntryMappingKey = refl
calls g m s.FlowSequenceEntryMappingValue = refl
calls g m (s.FlowSequenceEntryMappingEnd mark) = refl
calls g m s.FlowMappingFirstKey = refl
calls g m s.FlowMappingKey = refl
calls g m s.FlowMappingValue = refl
calls g m s.FlowMappingEmptyValue = refl
calls g m s.End = refl

module _ (x : Lent) (m : Machine) where
  -- a state calls what its turn says
  pub by_turn : (a : Step) (state : State) {q c : Turn} → q ≡ turn_of state → q ≡ c
      → a ≡ answer x m (limit (rooms x.terms) (called (given x) (small x m) c))
      → a ≡ answer x m (limit (rooms x.terms) (rules.state_machine (given x) (small x m) state))
  by_turn a state e f h = rw (calls (given x) (small x m) state, sym e ∙ f) h

  -- a node whose first token was read
  module _ (at : ℕ) (block indentless : Bool) {q : Read} {t : Token} (e : q ≡ read_at x.tokens (length x.text) at) (f : q ≡ read.Token t) where
    pub by_over : {z : Plan} (p : State) → z ≡ plan_node at t (v.Above p) block indentless → planned x m z.step z.node
        ≡ answer x m (limit (rooms x.terms) (rules.parse_node_over (given x) (small x m) at p block indentless))
    unfolding plan_node planned opening over_of decided rules.parse_node_over rules.parse_node look seen given
    by_over p h = rw (h, sym e ∙ f)

    pub by_here : {z : Plan} → z ≡ plan_node at t v.Here block indentless → planned x m z.step z.node
        ≡ answer x m (limit (rooms x.terms) (rules.parse_node (given x) (small x m) at rules.Here block indentless))
    unfolding plan_node planned opening over_of decided rules.parse_node look seen given
    by_here h = rw (h, sym e ∙ f)

  -- behind the token of a First state; one that cannot be read is refused when it is read again
  pub by_first : (w : Rooms) (a : Step) (first : Bool) (h : ℕ → Token → r.Decision) {i : ℕ}
      → i ≡ behind_first first (read_at x.tokens (length x.text) m.at) m.at
      → a ≡ answer x m (limit w (look (given x) i (h i)))
      → a ≡ answer x m (limit w (rules.taken_first (given x) (small x m) first (λ i. look (given x) i (h i))))
  unfolding rules.taken_first behind_first small look seen given
  by_first w a false h {i} e q = rw e at q
  by_first w a true h {i} e q = go (read_at x.tokens (length x.text) m.at) refl e where
    go : (z : Read) → read_at x.tokens (length x.text) m.at ≡ z → i ≡ behind_first true z m.at
        → a ≡ answer x m (limit w (seen z (λ t. seen (read_at x.tokens (length x.text) (suc m.at)) (h (suc m.at)))))
    go (read.Token t) p e = rw e at q
    go (read.Refused y) p e = rw (e, p) at q

  -- an entry behind a comma, the first one, or neither
  module _ (w : Rooms) (a : Step) (first : Bool) (t : Token) (n at : ℕ) (k : ℕ → r.Decision) where
    abbrev entry : r.Decision
    entry = choose first then k at else choose is t r.FLOW_ENTRY then k (suc at) else r.Refused n t.start

    by_comma : {b : Bool} → b ≡ (not first && not (is t 17)) → b ≡ true → a ≡ refusing n t.start → a ≡ answer x m (limit w entry)
    unfolding choose◌then◌else◌ answer limit
    by_comma e f h = go first (is t 17) (sym e ∙ f) h where
      go : (f₁ c₁ : Bool) → (not f₁ && not c₁) ≡ true → a ≡ refusing n t.start
          → a ≡ answer x m (limit w (choose f₁ then k at else choose c₁ then k (suc at) else r.Refused n t.start))
      go false false e h = h
      go true y e h = let z : ◌≡◌ {A = ℕ} 0 1 = cc in absurd (omega arith)
      go false true e h = let z : ◌≡◌ {A = ℕ} 0 1 = cc in absurd (omega arith)

    by_entry : {b : Bool} {i : ℕ} → b ≡ (not first && not (is t 17)) → b ≡ false → i ≡ (choose first then at else suc at) → a ≡ answer x m (limit w (k i))
        → a ≡ answer x m (limit w entry)
    unfolding choose◌then◌else◌
    by_entry {i = i} e f g h = go first (is t 17) (sym e ∙ f) g where
      go : (f₁ c₁ : Bool) → (not f₁ && not c₁) ≡ false → i ≡ (choose f₁ then at else suc at)
          → a ≡ answer x m (limit w (choose f₁ then k at else choose c₁ then k (suc at) else r.Refused n t.start))
      go true y e g = rw (← g) h
      go false true e g = rw (← g) h
      go false false e g = let z : ◌≡◌ {A = ℕ} 0 1 = cc in absurd (omega arith)

  -- the entries of a flow mapping: `t` is the comma, or the first token
  module _ (w : Rooms) (a : Step) (first : Bool) (t : Token) (at : ℕ) where
    abbrev pair : ℕ → r.Decision
    pair i = rules.flow_mapping_entry (given x) (small x m) i t

    pub by_no_pair : {b : Bool} → b ≡ (not first && not (is t 17)) → b ≡ true → a ≡ refusing 10 t.start
        → a ≡ answer x m (limit w (entry w a first t 10 at pair))
    by_no_pair = by_comma w a first t 10 at pair

    pub by_pair : {b : Bool} {i : ℕ} → b ≡ (not first && not (is t 17)) → b ≡ false → i ≡ (choose first then at else suc at)
        → a ≡ answer x m (limit w (rules.flow_mapping_entry (given x) (small x m) i t)) → a ≡ answer x m (limit w (entry w a first t 10 at pair))
    by_pair = by_entry w a first t 10 at pair

  -- the entries of a flow sequence
  module _ (w : Rooms) (a : Step) (first : Bool) (t : Token) (at : ℕ) where
    pub by_no_item : {b : Bool} → b ≡ (not first && not (is t 17)) → b ≡ true → a ≡ refusing 11 t.start
        → a ≡ answer x m (limit w (entry w a first t 11 at (rules.flow_entry (given x) (small x m))))
    by_no_item = by_comma w a first t 11 at (rules.flow_entry (given x) (small x m))

    pub by_item : {b : Bool} {i : ℕ} → b ≡ (not first && not (is t 17)) → b ≡ false → i ≡ (choose first then at else suc at)
        → a ≡ answer x m (limit w (rules.flow_entry (given x) (small x m) i)) → a ≡ answer x m (limit w (entry w a first t 11 at (rules.flow_entry (given x) (small x m))))
    by_item = by_entry w a first t 11 at (rules.flow_entry (given x) (small x m))

  -- a node that stands over a state for which there is no place, and one that has its place
  module _ (at : ℕ) (t : Token) (over : Over) (block indentless : Bool) {b : Bool} (e : b ≡ is_full m.depth x.terms.states over) where
    pub full_node : b ≡ true → planned x m st.Stuck (wanted.Node at t over block indentless) ≡ refusing 23 0
    unfolding planned opening over_of decided is_full rooms room short r.push_state small
    full_node f = go over (sym e ∙ f) where
      go : (o : Over) → is_full m.depth x.terms.states o ≡ true → planned x m st.Stuck (wanted.Node at t o block indentless) ≡ refusing 23 0
      go v.Here h = let z : ◌≡◌ {A = ℕ} 0 1 = cc in absurd (omega arith)
      go (v.Above p) h = sym (by_full x m (rooms x.terms) (refusing 23 0) r.OpenPlace m.depth _ (leb-true x.terms.states m.depth h) refl)

    pub placed_node : b ≡ false
        → planned x m st.Stuck (wanted.Node at t over block indentless) ≡ decided x m (λ g m. rules.node_from g m at (over_of over) block indentless t)
    unfolding planned opening over_of decided is_full rooms room r.push_state small
    placed_node f = go over (sym e ∙ f) where
      go : (o : Over) → is_full m.depth x.terms.states o ≡ false
          → planned x m st.Stuck (wanted.Node at t o block indentless) ≡ decided x m (λ g m. rules.node_from g m at (over_of o) block indentless t)
      go v.Here h = refl
      go (v.Above p) h = sym (by_room x m (rooms x.terms) _ r.OpenPlace m.depth _ (leb-false x.terms.states m.depth h) refl)
