-- Each step pays for its event, opens no more than it takes, and wants no more places than there are tokens. Assumes nothing.
use mathlib.Core.Path.{◌≡◌, refl, sym, subst}
use mathlib.Core.Bool.{Bool, true, false, ◌&&◌}
use mathlib.Core.List.{[], ◌∷◌}
use Prim.Native.Nat.{ℕ, suc, ◌+◌, ◌-◌, ◌*◌, ◌≤◌, ◌<◌}
use native.Mathlib.Omega.{arith}
use lib.ListN.{length}
use Rattle.records.specs.declared.names.Range.{Range}
use Rattle.records.specs.declared.tokens.Token.{Token}
use Rattle.records.specs.declared.events.Event.{Event}
use Rattle.rules.specs.States.{numbers, ranked}
use Rattle.rules.specs.Rules as w
use Rattle.rules.specs.Rules.{choose◌then◌else◌, Given, Small, Move, Decision}
use Rattle.rules.specs.Run.{ended}
use Rattle.rules.specs.Lists.{Listed}
use Rattle.rules.specs.declared.State.{State}
use Rattle.rules.specs.declared.State.TheVariants as s
use Rattle.rules.proofs.WordLaws.{Each, refused, next, each_if, each_push, each_look, past-le, each_directives, taken, each_first, each_node}
use Rattle.rules.proofs.Weights.{weigh, at_value, value_at, when, when_so, value_range, value_two, value_not, put, told, Facts, lawful}
use Rattle.rules.proofs.Sizes.{declare-length}

-- what the machine holds is no more than the tokens taken
pub record Held (m : Small) (b : ℕ) : Type 0 where
  pub deep : b + m.depth ≤ m.at
  pub anchors : length m.anchors ≤ m.at
  pub handles : length m.handles ≤ m.at

abbrev pub Fair : {g : Given} → Listed g → Small → (c b v : ℕ) → Decision → Type 0
Fair {g} l m c b v = Each (λ p n. n ≤ g.count) (λ ch. Facts l c b v m.at ch.at ch.move (put ch.names) (told ch.tags))

-- what parse_node needs of the state that it stands over
abbrev over_owes : w.Over → ℕ
over_owes w.Here = 0
over_owes (w.Above p) = (weigh p).owes

abbrev over_lift : w.Over → ℕ
over_lift w.Here = 0
over_lift (w.Above p) = 1

abbrev Over-levels : w.Over → ℕ → Type 0
Over-levels w.Here v = v ≡ 1
Over-levels (w.Above p) v = ((weigh p).level ≡ v) × ((weigh p).waits + (weigh p).ends ≡ 0)

when_le : (t : Bool) (n : ℕ) → when t n ≤ n
when_le true n = omega arith
when_le false n = omega arith

taken_one : {t : Bool} → t ≡ true → taken t ≡ 1
taken_one {t} e = subst (λ (b : Bool). taken b ≡ 1) (sym e) refl

and_left : (t u : Bool) → t && u ≡ true → t ≡ true
and_left true u e = refl
and_left false u e = e

put_le : (n : w.Names) → put n ≤ 1
put_le w.NamesKept = omega arith
put_le (w.NamePut r) = omega arith
put_le w.NamesForgotten = omega arith

put_document : (g : Given) → put (w.document_names g) ≡ 0
unfolding w.document_names choose◌then◌else◌
put_document g = go g.forget where
  go : (t : Bool) → put (choose t then w.NamesForgotten else w.NamesKept) ≡ 0
  go true = refl
  go false = refl

told-cleared : (t : Bool) → told (choose t then w.TagsKept else w.TagsForgotten) ≡ 0
unfolding choose◌then◌else◌
told-cleared true = refl
told-cleared false = refl

module _ {g : Given} (l : Listed g) (m : Small) where
  fair_give : {c b v : ℕ} (at : ℕ) (mv : Move) (e : Event) → Facts l c b v m.at at mv 0 0 → Fair l m c b v (w.give at mv e)
  unfolding w.give
  fair_give at mv e h = next _ h

  fair_node : {c b v : ℕ} (at : ℕ) (mv : Move) (p : w.Properties) (kind end style : ℕ) (value : Range)
      → Facts l c b v m.at at mv (put p.names) 0 → Fair l m c b v (w.node at mv p kind end style value)
  unfolding w.node
  fair_node at mv p kind end style value h = next _ h

  record Ready (c b v at : ℕ) (over : w.Over) (more new : ℕ) : Type 0 where
    stands : Over-levels over v
    pays : 1 + more + over_owes over + 3 * m.at ≤ c + 3 * at
    lifts : over_lift over + m.at ≤ b + at
    names : new + m.at ≤ at

  -- further on, or for less
  eased : {c b v at i x y n k : ℕ} {over : w.Over} → Ready c b v at over x n
      → (y + 3 * at ≤ x + 3 * i) × (at ≤ i) × (k + at ≤ n + i) → Ready c b v i over y k
  eased r h = record { stands = r.stands; pays = omega arith; lifts = omega arith; names = omega arith }

  facts_into : {c b v at more new : ℕ} (over : w.Over) (state : State) → Ready c b v at over more new
      → (weigh state).level ≡ 1 → (weigh state).rises ≡ 0 → (weigh state).pays (value_at l at) ≤ more
      → (weigh state).waits + at ≤ g.count → Facts l c b v m.at at (w.into over state) new 0
  unfolding w.into
  facts_into {at = at} w.Here state r h₁ h₂ h₃ h₄ = omega (arith, lawful state (value_at l at))
  facts_into {at = at} (w.Above p) state r h₁ h₂ h₃ h₄ = omega (arith, lawful state (value_at l at))

  facts_pop : {c b v at new : ℕ} (over : w.Over) → Ready c b v at over 3 new → at ≤ g.count
      → Facts l c b v m.at at (w.pop_state over) new 0
  unfolding w.pop_state
  facts_pop w.Here r h = omega arith
  facts_pop {at = at} (w.Above p) r h = omega (arith, lawful p (value_at l at))

  -- the state over which a node stands pays for an indentless sequence, and for a scalar that only has properties
  fair_content : {c b v : ℕ} (at : ℕ) (over : w.Over) (block indentless : Bool) (p : w.Properties) (t : Token) → at < g.count
      → Ready c b v at over (when indentless 4) (put p.names) → Ready c b v at over (when p.any 3) (put p.names)
      → Fair l m c b v (w.content at over block indentless p t)
  unfolding w.content w.block_content
  fair_content {c} {b} {v} at over block indentless p t h r q =
      let first : Ready c b v at over 0 (put p.names) = eased r (omega arith) in
      let into : (state : State) → (weigh state).level ≡ 1 → (weigh state).rises ≡ 0 → (weigh state).pays (value_at l at) ≡ 0 → (weigh state).waits ≡ 1
      → Facts l c b v m.at at (w.into over state) (put p.names) 0 =
      λ state h₁ h₂ h₃ h₄. facts_into over state first h₁ h₂ (omega arith) (omega arith) in
      each_if _
      (λ e. fair_node _ _ p _ _ _ _ (facts_into over s.IndentlessSequenceEntry r refl refl (omega (arith, when_so {t = indentless} 4 (and_left _ _ e))) (omega arith)))
      λ e. each_if _
      (λ e. fair_node _ _ p _ _ _ _ (facts_pop over (eased r (omega arith)) (omega arith)))
      λ e. each_if _
      (λ e. fair_node _ _ p _ _ _ _ (into s.FlowSequenceFirstEntry refl refl refl refl))
      λ e. each_if _
      (λ e. fair_node _ _ p _ _ _ _ (into s.FlowMappingFirstKey refl refl refl refl))
      λ e. each_if _
      (λ e. fair_node _ _ p _ _ _ _ (into s.BlockSequenceFirstEntry refl refl refl refl))
      λ e. each_if _
      (λ e. fair_node _ _ p _ _ _ _ (into s.BlockMappingFirstKey refl refl refl refl))
      λ e. each_if _
      (λ e. fair_node _ _ p _ _ _ _ (facts_pop over (eased q (omega (arith, when_so {t = p.any} 3 e))) (omega arith)))
      λ e. refused 8 _ tt

  module _ {b : ℕ} (u : Held m b) where
    fair_parse_node : {c v : ℕ} (at : ℕ) (over : w.Over) (block indentless : Bool) → Ready c b v at over (when indentless 4) 0
        → Fair l m c b v (w.parse_node g m at over block indentless)
    unfolding w.no_properties
    fair_parse_node at over block indentless r = each_node l m at over block indentless
        (λ h. omega arith)
        (λ start end id h. fair_give _ _ _ (facts_pop over (eased r (omega arith)) (omega arith)))
        (λ i p t j h. fair_content i over block indentless p t h
        (eased r (omega (arith, put_le p.names)))
        (eased r (omega (arith, when_le p.any 3, put_le p.names))))
        (λ t h. fair_content at over block indentless _ t h r (eased r (omega arith)))

    fair_over : {c v : ℕ} (at : ℕ) (p : State) (block indentless : Bool) → at < g.count
        → Ready c b v at (w.Above p) (when indentless 4) 0
        → Fair l m c b v (w.parse_node_over g m at p block indentless)
    unfolding w.parse_node_over
    fair_over at p block indentless h r = each_push m (omega arith) (fair_parse_node at (w.Above p) block indentless r)

  module _ (u : Held m 0) where
    fair_block_mapping_value : Fair l m (at_value (value_at l m.at)) 0 1 (w.block_mapping_value g m)
    unfolding w.block_mapping_value
    fair_block_mapping_value = each_look l _ _ λ h. each_if _
        (λ e. each_look l _ _ λ h'. each_if _
        (λ e'. fair_give _ _ _ (omega (arith, value_two e)))
        (λ e'. fair_over u _ _ _ _ (omega arith) (omega (arith, value_two e))))
        (λ e. fair_give _ _ _ (omega (arith, value_not e)))

    fair_block_mapping_key : {c : ℕ} (first? : Bool) → 3 ≤ c + 3 * taken first?
        → Fair l m c 0 1 (w.block_mapping_key g m first?)
    unfolding w.block_mapping_key w.block_mapping_at
    fair_block_mapping_key first? f = each_first l m first? _ λ at o. each_look l _ _ λ h. each_if _
        (λ e. each_look l _ _ λ h'. each_if _
        (λ e'. fair_give _ _ _ (omega (arith, value_range (value_at l (suc at)))))
        (λ e'. fair_over u _ _ _ _ (omega arith) (omega arith)))
        λ e. each_if _
        (λ e. fair_give _ _ _ (omega (arith, value_two e)))
        λ e. each_if _
        (λ e. fair_give _ _ _ (omega arith))
        λ e. refused 9 _ tt

    fair_flow_mapping_entry : {c : ℕ} (at : ℕ) (mark : Token) → 3 + 3 * m.at ≤ c + 3 * at → m.at < at
        → Fair l m c 0 1 (w.flow_mapping_entry g m at mark)
    unfolding w.flow_mapping_entry
    fair_flow_mapping_entry at mark f f' = each_look l _ _ λ h. each_if _
        (λ e. each_look l _ _ λ h'. each_if _
        (λ e'. fair_give _ _ _ (omega (arith, value_range (value_at l (suc at)))))
        (λ e'. fair_over u _ _ _ _ (omega arith) (omega arith)))
        λ e. each_if _
        (λ e. fair_give _ _ _ (omega (arith, value_two e)))
        λ e. each_if _
        (λ e. fair_give _ _ _ (omega arith))
        λ e. fair_over u _ _ _ _ (omega arith) (omega arith)

    fair_flow_mapping_key : {c : ℕ} (first? : Bool) → 3 ≤ c + 3 * taken first? → Fair l m c 0 1 (w.flow_mapping_key g m first?)
    unfolding w.flow_mapping_key w.flow_mapping_at
    fair_flow_mapping_key first? f = each_first l m first? _ λ at o. each_look l _ _ λ h. each_if _
        (λ e. fair_give _ _ _ (omega arith))
        λ e. each_if _
        (λ e. fair_flow_mapping_entry _ _ (omega arith) (omega (arith, taken_one {t = first?} e)))
        λ e. each_if _
        (λ e. fair_flow_mapping_entry _ _ (omega arith) (omega arith))
        λ e. refused 10 _ tt

    fair_flow_mapping_value : Fair l m (at_value (value_at l m.at)) 0 1 (w.flow_mapping_value g m false)
    unfolding w.flow_mapping_value
    fair_flow_mapping_value = each_look l _ _ λ h. each_if _
        (λ e. let z : ◌≡◌ {A = ℕ} 0 1 = cc in absurd (omega arith))
        λ e. each_if _
        (λ e. each_look l _ _ λ h'. each_if _
        (λ e'. fair_give _ _ _ (omega (arith, value_two e)))
        (λ e'. fair_over u _ _ _ _ (omega arith) (omega (arith, value_two e))))
        λ e. fair_give _ _ _ (omega (arith, value_not e))

    fair_flow_entry : {c : ℕ} (at : ℕ) → 3 + 3 * m.at ≤ c + 3 * at → m.at < at → Fair l m c 0 1 (w.flow_entry g m at)
    unfolding w.flow_entry
    fair_flow_entry at f f' = each_look l _ _ λ h. each_if _
        (λ e. fair_give _ _ _ (omega arith))
        λ e. each_if _
        (λ e. fair_give _ _ _ (omega arith))
        λ e. fair_over u _ _ _ _ (omega arith) (omega arith)

    fair_flow_sequence_entry : {c : ℕ} (first? : Bool) → 2 ≤ c + 3 * taken first?
        → Fair l m c 0 1 (w.flow_sequence_entry g m first?)
    unfolding w.flow_sequence_entry w.flow_sequence_at
    fair_flow_sequence_entry first? f = each_first l m first? _ λ at o. each_look l _ _ λ h. each_if _
        (λ e. fair_give _ _ _ (omega arith))
        λ e. each_if _
        (λ e. fair_flow_entry _ (omega (arith, taken_one {t = first?} e)) (omega (arith, taken_one {t = first?} e)))
        λ e. each_if _
        (λ e. fair_flow_entry _ (omega arith) (omega arith))
        λ e. refused 11 _ tt

    fair_indentless_sequence_entry : Fair l m 4 0 1 (w.indentless_sequence_entry g m)
    unfolding w.indentless_sequence_entry
    fair_indentless_sequence_entry = each_look l _ _ λ h. each_if _
        (λ e. each_look l _ _ λ h'. each_if _
        (λ e. fair_give _ _ _ (omega arith))
        (λ e. fair_over u _ _ _ _ (omega arith) (omega arith)))
        λ e. fair_give _ _ _ (omega arith)

    fair_block_sequence_entry : {c : ℕ} (first? : Bool) → 3 ≤ c + 3 * taken first?
        → Fair l m c 0 1 (w.block_sequence_entry g m first?)
    unfolding w.block_sequence_entry w.block_sequence_at
    fair_block_sequence_entry first? f = each_first l m first? _ λ at o. each_look l _ _ λ h. each_if _
        (λ e. fair_give _ _ _ (omega arith))
        λ e. each_if _
        (λ e. each_look l _ _ λ h'. each_if _
        (λ e. fair_give _ _ _ (omega arith))
        (λ e. fair_over u _ _ _ _ (omega arith) (omega arith)))
        λ e. refused 12 _ tt

    fair_pair_value : Fair l m 4 0 1 (w.flow_sequence_entry_mapping_value g m)
    unfolding w.flow_sequence_entry_mapping_value
    fair_pair_value = each_look l _ _ λ h. each_if _
        (λ e. each_look l _ _ λ h'. each_if _
        (λ e. fair_give _ _ _ (omega arith))
        (λ e. fair_over u _ _ _ _ (omega arith) (omega arith)))
        λ e. fair_give _ _ _ (omega arith)

    fair_document_content : Fair l m 4 0 1 (w.document_content g m)
    unfolding w.document_content
    fair_document_content = each_look l _ _ λ h. each_if _
        (λ e. fair_give _ _ _ (omega arith))
        λ e. fair_parse_node u _ _ _ _ (omega arith)

  fair_empty_value : Fair l m 4 0 1 (w.flow_mapping_value g m true)
  unfolding w.flow_mapping_value choose◌then◌else◌
  fair_empty_value = each_look l _ _ λ h. fair_give _ _ _ (omega arith)

  fair_pair_key : Held m 1 → Fair l m 5 1 1 (w.flow_sequence_entry_mapping_key g m)
  unfolding w.flow_sequence_entry_mapping_key
  fair_pair_key u = each_look l _ _ λ h. each_if _
      (λ e. fair_give _ _ _ (omega arith))
      λ e. fair_over u _ _ _ _ (omega arith) (omega arith)

  fair_pair_end : (mark : ℕ) → m.at ≤ g.count → Fair l m 3 0 1 (w.flow_sequence_entry_mapping_end m mark)
  unfolding w.flow_sequence_entry_mapping_end
  fair_pair_end mark h = fair_give _ _ _ (omega arith)

  fair_stream_start : Fair l m 1 0 0 (w.stream_start g m)
  unfolding w.stream_start
  fair_stream_start = each_look l _ _ λ h. each_if _ (λ e. fair_give _ _ _ (omega arith)) λ e. refused 1 _ tt

  -- the document states
  module _ (u : Held m 1) where
    fair_document : (at : ℕ) (t : Token) (explicit : ℕ) (state : State) (tags : w.Tags) → m.at < g.count
        → Facts l 3 1 0 m.at at (w.Push s.DocumentEnd state) 0 (told tags)
        → Fair l m 3 1 0 (w.document g m at t explicit state tags)
    unfolding w.document
    fair_document at t explicit state tags h f = each_push m (omega arith) (next _ (omega (arith, put_document g)))

    fair_explicit : (at : ℕ) → m.at ≤ at → Fair l m 3 1 0 (w.explicit_document_start g m at)
    unfolding w.explicit_document_start w.after_directives
    fair_explicit at h = each_directives l m at _ at _ _
        (λ i q k. omega (arith, declare-length g (suc i - at) at m.handles))
        λ i q. each_look l _ _ λ k. each_if _
        (λ e. fair_document _ _ _ _ _ (omega arith) (omega arith))
        λ e. each_if _ (λ e. refused 5 _ tt) λ e. refused 2 _ tt

    fair_document_start : (implicit : Bool) → Fair l m 3 1 0 (w.document_start g m implicit)
    unfolding w.document_start w.document_start_at
    fair_document_start implicit =
        let f = past-le g (w.DOCUMENT_END ∷ w.BYTE_ORDER_MARK ∷ []) (g.count - m.at) m.at in
        each_look l _ _ λ h. each_if _
        (λ e. fair_give _ _ _ (omega (arith, when_so 1 e)))
        λ e. each_if _
        (λ e. fair_explicit _ f)
        λ e. each_if _
        (λ e. fair_document _ _ _ _ _ (omega arith) (omega arith))
        λ e. fair_explicit _ f

  fair_document_end_at : (at : ℕ) → m.at ≤ at → Fair l m 4 1 0 (w.document_end_at g at)
  unfolding w.document_end_at w.document_ends
  fair_document_end_at at f = each_look l _ _ λ h. each_if _
      (λ e. next _ (omega (arith, told-cleared g.keep)))
      λ e. each_if _ (λ e. refused 6 _ tt)
      λ e. next _ (omega (arith, told-cleared g.keep))

  fair_document_end : Fair l m 4 1 0 (w.document_end g m)
  unfolding w.document_end w.after_marks
  fair_document_end = each_look l _ _ λ h. each_if _
      (λ e. each_look l _ _ λ h'. each_if _
      (λ e. fair_document_end_at _ (past-le g _ _ _))
      (λ e. refused 5 _ tt))
      λ e. fair_document_end_at _ (omega arith)

  pub fair_machine : (state : State) → Held m (weigh state).rises → ended state ≡ false → m.at ≤ g.count
      → Fair l m ((weigh state).pays (value_at l m.at)) (weigh state).rises (weigh state).level (w.state_machine g m state)
  unfolding w.state_machine ended numbers ranked
  fair_machine s.StreamStart u n h = fair_stream_start
  fair_machine s.ImplicitDocumentStart u n h = fair_document_start u true
  fair_machine s.DocumentStart u n h = fair_document_start u false
  fair_machine s.DocumentContent u n h = fair_document_content u
  fair_machine s.DocumentEnd u n h = fair_document_end
  fair_machine s.BlockNode u n h = fair_parse_node u _ _ _ _ (omega arith)
  fair_machine s.BlockSequenceFirstEntry u n h = fair_block_sequence_entry u true (omega arith)
  fair_machine s.BlockSequenceEntry u n h = fair_block_sequence_entry u false (omega arith)
  fair_machine s.IndentlessSequenceEntry u n h = fair_indentless_sequence_entry u
  fair_machine s.BlockMappingFirstKey u n h = fair_block_mapping_key u true (omega arith)
  fair_machine s.BlockMappingKey u n h = fair_block_mapping_key u false (omega arith)
  fair_machine s.BlockMappingValue u n h = fair_block_mapping_value u
  fair_machine s.FlowSequenceFirstEntry u n h = fair_flow_sequence_entry u true (omega arith)
  fair_machine s.FlowSequenceEntry u n h = fair_flow_sequence_entry u false (omega arith)
  fair_machine s.FlowSequenceEntryMappingKey u n h = fair_pair_key u
  fair_machine s.FlowSequenceEntryMappingValue u n h = fair_pair_value u
  fair_machine (s.FlowSequenceEntryMappingEnd mark) u n h = fair_pair_end mark h
  fair_machine s.FlowMappingFirstKey u n h = fair_flow_mapping_key u true (omega arith)
  fair_machine s.FlowMappingKey u n h = fair_flow_mapping_key u false (omega arith)
  fair_machine s.FlowMappingValue u n h = fair_flow_mapping_value u
  fair_machine s.FlowMappingEmptyValue u n h = fair_empty_value
  fair_machine s.End u n h = let z : ◌≡◌ {A = ℕ} 0 1 = cc in absurd (omega arith)
