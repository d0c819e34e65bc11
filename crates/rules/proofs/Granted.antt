-- What a step changes in the places it was granted: a machine that fits its rooms goes to one that fits them. Assumes nothing.
use mathlib.Core.Path.{◌≡◌, refl, sym, ◌∙◌}
use mathlib.Core.Bool.{Bool, true, false}
use mathlib.Core.List.{List, [], ◌∷◌}
use Prim.Native.Nat.{ℕ, zero, suc, ◌+◌, ◌-◌, ◌≤◌}
use native.Mathlib.Omega.{arith}
use borrow.Author.Tests.{leb-true, eqb-true, ne_eqb}
use lib.Dec.{leb}
use lib.ListN.{length}
use Rattle.records.specs.declared.names.Range.{Range}
use Rattle.records.specs.declared.tokens.Token.{Token}
use Rattle.records.specs.declared.tokens.Read.{Read}
use Rattle.records.specs.declared.tokens.Read.TheVariants as read
use Rattle.records.specs.declared.events.Event.{Event}
use Rattle.tables.specs.Tables.{entered}
use Rattle.tables.specs.Anchors as anchors
use Rattle.tables.specs.declared.anchors.Anchor.{Anchor}
use Rattle.tables.specs.declared.handles.Handle.{Handle}
use Rattle.rules.specs.Rules as w
use Rattle.rules.specs.Rules.{choose◌then◌else◌, Given, Move, Change, Place, Decision, Over}
use Rattle.rules.specs.Run.{Rooms, room, short, limit, Model, small, fresh, Go, named, numbered, handled, after, moved, settle, step}
use Rattle.rules.specs.Lists.{Reached, start, on}
use Rattle.rules.specs.declared.State.{State}
use Rattle.rules.specs.declared.State.TheVariants as s
use Rattle.rules.proofs.Sizes.{entered_size, entered-length}

pub record Fits (r : Rooms) (m : Model) : Type 0 where
  pub deep : length m.stack ≤ r.opens
  pub anchors : length m.anchors ≤ r.anchors
  pub handles : length m.handles ≤ r.handles

-- the places that a move uses, with n states open
abbrev pub opened : Move → ℕ → ℕ
opened (w.Stay state) n = n
opened (w.Push p state) n = suc n
opened w.Pop n = n

pub record Granted (r : Rooms) (g : Given) (m : Model) (c : Change) : Type 0 where
  pub deep : opened c.move (length m.stack) ≤ r.opens
  pub anchors : length (named g m c.names) ≤ r.anchors
  pub handles : length (handled g m c.tags) ≤ r.handles

-- a decision whose change uses places that it wanted before
data Grants (r : Rooms) (g : Given) (m : Model) : Decision → Type 0 where
  refused : (n p : ℕ) → Grants r g m (w.Refused n p)
  ended : Grants r g m w.Unreachable
  wants : (p : Place) (n : ℕ) {d : Decision} → (n ≤ room r p → Grants r g m d) → Grants r g m (w.Wants p n d)
  next : (c : Change) → Granted r g m c → Grants r g m (w.Next c)

-- a name that is there takes no more room
entered_hit : {A : Type 0} (p : A → Bool) (x : A) (xs : List A) → w.hit? (w.first p xs) ≡ true → length (entered p x xs) ≡ length xs
unfolding choose◌then◌else◌
entered_hit p x xs h = rw (entered_size p x xs, h)

-- one more token declared
pub declare_more : (g : Given) (n at : ℕ) (hs : List Handle) → w.declare g (suc n) at hs ≡ w.declare_read g (g.read (at + n)) (w.declare g n at hs)
unfolding w.declare
declare_more g zero at hs = let e : at + 0 ≡ at = omega arith in rw e
declare_more g (suc n) at hs =
    let e : suc at + n ≡ at + suc n = omega arith in
    rw (← e) (declare_more g n (suc at) (w.declare_read g (g.read at) hs))

module _ (r : Rooms) (g : Given) (m : Model) (f : Fits r m) where
  grants_if : {d e : Decision} (t : Bool) → (t ≡ true → Grants r g m d) → (t ≡ false → Grants r g m e) → Grants r g m (choose t then d else e)
  unfolding choose◌then◌else◌
  grants_if true h k = h refl
  grants_if false h k = k refl

  grants_look : (at : ℕ) (k : Token → Decision) → ((t : Token) → g.read at ≡ read.Token t → Grants r g m (k t)) → Grants r g m (w.look g at k)
  unfolding w.look w.seen
  grants_look at k h = go (g.read at) refl where
    go : (x : Read) → g.read at ≡ x → Grants r g m (w.seen x k)
    go (read.Token t) e = h t e
    go (read.Refused x) e = refused _ _

  grants_give : (at : ℕ) (mv : Move) (e : Event) → opened mv (length m.stack) ≤ r.opens → Grants r g m (w.give at mv e)
  unfolding w.give named handled
  grants_give at mv e h = next _ (record { deep = h; anchors = f.anchors; handles = f.handles })

  grants_push : {d : Decision} → (suc (length m.stack) ≤ r.opens → Grants r g m d) → Grants r g m (w.push_state (small m) d)
  unfolding w.push_state small room
  grants_push h = wants _ _ h

  grants_first : (first? : Bool) (k : ℕ → Decision) → ((at : ℕ) → Grants r g m (k at)) → Grants r g m (w.taken_first g (small m) first? k)
  unfolding w.taken_first
  grants_first true k h = grants_look _ _ λ t e. h _
  grants_first false k h = h _

  grants_tag : (p : w.Properties) (t : Token) (k : w.Properties → Decision)
      → ((q : w.Properties) → q.names ≡ p.names → Grants r g m (k q)) → Grants r g m (w.with_tag g (small m) p t k)
  unfolding w.with_tag w.tagged
  grants_tag p t k h = go (w.resolve_tag g (small m) t.a) where
    go : (x : w.Resolved) → Grants r g m (w.tagged x p t k)
    go w.Undeclared = refused _ _
    go (w.Tagged source prefix) = h _ refl

  -- the places of a node: over what it stands, and its name
  abbrev over_depth : Over → ℕ
  over_depth w.Here = length m.stack
  over_depth (w.Above p) = suc (length m.stack)

  abbrev Named : w.Names → Type 0
  Named n = length (named g m n) ≤ r.anchors

  kept_names : Named w.NamesKept
  unfolding named
  kept_names = f.anchors

  grants_register : (t : Token) {d : Decision} → (Named (w.NamePut t.a) → Grants r g m d) → Grants r g m (w.register_anchor g (small m) t d)
  unfolding w.register_anchor named small room
  grants_register t h =
      let p = anchors.named g.text t.a in
      let x : Anchor = record { name = t.a; id = m.next } in
      grants_if _ (λ e. h (omega (arith, f.anchors, entered_hit p x m.anchors e)))
      (λ e. wants _ _ (λ i. h (omega (arith, entered-length p x m.anchors))))

  into_deep : (over : Over) (state : State) → over_depth over ≤ r.opens → opened (w.into over state) (length m.stack) ≤ r.opens
  unfolding w.into
  into_deep w.Here state h = h
  into_deep (w.Above p) state h = h

  pop_deep : (over : Over) → over_depth over ≤ r.opens → opened (w.pop_state over) (length m.stack) ≤ r.opens
  unfolding w.pop_state
  pop_deep w.Here h = h
  pop_deep (w.Above p) h = omega arith

  grants_node : (at : ℕ) (mv : Move) (p : w.Properties) (kind end style : ℕ) (value : Range) → opened mv (length m.stack) ≤ r.opens
      → Named p.names → Grants r g m (w.node at mv p kind end style value)
  unfolding w.node handled
  grants_node at mv p kind end style value h n = next _ (record { deep = h; anchors = n; handles = f.handles })

  grants_content : (at : ℕ) (over : Over) (block indentless : Bool) (p : w.Properties) (t : Token) → over_depth over ≤ r.opens → Named p.names
      → Grants r g m (w.content at over block indentless p t)
  unfolding w.content w.block_content
  grants_content at over block indentless p t h n = grants_if _
      (λ e. grants_node _ _ p _ _ _ _ (into_deep over _ h) n)
      λ e. grants_if _
      (λ e. grants_node _ _ p _ _ _ _ (pop_deep over h) n)
      λ e. grants_if _
      (λ e. grants_node _ _ p _ _ _ _ (into_deep over _ h) n)
      λ e. grants_if _
      (λ e. grants_node _ _ p _ _ _ _ (into_deep over _ h) n)
      λ e. grants_if _
      (λ e. grants_node _ _ p _ _ _ _ (into_deep over _ h) n)
      λ e. grants_if _
      (λ e. grants_node _ _ p _ _ _ _ (into_deep over _ h) n)
      λ e. grants_if _
      (λ e. grants_node _ _ p _ _ _ _ (pop_deep over h) n)
      λ e. refused _ _

  grants_alias : (at : ℕ) (over : Over) (t : Token) (x : w.Hit Anchor) → over_depth over ≤ r.opens → Grants r g m (w.alias at over t x)
  unfolding w.alias
  grants_alias at over t w.Miss h = refused _ _
  grants_alias at over t (w.Got a) h = grants_give _ _ _ (pop_deep over h)

  grants_parse_node : (at : ℕ) (over : Over) (block indentless : Bool) → over_depth over ≤ r.opens
      → Grants r g m (w.parse_node g (small m) at over block indentless)
  unfolding w.parse_node w.node_from w.node_properties w.anchor_first w.tag_first w.node_content w.no_properties w.with_anchor
  grants_parse_node at over block indentless h = grants_look _ _ λ t e. grants_if _
      (λ e. grants_alias _ over _ _ h)
      λ e. grants_if _
      (λ e. grants_register t λ n. grants_look _ _ λ u e. grants_if _
      (λ e. grants_tag _ _ _ λ q i. grants_look _ _ λ t e. grants_content _ over _ _ q _ h (rw i n))
      (λ e. grants_content _ over _ _ _ _ h n))
      λ e. grants_if _
      (λ e. grants_tag _ _ _ λ q i. grants_look _ _ λ u e. grants_if _
      (λ e. grants_register u λ n. grants_look _ _ λ t e. grants_content _ over _ _ _ _ h n)
      (λ e. grants_content _ over _ _ q _ h (rw i kept_names)))
      λ e. grants_content _ over _ _ _ _ h kept_names

  grants_over : (at : ℕ) (p : State) (block indentless : Bool) → Grants r g m (w.parse_node_over g (small m) at p block indentless)
  unfolding w.parse_node_over
  grants_over at p block indentless = grants_push λ h. grants_parse_node at (w.Above p) block indentless h

  grants_mapping_key : (first? : Bool) → Grants r g m (w.block_mapping_key g (small m) first?)
  unfolding w.block_mapping_key w.block_mapping_at
  grants_mapping_key first? = grants_first first? _ λ at. grants_look _ _ λ t e. grants_if _
      (λ e. grants_look _ _ λ u e. grants_if _ (λ e. grants_give _ _ _ f.deep) (λ e. grants_over _ _ _ _))
      λ e. grants_if _ (λ e. grants_give _ _ _ f.deep)
      λ e. grants_if _ (λ e. grants_give _ _ _ f.deep)
      λ e. refused _ _

  grants_mapping_value : Grants r g m (w.block_mapping_value g (small m))
  unfolding w.block_mapping_value
  grants_mapping_value = grants_look _ _ λ t e. grants_if _
      (λ e. grants_look _ _ λ u e. grants_if _ (λ e. grants_give _ _ _ f.deep) (λ e. grants_over _ _ _ _))
      (λ e. grants_give _ _ _ f.deep)

  grants_flow_mapping_entry : (at : ℕ) (mark : Token) → Grants r g m (w.flow_mapping_entry g (small m) at mark)
  unfolding w.flow_mapping_entry
  grants_flow_mapping_entry at mark = grants_look _ _ λ t e. grants_if _
      (λ e. grants_look _ _ λ u e. grants_if _ (λ e. grants_give _ _ _ f.deep) (λ e. grants_over _ _ _ _))
      λ e. grants_if _ (λ e. grants_give _ _ _ f.deep)
      λ e. grants_if _ (λ e. grants_give _ _ _ f.deep)
      λ e. grants_over _ _ _ _

  grants_flow_mapping_key : (first? : Bool) → Grants r g m (w.flow_mapping_key g (small m) first?)
  unfolding w.flow_mapping_key w.flow_mapping_at
  grants_flow_mapping_key first? = grants_first first? _ λ at. grants_look _ _ λ t e. grants_if _
      (λ e. grants_give _ _ _ f.deep)
      λ e. grants_if _ (λ e. grants_flow_mapping_entry _ _)
      λ e. grants_if _ (λ e. grants_flow_mapping_entry _ _)
      λ e. refused _ _

  grants_flow_mapping_value : (empty : Bool) → Grants r g m (w.flow_mapping_value g (small m) empty)
  unfolding w.flow_mapping_value
  grants_flow_mapping_value empty = grants_look _ _ λ t e. grants_if _
      (λ e. grants_give _ _ _ f.deep)
      λ e. grants_if _
      (λ e. grants_look _ _ λ u e. grants_if _ (λ e. grants_give _ _ _ f.deep) (λ e. grants_over _ _ _ _))
      λ e. grants_give _ _ _ f.deep

  grants_flow_entry : (at : ℕ) → Grants r g m (w.flow_entry g (small m) at)
  unfolding w.flow_entry
  grants_flow_entry at = grants_look _ _ λ t e. grants_if _
      (λ e. grants_give _ _ _ f.deep)
      λ e. grants_if _ (λ e. grants_give _ _ _ f.deep)
      λ e. grants_over _ _ _ _

  grants_flow_sequence : (first? : Bool) → Grants r g m (w.flow_sequence_entry g (small m) first?)
  unfolding w.flow_sequence_entry w.flow_sequence_at
  grants_flow_sequence first? = grants_first first? _ λ at. grants_look _ _ λ t e. grants_if _
      (λ e. grants_give _ _ _ f.deep)
      λ e. grants_if _ (λ e. grants_flow_entry _)
      λ e. grants_if _ (λ e. grants_flow_entry _)
      λ e. refused _ _

  grants_indentless : Grants r g m (w.indentless_sequence_entry g (small m))
  unfolding w.indentless_sequence_entry
  grants_indentless = grants_look _ _ λ t e. grants_if _
      (λ e. grants_look _ _ λ u e. grants_if _ (λ e. grants_give _ _ _ f.deep) (λ e. grants_over _ _ _ _))
      λ e. grants_give _ _ _ f.deep

  grants_sequence : (first? : Bool) → Grants r g m (w.block_sequence_entry g (small m) first?)
  unfolding w.block_sequence_entry w.block_sequence_at
  grants_sequence first? = grants_first first? _ λ at. grants_look _ _ λ t e. grants_if _
      (λ e. grants_give _ _ _ f.deep)
      λ e. grants_if _
      (λ e. grants_look _ _ λ u e. grants_if _ (λ e. grants_give _ _ _ f.deep) (λ e. grants_over _ _ _ _))
      λ e. refused _ _

  grants_pair_key : Grants r g m (w.flow_sequence_entry_mapping_key g (small m))
  unfolding w.flow_sequence_entry_mapping_key
  grants_pair_key = grants_look _ _ λ t e. grants_if _ (λ e. grants_give _ _ _ f.deep) (λ e. grants_over _ _ _ _)

  grants_pair_value : Grants r g m (w.flow_sequence_entry_mapping_value g (small m))
  unfolding w.flow_sequence_entry_mapping_value
  grants_pair_value = grants_look _ _ λ t e. grants_if _
      (λ e. grants_look _ _ λ u e. grants_if _ (λ e. grants_give _ _ _ f.deep) (λ e. grants_over _ _ _ _))
      λ e. grants_give _ _ _ f.deep

  grants_pair_end : (mark : ℕ) → Grants r g m (w.flow_sequence_entry_mapping_end (small m) mark)
  unfolding w.flow_sequence_entry_mapping_end
  grants_pair_end mark = grants_give _ _ _ f.deep

  grants_stream_start : Grants r g m (w.stream_start g (small m))
  unfolding w.stream_start
  grants_stream_start = grants_look _ _ λ t e. grants_if _ (λ e. grants_give _ _ _ f.deep) (λ e. refused _ _)

  grants_document_content : Grants r g m (w.document_content g (small m))
  unfolding w.document_content small
  grants_document_content = grants_look _ _ λ t e. grants_if _ (λ e. grants_give _ _ _ f.deep) (λ e. grants_parse_node _ w.Here _ _ f.deep)

  -- a document forgets names or keeps them
  document_named : Named (w.document_names g)
  unfolding w.document_names named choose◌then◌else◌
  document_named = go g.forget where
    go : (t : Bool) → Named (choose t then w.NamesForgotten else w.NamesKept)
    go true = omega arith
    go false = f.anchors

  grants_document : (at : ℕ) (t : Token) (explicit : ℕ) (state : State) (tags : w.Tags) → length (handled g m tags) ≤ r.handles
      → Grants r g m (w.document g (small m) at t explicit state tags)
  unfolding w.document
  grants_document at t explicit state tags h = grants_push λ i. next _ (record { deep = i; anchors = document_named; handles = h })

  -- the handles of the tokens up to `at` have their places
  abbrev Declared : ℕ → ℕ → Type 0
  Declared from at = length (w.declare g (at - from) from m.handles) ≤ r.handles

  declared_on : (from at : ℕ) (t : Token) → from ≤ at → g.read at ≡ read.Token t → w.is t w.TAG_DIRECTIVE ≡ false → Declared from at
      → Declared from (suc at)
  unfolding w.declare_read choose◌then◌else◌
  declared_on from at t l e i h =
      let q : suc at - from ≡ suc (at - from) = omega arith in
      let k : from + (at - from) ≡ at = omega arith in
      rw (q, declare_more g (at - from) from m.handles, k, e, i) h

  other_kind : (t : Token) (k : ℕ) → (k ≡ 4 → ⊥) → w.is t k ≡ true → w.is t w.TAG_DIRECTIVE ≡ false
  unfolding w.is
  other_kind t k d e = ne_eqb t.kind 4 (λ q. d (sym (eqb-true t.kind k e) ∙ q))

  grants_directives : (from n at : ℕ) (version : Bool) (k : ℕ → Decision) → from ≤ at → Declared from at
      → ((i : ℕ) → from ≤ i → Declared from i → Grants r g m (k i))
      → Grants r g m (w.parser_process_directives g (small m) from n at version k)
  unfolding w.parser_process_directives w.tag_directive small room
  grants_directives from zero at version k l h q = q at l h
  grants_directives from (suc n) at version k l h q =
      let onward : (v : Bool) → Declared from (suc at) → Grants r g m (w.parser_process_directives g (small m) from n (suc at) v k) =
      λ v i. grants_directives from n (suc at) v k (omega arith) i q in
      grants_look _ _ λ t e. grants_if _
      (λ i. grants_if _ (λ e. refused _ _) (λ j. onward true (declared_on from at t l e (other_kind t 3 (λ z. omega arith) i) h)))
      λ j. grants_if _
      (λ i. grants_if _ (λ e. refused _ _) (λ j. wants _ _ (onward version)))
      λ j. grants_if _
      (λ i. onward version (declared_on from at t l e j h))
      λ i. q at l h

  grants_explicit : (at : ℕ) → Grants r g m (w.explicit_document_start g (small m) at)
  unfolding w.explicit_document_start w.after_directives w.declare handled
  grants_explicit at =
      let z : at - at ≡ 0 = omega arith in
      grants_directives at _ at _ _ (omega arith) (rw z f.handles) λ i l h. grants_look _ _ λ t e. grants_if _
      (λ e. grants_document _ _ _ _ _ h)
      λ e. grants_if _ (λ e. refused _ _) (λ e. refused _ _)

  grants_document_start : (implicit : Bool) → Grants r g m (w.document_start g (small m) implicit)
  unfolding w.document_start w.document_start_at handled
  grants_document_start implicit = grants_look _ _ λ t e. grants_if _
      (λ e. grants_give _ _ _ f.deep)
      λ e. grants_if _ (λ e. grants_explicit _)
      λ e. grants_if _ (λ e. grants_document _ _ _ _ _ f.handles)
      λ e. grants_explicit _

  cleared_tags : (t : Bool) → length (handled g m (choose t then w.TagsKept else w.TagsForgotten)) ≤ r.handles
  unfolding handled choose◌then◌else◌
  cleared_tags true = f.handles
  cleared_tags false = omega arith

  grants_document_ends : (at : ℕ) (t : Token) (state : State) → Grants r g m (w.document_ends g at t state)
  unfolding w.document_ends
  grants_document_ends at t state = next _ (record { deep = f.deep; anchors = kept_names; handles = cleared_tags g.keep })

  grants_document_end_at : (at : ℕ) → Grants r g m (w.document_end_at g at)
  unfolding w.document_end_at
  grants_document_end_at at = grants_look _ _ λ t e. grants_if _
      (λ e. grants_document_ends _ _ _)
      λ e. grants_if _ (λ e. refused _ _) (λ e. grants_document_ends _ _ _)

  grants_document_end : Grants r g m (w.document_end g (small m))
  unfolding w.document_end w.after_marks
  grants_document_end = grants_look _ _ λ t e. grants_if _
      (λ e. grants_look _ _ λ u e. grants_if _ (λ e. grants_document_end_at _) (λ e. refused _ _))
      λ e. grants_document_end_at _

  grants_machine : (state : State) → Grants r g m (w.state_machine g (small m) state)
  unfolding w.state_machine
  grants_machine s.StreamStart = grants_stream_start
  grants_machine s.ImplicitDocumentStart = grants_document_start true
  grants_machine s.DocumentStart = grants_document_start false
  grants_machine s.DocumentContent = grants_document_content
  grants_machine s.DocumentEnd = grants_document_end
  grants_machine s.BlockNode = grants_parse_node _ w.Here _ _ f.deep
  grants_machine s.BlockSequenceFirstEntry = grants_sequence true
  grants_machine s.BlockSequenceEntry = grants_sequence false
  grants_machine s.IndentlessSequenceEntry = grants_indentless
  grants_machine s.BlockMappingFirstKey = grants_mapping_key true
  grants_machine s.BlockMappingKey = grants_mapping_key false
  grants_machine s.BlockMappingValue = grants_mapping_value
  grants_machine s.FlowSequenceFirstEntry = grants_flow_sequence true
  grants_machine s.FlowSequenceEntry = grants_flow_sequence false
  grants_machine s.FlowSequenceEntryMappingKey = grants_pair_key
  grants_machine s.FlowSequenceEntryMappingValue = grants_pair_value
  grants_machine (s.FlowSequenceEntryMappingEnd mark) = grants_pair_end mark
  grants_machine s.FlowMappingFirstKey = grants_flow_mapping_key true
  grants_machine s.FlowMappingKey = grants_flow_mapping_key false
  grants_machine s.FlowMappingValue = grants_flow_mapping_value false
  grants_machine s.FlowMappingEmptyValue = grants_flow_mapping_value true
  grants_machine s.End = ended

  grants_limit : {d : Decision} {c : Change} → Grants r g m d → limit r d ≡ w.Next c → Granted r g m c
  unfolding limit choose◌then◌else◌
  grants_limit (refused n p) e = let z : ◌≡◌ {A = ℕ} 0 1 = cc in absurd (omega arith)
  grants_limit ended e = let z : ◌≡◌ {A = ℕ} 0 1 = cc in absurd (omega arith)
  grants_limit {c = c} (wants p n {d = d} h) e = go (leb n (room r p)) refl e (λ i. grants_limit (h i)) where
    go : (t : Bool) → leb n (room r p) ≡ t → (choose t then limit r d else w.Refused (short p) 0) ≡ w.Next c
        → (n ≤ room r p → limit r d ≡ w.Next c → Granted r g m c) → Granted r g m c
    go true q e k = k (leb-true n (room r p) q) e
    go false q e k = let z : ◌≡◌ {A = ℕ} 0 1 = cc in absurd (omega arith)
  grants_limit {c = c} (next c' h) e = let q : c' ≡ c = cc in rw (← q) h

  -- what `limit` lets through was granted
  pub granted : (c : Change) → limit r (w.state_machine g (small m) m.state) ≡ w.Next c → Granted r g m c
  granted c e = grants_limit (grants_machine m.state) e

  fits_moved : (c : Change) (mv : Move) (stack : List State) (e : Event) (m' : Model) → opened mv (length stack) ≤ r.opens
      → length (named g m c.names) ≤ r.anchors → length (handled g m c.tags) ≤ r.handles
      → moved g m c mv stack ≡ Go e m' → Fits r m'
  unfolding moved after
  fits_moved c (w.Stay state) stack e m' d a h q =
      let x : record { state = state; at = c.at; stack = stack; anchors = named g m c.names; handles = handled g m c.tags; next = numbered m.next c.names } ≡ m' = cc in
      rw (← x) (record { deep = d; anchors = a; handles = h })
  fits_moved c (w.Push p state) stack e m' d a h q =
      let x : record { state = state; at = c.at; stack = p ∷ stack; anchors = named g m c.names; handles = handled g m c.tags; next = numbered m.next c.names } ≡ m' = cc in
      rw (← x) (record { deep = d; anchors = a; handles = h })
  fits_moved c w.Pop [] e m' d a h q = let z : ◌≡◌ {A = ℕ} 0 1 = cc in absurd (omega arith)
  fits_moved c w.Pop (p ∷ stack) e m' d a h q =
      let x : record { state = p; at = c.at; stack = stack; anchors = named g m c.names; handles = handled g m c.tags; next = numbered m.next c.names } ≡ m' = cc in
      rw (← x) (record { deep = omega arith; anchors = a; handles = h })

  fits_step : (e : Event) (m' : Model) → step r g m ≡ Go e m' → Fits r m'
  unfolding step settle
  fits_step e m' q = go (limit r (w.state_machine g (small m) m.state)) refl q where
    go : (d : Decision) → limit r (w.state_machine g (small m) m.state) ≡ d → settle g m d ≡ Go e m' → Fits r m'
    go (w.Next c) i q = let k = granted c i in fits_moved c c.move m.stack e m' k.deep k.anchors k.handles q
    go (w.Refused n p) i q = let z : ◌≡◌ {A = ℕ} 0 1 = cc in absurd (omega arith)
    go w.Unreachable i q = let z : ◌≡◌ {A = ℕ} 0 1 = cc in absurd (omega arith)
    go (w.Wants p n d) i q = let z : ◌≡◌ {A = ℕ} 0 1 = cc in absurd (omega arith)

-- every machine that a run comes to fits
pub reached_fits : {r : Rooms} {g : Given} {n : ℕ} {m : Model} → Reached r g n m → Fits r m
unfolding fresh
reached_fits start = omega arith
reached_fits {r} {g} (on {m = m} {m' = m'} e h a q) = fits_step r g m (reached_fits h) e m' q

numbered_most : (n : ℕ) (names : w.Names) → numbered n names ≤ suc n
unfolding numbered
numbered_most n w.NamesKept = omega arith
numbered_most n (w.NamePut x) = omega arith
numbered_most n w.NamesForgotten = omega arith

-- a step uses up one id at most
module _ (r : Rooms) (g : Given) (m : Model) (e : Event) (m' : Model) where
  next_moved : (c : Change) (mv : Move) (stack : List State) → moved g m c mv stack ≡ Go e m' → m'.next ≤ suc m.next
  unfolding moved after
  next_moved c (w.Stay state) stack q = let x : numbered m.next c.names ≡ m'.next = cc in omega (arith, numbered_most m.next c.names)
  next_moved c (w.Push p state) stack q = let x : numbered m.next c.names ≡ m'.next = cc in omega (arith, numbered_most m.next c.names)
  next_moved c w.Pop [] q = let z : ◌≡◌ {A = ℕ} 0 1 = cc in absurd (omega arith)
  next_moved c w.Pop (p ∷ stack) q = let x : numbered m.next c.names ≡ m'.next = cc in omega (arith, numbered_most m.next c.names)

  next_settle : (d : Decision) → settle g m d ≡ Go e m' → m'.next ≤ suc m.next
  unfolding settle
  next_settle (w.Next c) q = next_moved c c.move m.stack q
  next_settle (w.Refused n p) q = let z : ◌≡◌ {A = ℕ} 0 1 = cc in absurd (omega arith)
  next_settle w.Unreachable q = let z : ◌≡◌ {A = ℕ} 0 1 = cc in absurd (omega arith)
  next_settle (w.Wants p n d) q = let z : ◌≡◌ {A = ℕ} 0 1 = cc in absurd (omega arith)

  next_step : step r g m ≡ Go e m' → m'.next ≤ suc m.next
  unfolding step
  next_step q = next_settle (limit r (w.state_machine g (small m) m.state)) q

-- ids are given one by one
pub reached_next : {r : Rooms} {g : Given} {n : ℕ} {m : Model} → Reached r g n m → m.next ≤ suc n
unfolding fresh
reached_next start = omega arith
reached_next {r} {g} (on {m = m} {m' = m'} e h a q) = omega (arith, reached_next h, next_step r g m e m' q)
