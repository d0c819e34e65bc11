-- Each step's event leads from where its state stands in the walk of `load` to where the next one does. Assumes nothing.
use mathlib.Core.Path.{◌≡◌, refl}
use mathlib.Core.Bool.{Bool, true, false}
use mathlib.Core.List.{List, [], ◌∷◌, ◌++◌}
use Prim.Native.Nat.{ℕ}
use native.Mathlib.Omega.{arith}
use Rattle.records.specs.declared.names.Range.{Range}
use Rattle.records.specs.declared.tokens.Token.{Token}
use Rattle.rules.specs.States.{numbers, ranked}
use Rattle.rules.specs.Rules as w
use Rattle.rules.specs.Rules.{Given, Small, Move, Stay, Push, Pop, Decision}
use Rattle.rules.specs.Run.{ended}
use Rattle.rules.specs.Lists.{Listed}
use Rattle.rules.specs.Walk as k
use Rattle.rules.specs.Walk.{Open, Place, inside, May}
use Rattle.rules.specs.declared.State.{State}
use Rattle.rules.specs.declared.State.TheVariants as s
use Rattle.rules.proofs.WordLaws.{Each, refused, next, each_if, each_push, each_look, each_directives, each_first, each_node}
use Rattle.rules.proofs.Weights.{weigh}

-- where a state stands: at one place, before a node, or where a node in these collections has ended
pub data Standing : Type 0 where
  Fixed : Place → Standing
  Node : Standing
  After : List Open → Standing

abbrev pub standing : State → Standing
standing s.StreamStart = Fixed k.outside
standing s.ImplicitDocumentStart = Fixed k.between
standing s.DocumentStart = Fixed k.between
standing s.DocumentContent = Node
standing s.DocumentEnd = After []
standing s.BlockNode = Node
standing s.BlockSequenceFirstEntry = After (k.sequence ∷ [])
standing s.BlockSequenceEntry = After (k.sequence ∷ [])
standing s.IndentlessSequenceEntry = After (k.sequence ∷ [])
standing s.BlockMappingFirstKey = After (k.value ∷ [])
standing s.BlockMappingKey = After (k.value ∷ [])
standing s.BlockMappingValue = After (k.key ∷ [])
standing s.FlowSequenceFirstEntry = After (k.sequence ∷ [])
standing s.FlowSequenceEntry = After (k.sequence ∷ [])
standing s.FlowSequenceEntryMappingKey = After (k.value ∷ k.sequence ∷ [])
standing s.FlowSequenceEntryMappingValue = After (k.key ∷ k.sequence ∷ [])
standing (s.FlowSequenceEntryMappingEnd mark) = After (k.value ∷ k.sequence ∷ [])
standing s.FlowMappingFirstKey = After (k.value ∷ [])
standing s.FlowMappingKey = After (k.value ∷ [])
standing s.FlowMappingValue = After (k.key ∷ [])
standing s.FlowMappingEmptyValue = After (k.key ∷ [])
standing s.End = Fixed k.over

-- with o open below
abbrev pub place : Standing → List Open → Place
place (Fixed p) o = p
place Node o = inside o
place (After b) o = k.ended (b ++ o)

-- what an open state adds to what is open
abbrev pub adds : Standing → List Open
adds (Fixed p) = []
adds Node = []
adds (After b) = b

-- an open state is one that a node's end leads to
abbrev pub Returns : Standing → Type 0
Returns (Fixed p) = ⊥
Returns Node = ⊥
Returns (After b) = Unit {0}

pub returns : (x : Standing) → Returns x → (o : List Open) → place x o ≡ k.ended (adds x ++ o)
returns (Fixed p) h o = absurd h
returns Node h o = absurd h
returns (After b) h o = refl

abbrev pub Led : Place → ℕ → Move → List Open → Type 0
Led p kind (Stay state) o = May p kind (place (standing state) o)
Led p kind (Push q state) o = May p kind (place (standing state) (adds (standing q) ++ o)) × Returns (standing q)
Led p kind Pop o = May p kind (k.ended o)

-- the event of a change leads from where its state stands to where its move does; outside of documents nothing is open
abbrev pub Leads : State → ℕ → Move → Type 0
Leads state kind mv = (o : List Open) → ((weigh state).level ≡ 0 → o ≡ []) → Led (place (standing state) o) kind mv o

abbrev pub Walks : State → Decision → Type 0
Walks state = Each (λ p n. Unit {0}) (λ c. Leads state c.event.kind c.move)

-- what parse_node stands in
abbrev over_adds : w.Over → List Open → List Open
over_adds w.Here o = o
over_adds (w.Above p) o = adds (standing p) ++ o

abbrev Over-returns : w.Over → Type 0
Over-returns w.Here = Unit {0}
Over-returns (w.Above p) = Returns (standing p)

record Awaits (state : State) (over : w.Over) : Type 0 where
  stands : (o : List Open) → place (standing state) o ≡ inside (over_adds over o)
  comes : Over-returns over

leads_pop : (state : State) (over : w.Over) (kind : ℕ) → Awaits state over
    → ((o : List Open) → May (inside o) kind (k.ended o)) → Leads state kind (w.pop_state over)
unfolding w.pop_state
leads_pop state w.Here kind a h o z = rw (a.stands o) (h o)
leads_pop state (w.Above p) kind a h o z = rw (a.stands o, returns (standing p) a.comes o) (h _)

leads_into : (state : State) (over : w.Over) (kind : ℕ) (inner : State) (x : Open) → Awaits state over
    → ((o : List Open) → place (standing inner) o ≡ inside (x ∷ o))
    → ((o : List Open) → May (inside o) kind (inside (x ∷ o))) → Leads state kind (w.into over inner)
unfolding w.into
leads_into state w.Here kind inner x a q h o z = rw (a.stands o, q o) (h o)
leads_into state (w.Above p) kind inner x a q h o z = (rw (a.stands o, q (adds (standing p) ++ o)) (h _), a.comes)

module _ (state : State) where
  w_plain : (at : ℕ) (mv : Move) (kind start end number : ℕ) → Leads state kind mv
      → Walks state (w.give at mv (w.plain kind start end number))
  unfolding w.give w.plain
  w_plain at mv kind start end number h = next _ h

  w_empty : (at : ℕ) (mv : Move) (t : Token) → Leads state 6 mv → Walks state (w.give at mv (w.empty_scalar t))
  unfolding w.empty_scalar
  w_empty at mv t h = w_plain at mv 6 _ _ _ h

  w_node : (at : ℕ) (mv : Move) (p : w.Properties) (kind end style : ℕ) (value : Range) → Leads state kind mv
      → Walks state (w.node at mv p kind end style value)
  unfolding w.node
  w_node at mv p kind end style value h = next _ h

module _ {g : Given} (l : Listed g) (m : Small) (state : State) where
  w_content : (at : ℕ) (over : w.Over) (block indentless : Bool) (p : w.Properties) (t : Token) → Awaits state over
      → Walks state (w.content at over block indentless p t)
  unfolding w.content w.block_content
  w_content at over block indentless p t a =
      let sequence : (inner : State) → ((o : List Open) → place (standing inner) o ≡ inside (k.sequence ∷ o)) → Leads state 7 (w.into over inner) =
      λ inner q. leads_into state over 7 inner k.sequence a q (λ o. k.sequence_start) in
      let mapping : (inner : State) → ((o : List Open) → place (standing inner) o ≡ inside (k.key ∷ o)) → Leads state 9 (w.into over inner) =
      λ inner q. leads_into state over 9 inner k.key a q (λ o. k.mapping_start) in
      let leaf : Leads state 6 (w.pop_state over) = leads_pop state over 6 a (λ o. k.scalar) in
      each_if _ (λ e. w_node state _ _ p _ _ _ _ (sequence s.IndentlessSequenceEntry (λ o. refl)))
      λ e. each_if _ (λ e. w_node state _ _ p _ _ _ _ leaf)
      λ e. each_if _ (λ e. w_node state _ _ p _ _ _ _ (sequence s.FlowSequenceFirstEntry (λ o. refl)))
      λ e. each_if _ (λ e. w_node state _ _ p _ _ _ _ (mapping s.FlowMappingFirstKey (λ o. refl)))
      λ e. each_if _ (λ e. w_node state _ _ p _ _ _ _ (sequence s.BlockSequenceFirstEntry (λ o. refl)))
      λ e. each_if _ (λ e. w_node state _ _ p _ _ _ _ (mapping s.BlockMappingFirstKey (λ o. refl)))
      λ e. each_if _ (λ e. w_node state _ _ p _ _ _ _ leaf) λ e. refused 8 _ tt

  w_parse_node : (at : ℕ) (over : w.Over) (block indentless : Bool) → Awaits state over
      → Walks state (w.parse_node g m at over block indentless)
  w_parse_node at over block indentless a = each_node l m at over block indentless (λ h. tt)
      (λ start end id h. w_plain state _ _ 5 _ _ _ (leads_pop state over 5 a (λ o. k.alias)))
      (λ i p t h j. w_content i over block indentless p t a)
      (λ t h. w_content at over block indentless _ t a)

  -- a node over a new open state, where it may come
  w_over : (at : ℕ) (p : State) (block indentless : Bool)
      → ((o : List Open) → place (standing state) o ≡ inside (adds (standing p) ++ o)) → Returns (standing p)
      → Walks state (w.parse_node_over g m at p block indentless)
  unfolding w.parse_node_over
  w_over at p block indentless h r = each_push m tt (w_parse_node at (w.Above p) block indentless (record { stands = h; comes = r }))

module _ {g : Given} (l : Listed g) (m : Small) where
  w_block_mapping_key : (first? : Bool) → Walks s.BlockMappingKey (w.block_mapping_key g m first?)
  unfolding w.block_mapping_key w.block_mapping_at
  w_block_mapping_key first? = each_first l m first? _ λ at q. each_look l _ _ λ h.
      each_if _ (λ e. each_look l _ _ λ h'. each_if _ (λ e. w_empty s.BlockMappingKey _ _ _ λ o z. k.scalar)
      λ e. w_over l m s.BlockMappingKey _ _ _ _ (λ o. refl) tt)
      λ e. each_if _ (λ e. w_empty s.BlockMappingKey _ _ _ λ o z. k.scalar)
      λ e. each_if _ (λ e. w_plain s.BlockMappingKey _ _ 10 _ _ _ λ o z. k.mapping_end) λ e. refused 9 _ tt

  w_block_mapping_value : Walks s.BlockMappingValue (w.block_mapping_value g m)
  unfolding w.block_mapping_value
  w_block_mapping_value = each_look l _ _ λ h.
      each_if _ (λ e. each_look l _ _ λ h'. each_if _ (λ e. w_empty s.BlockMappingValue _ _ _ λ o z. k.scalar)
      λ e. w_over l m s.BlockMappingValue _ _ _ _ (λ o. refl) tt)
      λ e. w_empty s.BlockMappingValue _ _ _ λ o z. k.scalar

  w_flow_mapping_entry : (at : ℕ) (mark : Token) → Walks s.FlowMappingKey (w.flow_mapping_entry g m at mark)
  unfolding w.flow_mapping_entry
  w_flow_mapping_entry at mark = each_look l _ _ λ h.
      each_if _ (λ e. each_look l _ _ λ h'. each_if _ (λ e. w_empty s.FlowMappingKey _ _ _ λ o z. k.scalar)
      λ e. w_over l m s.FlowMappingKey _ _ _ _ (λ o. refl) tt)
      λ e. each_if _ (λ e. w_empty s.FlowMappingKey _ _ _ λ o z. k.scalar)
      λ e. each_if _ (λ e. w_plain s.FlowMappingKey _ _ 10 _ _ _ λ o z. k.mapping_end)
      λ e. w_over l m s.FlowMappingKey _ _ _ _ (λ o. refl) tt

  w_flow_mapping_key : (first? : Bool) → Walks s.FlowMappingKey (w.flow_mapping_key g m first?)
  unfolding w.flow_mapping_key w.flow_mapping_at
  w_flow_mapping_key first? = each_first l m first? _ λ at q. each_look l _ _ λ h.
      each_if _ (λ e. w_plain s.FlowMappingKey _ _ 10 _ _ _ λ o z. k.mapping_end)
      λ e. each_if _ (λ e. w_flow_mapping_entry _ _)
      λ e. each_if _ (λ e. w_flow_mapping_entry _ _) λ e. refused 10 _ tt

  w_flow_mapping_value : (empty : Bool) → Walks s.FlowMappingValue (w.flow_mapping_value g m empty)
  unfolding w.flow_mapping_value
  w_flow_mapping_value empty = each_look l _ _ λ h.
      each_if _ (λ e. w_empty s.FlowMappingValue _ _ _ λ o z. k.scalar)
      λ e. each_if _ (λ e. each_look l _ _ λ h'. each_if _ (λ e. w_empty s.FlowMappingValue _ _ _ λ o z. k.scalar)
      λ e. w_over l m s.FlowMappingValue _ _ _ _ (λ o. refl) tt)
      λ e. w_empty s.FlowMappingValue _ _ _ λ o z. k.scalar

  w_flow_entry : (at : ℕ) → Walks s.FlowSequenceEntry (w.flow_entry g m at)
  unfolding w.flow_entry
  w_flow_entry at = each_look l _ _ λ h.
      each_if _ (λ e. w_plain s.FlowSequenceEntry _ _ 8 _ _ _ λ o z. k.sequence_end)
      λ e. each_if _ (λ e. w_plain s.FlowSequenceEntry _ _ 9 _ _ _ λ o z. k.mapping_start)
      λ e. w_over l m s.FlowSequenceEntry _ _ _ _ (λ o. refl) tt

  w_flow_sequence_entry : (first? : Bool) → Walks s.FlowSequenceEntry (w.flow_sequence_entry g m first?)
  unfolding w.flow_sequence_entry w.flow_sequence_at
  w_flow_sequence_entry first? = each_first l m first? _ λ at q. each_look l _ _ λ h.
      each_if _ (λ e. w_plain s.FlowSequenceEntry _ _ 8 _ _ _ λ o z. k.sequence_end)
      λ e. each_if _ (λ e. w_flow_entry _)
      λ e. each_if _ (λ e. w_flow_entry _) λ e. refused 11 _ tt

  w_indentless_sequence_entry : Walks s.IndentlessSequenceEntry (w.indentless_sequence_entry g m)
  unfolding w.indentless_sequence_entry
  w_indentless_sequence_entry = each_look l _ _ λ h.
      each_if _ (λ e. each_look l _ _ λ h'. each_if _ (λ e. w_empty s.IndentlessSequenceEntry _ _ _ λ o z. k.scalar)
      λ e. w_over l m s.IndentlessSequenceEntry _ _ _ _ (λ o. refl) tt)
      λ e. w_plain s.IndentlessSequenceEntry _ _ 8 _ _ _ λ o z. k.sequence_end

  w_block_sequence_entry : (first? : Bool) → Walks s.BlockSequenceEntry (w.block_sequence_entry g m first?)
  unfolding w.block_sequence_entry w.block_sequence_at
  w_block_sequence_entry first? = each_first l m first? _ λ at q. each_look l _ _ λ h.
      each_if _ (λ e. w_plain s.BlockSequenceEntry _ _ 8 _ _ _ λ o z. k.sequence_end)
      λ e. each_if _ (λ e. each_look l _ _ λ h'. each_if _ (λ e. w_empty s.BlockSequenceEntry _ _ _ λ o z. k.scalar)
      λ e. w_over l m s.BlockSequenceEntry _ _ _ _ (λ o. refl) tt) λ e. refused 12 _ tt

  w_pair_key : Walks s.FlowSequenceEntryMappingKey (w.flow_sequence_entry_mapping_key g m)
  unfolding w.flow_sequence_entry_mapping_key
  w_pair_key = each_look l _ _ λ h.
      each_if _ (λ e. w_empty s.FlowSequenceEntryMappingKey _ _ _ λ o z. k.scalar)
      λ e. w_over l m s.FlowSequenceEntryMappingKey _ _ _ _ (λ o. refl) tt

  w_pair_value : Walks s.FlowSequenceEntryMappingValue (w.flow_sequence_entry_mapping_value g m)
  unfolding w.flow_sequence_entry_mapping_value
  w_pair_value = each_look l _ _ λ h.
      each_if _ (λ e. each_look l _ _ λ h'. each_if _ (λ e. w_empty s.FlowSequenceEntryMappingValue _ _ _ λ o z. k.scalar)
      λ e. w_over l m s.FlowSequenceEntryMappingValue _ _ _ _ (λ o. refl) tt)
      λ e. w_empty s.FlowSequenceEntryMappingValue _ _ _ λ o z. k.scalar

  w_pair_end : (mark : ℕ) → Walks (s.FlowSequenceEntryMappingEnd mark) (w.flow_sequence_entry_mapping_end m mark)
  unfolding w.flow_sequence_entry_mapping_end
  w_pair_end mark = w_plain (s.FlowSequenceEntryMappingEnd mark) _ _ 10 _ _ _ λ o z. k.mapping_end

  w_stream_start : Walks s.StreamStart (w.stream_start g m)
  unfolding w.stream_start
  w_stream_start = each_look l _ _ λ h. each_if _ (λ e. w_plain s.StreamStart _ _ 1 _ _ _ λ o z. k.stream_start) λ e. refused 1 _ tt

  -- the document states: nothing is open there
  w_document : (at : ℕ) (t : Token) (explicit : ℕ) (state : State) (tags : w.Tags) → standing state ≡ Node
      → Walks s.DocumentStart (w.document g m at t explicit state tags)
  unfolding w.document w.plain
  w_document at t explicit state tags q = each_push m tt (next _ λ o z. (rw (q, z refl) k.document_start, tt))

  w_explicit : (at : ℕ) → Walks s.DocumentStart (w.explicit_document_start g m at)
  unfolding w.explicit_document_start w.after_directives
  w_explicit at = each_directives l m at _ at _ _ (λ i q h. tt) λ i q. each_look l _ _ λ h.
      each_if _ (λ e. w_document _ _ _ _ _ refl) λ e. each_if _ (λ e. refused 5 _ tt) λ e. refused 2 _ tt

  w_document_start : (implicit : Bool) → Walks s.DocumentStart (w.document_start g m implicit)
  unfolding w.document_start w.document_start_at
  w_document_start implicit = each_look l _ _ λ h.
      each_if _ (λ e. w_plain s.DocumentStart _ _ 2 _ _ _ λ o z. k.stream_end)
      λ e. each_if _ (λ e. w_explicit _)
      λ e. each_if _ (λ e. w_document _ _ _ _ _ refl) λ e. w_explicit _

  w_document_content : Walks s.DocumentContent (w.document_content g m)
  unfolding w.document_content
  w_document_content = each_look l _ _ λ h.
      each_if _ (λ e. w_empty s.DocumentContent _ _ _ λ o z. k.scalar)
      λ e. w_parse_node l m s.DocumentContent _ w.Here _ _ (record { stands = λ o. refl; comes = tt })

  w_document_end_at : (at : ℕ) → Walks s.DocumentEnd (w.document_end_at g at)
  unfolding w.document_end_at w.document_ends w.plain
  w_document_end_at at = each_look l _ _ λ h.
      each_if _ (λ e. next _ λ o z. rw (z refl) k.document_end)
      λ e. each_if _ (λ e. refused 6 _ tt) λ e. next _ λ o z. rw (z refl) k.document_end

  w_document_end : Walks s.DocumentEnd (w.document_end g m)
  unfolding w.document_end w.after_marks
  w_document_end = each_look l _ _ λ h.
      each_if _ (λ e. each_look l _ _ λ h'. each_if _ (λ e. w_document_end_at _) λ e. refused 5 _ tt)
      λ e. w_document_end_at _

  pub walks_machine : (state : State) → ended state ≡ false → Walks state (w.state_machine g m state)
  unfolding w.state_machine ended numbers ranked
  walks_machine s.StreamStart n = w_stream_start
  walks_machine s.ImplicitDocumentStart n = w_document_start true
  walks_machine s.DocumentStart n = w_document_start false
  walks_machine s.DocumentContent n = w_document_content
  walks_machine s.DocumentEnd n = w_document_end
  walks_machine s.BlockNode n = w_parse_node l m s.BlockNode _ w.Here _ _ (record { stands = λ o. refl; comes = tt })
  walks_machine s.BlockSequenceFirstEntry n = w_block_sequence_entry true
  walks_machine s.BlockSequenceEntry n = w_block_sequence_entry false
  walks_machine s.IndentlessSequenceEntry n = w_indentless_sequence_entry
  walks_machine s.BlockMappingFirstKey n = w_block_mapping_key true
  walks_machine s.BlockMappingKey n = w_block_mapping_key false
  walks_machine s.BlockMappingValue n = w_block_mapping_value
  walks_machine s.FlowSequenceFirstEntry n = w_flow_sequence_entry true
  walks_machine s.FlowSequenceEntry n = w_flow_sequence_entry false
  walks_machine s.FlowSequenceEntryMappingKey n = w_pair_key
  walks_machine s.FlowSequenceEntryMappingValue n = w_pair_value
  walks_machine (s.FlowSequenceEntryMappingEnd mark) n = w_pair_end mark
  walks_machine s.FlowMappingFirstKey n = w_flow_mapping_key true
  walks_machine s.FlowMappingKey n = w_flow_mapping_key false
  walks_machine s.FlowMappingValue n = w_flow_mapping_value false
  walks_machine s.FlowMappingEmptyValue n = w_flow_mapping_value true
  walks_machine s.End n = let z : ◌≡◌ {A = ℕ} 0 1 = cc in absurd (omega arith)
