-- The steps of parser.rs, one definition for each of its functions, with its name, to be read beside it. A step says what
-- it does in the order in which it does it; rooms are not spoken of here, but in Run.
use Rattle.std.specs.Prelude.{ℕ, zero, suc, ◌-◌, Bool, true, false, ◌&&◌, List, [], ◌∷◌, eqb, length}
use Rattle.records.specs.Names.{same, part, no_range}
use Rattle.records.specs.declared.names.Range.{Range}
use Rattle.records.specs.declared.tokens.Token.{Token}
use Rattle.records.specs.declared.tokens.Read.{Read}
use Rattle.records.specs.declared.tokens.Read.TheVariants as read
use Rattle.records.specs.declared.events.Tag.{Tag}
use Rattle.tables.specs.Tables.{entered}
use Rattle.tables.specs.Anchors as anchors
use Rattle.tables.specs.Handles as handles
use Rattle.tables.specs.declared.anchors.Anchor.{Anchor}
use Rattle.tables.specs.declared.handles.Handle.{Handle}
use Rattle.rules.specs.declared.State.{State}
use Rattle.rules.specs.declared.State.TheVariants as s
pub mod Words
unfoldable pub use Words.*

-- what parse_node stands over: the open states as they are, or one more that was just pushed
pub data Over : Type 0 where
  Here : Over
  Above : State → Over

-- pop_state
unfoldable pub pop_state : Over → Move
pop_state Here = Pop
pop_state (Above p) = Stay p

-- self.state = s
unfoldable pub into : Over → State → Move
into Here s = Stay s
into (Above p) s = Push p s

unfoldable pub stream_start : Given → Small → Decision
stream_start g m = look g m.at λ t.
    choose is t STREAM_START then give (suc m.at) (Stay s.ImplicitDocumentStart) (plain 1 t.start t.end 0)
    else Refused 1 t.start

-- a token of one of these kinds
unfoldable pub passes : List ℕ → Read → Bool
passes ks (read.Token t) = among t ks
passes ks (read.Refused r) = false

-- the first place from `at` on, in the n next ones, that has no token of these kinds
unfoldable pub past : Given → List ℕ → ℕ → ℕ → ℕ
past g ks zero at = at
past g ks (suc n) at = choose passes ks (g.read at) then past g ks n (suc at) else at

-- the handle of a TagDirective put into a table
unfoldable pub declare_read : Given → Read → List Handle → List Handle
declare_read g (read.Refused r) hs = hs
declare_read g (read.Token t) hs =
    choose is t TAG_DIRECTIVE then entered (handles.named g.text t.a) (record { name = t.a; prefix = t.b }) hs else hs

-- those of the n tokens from `at` on
unfoldable pub declare : Given → ℕ → ℕ → List Handle → List Handle
declare g zero at hs = hs
declare g (suc n) at hs = declare g n (suc at) (declare_read g (g.read at) hs)

-- a tag directive at `at`, behind this document's own from `from` on
unfoldable pub tag_directive : Given → Small → ℕ → ℕ → Token → Decision → Decision
tag_directive g m from at t d =
    choose hit? (first (handles.named g.text t.a) (declare g (at - from) from [])) then Refused 4 t.start
    else Wants HandlePlace (length (declare g (suc at - from) from m.handles)) d

-- the directives from `at` on, in the n next tokens; k goes on where they end
unfoldable pub parser_process_directives : Given → Small → ℕ → ℕ → ℕ → Bool → (ℕ → Decision) → Decision
parser_process_directives g m from zero at version k = k at
parser_process_directives g m from (suc n) at version k = look g at λ t.
    choose is t VERSION_DIRECTIVE then (choose version then Refused 3 t.start
    else parser_process_directives g m from n (suc at) true k)
    else choose is t TAG_DIRECTIVE then tag_directive g m from at t (parser_process_directives g m from n (suc at) version k)
    else choose is t RESERVED_DIRECTIVE then parser_process_directives g m from n (suc at) version k
    else k at

-- names are forgotten at each DocumentStart, where that is asked for
unfoldable pub document_names : Given → Names
document_names g = choose g.forget then NamesForgotten else NamesKept

-- a document starts at t: its event's number, what is taken, where the machine goes
unfoldable pub document : Given → Small → ℕ → Token → ℕ → State → Tags → Decision
document g m at t explicit state tags = push_state m (Next (record {
  at = at;
  move = Push s.DocumentEnd state;
  event = plain 3 t.start t.end explicit;
  names = document_names g;
  tags = tags;
}))

unfoldable pub after_directives : Given → Small → ℕ → ℕ → Decision
after_directives g m from at = look g at λ t.
    choose is t DOCUMENT_START then document g m (suc at) t 1 s.DocumentContent (TagsDeclared from at)
    else choose is t BYTE_ORDER_MARK then Refused 5 t.start
    else Refused 2 t.start

unfoldable pub explicit_document_start : Given → Small → ℕ → Decision
explicit_document_start g m at = parser_process_directives g m at (g.count - at) at false (after_directives g m at)

unfoldable pub document_start_at : Given → Small → Bool → ℕ → Decision
document_start_at g m implicit at = look g at λ t.
    choose is t STREAM_END then give (suc at) (Stay s.End) (plain 2 t.start t.end 0)
    else choose among t (VERSION_DIRECTIVE ∷ TAG_DIRECTIVE ∷ RESERVED_DIRECTIVE ∷ DOCUMENT_START ∷ [])
    then explicit_document_start g m at
    else choose implicit then document g m at t 0 s.BlockNode TagsKept
    else explicit_document_start g m at

unfoldable pub document_start : Given → Small → Bool → Decision
document_start g m implicit =
    document_start_at g m implicit (past g (DOCUMENT_END ∷ BYTE_ORDER_MARK ∷ []) (g.count - m.at) m.at)

-- two bytes or more, the first and the last a `!`
unfoldable pub bang_last : List ℕ → Bool
bang_last [] = false
bang_last (x ∷ []) = eqb x 33
bang_last (x ∷ (y ∷ ys)) = bang_last (y ∷ ys)

unfoldable pub named_handle? : List ℕ → Bool
named_handle? [] = false
named_handle? (x ∷ xs) = eqb x 33 && bang_last xs

pub data Resolved : Type 0 where
  Undeclared : Resolved
  Tagged : ℕ → Range → Resolved

-- a handle that no directive declares: `!!` is the constant, `!x!` is refused, any other stays itself
unfoldable pub undeclared : List ℕ → Range → Resolved
undeclared handle r =
    choose same handle (33 ∷ 33 ∷ []) then Tagged 1 no_range
    else choose named_handle? handle then Undeclared
    else Tagged 2 r

unfoldable pub resolved : Hit Handle → Resolved → Resolved
resolved Miss r = r
resolved (Got h) r = Tagged 2 h.prefix

unfoldable pub resolve_tag : Given → Small → Range → Resolved
resolve_tag g m r =
    resolved (first (handles.named g.text r) m.handles) (undeclared (part g.text r) r)

-- what stands before a node's content: whether there is a property, from the node's start to the end of the last one
pub record Properties : Type 0 where
  pub any : Bool
  pub start : ℕ
  pub end : ℕ
  pub id : ℕ
  pub tag : Tag
  pub names : Names

unfoldable pub no_properties : ℕ → Properties
no_properties start = record { any = false; start = start; end = start; id = 0; tag = no_tag; names = NamesKept }

unfoldable pub with_anchor : Small → Properties → Token → Properties
with_anchor m p t =
    record { any = true; start = p.start; end = t.end; id = m.next; tag = p.tag; names = NamePut t.a }

-- 13 at the first property's start
unfoldable pub tagged : Resolved → Properties → Token → (Properties → Decision) → Decision
tagged Undeclared p t k = Refused 13 p.start
tagged (Tagged source prefix) p t k = k (record {
  any = true;
  start = p.start;
  end = t.end;
  id = p.id;
  tag = record { source = source; prefix = prefix; suffix = t.b };
  names = p.names;
})

unfoldable pub with_tag : Given → Small → Properties → Token → (Properties → Decision) → Decision
with_tag g m p t k = tagged (resolve_tag g m t.a) p t k

-- a name that is new wants a place
unfoldable pub register_anchor : Given → Small → Token → Decision → Decision
register_anchor g m t d =
    choose hit? (first (anchors.named g.text t.a) m.anchors) then d
    else Wants AnchorPlace (suc (length m.anchors)) d

-- the event of a node
unfoldable pub node : ℕ → Move → Properties → ℕ → ℕ → ℕ → Range → Decision
node at move p kind end style value = Next (record {
  at = at;
  move = move;
  event = record { kind = kind; start = p.start; end = end; number = p.id; style = style; value = value; tag = p.tag };
  names = p.names;
  tags = TagsKept;
})

-- the content of a node in a block, a missing content behind a property, or 8
unfoldable pub block_content : ℕ → Over → Bool → Properties → Token → Decision
block_content at over block p t =
    choose block && is t BLOCK_SEQUENCE_START then node at (into over s.BlockSequenceFirstEntry) p 7 t.end 0 no_range
    else choose block && is t BLOCK_MAPPING_START then node at (into over s.BlockMappingFirstKey) p 9 t.end 0 no_range
    else choose p.any then node at (pop_state over) p 6 p.end 0 no_range
    else Refused 8 t.start

-- the content t at `at`
unfoldable pub content : ℕ → Over → Bool → Bool → Properties → Token → Decision
content at over block indentless p t =
    choose indentless && is t BLOCK_ENTRY then node at (into over s.IndentlessSequenceEntry) p 7 t.end 0 no_range
    else choose is t SCALAR then node (suc at) (pop_state over) p 6 t.end t.style t.a
    else choose is t FLOW_SEQUENCE_START then node at (into over s.FlowSequenceFirstEntry) p 7 t.end 0 no_range
    else choose is t FLOW_MAPPING_START then node at (into over s.FlowMappingFirstKey) p 9 t.end 0 no_range
    else block_content at over block p t

unfoldable pub node_content : Given → ℕ → Over → Bool → Bool → Properties → Decision
node_content g at over block indentless p = look g at (content at over block indentless p)

-- pop_state comes first, then the name is looked up
unfoldable pub alias : ℕ → Over → Token → Hit Anchor → Decision
alias at over t Miss = Refused 7 t.start
alias at over t (Got a) = give at (pop_state over) (plain 5 t.start t.end a.id)

-- an anchor t, then perhaps a tag at `at`
unfoldable pub anchor_first : Given → Small → ℕ → Over → Bool → Bool → Token → Decision
anchor_first g m at over block indentless t = register_anchor g m t (look g at λ u.
    choose is u TAG
    then with_tag g m (with_anchor m (no_properties t.start) t) u (node_content g (suc at) over block indentless)
    else content at over block indentless (with_anchor m (no_properties t.start) t) u)

-- a tag t, then perhaps an anchor at `at`
unfoldable pub tag_first : Given → Small → ℕ → Over → Bool → Bool → Token → Decision
tag_first g m at over block indentless t = with_tag g m (no_properties t.start) t λ p. look g at λ u.
    choose is u ANCHOR then register_anchor g m u (node_content g (suc at) over block indentless (with_anchor m p u))
    else content at over block indentless p u

-- the properties of a node whose first token is t, and its content; a token that was looked at is not looked at again
unfoldable pub node_properties : Given → Small → ℕ → Over → Bool → Bool → Token → Decision
node_properties g m at over block indentless t =
    choose is t ANCHOR then anchor_first g m (suc at) over block indentless t
    else choose is t TAG then tag_first g m (suc at) over block indentless t
    else content at over block indentless (no_properties t.start) t

-- a node whose first token is t
unfoldable pub node_from : Given → Small → ℕ → Over → Bool → Bool → Token → Decision
node_from g m at over block indentless t =
    choose is t ALIAS then alias (suc at) over t (first (anchors.named g.text t.a) m.anchors)
    else node_properties g m at over block indentless t

unfoldable pub parse_node : Given → Small → ℕ → Over → Bool → Bool → Decision
parse_node g m at over block indentless = look g at (node_from g m at over block indentless)

-- push_state, then parse_node
unfoldable pub parse_node_over : Given → Small → ℕ → State → Bool → Bool → Decision
parse_node_over g m at p block indentless = push_state m (parse_node g m at (Above p) block indentless)

unfoldable pub document_content : Given → Small → Decision
document_content g m = look g m.at λ t.
    choose among t (VERSION_DIRECTIVE ∷ TAG_DIRECTIVE ∷ RESERVED_DIRECTIVE ∷ DOCUMENT_START ∷ DOCUMENT_END ∷ BYTE_ORDER_MARK ∷ STREAM_END ∷ [])
    then give m.at Pop (empty_scalar t)
    else parse_node g m m.at Here true false

-- the document ends at t: tags are cleared unless they are kept
unfoldable pub document_ends : Given → ℕ → Token → State → Decision
document_ends g at t state = Next (record {
  at = at;
  move = Stay state;
  event = plain 4 t.start t.end 0;
  names = NamesKept;
  tags = choose g.keep then TagsKept else TagsForgotten;
})

unfoldable pub document_end_at : Given → ℕ → Decision
document_end_at g at = look g at λ t.
    choose is t DOCUMENT_END then document_ends g (suc at) t s.ImplicitDocumentStart
    else choose among t (VERSION_DIRECTIVE ∷ TAG_DIRECTIVE ∷ RESERVED_DIRECTIVE ∷ []) then Refused 6 t.start
    else document_ends g at t s.DocumentStart

-- behind a run of byte order marks, the first of which starts at `place`
unfoldable pub after_marks : Given → ℕ → ℕ → Decision
after_marks g place at = look g at λ t.
    choose among t (DOCUMENT_START ∷ DOCUMENT_END ∷ STREAM_END ∷ []) then document_end_at g at else Refused 5 place

unfoldable pub document_end : Given → Small → Decision
document_end g m = look g m.at λ t.
    choose is t BYTE_ORDER_MARK then after_marks g t.start (past g (BYTE_ORDER_MARK ∷ []) (g.count - m.at) m.at)
    else document_end_at g m.at

-- the token of a First state is taken
unfoldable pub taken_first : Given → Small → Bool → (ℕ → Decision) → Decision
taken_first g m true k = look g m.at λ t. k (suc m.at)
taken_first g m false k = k m.at

unfoldable pub block_mapping_at : Given → Small → ℕ → Decision
block_mapping_at g m at = look g at λ t.
    choose is t KEY then (look g (suc at) λ u.
    choose among u (KEY ∷ VALUE ∷ BLOCK_END ∷ []) then give (suc at) (Stay s.BlockMappingValue) (empty_scalar u)
    else parse_node_over g m (suc at) s.BlockMappingValue true true)
    else choose is t VALUE then give at (Stay s.BlockMappingValue) (empty_scalar t)
    else choose is t BLOCK_END then give (suc at) Pop (plain 10 t.start t.end 0)
    else Refused 9 t.start

unfoldable pub block_mapping_key : Given → Small → Bool → Decision
block_mapping_key g m first? = taken_first g m first? (block_mapping_at g m)

unfoldable pub block_mapping_value : Given → Small → Decision
block_mapping_value g m = look g m.at λ t.
    choose is t VALUE then (look g (suc m.at) λ u.
    choose among u (KEY ∷ VALUE ∷ BLOCK_END ∷ []) then give (suc m.at) (Stay s.BlockMappingKey) (empty_scalar t)
    else parse_node_over g m (suc m.at) s.BlockMappingKey true true)
    else give m.at (Stay s.BlockMappingKey) (empty_scalar t)

-- an entry of a flow mapping; `mark` is the comma before it, if there is one
unfoldable pub flow_mapping_entry : Given → Small → ℕ → Token → Decision
flow_mapping_entry g m at mark = look g at λ t.
    choose is t KEY then (look g (suc at) λ u.
    choose among u (VALUE ∷ FLOW_ENTRY ∷ FLOW_MAPPING_END ∷ []) then give (suc at) (Stay s.FlowMappingValue) (empty_scalar u)
    else parse_node_over g m (suc at) s.FlowMappingValue false false)
    else choose is t VALUE then give at (Stay s.FlowMappingValue) (empty_scalar t)
    else choose is t FLOW_MAPPING_END then give (suc at) Pop (plain 10 mark.start mark.end 0)
    else parse_node_over g m at s.FlowMappingEmptyValue false false

unfoldable pub flow_mapping_at : Given → Small → Bool → ℕ → Decision
flow_mapping_at g m first? at = look g at λ t.
    choose is t FLOW_MAPPING_END then give (suc at) Pop (plain 10 t.start t.end 0)
    else choose first? then flow_mapping_entry g m at t
    else choose is t FLOW_ENTRY then flow_mapping_entry g m (suc at) t
    else Refused 10 t.start

unfoldable pub flow_mapping_key : Given → Small → Bool → Decision
flow_mapping_key g m first? = taken_first g m first? (flow_mapping_at g m first?)

unfoldable pub flow_mapping_value : Given → Small → Bool → Decision
flow_mapping_value g m empty = look g m.at λ t.
    choose empty then give m.at (Stay s.FlowMappingKey) (empty_scalar t)
    else choose is t VALUE then (look g (suc m.at) λ u.
    choose among u (FLOW_ENTRY ∷ FLOW_MAPPING_END ∷ []) then give (suc m.at) (Stay s.FlowMappingKey) (empty_scalar t)
    else parse_node_over g m (suc m.at) s.FlowMappingKey false false)
    else give m.at (Stay s.FlowMappingKey) (empty_scalar t)

unfoldable pub flow_entry : Given → Small → ℕ → Decision
flow_entry g m at = look g at λ t.
    choose is t FLOW_SEQUENCE_END then give (suc at) Pop (plain 8 t.start t.end 0)
    else choose is t KEY then give (suc at) (Stay s.FlowSequenceEntryMappingKey) (plain 9 t.start t.end 0)
    else parse_node_over g m at s.FlowSequenceEntry false false

unfoldable pub flow_sequence_at : Given → Small → Bool → ℕ → Decision
flow_sequence_at g m first? at = look g at λ t.
    choose is t FLOW_SEQUENCE_END then give (suc at) Pop (plain 8 t.start t.end 0)
    else choose first? then flow_entry g m at
    else choose is t FLOW_ENTRY then flow_entry g m (suc at)
    else Refused 11 t.start

unfoldable pub flow_sequence_entry : Given → Small → Bool → Decision
flow_sequence_entry g m first? = taken_first g m first? (flow_sequence_at g m first?)

unfoldable pub indentless_sequence_entry : Given → Small → Decision
indentless_sequence_entry g m = look g m.at λ t.
    choose is t BLOCK_ENTRY then (look g (suc m.at) λ u.
    choose among u (BLOCK_ENTRY ∷ KEY ∷ VALUE ∷ BLOCK_END ∷ [])
    then give (suc m.at) (Stay s.IndentlessSequenceEntry) (empty_scalar t)
    else parse_node_over g m (suc m.at) s.IndentlessSequenceEntry true false)
    else give m.at Pop (plain 8 t.start t.end 0)

unfoldable pub block_sequence_at : Given → Small → ℕ → Decision
block_sequence_at g m at = look g at λ t.
    choose is t BLOCK_END then give (suc at) Pop (plain 8 t.start t.end 0)
    else choose is t BLOCK_ENTRY then (look g (suc at) λ u.
    choose among u (BLOCK_ENTRY ∷ BLOCK_END ∷ []) then give (suc at) (Stay s.BlockSequenceEntry) (empty_scalar t)
    else parse_node_over g m (suc at) s.BlockSequenceEntry true false)
    else Refused 12 t.start

unfoldable pub block_sequence_entry : Given → Small → Bool → Decision
block_sequence_entry g m first? = taken_first g m first? (block_sequence_at g m)

unfoldable pub flow_sequence_entry_mapping_key : Given → Small → Decision
flow_sequence_entry_mapping_key g m = look g m.at λ t.
    choose among t (VALUE ∷ FLOW_ENTRY ∷ FLOW_SEQUENCE_END ∷ [])
    then give (suc m.at) (Stay s.FlowSequenceEntryMappingValue) (empty_scalar t)
    else parse_node_over g m m.at s.FlowSequenceEntryMappingValue false false

unfoldable pub flow_sequence_entry_mapping_value : Given → Small → Decision
flow_sequence_entry_mapping_value g m = look g m.at λ t.
    choose is t VALUE then (look g (suc m.at) λ u.
    choose among u (FLOW_ENTRY ∷ FLOW_SEQUENCE_END ∷ [])
    then give (suc m.at) (Stay (s.FlowSequenceEntryMappingEnd u.end)) (empty_scalar u)
    else parse_node_over g m (suc m.at) (s.FlowSequenceEntryMappingEnd u.end) false false)
    else give m.at (Stay (s.FlowSequenceEntryMappingEnd t.end)) (empty_scalar t)

unfoldable pub flow_sequence_entry_mapping_end : Small → ℕ → Decision
flow_sequence_entry_mapping_end m mark = give m.at (Stay s.FlowSequenceEntry) (plain 10 mark mark 0)

unfoldable pub state_machine : Given → Small → State → Decision
state_machine g m s.StreamStart = stream_start g m
state_machine g m s.ImplicitDocumentStart = document_start g m true
state_machine g m s.DocumentStart = document_start g m false
state_machine g m s.DocumentContent = document_content g m
state_machine g m s.DocumentEnd = document_end g m
state_machine g m s.BlockNode = parse_node g m m.at Here true false
state_machine g m s.BlockSequenceFirstEntry = block_sequence_entry g m true
state_machine g m s.BlockSequenceEntry = block_sequence_entry g m false
state_machine g m s.IndentlessSequenceEntry = indentless_sequence_entry g m
state_machine g m s.BlockMappingFirstKey = block_mapping_key g m true
state_machine g m s.BlockMappingKey = block_mapping_key g m false
state_machine g m s.BlockMappingValue = block_mapping_value g m
state_machine g m s.FlowSequenceFirstEntry = flow_sequence_entry g m true
state_machine g m s.FlowSequenceEntry = flow_sequence_entry g m false
state_machine g m s.FlowSequenceEntryMappingKey = flow_sequence_entry_mapping_key g m
state_machine g m s.FlowSequenceEntryMappingValue = flow_sequence_entry_mapping_value g m
state_machine g m (s.FlowSequenceEntryMappingEnd mark) = flow_sequence_entry_mapping_end m mark
state_machine g m s.FlowMappingFirstKey = flow_mapping_key g m true
state_machine g m s.FlowMappingKey = flow_mapping_key g m false
state_machine g m s.FlowMappingValue = flow_mapping_value g m false
state_machine g m s.FlowMappingEmptyValue = flow_mapping_value g m true
state_machine g m s.End = Unreachable
