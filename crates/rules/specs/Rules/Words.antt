-- What the rules are said with: tests, kinds, what a run is given, the small state, and the decision of a step.
use Rattle.std.specs.Prelude.{ℕ, suc, Bool, true, false, ◌||◌, List, [], ◌∷◌, eqb}
use Rattle.records.specs.Names.{no_range}
use Rattle.records.specs.declared.names.Range.{Range}
use Rattle.records.specs.declared.tokens.Token.{Token}
use Rattle.records.specs.declared.tokens.Read.{Read}
use Rattle.records.specs.declared.tokens.Read.TheVariants as read
use Rattle.records.specs.declared.events.Event.{Event}
use Rattle.records.specs.declared.events.Tag.{Tag}
use Rattle.tables.specs.declared.anchors.Anchor.{Anchor}
use Rattle.tables.specs.declared.handles.Handle.{Handle}
use Rattle.rules.specs.declared.State.{State}

-- the choice by a test: the library's `if`, under a name that stays folded in a proof until it is unfolded
infix 5 choose◌then◌else◌
unfoldable pub choose◌then◌else◌ : {A : Type 0} → Bool → A → A → A
choose◌then◌else◌ true a b = a
choose◌then◌else◌ false a b = b

-- kinds of tokens
abbrev pub STREAM_START : ℕ
STREAM_START = 1

abbrev pub STREAM_END : ℕ
STREAM_END = 2

abbrev pub VERSION_DIRECTIVE : ℕ
VERSION_DIRECTIVE = 3

abbrev pub TAG_DIRECTIVE : ℕ
TAG_DIRECTIVE = 4

abbrev pub RESERVED_DIRECTIVE : ℕ
RESERVED_DIRECTIVE = 5

abbrev pub DOCUMENT_START : ℕ
DOCUMENT_START = 6

abbrev pub DOCUMENT_END : ℕ
DOCUMENT_END = 7

abbrev pub BYTE_ORDER_MARK : ℕ
BYTE_ORDER_MARK = 8

abbrev pub BLOCK_SEQUENCE_START : ℕ
BLOCK_SEQUENCE_START = 9

abbrev pub BLOCK_MAPPING_START : ℕ
BLOCK_MAPPING_START = 10

abbrev pub BLOCK_END : ℕ
BLOCK_END = 11

abbrev pub FLOW_SEQUENCE_START : ℕ
FLOW_SEQUENCE_START = 12

abbrev pub FLOW_SEQUENCE_END : ℕ
FLOW_SEQUENCE_END = 13

abbrev pub FLOW_MAPPING_START : ℕ
FLOW_MAPPING_START = 14

abbrev pub FLOW_MAPPING_END : ℕ
FLOW_MAPPING_END = 15

abbrev pub BLOCK_ENTRY : ℕ
BLOCK_ENTRY = 16

abbrev pub FLOW_ENTRY : ℕ
FLOW_ENTRY = 17

abbrev pub KEY : ℕ
KEY = 18

abbrev pub VALUE : ℕ
VALUE = 19

abbrev pub ALIAS : ℕ
ALIAS = 20

abbrev pub ANCHOR : ℕ
ANCHOR = 21

abbrev pub TAG : ℕ
TAG = 22

abbrev pub SCALAR : ℕ
SCALAR = 23

unfoldable pub is : Token → ℕ → Bool
is t k = eqb t.kind k

-- the kind is one of these
unfoldable pub one_of : ℕ → List ℕ → Bool
one_of kind [] = false
one_of kind (k ∷ ks) = eqb kind k || one_of kind ks

unfoldable pub among : Token → List ℕ → Bool
among t ks = one_of t.kind ks

-- the first of a list that p holds of
pub data Hit (A : Type 0) : Type 0 where
  Miss : Hit A
  Got : A → Hit A

unfoldable pub first : {A : Type 0} → (A → Bool) → List A → Hit A
first p [] = Miss
first p (x ∷ xs) = choose p x then Got x else first p xs

unfoldable pub hit? : {A : Type 0} → Hit A → Bool
hit? Miss = false
hit? (Got x) = true

-- what a run is given: the token records, the text and the two settings
pub record Given : Type 0 where
  pub count : ℕ
  pub read : ℕ → Read
  pub text : List ℕ
  pub keep : Bool
  pub forget : Bool

-- the small state that a step takes: how many states are open, and the tables with the oldest first
pub record Small : Type 0 where
  pub state : State
  pub at : ℕ
  pub depth : ℕ
  pub anchors : List Anchor
  pub handles : List Handle
  pub next : ℕ

-- what a step does to the state and the open states: Push p s opens p and goes to s
pub data Move : Type 0 where
  Stay : State → Move
  Push : State → State → Move
  Pop : Move

-- what it does to the anchors
pub data Names : Type 0 where
  NamesKept : Names
  NamePut : Range → Names
  NamesForgotten : Names

-- what it does to the handles: TagsDeclared i j puts in those of the TagDirectives from i up to j
pub data Tags : Type 0 where
  TagsKept : Tags
  TagsDeclared : ℕ → ℕ → Tags
  TagsForgotten : Tags

pub record Change : Type 0 where
  pub at : ℕ
  pub move : Move
  pub event : Event
  pub names : Names
  pub tags : Tags

-- the three kinds of places in the work memory
pub data Place : Type 0 where
  OpenPlace AnchorPlace HandlePlace : Place

-- the acts of a step in their order. Wants p n d: from here on n places of kind p are in use, then d.
pub data Decision : Type 0 where
  Next : Change → Decision
  Refused : ℕ → ℕ → Decision
  Unreachable : Decision
  Wants : Place → ℕ → Decision → Decision

-- peek_token
unfoldable pub seen : Read → (Token → Decision) → Decision
seen (read.Token t) k = k t
seen (read.Refused r) k = Refused r.number r.place

unfoldable pub look : Given → ℕ → (Token → Decision) → Decision
look g at k = seen (g.read at) k

-- an event, with no change of the tables
unfoldable pub give : ℕ → Move → Event → Decision
give at m e = Next (record { at = at; move = m; event = e; names = NamesKept; tags = TagsKept })

-- push_state
unfoldable pub push_state : Small → Decision → Decision
push_state m d = Wants OpenPlace (suc m.depth) d

unfoldable pub no_tag : Tag
no_tag = record { source = 0; prefix = no_range; suffix = no_range }

-- an event that is no node: kind, span and number
unfoldable pub plain : ℕ → ℕ → ℕ → ℕ → Event
plain kind start end number =
    record { kind = kind; start = start; end = end; number = number; style = 0; value = no_range; tag = no_tag }

-- Event::empty_scalar
unfoldable pub empty_scalar : Token → Event
empty_scalar t = plain 6 t.start t.end 0
