-- What a state decides: a step, or a node that is parsed.
use Rattle.std.specs.Prelude.{ℕ, suc, ◌<◌, ◌≡◌, Bool, true, false, List, leb}
use Rattle.places.specs.Places.{places}
use Rattle.records.specs.declared.tokens.Token.{Token}
use Rattle.records.specs.declared.tokens.Read.{Read}
use Rattle.records.specs.declared.tokens.Read.TheVariants as read
use Rattle.records.specs.Tokens.{token_size}
use Rattle.rules.specs.Rules as rules
use Rattle.rules.specs.Rules.Words as r
use Rattle.rules.specs.declared.State.{State}
use Rattle.rules.specs.declared.State.TheVariants as s
use Rattle.parser.specs.Machine.{Lent, lent}
use Rattle.parser.specs.Answers.{over_of, decided}
use Rattle.parser.specs.declared.Machine.{Machine}
use Rattle.parser.specs.declared.Terms.{Terms}
use Rattle.parser.specs.declared.Over.{Over}
use Rattle.parser.specs.declared.Over.TheVariants as v
use Rattle.parser.specs.declared.Step.{Step}
use Rattle.parser.specs.declared.Step.TheVariants as st
use Rattle.parser.specs.declared.Plan.{Plan}
use Rattle.parser.specs.declared.Wanted.{Wanted}
use Rattle.parser.specs.declared.Wanted.TheVariants as w
use Rattle.parser.specs.declared.Turn.{Turn}
use Rattle.parser.specs.declared.Turn.TheVariants as t

-- push_state, where a node stands over one state more
unfoldable pub opening : r.Small → rules.Over → r.Decision → r.Decision
opening m rules.Here d = d
opening m (rules.Above p) d = r.push_state m d

-- a plan with no node, and one with a node
unfoldable pub plan_done : Step → Plan
plan_done step = record { step = step; node = w.Nothing }

unfoldable pub plan_node : ℕ → Token → Over → Bool → Bool → Plan
plan_node at t over block indentless = record { step = st.Stuck; node = w.Node at t over block indentless }

-- the step that a plan comes to
unfoldable pub planned : Lent → Machine → Step → Wanted → Step
planned x m step w.Nothing = step
planned x m step (w.Node at t over block indentless) =
    decided x m (λ g m. opening m (over_of over) (rules.node_from g m at (over_of over) block indentless t))

-- a node stands in the list
abbrev pub Stands : List ℕ → Wanted → Type 0
Stands tokens w.Nothing = Unit
Stands tokens (w.Node at t over block indentless) = at < places tokens token_size

-- a plan that comes to what the rule decides
abbrev pub Planned : Lent → Machine → (r.Given → r.Small → r.Decision) → Plan → Type 0
Planned x m rule plan = (planned x m plan.step plan.node ≡ decided x m rule) × Stands x.tokens plan.node

-- the same whatever the places and terms are
abbrev pub Plans : List ℕ → List ℕ → Machine → (r.Given → r.Small → r.Decision) → Plan → Type 0
Plans tokens text m rule plan =
    ((names tags : List ℕ) (terms : Terms)
    → planned (lent tokens text names tags terms) m plan.step plan.node ≡ decided (lent tokens text names tags terms) m rule)
    × Stands tokens plan.node

-- what each state calls
unfoldable pub turn_of : State → Turn
turn_of s.StreamStart = t.StreamStart
turn_of s.ImplicitDocumentStart = t.DocumentStart true
turn_of s.DocumentStart = t.DocumentStart false
turn_of s.DocumentContent = t.DocumentContent
turn_of s.DocumentEnd = t.DocumentEnd
turn_of s.BlockNode = t.BlockNode
turn_of s.BlockSequenceFirstEntry = t.BlockSequenceEntry true
turn_of s.BlockSequenceEntry = t.BlockSequenceEntry false
turn_of s.IndentlessSequenceEntry = t.IndentlessSequenceEntry
turn_of s.BlockMappingFirstKey = t.BlockMappingKey true
turn_of s.BlockMappingKey = t.BlockMappingKey false
turn_of s.BlockMappingValue = t.BlockMappingValue
turn_of s.FlowSequenceFirstEntry = t.FlowSequenceEntry true
turn_of s.FlowSequenceEntry = t.FlowSequenceEntry false
turn_of s.FlowSequenceEntryMappingKey = t.FlowSequenceEntryMappingKey
turn_of s.FlowSequenceEntryMappingValue = t.FlowSequenceEntryMappingValue
turn_of (s.FlowSequenceEntryMappingEnd mark) = t.FlowSequenceEntryMappingEnd mark
turn_of s.FlowMappingFirstKey = t.FlowMappingKey true
turn_of s.FlowMappingKey = t.FlowMappingKey false
turn_of s.FlowMappingValue = t.FlowMappingValue false
turn_of s.FlowMappingEmptyValue = t.FlowMappingValue true
turn_of s.End = t.End

-- behind the token that a First state takes, if it can be read
unfoldable pub behind_first : Bool → Read → ℕ → ℕ
behind_first false read at = at
behind_first true (read.Token t) at = suc at
behind_first true (read.Refused e) at = at

-- no place for the state that a node stands over
unfoldable pub is_full : ℕ → ℕ → Over → Bool
is_full depth room v.Here = false
is_full depth room (v.Above p) = leb room depth
