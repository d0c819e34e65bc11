-- The states by number, and back.
use Rattle.std.specs.Prelude.{ℕ, List, [], ◌∷◌, get_or}
use Rattle.tables.specs.declared.states.OpenState.{OpenState}
use Rattle.rules.specs.declared.State.{State}
use Rattle.rules.specs.declared.State.TheVariants as s

-- the rank of End, the last
abbrev pub END : ℕ
END = 21

-- a state that holds no position
unfoldable pub ranked : ℕ → OpenState
ranked r = record { rank = r; position = 0 }

-- the rank of a state in parser.rs, and the position that it holds
unfoldable pub numbers : State → OpenState
numbers s.StreamStart = ranked 0
numbers s.ImplicitDocumentStart = ranked 1
numbers s.DocumentStart = ranked 2
numbers s.DocumentContent = ranked 3
numbers s.DocumentEnd = ranked 4
numbers s.BlockNode = ranked 5
numbers s.BlockSequenceFirstEntry = ranked 6
numbers s.BlockSequenceEntry = ranked 7
numbers s.IndentlessSequenceEntry = ranked 8
numbers s.BlockMappingFirstKey = ranked 9
numbers s.BlockMappingKey = ranked 10
numbers s.BlockMappingValue = ranked 11
numbers s.FlowSequenceFirstEntry = ranked 12
numbers s.FlowSequenceEntry = ranked 13
numbers s.FlowSequenceEntryMappingKey = ranked 14
numbers s.FlowSequenceEntryMappingValue = ranked 15
numbers (s.FlowSequenceEntryMappingEnd mark) = record { rank = 16; position = mark }
numbers s.FlowMappingFirstKey = ranked 17
numbers s.FlowMappingKey = ranked 18
numbers s.FlowMappingValue = ranked 19
numbers s.FlowMappingEmptyValue = ranked 20
numbers s.End = ranked END

-- the states in the order of their ranks
unfoldable pub states : ℕ → List State
states mark =
    s.StreamStart ∷ s.ImplicitDocumentStart ∷ s.DocumentStart ∷ s.DocumentContent ∷ s.DocumentEnd ∷ s.BlockNode
    ∷ s.BlockSequenceFirstEntry ∷ s.BlockSequenceEntry ∷ s.IndentlessSequenceEntry ∷ s.BlockMappingFirstKey ∷ s.BlockMappingKey
    ∷ s.BlockMappingValue ∷ s.FlowSequenceFirstEntry ∷ s.FlowSequenceEntry ∷ s.FlowSequenceEntryMappingKey
    ∷ s.FlowSequenceEntryMappingValue ∷ s.FlowSequenceEntryMappingEnd mark ∷ s.FlowMappingFirstKey ∷ s.FlowMappingKey
    ∷ s.FlowMappingValue ∷ s.FlowMappingEmptyValue ∷ []

-- the state that has the numbers, End where there is no such rank
unfoldable pub back : OpenState → State
back p = get_or (states p.position) p.rank s.End
