-- The kinds of events, their numbers and their names.
use Rattle.std.specs.Prelude.{ℕ, List, [], ◌∷◌, Option, find, eqb, codes}
use Rattle.records.specs.declared.kinds.EventKind.{EventKind}
use Rattle.records.specs.declared.kinds.EventKind.TheVariants as k

unfoldable pub event_number : EventKind → ℕ
event_number k.StreamStart = 1
event_number k.StreamEnd = 2
event_number k.DocumentStart = 3
event_number k.DocumentEnd = 4
event_number k.Alias = 5
event_number k.Scalar = 6
event_number k.SequenceStart = 7
event_number k.SequenceEnd = 8
event_number k.MappingStart = 9
event_number k.MappingEnd = 10

-- every kind
abbrev pub event_kinds : List EventKind
event_kinds =
    k.StreamStart ∷ k.StreamEnd ∷ k.DocumentStart ∷ k.DocumentEnd ∷ k.Alias ∷ k.Scalar ∷ k.SequenceStart ∷ k.SequenceEnd
    ∷ k.MappingStart ∷ k.MappingEnd ∷ []

-- the kind that has a number
unfoldable pub event_kind_of : ℕ → Option EventKind
event_kind_of n = find (λ x. eqb (event_number x) n) event_kinds

unfoldable pub event_name : EventKind → List ℕ
event_name k.StreamStart = codes "StreamStart"
event_name k.StreamEnd = codes "StreamEnd"
event_name k.DocumentStart = codes "DocumentStart"
event_name k.DocumentEnd = codes "DocumentEnd"
event_name k.Alias = codes "Alias"
event_name k.Scalar = codes "Scalar"
event_name k.SequenceStart = codes "SequenceStart"
event_name k.SequenceEnd = codes "SequenceEnd"
event_name k.MappingStart = codes "MappingStart"
event_name k.MappingEnd = codes "MappingEnd"
