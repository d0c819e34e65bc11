use native.Mathlib.Numerals.{add-one}
use Rattle.parser.specs.Plans.{turn_of}
use Rattle.parser.proofs.turn_of.Goals as goal

pub returns-in-StreamStart : goal.returns-in-StreamStart
unfolding turn_of
returns-in-StreamStart c =
    simp (add-one, c.in-StreamStart.is)

pub returns-in-ImplicitDocumentStart : goal.returns-in-ImplicitDocumentStart
unfolding turn_of
returns-in-ImplicitDocumentStart c =
    simp (add-one, c.in-ImplicitDocumentStart.is)

pub returns-in-DocumentStart : goal.returns-in-DocumentStart
unfolding turn_of
returns-in-DocumentStart c =
    simp (add-one, c.in-DocumentStart.is)

pub returns-in-DocumentContent : goal.returns-in-DocumentContent
unfolding turn_of
returns-in-DocumentContent c =
    simp (add-one, c.in-DocumentContent.is)

pub returns-in-DocumentEnd : goal.returns-in-DocumentEnd
unfolding turn_of
returns-in-DocumentEnd c =
    simp (add-one, c.in-DocumentEnd.is)

pub returns-in-BlockNode : goal.returns-in-BlockNode
unfolding turn_of
returns-in-BlockNode c =
    simp (add-one, c.in-BlockNode.is)

pub returns-in-BlockSequenceFirstEntry : goal.returns-in-BlockSequenceFirstEntry
unfolding turn_of
returns-in-BlockSequenceFirstEntry c =
    simp (add-one, c.in-BlockSequenceFirstEntry.is)

pub returns-in-BlockSequenceEntry : goal.returns-in-BlockSequenceEntry
unfolding turn_of
returns-in-BlockSequenceEntry c =
    simp (add-one, c.in-BlockSequenceEntry.is)

pub returns-in-IndentlessSequenceEntry : goal.returns-in-IndentlessSequenceEntry
unfolding turn_of
returns-in-IndentlessSequenceEntry c =
    simp (add-one, c.in-IndentlessSequenceEntry.is)

pub returns-in-BlockMappingFirstKey : goal.returns-in-BlockMappingFirstKey
unfolding turn_of
returns-in-BlockMappingFirstKey c =
    simp (add-one, c.in-BlockMappingFirstKey.is)

pub returns-in-BlockMappingKey : goal.returns-in-BlockMappingKey
unfolding turn_of
returns-in-BlockMappingKey c =
    simp (add-one, c.in-BlockMappingKey.is)

pub returns-in-BlockMappingValue : goal.returns-in-BlockMappingValue
unfolding turn_of
returns-in-BlockMappingValue c =
    simp (add-one, c.in-BlockMappingValue.is)

pub returns-in-FlowSequenceFirstEntry : goal.returns-in-FlowSequenceFirstEntry
unfolding turn_of
returns-in-FlowSequenceFirstEntry c =
    simp (add-one, c.in-FlowSequenceFirstEntry.is)

pub returns-in-FlowSequenceEntry : goal.returns-in-FlowSequenceEntry
unfolding turn_of
returns-in-FlowSequenceEntry c =
    simp (add-one, c.in-FlowSequenceEntry.is)

pub returns-in-FlowSequenceEntryMappingKey : goal.returns-in-FlowSequenceEntryMappingKey
unfolding turn_of
returns-in-FlowSequenceEntryMappingKey c =
    simp (add-one, c.in-FlowSequenceEntryMappingKey.is)

pub returns-in-FlowSequenceEntryMappingValue : goal.returns-in-FlowSequenceEntryMappingValue
unfolding turn_of
returns-in-FlowSequenceEntryMappingValue c =
    simp (add-one, c.in-FlowSequenceEntryMappingValue.is)

pub returns-in-FlowSequenceEntryMappingEnd : goal.returns-in-FlowSequenceEntryMappingEnd
unfolding turn_of
returns-in-FlowSequenceEntryMappingEnd c =
    simp (add-one, c.in-FlowSequenceEntryMappingEnd.is)

pub returns-in-FlowMappingFirstKey : goal.returns-in-FlowMappingFirstKey
unfolding turn_of
returns-in-FlowMappingFirstKey c =
    simp (add-one, c.in-FlowMappingFirstKey.is)

pub returns-in-FlowMappingKey : goal.returns-in-FlowMappingKey
unfolding turn_of
returns-in-FlowMappingKey c =
    simp (add-one, c.in-FlowMappingKey.is)

pub returns-in-FlowMappingValue : goal.returns-in-FlowMappingValue
unfolding turn_of
returns-in-FlowMappingValue c =
    simp (add-one, c.in-FlowMappingValue.is)

pub returns-in-FlowMappingEmptyValue : goal.returns-in-FlowMappingEmptyValue
unfolding turn_of
returns-in-FlowMappingEmptyValue c =
    simp (add-one, c.in-FlowMappingEmptyValue.is)

pub returns-in-End : goal.returns-in-End
unfolding turn_of
returns-in-End c =
    simp (add-one, c.in-End.is)
