use mathlib.Core.Path.{refl}
use mathlib.Core.List.{[]}
use Rattle.parser.proofs.PlanLaws.{called, by_turn}
use Rattle.parser.specs.Machine.{lent, small}
use Rattle.parser.specs.Answers.{answer, decided}
use Rattle.parser.specs.Plans.{planned, plan_done}
use Rattle.rules.specs.Run.{limit}
use Rattle.parser.proofs.Machine.plan.Goals as goal

pub returns-in-StreamStart : goal.returns-in-StreamStart
unfolding called decided answer limit lent small planned plan_done
returns-in-StreamStart c =
    (by_turn (lent c.args.tokens.now c.args.text.now c.args.names.now c.args.tags.now c.args.terms) c.args.self _ _ c.turn_of-turn.ensures c.in-StreamStart.is (c.stream_start.ensures.0 _ _ _), c.stream_start.ensures.1)

pub returns-in-DocumentStart : goal.returns-in-DocumentStart
unfolding called decided answer limit lent small planned plan_done
returns-in-DocumentStart c =
    (by_turn (lent c.args.tokens.now c.args.text.now c.args.names.now c.args.tags.now c.args.terms) c.args.self _ _ c.turn_of-turn.ensures c.in-DocumentStart.is c.document_start.ensures.0, c.document_start.ensures.1)

pub returns-in-DocumentContent : goal.returns-in-DocumentContent
unfolding called decided answer limit lent small planned plan_done
returns-in-DocumentContent c =
    (by_turn (lent c.args.tokens.now c.args.text.now c.args.names.now c.args.tags.now c.args.terms) c.args.self _ _ c.turn_of-turn.ensures c.in-DocumentContent.is (c.document_content.ensures.0 _ _ _), c.document_content.ensures.1)

pub returns-in-DocumentEnd : goal.returns-in-DocumentEnd
unfolding called decided answer limit lent small planned plan_done
returns-in-DocumentEnd c =
    (by_turn (lent c.args.tokens.now c.args.text.now c.args.names.now c.args.tags.now c.args.terms) c.args.self _ _ c.turn_of-turn.ensures c.in-DocumentEnd.is c.document_end.ensures.0, c.document_end.ensures.1)

pub returns-in-BlockNode : goal.returns-in-BlockNode
unfolding called decided answer limit lent small planned plan_done
returns-in-BlockNode c =
    (by_turn (lent c.args.tokens.now c.args.text.now c.args.names.now c.args.tags.now c.args.terms) c.args.self _ _ c.turn_of-turn.ensures c.in-BlockNode.is (c.block_node.ensures.0 _ _ _), c.block_node.ensures.1)

pub returns-in-BlockSequenceEntry : goal.returns-in-BlockSequenceEntry
unfolding called decided answer limit lent small planned plan_done
returns-in-BlockSequenceEntry c =
    (by_turn (lent c.args.tokens.now c.args.text.now c.args.names.now c.args.tags.now c.args.terms) c.args.self _ _ c.turn_of-turn.ensures c.in-BlockSequenceEntry.is (c.block_sequence_entry.ensures.0 _ _ _), c.block_sequence_entry.ensures.1)

pub returns-in-IndentlessSequenceEntry : goal.returns-in-IndentlessSequenceEntry
unfolding called decided answer limit lent small planned plan_done
returns-in-IndentlessSequenceEntry c =
    (by_turn (lent c.args.tokens.now c.args.text.now c.args.names.now c.args.tags.now c.args.terms) c.args.self _ _ c.turn_of-turn.ensures c.in-IndentlessSequenceEntry.is (c.indentless_sequence_entry.ensures.0 _ _ _), c.indentless_sequence_entry.ensures.1)

pub returns-in-BlockMappingKey : goal.returns-in-BlockMappingKey
unfolding called decided answer limit lent small planned plan_done
returns-in-BlockMappingKey c =
    (by_turn (lent c.args.tokens.now c.args.text.now c.args.names.now c.args.tags.now c.args.terms) c.args.self _ _ c.turn_of-turn.ensures c.in-BlockMappingKey.is (c.block_mapping_key.ensures.0 _ _ _), c.block_mapping_key.ensures.1)

pub returns-in-BlockMappingValue : goal.returns-in-BlockMappingValue
unfolding called decided answer limit lent small planned plan_done
returns-in-BlockMappingValue c =
    (by_turn (lent c.args.tokens.now c.args.text.now c.args.names.now c.args.tags.now c.args.terms) c.args.self _ _ c.turn_of-turn.ensures c.in-BlockMappingValue.is (c.block_mapping_value.ensures.0 _ _ _), c.block_mapping_value.ensures.1)

pub returns-in-FlowSequenceEntry : goal.returns-in-FlowSequenceEntry
unfolding called decided answer limit lent small planned plan_done
returns-in-FlowSequenceEntry c =
    (by_turn (lent c.args.tokens.now c.args.text.now c.args.names.now c.args.tags.now c.args.terms) c.args.self _ _ c.turn_of-turn.ensures c.in-FlowSequenceEntry.is (c.flow_sequence_entry.ensures.0 _ _ _), c.flow_sequence_entry.ensures.1)

pub returns-in-FlowSequenceEntryMappingKey : goal.returns-in-FlowSequenceEntryMappingKey
unfolding called decided answer limit lent small planned plan_done
returns-in-FlowSequenceEntryMappingKey c =
    (by_turn (lent c.args.tokens.now c.args.text.now c.args.names.now c.args.tags.now c.args.terms) c.args.self _ _ c.turn_of-turn.ensures c.in-FlowSequenceEntryMappingKey.is (c.flow_sequence_entry_mapping_key.ensures.0 _ _ _), c.flow_sequence_entry_mapping_key.ensures.1)

pub returns-in-FlowSequenceEntryMappingValue : goal.returns-in-FlowSequenceEntryMappingValue
unfolding called decided answer limit lent small planned plan_done
returns-in-FlowSequenceEntryMappingValue c =
    (by_turn (lent c.args.tokens.now c.args.text.now c.args.names.now c.args.tags.now c.args.terms) c.args.self _ _ c.turn_of-turn.ensures c.in-FlowSequenceEntryMappingValue.is (c.flow_sequence_entry_mapping_value.ensures.0 _ _ _), c.flow_sequence_entry_mapping_value.ensures.1)

pub returns-in-FlowSequenceEntryMappingEnd : goal.returns-in-FlowSequenceEntryMappingEnd
unfolding called decided answer limit lent small planned plan_done
returns-in-FlowSequenceEntryMappingEnd c =
    (by_turn (lent c.args.tokens.now c.args.text.now c.args.names.now c.args.tags.now c.args.terms) c.args.self _ _ c.turn_of-turn.ensures c.in-FlowSequenceEntryMappingEnd.is ((c.flow_sequence_entry_mapping_end.ensures _ _).0 _ _ _), (c.flow_sequence_entry_mapping_end.ensures _ []).1)

pub returns-in-FlowMappingKey : goal.returns-in-FlowMappingKey
unfolding called decided answer limit lent small planned plan_done
returns-in-FlowMappingKey c =
    (by_turn (lent c.args.tokens.now c.args.text.now c.args.names.now c.args.tags.now c.args.terms) c.args.self _ _ c.turn_of-turn.ensures c.in-FlowMappingKey.is (c.flow_mapping_key.ensures.0 _ _ _), c.flow_mapping_key.ensures.1)

pub returns-in-FlowMappingValue : goal.returns-in-FlowMappingValue
unfolding called decided answer limit lent small planned plan_done
returns-in-FlowMappingValue c =
    (by_turn (lent c.args.tokens.now c.args.text.now c.args.names.now c.args.tags.now c.args.terms) c.args.self _ _ c.turn_of-turn.ensures c.in-FlowMappingValue.is (c.flow_mapping_value.ensures.0 _ _ _), c.flow_mapping_value.ensures.1)

pub returns-in-End : goal.returns-in-End
unfolding called decided answer limit lent small planned plan_done
returns-in-End c =
    (by_turn (lent c.args.tokens.now c.args.text.now c.args.names.now c.args.tags.now c.args.terms) c.args.self _ _ c.turn_of-turn.ensures c.in-End.is (rw c.done.ensures refl), rw c.done.ensures tt)
