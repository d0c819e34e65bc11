-- The starred lists of document 01 come out as it says, one table under one statement. Assumes nothing.
use mathlib.Core.Path.{◌≡◌, refl}
use mathlib.Core.Bool.{Bool, true}
use Rattle.records.specs.Names as names
use Rattle.records.specs.Tokens as tokens
use Rattle.tables.specs.Tables as tables
use Rattle.tables.specs.Anchors as anchors
use Rattle.tables.specs.Handles as handles
use Rattle.rules.specs.States as states
use Rattle.rules.specs.Rules as r
use Rattle.rules.specs.Run as run
use Rattle.rules.specs.Lists as lists
use Rattle.rules.specs.Needs as needs
use Rattle.rules.specs.Starred as s

-- to unfold this is to unfold all that its line names: the rules, the run and the words of a table
unfoldable pub computing : Bool
unfolding names.no_range names.same names.part names.same_name tokens.refused tables.entered anchors.named handles.named states.ranked states.numbers r.choose◌then◌else◌ r.is r.one_of r.among r.first r.hit? r.seen r.look r.give r.push_state r.no_tag r.plain r.empty_scalar r.pop_state r.into r.stream_start r.passes r.past r.declare_read r.declare r.tag_directive r.parser_process_directives r.document_names r.document r.after_directives r.explicit_document_start r.document_start_at r.document_start r.bang_last r.named_handle? r.undeclared r.resolved r.resolve_tag r.no_properties r.with_anchor r.tagged r.with_tag r.register_anchor r.node r.block_content r.content r.node_content r.alias r.anchor_first r.tag_first r.node_properties r.node_from r.parse_node r.parse_node_over r.document_content r.document_ends r.document_end_at r.after_marks r.document_end r.taken_first r.block_mapping_at r.block_mapping_key r.block_mapping_value r.flow_mapping_entry r.flow_mapping_at r.flow_mapping_key r.flow_mapping_value r.flow_entry r.flow_sequence_at r.flow_sequence_entry r.indentless_sequence_entry r.block_sequence_at r.block_sequence_entry r.flow_sequence_entry_mapping_key r.flow_sequence_entry_mapping_value r.flow_sequence_entry_mapping_end r.state_machine run.room run.short run.limit run.small run.fresh run.named run.numbered run.handled run.after run.moved run.settle run.step run.stop run.store run.ended run.onward run.run needs.enough needs.ample lists.last_token_end lists.read_in lists.listed s.bare s.styled s.word s.pair s.named s.tagged s.valued s.tag_on s.ev s.scalar s.all_from s.same_range s.same_tag s.same_event s.picked s.as_said s.check s.check_all s.whole s.alias_over s.starred
computing = true

pub starred_right : s.check_all s.starred ≡ true
unfolding computing
starred_right = refl
