use native.Mathlib.Numerals.{add-one}
use Rattle.parser.specs.Answers.{decided, answer, refused_by, refusing, state_after, open_after, names_after, handles_after}
use Rattle.parser.specs.Machine.{small, lent}
use Rattle.parser.specs.Plans.{planned, plan_done}
use Rattle.rules.specs.Rules.{flow_sequence_entry_mapping_end}
use Rattle.rules.specs.Rules.Words.{give, among}
use Rattle.rules.specs.Run.{limit}
use Rattle.parser.proofs.Machine.flow_sequence_entry_mapping_end.Goals as goal

pub returns : goal.returns
unfolding flow_sequence_entry_mapping_end small decided answer limit lent give refused_by refusing state_after open_after names_after handles_after among planned plan_done
returns c _ _ =
    ((λ _ _ _. simp (add-one, c.give.ensures, c.plain-event.ensures)), rw c.give.ensures tt)
