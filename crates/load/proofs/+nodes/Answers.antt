-- An event that has a kind lies in the bytes, so the next index fits; each part is read as its law says.
use Rattle.std.proofs.Common.{arith}
use Rattle.std.proofs.lemmas.Result.{err_from_is_err_and}
use Rattle.records.specs.declared.kinds.EventKind.TheVariants as e
use Rattle.load.proofs.KindLaws.{found}
use Rattle.load.proofs.PartLaws as part
use Rattle.load.proofs.+nodes.Goals as goal

pub load_mapping-returns-in_err-value : goal.load_mapping-returns-in_err-value
load_mapping-returns-in_err-value t c =
    let p = err_from_is_err_and c.from_residual.result c.from_residual.ensures.1 in
    rw (p.1, p.2) (part.been_no c.loop-at.invariant (part.no_key c.kind_at.ensures (λ z. grind arith) c.in_err-value.ensures))

pub load_mapping-returns-in_err-i : goal.load_mapping-returns-in_err-i
load_mapping-returns-in_err-i t c =
    let p = err_from_is_err_and c.from_residual-in_err-i.result c.from_residual-in_err-i.ensures.1 in
    rw (p.1, p.2)
    (part.been_no c.loop-at.invariant (part.pair c.kind_at.ensures (λ z. grind arith) c.in_ok-value.ensures c.in_err-i.ensures))

pub load_mapping-loop-at-preserved : goal.load_mapping-loop-at-preserved
load_mapping-loop-at-preserved t c =
    part.been_more c.loop-at.invariant (part.pair c.kind_at.ensures (λ z. grind arith) c.in_ok-value.ensures c.in_ok-i.ensures)

pub load_mapping-overflow_add-result : goal.load_mapping-overflow_add-result
load_mapping-overflow_add-result t c =
    omega (arith, found c.args.events.now c.loop-at.i c.kind_at.ensures {x = e.MappingEnd} (grind arith), c.well_formed)

pub load_mapping-returns : goal.load_mapping-returns
load_mapping-returns t c = part.mapping_end c.kind_at.ensures c.loop-at.invariant (grind arith)

pub load_sequence-returns-in_err-i : goal.load_sequence-returns-in_err-i
load_sequence-returns-in_err-i t c =
    let p = err_from_is_err_and c.from_residual.result c.from_residual.ensures.1 in
    rw (p.1, p.2) (part.been_no c.loop-i.invariant (part.item c.kind_at.ensures (λ z. grind arith) c.in_err-i.ensures))

pub load_sequence-loop-i-preserved : goal.load_sequence-loop-i-preserved
load_sequence-loop-i-preserved t c =
    part.been_more c.loop-i.invariant (part.item c.kind_at.ensures (λ z. grind arith) c.in_ok-i.ensures)

pub load_sequence-overflow_add-result : goal.load_sequence-overflow_add-result
load_sequence-overflow_add-result t c =
    omega (arith, found c.args.events.now c.loop-i.i c.kind_at.ensures {x = e.SequenceEnd} (grind arith), c.well_formed)

pub load_sequence-returns : goal.load_sequence-returns
load_sequence-returns t c = part.sequence_end c.kind_at.ensures c.loop-i.invariant (grind arith)

pub load_node-overflow_add-result : goal.load_node-overflow_add-result
load_node-overflow_add-result t c =
    omega (arith, found c.args.events.now c.args.at c.kind_at.ensures c.in-Some-Alias.is, c.well_formed)

pub load_node-overflow_add-at : goal.load_node-overflow_add-at
load_node-overflow_add-at t c =
    omega (arith, found c.args.events.now c.args.at c.kind_at.ensures c.in-Some-SequenceStart-2.is, c.well_formed)

pub load_node-overflow_add-at-in-Some-MappingStart : goal.load_node-overflow_add-at-in-Some-MappingStart
load_node-overflow_add-at-in-Some-MappingStart t c =
    omega (arith, found c.args.events.now c.args.at c.kind_at.ensures c.in-Some-MappingStart.is, c.well_formed)

pub load_node-returns-in-Some-Alias : goal.load_node-returns-in-Some-Alias
load_node-returns-in-Some-Alias t c = part.node_leaf c.kind_at.ensures (grind arith)

pub load_node-returns-in-Some-SequenceStart : goal.load_node-returns-in-Some-SequenceStart
load_node-returns-in-Some-SequenceStart t c = part.node_deep c.kind_at.ensures (grind arith) c.if-left-eq0.true

pub load_node-returns-in-Some-SequenceStart-2 : goal.load_node-returns-in-Some-SequenceStart-2
load_node-returns-in-Some-SequenceStart-2 t c =
    part.node_sequence c.kind_at.ensures (grind arith) c.if-left-eq0.false c.load_sequence.ensures

pub load_node-returns-in-Some-MappingStart : goal.load_node-returns-in-Some-MappingStart
load_node-returns-in-Some-MappingStart t c =
    part.node_mapping c.kind_at.ensures (grind arith) c.if-left-eq0.false c.load_mapping.ensures

pub load_node-returns-in_default-3 : goal.load_node-returns-in_default-3
load_node-returns-in_default-3 t c =
    part.node_no c.kind_at.ensures (λ z. grind arith) (λ z. grind arith) (λ z. grind arith) (λ z. grind arith)

pub load_node-returns-in_default-4 : goal.load_node-returns-in_default-4
load_node-returns-in_default-4 t c =
    part.node_no c.kind_at.ensures (λ z. grind arith) (λ z. grind arith) (λ z. grind arith) (λ z. grind arith)
