use native.Mathlib.Omega.{arith}
use Rattle.std.proofs.lemmas.Result.{err_from_is_err_and}
use Rattle.records.specs.declared.kinds.EventKind.TheVariants.{DocumentStart}
use Rattle.load.proofs.KindLaws.{found}
use Rattle.load.proofs.PartLaws.{document_no, document_node, document_open, document_end}
use Rattle.load.proofs.load_document.Goals as goal

pub returns-then-ne : goal.returns-then-ne
returns-then-ne c = document_no c.kind_at.ensures (λ z. grind arith)

pub overflow_add-at : goal.overflow_add-at
overflow_add-at c =
    omega (arith, found c.args.events.now c.args.at c.kind_at.ensures {x = DocumentStart} (grind arith), c.well_formed)

pub returns-in_err-end : goal.returns-in_err-end
returns-in_err-end c =
    let p = err_from_is_err_and c.from_residual.result c.from_residual.ensures.1 in
    rw (p.1, p.2) (document_node c.kind_at.ensures (grind arith) c.in_err-end.ensures)

pub returns-then-ne-2 : goal.returns-then-ne-2
returns-then-ne-2 c = document_open c.kind_at.ensures (grind arith) c.in_ok-end.ensures c.kind_at-2.ensures (λ z. grind arith)

pub returns : goal.returns
returns c = document_end c.kind_at.ensures (grind arith) c.in_ok-end.ensures c.kind_at-2.ensures (grind arith)
