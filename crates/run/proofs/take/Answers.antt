use mathlib.Core.Path.{sym, ◌∙◌}
use Rattle.records.specs.Events.{numbers_of}
use Rattle.run.specs.Turns.{taken_turn, taken_bytes}
use Rattle.run.proofs.take.Goals as goal

pub apply-applied-requires : goal.apply-applied-requires
apply-applied-requires c =
    c.requires

pub returns-in_default : goal.returns-in_default
unfolding taken_turn taken_bytes
returns-in_default c =
    let told = c.in_default.is in
    record {
      applied = c.apply-applied.result;
      applying = c.apply-applied.ensures;
      turn = rw told c.stopped.ensures;
      bytes = rw told;
    }

pub returns-then-is_end : goal.returns-then-is_end
unfolding taken_turn taken_bytes numbers_of
returns-then-is_end c =
    let told = c.in-Next.is in
    record {
      applied = c.apply-applied.result;
      applying = c.apply-applied.ensures;
      turn = rw (told, sym c.store_event.ensures.room ∙ c.if-store_event.true, sym c.is_end.ensures ∙ c.if-is_end.true);
      bytes = rw told c.store_event.ensures.bytes;
    }

pub returns-then-store_event : goal.returns-then-store_event
unfolding taken_turn taken_bytes numbers_of
returns-then-store_event c =
    let told = c.in-Next.is in
    record {
      applied = c.apply-applied.result;
      applying = c.apply-applied.ensures;
      turn = rw (told, sym c.store_event.ensures.room ∙ c.if-store_event.true, sym c.is_end.ensures ∙ c.if-is_end.false);
      bytes = rw told c.store_event.ensures.bytes;
    }

pub returns : goal.returns
unfolding taken_turn taken_bytes numbers_of
returns c =
    let told = c.in-Next.is in
    record {
      applied = c.apply-applied.result;
      applying = c.apply-applied.ensures;
      turn = rw (told, sym c.store_event.ensures.room ∙ c.if-store_event.false) c.stopped-2.ensures;
      bytes = rw told c.store_event.ensures.bytes;
    }
