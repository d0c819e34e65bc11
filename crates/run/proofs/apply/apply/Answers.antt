use Rattle.run.proofs.apply.apply.Goals as goal

pub next_id-next-requires : goal.next_id-next-requires
next_id-next-requires c =
    c.requires

pub returns : goal.returns
returns c =
    record {
      opened = c.change_states-opened.result;
      names = c.change_names-names.result;
      used = c.change_handles-used.result;
      result = rw (c.advanced.ensures, c.next_id-next.ensures);
      opening = c.change_states-opened.ensures;
      naming = c.change_names-names.ensures;
      handling = c.change_handles-used.ensures;
    }
