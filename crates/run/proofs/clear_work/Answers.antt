use Rattle.run.specs.Run.{cleared}
use Rattle.run.proofs.clear_work.Goals as goal

pub returns : goal.returns
unfolding cleared
returns c =
    record {
      states = c.clear_all.ensures;
      anchors = c.clear_all-2.ensures;
      handles = c.clear_all-3.ensures;
    }
