use borrow.Author.Rules.{rules}
use Rattle.run.specs.Turns.{terms_of}
use Rattle.run.proofs.terms_of.Goals as goal

pub returns : goal.returns
unfolding terms_of
returns c =
    search rules
