use Rattle.parser.proofs.NodeLaws.{by_known, by_unknown}
use native.Mathlib.Numerals.{add-one}
use Rattle.parser.specs.Answers.{moved, decided, answer, refused_by, refusing, over_of, names_after, handles_after}
use Rattle.parser.specs.Machine.{lent, small, given}
use Rattle.parser.specs.Nodes.{properties_of, names_of}
use Rattle.rules.specs.Rules.Words.{give}
use Rattle.rules.specs.Run.{limit}
use Rattle.parser.proofs.Machine.alias.Goals as goal

pub returns-in_default : goal.returns-in_default
unfolding give moved decided answer limit lent refused_by refusing over_of properties_of names_of names_after handles_after small given
returns-in_default c =
    by_unknown (lent c.args.tokens.now c.args.text.now c.args.names.now c.args.tags.now c.args.terms) c.args.self _ _ _ _ _ _ c.find_id-known.ensures c.in_default.is (simp (add-one, c.refuse.ensures))

pub returns : goal.returns
unfolding give moved decided answer limit lent refused_by refusing over_of properties_of names_of names_after handles_after small given
returns c =
    by_known (lent c.args.tokens.now c.args.text.now c.args.names.now c.args.tags.now c.args.terms) c.args.self _ _ _ _ _ _ c.find_id-known.ensures c.in-Id.is (simp (add-one, c.finish.ensures, c.plain.ensures))
