use Rattle.parser.proofs.NodeLaws.{by_behind, by_follows, by_registered, by_unregistered, place_for_lem}
use Rattle.parser.specs.Machine.{lent, small}
use Rattle.parser.specs.Answers.{decided, answer, refusing, names_after}
use Rattle.parser.specs.Nodes.{anchored, behind, names_of, properties_of, behind_done}
use Rattle.rules.specs.Rules.{with_anchor}
use Rattle.rules.specs.Run.{limit}
use Rattle.parser.proofs.Machine.anchor_second.Goals as goal

pub returns-in_default : goal.returns-in_default
unfolding with_anchor anchored small decided answer limit lent refusing behind properties_of names_of names_after behind_done
returns-in_default c =
    ((λ o b i. by_unregistered (lent c.args.tokens.now c.args.text.now c.args.names.now c.args.tags.now c.args.terms) c.args.self _ _ _ c.find_place-place.ensures c.in_default.is (rw c.done.ensures c.refuse.ensures)), rw c.done.ensures tt)

pub returns : goal.returns
unfolding with_anchor anchored small decided answer limit lent refusing behind properties_of names_of names_after behind_done
returns c =
    ((λ o b i. by_registered (lent c.args.tokens.now c.args.text.now c.args.names.now c.args.tags.now c.args.terms) c.args.self _ _ _ c.find_place-place.ensures c.in-At.is (by_behind (lent c.args.tokens.now c.args.text.now c.args.names.now c.args.tags.now c.args.terms) c.args.self _ o b i _ _ (rw (place_for_lem _ _ _ _ _ c.find_place-place.ensures c.in-At.is)) (rw c.anchored.ensures at c.content_at.ensures))), by_follows _ _ _ _ c.content_at.ensures)
