use Rattle.parser.proofs.NodeLaws.{by_behind, by_follows, by_tagged, by_untagged}
use Rattle.parser.specs.Machine.{lent, small}
use Rattle.parser.specs.Answers.{decided, answer, refusing}
use Rattle.parser.specs.Nodes.{tag_only, behind, names_of, properties_of, behind_done}
use Rattle.rules.specs.Run.{limit}
use Rattle.parser.proofs.Machine.tag_second.Goals as goal

pub returns-in_default : goal.returns-in_default
unfolding tag_only small decided answer limit lent refusing behind properties_of names_of behind_done
returns-in_default c =
    ((λ o b i. by_untagged (lent c.args.tokens.now c.args.text.now c.args.names.now c.args.tags.now c.args.terms) c.args.self _ _ _ _ _ c.resolve_tag-resolved.ensures c.in_default.is (rw c.done.ensures c.refuse.ensures)), rw c.done.ensures tt)

pub returns : goal.returns
unfolding tag_only small decided answer limit lent refusing behind properties_of names_of behind_done
returns c =
    let pre = c.requires in
    ((λ o b i. by_tagged (lent c.args.tokens.now c.args.text.now c.args.names.now c.args.tags.now c.args.terms) c.args.self _ _ _ _ _ c.resolve_tag-resolved.ensures c.in-Tagged.is (by_behind (lent c.args.tokens.now c.args.text.now c.args.names.now c.args.tags.now c.args.terms) c.args.self _ o b i _ _ pre (rw c.tagged.ensures at c.content_at.ensures))), by_follows _ _ _ _ c.content_at.ensures)
