use native.Mathlib.Omega.{arith}
use native.Mathlib.Numerals.{add-one}
use Rattle.records.proofs.TokenLaws.{inside}
use Rattle.parser.proofs.By.{by_is, by_look, by_none, by_not}
use Rattle.parser.proofs.NodeLaws.{by_content, by_registered, by_unregistered, place_for_lem}
use Rattle.parser.specs.Machine.{lent, small}
use Rattle.parser.specs.Answers.{decided, answer, refused_by, refusing, names_after}
use Rattle.parser.specs.Nodes.{anchored, bare, behind, names_of, properties_of, behind_done, behind_content}
use Rattle.rules.specs.Rules.{anchor_first, with_anchor, no_properties}
use Rattle.rules.specs.Run.{limit}
use Rattle.parser.proofs.Machine.anchor_first.Goals as goal

pub returns-in_default : goal.returns-in_default
unfolding anchor_first with_anchor no_properties anchored bare small names_after decided answer limit lent refused_by refusing behind properties_of names_of behind_done behind_content
returns-in_default c =
    ((λ o b i. by_unregistered (lent c.args.tokens.now c.args.text.now c.args.names.now c.args.tags.now c.args.terms) c.args.self _ _ _ c.find_place-place.ensures c.in_default.is (rw c.done.ensures c.refuse.ensures)), rw c.done.ensures tt)

pub returns-in_default-read : goal.returns-in_default-read
unfolding anchor_first with_anchor no_properties anchored bare small names_after decided answer limit lent refused_by refusing behind properties_of names_of behind_done behind_content
returns-in_default-read c =
    ((λ o b i. by_registered (lent c.args.tokens.now c.args.text.now c.args.names.now c.args.tags.now c.args.terms) c.args.self _ _ _ c.find_place-place.ensures c.in-At.is (by_none (lent c.args.tokens.now c.args.text.now c.args.names.now c.args.tags.now c.args.terms) c.args.self _ _ _ _ c.read_token-read.ensures c.in_default-read.is (simp (c.done-in_default-read.ensures, c.refused.ensures, c.in_default-read.is)))), rw c.done-in_default-read.ensures tt)

pub overflow_add-next : goal.overflow_add-next
unfolding anchor_first with_anchor no_properties anchored bare small names_after decided answer limit lent refused_by refusing behind properties_of names_of behind_done behind_content
overflow_add-next c =
    omega (arith, inside _ _ _ c.read_token-read.ensures c.in-Token.is)

pub tag_second-requires : goal.tag_second-requires
unfolding anchor_first with_anchor no_properties anchored bare small names_after decided answer limit lent refused_by refusing behind properties_of names_of behind_done behind_content
tag_second-requires c =
    rw c.anchored-p.ensures (rw (place_for_lem _ _ _ _ _ c.find_place-place.ensures c.in-At.is))

pub returns-then-u-eq-TAG : goal.returns-then-u-eq-TAG
unfolding anchor_first with_anchor no_properties anchored bare small names_after decided answer limit lent refused_by refusing behind properties_of names_of behind_done behind_content
returns-then-u-eq-TAG c = (
  (λ o b i. by_registered (lent c.args.tokens.now c.args.text.now c.args.names.now c.args.tags.now c.args.terms) c.args.self _ _ _ c.find_place-place.ensures c.in-At.is (by_look (lent c.args.tokens.now c.args.text.now c.args.names.now c.args.tags.now c.args.terms) c.args.self _ _ _ _ c.read_token-read.ensures c.in-Token.is (by_is (lent c.args.tokens.now c.args.text.now c.args.names.now c.args.tags.now c.args.terms) c.args.self _ _ _ _ _ _ c.if-u-eq-TAG.true
      (rw (add-one, c.anchored-p.ensures, c.bare.ensures) at (c.tag_second.ensures.0 o b i))))),
  c.tag_second.ensures.1,
)

pub returns : goal.returns
unfolding anchor_first with_anchor no_properties anchored bare small names_after decided answer limit lent refused_by refusing behind properties_of names_of behind_done behind_content
returns c = (
  (λ o b i. by_registered (lent c.args.tokens.now c.args.text.now c.args.names.now c.args.tags.now c.args.terms) c.args.self _ _ _ c.find_place-place.ensures c.in-At.is (by_look (lent c.args.tokens.now c.args.text.now c.args.names.now c.args.tags.now c.args.terms) c.args.self _ _ _ _ c.read_token-read.ensures c.in-Token.is (by_not (lent c.args.tokens.now c.args.text.now c.args.names.now c.args.tags.now c.args.terms) c.args.self _ _ _ _ _ _ c.if-u-eq-TAG.false
      (by_content (lent c.args.tokens.now c.args.text.now c.args.names.now c.args.tags.now c.args.terms) c.args.self _ o b i _ _ (rw (place_for_lem _ _ _ _ _ c.find_place-place.ensures c.in-At.is)) _ (rw (c.anchored-p.ensures, c.bare.ensures) at c.content.ensures))))),
  rw c.content.ensures (inside _ _ _ c.read_token-read.ensures c.in-Token.is),
)
