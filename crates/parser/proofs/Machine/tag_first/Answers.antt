use mathlib.Core.Path.{refl}
use native.Mathlib.Omega.{arith}
use native.Mathlib.Numerals.{add-one}
use Rattle.records.proofs.TokenLaws.{inside}
use Rattle.parser.proofs.By.{by_is, by_look, by_none, by_not}
use Rattle.parser.proofs.NodeLaws.{by_content, by_tagged, by_untagged}
use Rattle.parser.specs.Machine.{lent, small}
use Rattle.parser.specs.Answers.{decided, answer, refused_by, refusing, names_after}
use Rattle.parser.specs.Nodes.{tag_only, bare, behind, names_of, properties_of, behind_done, behind_content}
use Rattle.rules.specs.Rules.{tag_first, no_properties}
use Rattle.rules.specs.Run.{limit}
use Rattle.parser.proofs.Machine.tag_first.Goals as goal

pub returns-in_default : goal.returns-in_default
unfolding tag_first no_properties tag_only bare small names_after decided answer limit lent refused_by refusing behind properties_of names_of behind_done behind_content
returns-in_default c =
    ((λ o b i. by_untagged (lent c.args.tokens.now c.args.text.now c.args.names.now c.args.tags.now c.args.terms) c.args.self _ _ _ _ _ c.resolve_tag-resolved.ensures c.in_default.is (rw c.done.ensures c.refuse.ensures)), rw c.done.ensures tt)

pub returns-in_default-read : goal.returns-in_default-read
unfolding tag_first no_properties tag_only bare small names_after decided answer limit lent refused_by refusing behind properties_of names_of behind_done behind_content
returns-in_default-read c =
    ((λ o b i. by_tagged (lent c.args.tokens.now c.args.text.now c.args.names.now c.args.tags.now c.args.terms) c.args.self _ _ _ _ _ c.resolve_tag-resolved.ensures c.in-Tagged.is (by_none (lent c.args.tokens.now c.args.text.now c.args.names.now c.args.tags.now c.args.terms) c.args.self _ _ _ _ c.read_token-read.ensures c.in_default-read.is (simp (c.done-in_default-read.ensures, c.refused.ensures, c.in_default-read.is)))), rw c.done-in_default-read.ensures tt)

pub overflow_add-next : goal.overflow_add-next
unfolding tag_first no_properties tag_only bare small names_after decided answer limit lent refused_by refusing behind properties_of names_of behind_done behind_content
overflow_add-next c =
    let tokens = c.well_formed.1.0 in
    omega (arith, inside _ _ _ c.read_token-read.ensures c.in-Token.is, tokens)

pub returns-then-u-eq-ANCHOR : goal.returns-then-u-eq-ANCHOR
unfolding tag_first no_properties tag_only bare small names_after decided answer limit lent refused_by refusing behind properties_of names_of behind_done behind_content
returns-then-u-eq-ANCHOR c = (
  (λ o b i. by_tagged (lent c.args.tokens.now c.args.text.now c.args.names.now c.args.tags.now c.args.terms) c.args.self _ _ _ _ _ c.resolve_tag-resolved.ensures c.in-Tagged.is (by_look (lent c.args.tokens.now c.args.text.now c.args.names.now c.args.tags.now c.args.terms) c.args.self _ _ _ _ c.read_token-read.ensures c.in-Token.is (by_is (lent c.args.tokens.now c.args.text.now c.args.names.now c.args.tags.now c.args.terms) c.args.self _ _ _ _ _ _ c.if-u-eq-ANCHOR.true
      (rw (add-one, c.tagged-p.ensures, c.bare.ensures) at (c.anchor_second.ensures.0 o b i))))),
  c.anchor_second.ensures.1,
)

pub returns : goal.returns
unfolding tag_first no_properties tag_only bare small names_after decided answer limit lent refused_by refusing behind properties_of names_of behind_done behind_content
returns c = (
  (λ o b i. by_tagged (lent c.args.tokens.now c.args.text.now c.args.names.now c.args.tags.now c.args.terms) c.args.self _ _ _ _ _ c.resolve_tag-resolved.ensures c.in-Tagged.is (by_look (lent c.args.tokens.now c.args.text.now c.args.names.now c.args.tags.now c.args.terms) c.args.self _ _ _ _ c.read_token-read.ensures c.in-Token.is (by_not (lent c.args.tokens.now c.args.text.now c.args.names.now c.args.tags.now c.args.terms) c.args.self _ _ _ _ _ _ c.if-u-eq-ANCHOR.false
      (by_content (lent c.args.tokens.now c.args.text.now c.args.names.now c.args.tags.now c.args.terms) c.args.self _ o b i _ _ refl _ (rw (c.tagged-p.ensures, c.bare.ensures) at c.content.ensures))))),
  rw c.content.ensures (inside _ _ _ c.read_token-read.ensures c.in-Token.is),
)
