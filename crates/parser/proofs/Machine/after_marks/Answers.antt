use Rattle.parser.proofs.By.{by_look, by_no, by_none, by_yes}
use native.Mathlib.Numerals.{add-one}
use Rattle.parser.specs.Answers.{decided, answer, refused_by, refusing, state_after, open_after, names_after, handles_after}
use Rattle.parser.specs.Machine.{lent}
use Rattle.rules.specs.Rules.{after_marks}
use Rattle.rules.specs.Rules.Words.{give, among}
use Rattle.rules.specs.Run.{limit}
use Rattle.parser.proofs.Machine.after_marks.Goals as goal

pub returns-in_default : goal.returns-in_default
unfolding after_marks decided answer limit lent give refused_by refusing state_after open_after names_after handles_after among
returns-in_default c =
    by_none (lent c.args.tokens.now c.args.text.now c.args.names.now c.args.tags.now c.args.terms) c.args.self _ _ _ _ c.read_token-read.ensures c.in_default.is (simp (add-one, c.refused.ensures, c.in_default.is))

pub returns-then-after_marks : goal.returns-then-after_marks
unfolding after_marks decided answer limit lent give refused_by refusing state_after open_after names_after handles_after among
returns-then-after_marks c =
    by_look (lent c.args.tokens.now c.args.text.now c.args.names.now c.args.tags.now c.args.terms) c.args.self _ _ _ _ c.read_token-read.ensures c.in-Token.is (by_yes (lent c.args.tokens.now c.args.text.now c.args.names.now c.args.tags.now c.args.terms) c.args.self _ _ _ _ _ c.after_marks.ensures c.if-after_marks.true (simp (add-one, c.document_end_at.ensures)))

pub returns : goal.returns
unfolding after_marks decided answer limit lent give refused_by refusing state_after open_after names_after handles_after among
returns c =
    by_look (lent c.args.tokens.now c.args.text.now c.args.names.now c.args.tags.now c.args.terms) c.args.self _ _ _ _ c.read_token-read.ensures c.in-Token.is (by_no (lent c.args.tokens.now c.args.text.now c.args.names.now c.args.tags.now c.args.terms) c.args.self _ _ _ _ _ c.after_marks.ensures c.if-after_marks.false (simp (add-one, c.refuse.ensures)))
