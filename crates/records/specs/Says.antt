-- Document 01's number and place for each case of an answer that is an enum.
use Rattle.std.specs.Prelude.{ℕ}
use Rattle.records.specs.declared.tokens.Token.{Token}
use Rattle.records.specs.declared.tokens.Read.{Read}
use Rattle.records.specs.declared.tokens.Read.TheVariants as read
use Rattle.records.specs.declared.checks.Checked.{Checked}
use Rattle.records.specs.declared.checks.Checked.TheVariants as checked

-- the caller goes on with a value, or there is a number and its place
pub data Says (A : Type 0) : Type 0 where
  Goes : A → Says A
  Number : ℕ → ℕ → Says A

-- a record is a token, or 21 or 14
abbrev pub read_says : Read → Says Token
read_says (read.Token t) = Goes t
read_says (read.Refused e) = Number e.number e.place

-- the first checks find as many tokens, or 20, 26, 27 or 21
abbrev pub checked_says : Checked → Says ℕ
checked_says (checked.Passed n) = Goes n
checked_says (checked.Refused e) = Number e.number e.place
