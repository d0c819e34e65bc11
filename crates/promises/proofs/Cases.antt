-- Each answer that is an enum, in document 01's numbers and places: of any call of `read_token`, `first_checks` and `Machine::step`,
-- by their contracts. Assumes nothing.
use mathlib.Core.Path.{◌≡◌, refl}
use mathlib.Core.Bool.{Bool, true, false, cond, not}
use Prim.Native.Nat.{ℕ, ◌%◌, ◌^◌}
use lib.Dec.{leb, ltb, eqb}
use lib.ListN.{length}
use Rattle.places.specs.Places.{places}
use Rattle.records.specs.Tokens.{token_size, token_at, good, last_end, refused, read_at}
use Rattle.records.specs.Checks.{most_tokens, most_text, good_run, refusing, check_records, first_checks}
use Rattle.records.specs.Says.{Goes, Number, read_says, checked_says}
use Rattle.records.specs.declared.tokens.Token.{Token}
use Rattle.records.specs.declared.tokens.Read.TheVariants as read
use Rattle.records.specs.declared.checks.Checked.TheVariants as checked
use Rattle.records.proofs.tokens.read_token.Reads as read_token
use Rattle.records.proofs.checks.first_checks.Reads as first_checks
use Rattle.rules.specs.Rules.{state_machine}
use Rattle.rules.specs.Rules.Words as r
use Rattle.rules.specs.Run.{limit}
use Rattle.parser.specs.Machine.{Lent, lent, given, small, rooms}
use Rattle.parser.specs.Answers as p
use Rattle.parser.specs.declared.Machine.{Machine}
use Rattle.parser.proofs.Machine.step.Reads as step

-- a record read: past the end 14 at the last token's end; a token; a bad record 21 at its index
pub reading : (κs : _) (a : _) (x : _) (s : _) → read_token.Learnt κs a x s
    → read_says x
    ≡ (let b = a.0.now in
    let at = a.1.1.0 in
    cond (leb (places b token_size) at) (Number 14 (last_end b))
    (cond (good (length a.1.0.now) (token_at b at)) (Goes (token_at b at)) (Number 21 (at % 2 ^ 32))))
unfolding read_at refused
reading κs a x s k =
    rw k (go (leb (places a.0.now token_size) a.1.1.0) (good (length a.1.0.now) (token_at a.0.now a.1.1.0)) _ _ _) where
      go : (past fine : Bool) (t : Token) (end index : ℕ)
          → read_says (cond past (refused 14 end) (cond fine (read.Token t) (refused 21 index))) ≡ cond past (Number 14 end) (cond fine (Goes t) (Number 21 index))
      go true fine t end index = refl
      go false true t end index = refl
      go false false t end index = refl

-- the first checks: 20, 26, 27 and 21, in this order; else how many tokens there are
pub checking : (κs : _) (a : _) (x : _) (s : _) → first_checks.Learnt κs a x s
    → checked_says x
    ≡ (let b = a.0.now in
    let size = length a.1.0.now in
    let n = places b token_size in
    let goods = good_run b size 0 n in
    cond (not (eqb (length b % token_size) 0)) (Number 20 0)
    (cond (ltb most_tokens n) (Number 26 0)
    (cond (ltb most_text size) (Number 27 0)
    (cond (ltb goods n) (Number 21 (goods % 2 ^ 32)) (Goes n)))))
unfolding first_checks check_records refusing
checking κs a x s k =
    rw k (go (not (eqb (length a.0.now % token_size) 0)) (ltb most_tokens (places a.0.now token_size)) (ltb most_text (length a.1.0.now)) (ltb (good_run a.0.now (length a.1.0.now) 0 (places a.0.now token_size)) (places a.0.now token_size)) _ _) where
      go : (uneven many long bad : Bool) (index n : ℕ)
          → checked_says (cond uneven (refusing 20 0) (cond many (refusing 26 0) (cond long (refusing 27 0) (cond bad (refusing 21 index) (checked.Passed n)))))
          ≡ cond uneven (Number 20 0) (cond many (Number 26 0) (cond long (Number 27 0) (cond bad (Number 21 index) (Goes n))))
      go true many long bad index n = refl
      go false true long bad index n = refl
      go false false true bad index n = refl
      go false false false true index n = refl
      go false false false false index n = refl

answered : (x : Lent) (m : Machine) (d : r.Decision) → p.step_says (p.answer x m d) ≡ p.rule_says d
unfolding p.answer p.next p.refusing
answered x m (r.Next c) = refl
answered x m (r.Refused number place) = refl
answered x m r.Unreachable = refl
answered x m (r.Wants p n d) = refl

-- a step: the event, or the number and the place, that the rule gives with the places lent
pub stepping : (κs : _) (a : _) (x : _) (s : _) → step.Learnt κs a x s
    → p.step_says x
    ≡ (let m = a.0 in
    let l = lent a.1.0.now a.1.1.0.now a.1.1.1.0.now a.1.1.1.1.0.now a.1.1.1.1.1.0 in
    p.rule_says (limit (rooms a.1.1.1.1.1.0) (state_machine (given l) (small l m) m.state)))
unfolding p.decided lent small
stepping κs a x s k = rw k (answered _ _ _)
