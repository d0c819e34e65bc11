-- Weights of the states, and what a change may do, in numbers. Assumes nothing.
use mathlib.Core.Path.{◌≡◌, refl, sym, subst}
use mathlib.Core.Bool.{Bool, true, false}
use Prim.Native.Nat.{ℕ, zero, suc, ◌+◌, ◌-◌, ◌*◌, ◌≤◌}
use native.Mathlib.Omega.{arith}
use Rattle.rules.specs.Rules as w
use Rattle.rules.specs.Rules.{Given, Move, Stay, Push, Pop, Names, Tags}
use Rattle.rules.specs.Lists.{Listed}
use Rattle.rules.specs.declared.State.{State}
use Rattle.rules.specs.declared.State.TheVariants as s

pub record Weight : Type 0 where
  -- three more than the events that the current state owes; the Bool says that the next token is a Value
  pub pays : Bool → ℕ
  -- the events that an open state owes
  pub owes : ℕ
  -- 1 where a state may be opened with no token taken
  pub rises : ℕ
  -- 1 inside a document, where a state is open below
  pub level : ℕ
  -- 1 where the next token is there, looked at and not taken
  pub waits : ℕ
  -- 1 where the StreamEnd was taken
  pub ends : ℕ

abbrev pub always : ℕ → Bool → ℕ
always n v = n

abbrev pub at_value : Bool → ℕ
at_value true = 2
at_value false = 4

abbrev pub row : (Bool → ℕ) → ℕ → ℕ → ℕ → ℕ → ℕ → Weight
row pays owes rises level waits ends =
    record { pays = pays; owes = owes; rises = rises; level = level; waits = waits; ends = ends }

abbrev pub weigh : State → Weight
weigh s.StreamStart = row (always 1) 0 0 0 0 0
weigh s.ImplicitDocumentStart = row (always 3) 0 1 0 0 0
weigh s.DocumentStart = row (always 3) 0 1 0 0 0
weigh s.DocumentContent = row (always 4) 1 0 1 0 0
weigh s.DocumentEnd = row (always 4) 1 1 0 0 0
weigh s.BlockNode = row (always 1) 0 0 1 0 0
weigh s.BlockSequenceFirstEntry = row (always 0) 0 0 1 1 0
weigh s.BlockSequenceEntry = row (always 3) 0 0 1 0 0
weigh s.IndentlessSequenceEntry = row (always 4) 1 0 1 0 0
weigh s.BlockMappingFirstKey = row (always 0) 0 0 1 1 0
weigh s.BlockMappingKey = row (always 3) 0 0 1 0 0
weigh s.BlockMappingValue = row at_value 1 0 1 0 0
weigh s.FlowSequenceFirstEntry = row (always 0) 0 0 1 1 0
weigh s.FlowSequenceEntry = row (always 2) 0 0 1 0 0
weigh s.FlowSequenceEntryMappingKey = row (always 5) 2 1 1 0 0
weigh s.FlowSequenceEntryMappingValue = row (always 4) 1 0 1 0 0
weigh (s.FlowSequenceEntryMappingEnd mark) = row (always 3) 0 0 1 0 0
weigh s.FlowMappingFirstKey = row (always 0) 0 0 1 1 0
weigh s.FlowMappingKey = row (always 3) 0 0 1 0 0
weigh s.FlowMappingValue = row at_value 1 0 1 0 0
weigh s.FlowMappingEmptyValue = row (always 4) 1 0 1 0 0
weigh s.End = row (always 5) 2 0 0 0 1

-- the next token is a Value
abbrev pub value_at : {g : Given} → Listed g → ℕ → Bool
value_at l at = w.is (l.token at) w.VALUE

-- n where it is so
abbrev pub when : Bool → ℕ → ℕ
when true n = n
when false n = 0

-- 1 where the last token taken is a StreamEnd
abbrev pub closed_at : {g : Given} → Listed g → ℕ → ℕ
closed_at l zero = 0
closed_at l (suc i) = when (w.is (l.token i) w.STREAM_END) 1

module _ {g : Given} (l : Listed g) where
  abbrev pub cost : ℕ → Move → ℕ
  cost at (Stay state) = (weigh state).pays (value_at l at)
  cost at (Push p state) = (weigh p).owes + (weigh state).pays (value_at l at)
  cost at Pop = 3

abbrev pub lift : Move → ℕ
lift (Stay state) = (weigh state).rises
lift (Push p state) = suc (weigh state).rises
lift Pop = 0

-- of the state that a move goes to; 0 where it pops
abbrev pub goes : (Weight → ℕ) → Move → ℕ
goes f (Stay state) = f (weigh state)
goes f (Push p state) = f (weigh state)
goes f Pop = 0

abbrev pub Levels : Move → ℕ → Type 0
Levels (Stay state) v = (weigh state).level ≡ v
Levels (Push p state) v = ((weigh p).level ≡ v) × ((weigh state).level ≡ 1) × ((weigh p).waits + (weigh p).ends ≡ 0)
Levels Pop v = v ≡ 1

abbrev pub put : Names → ℕ
put w.NamesKept = 0
put (w.NamePut r) = 1
put w.NamesForgotten = 0

abbrev pub told : Tags → ℕ
told w.TagsKept = 0
told (w.TagsDeclared i j) = j - i
told w.TagsForgotten = 0

-- a change from place a, in a state of weight c, rise b and level v, to place `at`
pub record Facts {g : Given} (l : Listed g) (c b v a at : ℕ) (mv : Move) (new more : ℕ) : Type 0 where
  pub paid : 1 + cost l at mv + 3 * a ≤ c + 3 * at
  pub lifted : lift mv + a ≤ b + at
  pub leveled : Levels mv v
  pub onward : a ≤ at
  pub within : goes (λ x. x.waits) mv + at ≤ g.count
  pub closed : goes (λ x. x.ends) mv ≤ closed_at l at
  pub names : new + a ≤ at
  pub tags : more + a ≤ at

pub when_so : {t : Bool} (n : ℕ) → t ≡ true → when t n ≡ n
when_so {t} n e = subst (λ (b : Bool). when b n ≡ n) (sym e) refl

pub value_range : (v : Bool) → (2 ≤ at_value v) × (at_value v ≤ 4)
value_range true = omega arith
value_range false = omega arith

pub value_two : {v : Bool} → v ≡ true → at_value v ≡ 2
value_two {v} e = subst (λ (b : Bool). at_value b ≡ 2) (sym e) refl

pub value_not : {v : Bool} → v ≡ false → at_value v ≡ 4
value_not {v} e = subst (λ (b : Bool). at_value b ≡ 4) (sym e) refl

-- what the proofs use of every row
pub record Lawful (x : Weight) (v : Bool) : Type 0 where
  pub opened : x.pays v ≤ 3 + x.owes
  pub rise : x.rises ≤ 1
  pub some : 1 ≤ x.pays v + x.waits
  pub outside : x.level + x.ends ≤ 1

pub lawful : (state : State) (v : Bool) → Lawful (weigh state) v
lawful s.StreamStart v = omega arith
lawful s.ImplicitDocumentStart v = omega arith
lawful s.DocumentStart v = omega arith
lawful s.DocumentContent v = omega arith
lawful s.DocumentEnd v = omega arith
lawful s.BlockNode v = omega arith
lawful s.BlockSequenceFirstEntry v = omega arith
lawful s.BlockSequenceEntry v = omega arith
lawful s.IndentlessSequenceEntry v = omega arith
lawful s.BlockMappingFirstKey v = omega arith
lawful s.BlockMappingKey v = omega arith
lawful s.BlockMappingValue v = omega (arith, value_range v)
lawful s.FlowSequenceFirstEntry v = omega arith
lawful s.FlowSequenceEntry v = omega arith
lawful s.FlowSequenceEntryMappingKey v = omega arith
lawful s.FlowSequenceEntryMappingValue v = omega arith
lawful (s.FlowSequenceEntryMappingEnd mark) v = omega arith
lawful s.FlowMappingFirstKey v = omega arith
lawful s.FlowMappingKey v = omega arith
lawful s.FlowMappingValue v = omega (arith, value_range v)
lawful s.FlowMappingEmptyValue v = omega arith
lawful s.End v = omega arith
