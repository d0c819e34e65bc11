-- What each answer says of the bytes.
use Rattle.std.specs.Prelude.{◌≡◌, ℕ, ◌%◌, List, length}
use Rattle.records.specs.Events.{event_size}
use Rattle.rules.specs.Walk.{outside}
use Rattle.load.specs.Load.{from, answered}
use Rattle.load.specs.Grammar.{Derived, Refusal}
use Rattle.load.specs.declared.Answer.{Answer}

pub data Means (bs : List ℕ) : Answer → Type 0 where
  accepted : length bs % event_size ≡ 0 → Derived (from bs 0) → Means bs (answered 0 0)
  uneven : (length bs % event_size ≡ 0 → ⊥) → Means bs (answered 20 0)
  refused : {m i : ℕ} → length bs % event_size ≡ 0 → Refusal outside (from bs 0) m i → Means bs (answered m i)
