-- What the walker of each part promises: where it ends the walk goes on, and what it refuses the walk refuses.
use Rattle.std.specs.Prelude.{◌≡◌, ℕ, suc, ◌+◌, ◌≤◌, ◌<◌, max, List, ◌∷◌, length, Result, Ok, Err}
use Rattle.records.specs.Says.{Says, Goes, Number}
use Rattle.rules.specs.Walk.{Open, Place, inside, between, ended, begin, within, walk, Walked, refused}
use Rattle.rules.specs.Walk as k
use Rattle.load.specs.Load.{count, kind_at, from, number_of, place_of}
use Rattle.load.specs.declared.Fault.{Fault}

-- a part leads on to an index, or is refused with a number at one
abbrev pub part_says : Result ℕ Fault → Says ℕ
part_says (Ok j) = Goes j
part_says (Err e) = Number (number_of e) (place_of e)

-- a part takes an event or more, and none that is not there
abbrev pub Further : List ℕ → ℕ → Says ℕ → Type 0
Further bs at (Goes j) = (at < j) × (j ≤ count bs)
Further bs at (Number m j) = j ≤ max at (count bs)

-- what the walk says from where a part ended, at place q
abbrev pub onto : List ℕ → Place → Says ℕ → Walked
onto bs q (Goes j) = walk q (from bs j)
onto bs q (Number m j) = refused m (from bs j)

-- a node in whatever is open, where nothing ends
pub record Node (bs : List ℕ) (at left : ℕ) (r : Result ℕ Fault) : Type 0 where
  pub further : Further bs at (part_says r)
  pub reads : (o : List Open) → length o + left ≡ 1000 → within o (kind_at bs at) ≡ begin o (kind_at bs at)
      → walk (inside o) (from bs at) ≡ onto bs (ended o) (part_says r)

-- the rest of a collection that was opened by x
pub record Collection (x : Open) (bs : List ℕ) (at left : ℕ) (r : Result ℕ Fault) : Type 0 where
  pub further : Further bs at (part_says r)
  pub reads : (o : List Open) → suc (length o + left) ≡ 1000 → walk (inside (x ∷ o)) (from bs at) ≡ onto bs (ended o) (part_says r)

abbrev pub Sequence : List ℕ → ℕ → ℕ → Result ℕ Fault → Type 0
Sequence = Collection k.sequence

abbrev pub Mapping : List ℕ → ℕ → ℕ → Result ℕ Fault → Type 0
Mapping = Collection k.key

pub record Document (bs : List ℕ) (at : ℕ) (r : Result ℕ Fault) : Type 0 where
  pub further : Further bs at (part_says r)
  pub reads : (kind_at bs at ≡ 2 → ⊥) → walk between (from bs at) ≡ onto bs between (part_says r)
