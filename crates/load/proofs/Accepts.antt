-- A stream that nests at most 1,000 deep passes the walk, and every place can be gone on from to the end. Assumes nothing.
use mathlib.Core.Path.{◌≡◌, refl, ap, ◌∙◌}
use mathlib.Core.List.{List, [], ◌∷◌, ◌++◌, append_assoc}
use Prim.Native.Nat.{ℕ, suc, ◌+◌, ◌≤◌}
use native.Mathlib.Omega.{arith}
use lib.ListN.{length}
use borrow.Author.Tests.{lt-ltb}
use Rattle.rules.specs.Walk.{Open, Place, outside, between, inside, after, over, ended, to, enter, begin, within, lead, finish, onward, walk, passed}
use Rattle.rules.specs.Walk as k
use Rattle.rules.proofs.Walks.{begins}
use Rattle.load.specs.Grammar.{Tree, alias, scalar, sequence, mapping, Trees, none, more, Pairs, done, pair, tree, trees, pairs, depth, depths, deep, documents, stream}

-- an event that leads on
pub on : (p q : Place) (kind : ℕ) (ks : List ℕ) → lead p kind ≡ to q → walk p (kind ∷ ks) ≡ walk q ks
unfolding walk onward
on p q kind ks e = rw e

mutual
  unfolding tree depth lead begin enter within

  tree_walk : (t : Tree) (o : List Open) (rs : List ℕ) → depth t + length o ≤ 1000 → walk (inside o) (tree t ++ rs) ≡ walk (ended o) rs
  tree_walk alias o rs h = on (inside o) (ended o) 5 rs (begins o 5 refl refl)
  tree_walk scalar o rs h = on (inside o) (ended o) 6 rs (begins o 6 refl refl)
  tree_walk (sequence ts) o rs h =
      on (inside o) (inside (k.sequence ∷ o)) 7 _ (begins o 7 refl refl ∙ rw (lt-ltb (length o) 1000 (omega arith)))
      ∙ ap (walk (inside (k.sequence ∷ o))) (append_assoc (trees ts) (8 ∷ []) rs)
      ∙ trees_walk ts o rs (omega arith)
  tree_walk (mapping ps) o rs h =
      on (inside o) (inside (k.key ∷ o)) 9 _ (begins o 9 refl refl ∙ rw (lt-ltb (length o) 1000 (omega arith)))
      ∙ ap (walk (inside (k.key ∷ o))) (append_assoc (pairs ps) (10 ∷ []) rs)
      ∙ pairs_walk ps o rs (omega arith)

  trees_walk : (ts : Trees) (o : List Open) (rs : List ℕ) → depths ts + suc (length o) ≤ 1000
      → walk (inside (k.sequence ∷ o)) (trees ts ++ (8 ∷ rs)) ≡ walk (ended o) rs
  trees_walk none o rs h = on (inside (k.sequence ∷ o)) (ended o) 8 rs refl
  trees_walk (more t ts) o rs h =
      ap (walk (inside (k.sequence ∷ o))) (append_assoc (tree t) (trees ts) (8 ∷ rs))
      ∙ tree_walk t (k.sequence ∷ o) (trees ts ++ (8 ∷ rs)) (omega arith)
      ∙ trees_walk ts o rs (omega arith)

  pairs_walk : (ps : Pairs) (o : List Open) (rs : List ℕ) → deep ps + suc (length o) ≤ 1000
      → walk (inside (k.key ∷ o)) (pairs ps ++ (10 ∷ rs)) ≡ walk (ended o) rs
  pairs_walk done o rs h = on (inside (k.key ∷ o)) (ended o) 10 rs refl
  pairs_walk (pair key value ps) o rs h =
      ap (walk (inside (k.key ∷ o)))
      (append_assoc (tree key) (tree value ++ pairs ps) (10 ∷ rs) ∙ ap (λ (l : List ℕ). tree key ++ l) (append_assoc (tree value) (pairs ps) (10 ∷ rs)))
      ∙ tree_walk key (k.key ∷ o) (tree value ++ (pairs ps ++ (10 ∷ rs))) (omega arith)
      ∙ tree_walk value (k.value ∷ o) (pairs ps ++ (10 ∷ rs)) (omega arith)
      ∙ pairs_walk ps o rs (omega arith)

documents-walk : (ts : Trees) (rs : List ℕ) → depths ts ≤ 1000 → walk between (documents ts ++ (2 ∷ rs)) ≡ walk over rs
unfolding documents depths lead
documents-walk none rs h = on between over 2 rs refl
documents-walk (more t ts) rs h =
    on between (inside []) 3 _ refl
    ∙ ap (walk (inside [])) (append_assoc (tree t) (4 ∷ documents ts) (2 ∷ rs))
    ∙ tree_walk t [] (4 ∷ (documents ts ++ (2 ∷ rs))) (omega arith)
    ∙ on after between 4 _ refl
    ∙ documents-walk ts rs (omega arith)

pub stream-walk : (ts : Trees) → depths ts ≤ 1000 → walk outside (stream ts) ≡ passed
unfolding stream lead walk finish
stream-walk ts h = on outside between 1 _ refl ∙ documents-walk ts [] h

-- the shortest way from a node's end
way : List Open → List ℕ
way [] = 4 ∷ 2 ∷ []
way (k.sequence ∷ o) = 8 ∷ way o
way (k.key ∷ o) = 6 ∷ 10 ∷ way o
way (k.value ∷ o) = 10 ∷ way o

way_walk : (o : List Open) → walk (ended o) (way o) ≡ passed
unfolding way lead begin within walk onward finish
way_walk [] = refl
way_walk (k.sequence ∷ o) = way_walk o
way_walk (k.key ∷ o) = way_walk o
way_walk (k.value ∷ o) = way_walk o

pub can_end : (p : Place) → (end : List ℕ) × (walk p end ≡ passed)
unfolding lead begin walk onward finish
can_end outside = (1 ∷ 2 ∷ [], refl)
can_end between = (2 ∷ [], refl)
can_end (inside o) = (6 ∷ way o, on (inside o) (ended o) 6 (way o) (begins o 6 refl refl) ∙ way_walk o)
can_end after = (4 ∷ 2 ∷ [], refl)
can_end over = ([], refl)
