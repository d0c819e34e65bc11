-- The grammar of events, and what a refusal says.
use Rattle.std.specs.Prelude.{◌≡◌, ◌⊎◌, ℕ, suc, max, ◌≤◌, List, [], ◌∷◌, ◌++◌, length}
use Rattle.rules.specs.Walk.{Open, Place, inside, over, May, Path, walk, passed}

-- a node: an alias, a scalar, a sequence of nodes or a mapping of pairs of nodes
mutual
  pub data Tree : Type 0 where
    alias : Tree
    scalar : Tree
    sequence : Trees → Tree
    mapping : Pairs → Tree

  pub data Trees : Type 0 where
    none : Trees
    more : Tree → Trees → Trees

  pub data Pairs : Type 0 where
    done : Pairs
    pair : Tree → Tree → Pairs → Pairs

-- the kinds of a node's events
unfoldable mutual
  pub tree : Tree → List ℕ
  tree alias = 5 ∷ []
  tree scalar = 6 ∷ []
  tree (sequence ts) = 7 ∷ (trees ts ++ (8 ∷ []))
  tree (mapping ps) = 9 ∷ (pairs ps ++ (10 ∷ []))

  pub trees : Trees → List ℕ
  trees none = []
  trees (more t ts) = tree t ++ trees ts

  pub pairs : Pairs → List ℕ
  pairs done = []
  pairs (pair k v ps) = tree k ++ (tree v ++ pairs ps)

-- how many collections are open at once in a node, at most
unfoldable mutual
  pub depth : Tree → ℕ
  depth alias = 0
  depth scalar = 0
  depth (sequence ts) = suc (depths ts)
  depth (mapping ps) = suc (deep ps)

  pub depths : Trees → ℕ
  depths none = 0
  depths (more t ts) = max (depth t) (depths ts)

  pub deep : Pairs → ℕ
  deep done = 0
  deep (pair k v ps) = max (depth k) (max (depth v) (deep ps))

-- documents of one node each, and the whole stream
unfoldable pub documents : Trees → List ℕ
documents none = []
documents (more t ts) = 3 ∷ (tree t ++ (4 ∷ documents ts))

unfoldable pub stream : Trees → List ℕ
stream ts = 1 ∷ (documents ts ++ (2 ∷ []))

-- these are the kinds of a stream that nests at most 1,000 deep
pub record Derived (ks : List ℕ) : Type 0 where
  pub nodes : Trees
  pub is : ks ≡ stream nodes
  pub nested : depths nodes ≤ 1000

-- why the events from here on are refused at a place
pub data Why : Place → List ℕ → ℕ → Type 0 where
  early : {p : Place} → (p ≡ over → ⊥) → Why p [] 30  -- the list ends
  stray : {p : Place} {k : ℕ} {ks : List ℕ} → ((q : Place) → May p k q → ⊥) → Why p (k ∷ ks) 30  -- no such event stands here
  full : {o : List Open} {k : ℕ} {ks : List ℕ} → (k ≡ 7) ⊎ (k ≡ 9) → length o ≡ 1000 → Why (inside o) (k ∷ ks) 31  -- 1,000 are open

-- the events are refused with m behind the first i: these lead to a place, could have gone on to the end, and there is the reason
pub record Refusal (from : Place) (ks : List ℕ) (m i : ℕ) : Type 0 where
  pub before : List ℕ
  pub rest : List ℕ
  pub is : ks ≡ before ++ rest
  pub index : length before ≡ i
  pub place : Place
  pub path : Path from before place
  pub end : List ℕ
  pub ends : walk from (before ++ end) ≡ passed
  pub why : Why place rest m
