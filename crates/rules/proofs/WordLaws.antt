-- One law for each word that the rules are said with, whatever is asked of a want (W) and of a change (N). Assumes nothing.
use mathlib.Core.Path.{◌≡◌, refl}
use mathlib.Core.Bool.{Bool, true, false, ◌&&◌}
use mathlib.Core.List.{List}
use Prim.Native.Nat.{ℕ, zero, suc, ◌+◌, ◌-◌, ◌≤◌, ◌<◌}
use native.Mathlib.Omega.{arith}
use borrow.Author.Tests.{ltb-true, ltb-false}
use lib.Dec.{T, leb, ltb}
use lib.ListN.{length}
use Rattle.records.specs.declared.tokens.Token.{Token}
use Rattle.tables.specs.declared.anchors.Anchor.{Anchor}
use Rattle.rules.specs.Rules as w
use Rattle.rules.specs.Rules.{choose◌then◌else◌, Given, Small, Change, Place, Decision, Next, Refused, Wants}
use Rattle.rules.specs.Lists.{Listed}
use Rattle.rules.proofs.ListLaws.{look_within, look_past}

-- the numbers that the rules refuse with
abbrev pub own : ℕ → Bool
own n = leb 1 n && leb n 14

-- what is asked of each act of a decision; Unreachable has no case
pub data Each (W : Place → ℕ → Type 0) (N : Change → Type 0) : Decision → Type 0 where
  refused : (n p : ℕ) → T (own n) → Each W N (Refused n p)
  wants : (p : Place) (n : ℕ) {d : Decision} → W p n → Each W N d → Each W N (Wants p n d)
  next : (c : Change) → N c → Each W N (Next c)

-- the tokens that a First state takes before it goes on
abbrev pub taken : Bool → ℕ
taken true = 1
taken false = 0

pub past-le : (g : Given) (ks : List ℕ) (n at : ℕ) → at ≤ w.past g ks n at
unfolding w.past choose◌then◌else◌
past-le g ks zero at = omega arith
past-le g ks (suc n) at = go (w.passes ks (g.read at)) (past-le g ks n (suc at)) where
  go : (t : Bool) → suc at ≤ w.past g ks n (suc at) → at ≤ (choose t then w.past g ks n (suc at) else at)
  go true h = omega arith
  go false h = omega arith

module _ {W : Place → ℕ → Type 0} {N : Change → Type 0} where
  pub each_if : {d e : Decision} (t : Bool) → (t ≡ true → Each W N d) → (t ≡ false → Each W N e) → Each W N (choose t then d else e)
  unfolding choose◌then◌else◌
  each_if true h k = h refl
  each_if false h k = k refl

  pub each_push : (m : Small) {d : Decision} → W w.OpenPlace (suc m.depth) → Each W N d → Each W N (w.push_state m d)
  unfolding w.push_state
  each_push m h k = wants _ _ h k

  pub each_tag : (g : Given) (m : Small) (p : w.Properties) (t : Token) (k : w.Properties → Decision)
      → ((q : w.Properties) → Each W N (k q)) → Each W N (w.with_tag g m p t k)
  unfolding w.with_tag w.tagged
  each_tag g m p t k h = go (w.resolve_tag g m t.a) where
    go : (r : w.Resolved) → Each W N (w.tagged r p t k)
    go w.Undeclared = refused 13 _ tt
    go (w.Tagged source prefix) = h _

  pub each_register : (g : Given) (m : Small) (t : Token) {d : Decision}
      → W w.AnchorPlace (suc (length m.anchors)) → Each W N d → Each W N (w.register_anchor g m t d)
  unfolding w.register_anchor
  each_register g m t h k = each_if _ (λ e. k) (λ e. wants _ _ h k)

  pub each_alias : (at : ℕ) (over : w.Over) (t : Token) (hit : w.Hit Anchor)
      → ((a : Anchor) → Each W N (w.give at (w.pop_state over) (w.plain 5 t.start t.end a.id)))
      → Each W N (w.alias at over t hit)
  unfolding w.alias
  each_alias at over t w.Miss h = refused 7 _ tt
  each_alias at over t (w.Got a) h = h a

  module _ {g : Given} (l : Listed g) where
    pub each_look : (at : ℕ) (k : Token → Decision) → (at < g.count → Each W N (k (l.token at))) → Each W N (w.look g at k)
    each_look at k h = go (ltb at g.count) refl where
      go : (t : Bool) → ltb at g.count ≡ t → Each W N (w.look g at k)
      go true e = let i = ltb-true at g.count e in rw (look_within l at k i) (h i)
      go false e = rw (look_past l at k (ltb-false at g.count e)) (refused 14 _ tt)

    module _ (m : Small) where
      pub each_directives : (from n at : ℕ) (version : Bool) (k : ℕ → Decision)
          → ((i : ℕ) → at ≤ i → i < g.count → W w.HandlePlace (length (w.declare g (suc i - from) from m.handles)))
          → ((i : ℕ) → at ≤ i → Each W N (k i))
          → Each W N (w.parser_process_directives g m from n at version k)
      unfolding w.parser_process_directives w.tag_directive
      each_directives from zero at version k f h = h at (omega arith)
      each_directives from (suc n) at version k f h =
          let on : (v : Bool) → Each W N (w.parser_process_directives g m from n (suc at) v k) =
          λ v. each_directives from n (suc at) v k (λ i q. f i (omega arith)) (λ i q. h i (omega arith)) in
          each_look _ _ λ i. each_if _
          (λ e. each_if _ (λ e. refused 3 _ tt) (λ e. on true))
          λ e. each_if _
          (λ e. each_if _ (λ e. refused 4 _ tt) (λ e. wants _ _ (f at (omega arith) i) (on version)))
          λ e. each_if _
          (λ e. on version)
          λ e. h at (omega arith)

      -- a First state takes one token more
      pub each_first : (first? : Bool) (k : ℕ → Decision) → ((at : ℕ) → at ≡ taken first? + m.at → Each W N (k at))
          → Each W N (w.taken_first g m first? k)
      unfolding w.taken_first
      each_first true k h = each_look _ _ λ i. h _ (omega arith)
      each_first false k h = h _ (omega arith)

      -- a node is an alias, or what it has before its content and then the content
      pub each_node : (at : ℕ) (over : w.Over) (block indentless : Bool)
          → (at < g.count → W w.AnchorPlace (suc (length m.anchors)))
          → ((start end id : ℕ) → at < g.count → Each W N (w.give (suc at) (w.pop_state over) (w.plain 5 start end id)))
          → ((i : ℕ) (p : w.Properties) (t : Token) → at < i → i < g.count → Each W N (w.content i over block indentless p t))
          → ((t : Token) → at < g.count → Each W N (w.content at over block indentless (w.no_properties t.start) t))
          → Each W N (w.parse_node g m at over block indentless)
      unfolding w.parse_node w.node_from w.node_properties w.anchor_first w.tag_first w.node_content
      each_node at over block indentless f a h k =
          each_look _ _ λ i. each_if _
          (λ e. each_alias _ _ _ _ λ x. a _ _ _ i)
          λ e. each_if _
          (λ e. each_register g m (l.token at) (f i) (each_look _ _ λ j. each_if _
          (λ e. each_tag g m _ _ _ λ q. each_look _ _ λ j. h (suc (suc at)) q _ (omega arith) j)
          (λ e. h (suc at) _ _ (omega arith) j)))
          λ e. each_if _
          (λ e. each_tag g m _ _ _ λ q. each_look _ _ λ j. each_if _
          (λ e. each_register g m _ (f i) (each_look _ _ λ j. h _ _ _ (omega arith) j))
          (λ e. h _ q _ (omega arith) j))
          λ e. k _ i
