-- How much the tables grow by a change. Assumes nothing.
use mathlib.Core.Path.{◌≡◌, refl}
use mathlib.Core.Bool.{Bool, true, false, cond}
use mathlib.Core.List.{List, [], ◌∷◌}
use Prim.Native.Nat.{ℕ, zero, suc, ◌+◌, ◌-◌, ◌≤◌}
use native.Mathlib.Omega.{arith}
use lib.ListN.{length}
use Rattle.records.specs.declared.tokens.Read.{Read}
use Rattle.records.specs.declared.tokens.Read.TheVariants as read
use Rattle.tables.specs.Tables.{entered}
use Rattle.tables.specs.Anchors as anchors
use Rattle.tables.specs.declared.handles.Handle.{Handle}
use Rattle.rules.specs.Rules as w
use Rattle.rules.specs.Rules.{choose◌then◌else◌, Given, Names, Tags}
use Rattle.rules.specs.Run.{Model, named, handled}
use Rattle.rules.proofs.Weights.{put, told}

-- an entry takes the place of one that it names, else one more
pub entered_size : {A : Type 0} (p : A → Bool) (x : A) (xs : List A)
    → length (entered p x xs) ≡ (choose w.hit? (w.first p xs) then length xs else suc (length xs))
unfolding entered w.first w.hit? choose◌then◌else◌
entered_size p x [] = refl
entered_size p x (y ∷ ys) = go (p y) (w.hit? (w.first p ys)) refl (entered_size p x ys) where
  go : (b c : Bool) → w.hit? (w.first p ys) ≡ c → length (entered p x ys) ≡ (choose c then length ys else suc (length ys))
      → length (cond b (x ∷ ys) (y ∷ entered p x ys)) ≡ (choose w.hit? (choose b then w.Got y else w.first p ys) then suc (length ys) else suc (suc (length ys)))
  go true c e h = refl
  go false true e h = rw (h, e)
  go false false e h = rw (h, e)

pub entered-length : {A : Type 0} (p : A → Bool) (x : A) (xs : List A) → length (entered p x xs) ≤ suc (length xs)
unfolding choose◌then◌else◌
entered-length p x xs = rw (entered_size p x xs) (go (w.hit? (w.first p xs))) where
  go : (t : Bool) → (choose t then length xs else suc (length xs)) ≤ suc (length xs)
  go true = omega arith
  go false = omega arith

read_length : (g : Given) (r : Read) (hs : List Handle) → length (w.declare_read g r hs) ≤ suc (length hs)
unfolding w.declare_read choose◌then◌else◌
read_length g (read.Refused r) hs = omega arith
read_length g (read.Token t) hs = go (w.is t w.TAG_DIRECTIVE) _ (entered-length _ _ hs) where
  go : (b : Bool) (ys : List Handle) → length ys ≤ suc (length hs) → length (choose b then ys else hs) ≤ suc (length hs)
  go true ys h = h
  go false ys h = omega arith

pub declare-length : (g : Given) (n at : ℕ) (hs : List Handle) → length (w.declare g n at hs) ≤ n + length hs
unfolding w.declare
declare-length g zero at hs = omega arith
declare-length g (suc n) at hs =
    omega (arith, declare-length g n (suc at) (w.declare_read g (g.read at) hs), read_length g (g.read at) hs)

pub named-length : (g : Given) (m : Model) (n : Names) → length (named g m n) ≤ put n + length m.anchors
unfolding named
named-length g m w.NamesKept = omega arith
named-length g m (w.NamePut r) = omega (arith, entered-length (anchors.named g.text r) (record { name = r; id = m.next }) m.anchors)
named-length g m w.NamesForgotten = omega arith

pub handled-length : (g : Given) (m : Model) (t : Tags) → length (handled g m t) ≤ told t + length m.handles
unfolding handled
handled-length g m w.TagsKept = omega arith
handled-length g m (w.TagsDeclared i j) = declare-length g (j - i) i m.handles
handled-length g m w.TagsForgotten = omega arith
