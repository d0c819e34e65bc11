-- What each part of applying a step leaves, where there are places enough. Assumes nothing.
use mathlib.Core.Path.{◌≡◌, refl, sym, ap, ◌∙◌}
use mathlib.Core.Bool.{Bool, true, false, cond}
use mathlib.Core.List.{List, [], ◌∷◌}
use Prim.Native.Nat.{ℕ, zero, suc, ◌+◌, ◌-◌, ◌/◌, ◌≤◌, ◌<◌}
use native.Mathlib.Omega.{arith}
use borrow.Author.Tests.{lt-ltb, ltb-true, ltb-false, eq-eqb, ne_eqb}
use lib.ListN.{length}
use Rattle.places.specs.Words.{encode, le}
use Rattle.places.specs.Places.{Put, has_place, places, stored}
use Rattle.places.proofs.UnusedLaws.{unused_put, unused_last}
use Rattle.records.specs.Tokens.{token_size, read_at}
use Rattle.records.specs.declared.tokens.Token.{Token}
use Rattle.records.specs.declared.tokens.Refusal.{Refusal}
use Rattle.records.specs.declared.tokens.Read.{Read}
use Rattle.records.specs.declared.tokens.Read.TheVariants as read
use Rattle.tables.specs.Tables.{stack, entered}
use Rattle.tables.specs.States.{state_size, state_at, numbers_of, top, lowered, Pop}
use Rattle.tables.specs.Anchors as a
use Rattle.tables.specs.Handles as h
use Rattle.tables.specs.Lookup.{find, place_for, used_after, Enter, leftmost}
use Rattle.tables.specs.declared.states.OpenState.{OpenState}
use Rattle.tables.specs.declared.states.Popped.TheVariants as popped
use Rattle.tables.specs.declared.anchors.Anchor.{Anchor}
use Rattle.tables.specs.declared.handles.Handle.{Handle}
use Rattle.tables.specs.declared.lookup.Found.TheVariants as found
use Rattle.tables.specs.declared.lookup.Entered.TheVariants as entered
use Rattle.tables.proofs.TableLaws as t
use Rattle.tables.proofs.LookupLaws.{Seat, own, next, seat, unused_entered}
use Rattle.tables.proofs.StateLaws as st
use Rattle.tables.proofs.AnchorLaws as al
use Rattle.tables.proofs.HandleLaws as hl
use Rattle.tables.specs.Anchors.{anchor_size}
use Rattle.tables.specs.Handles.{handle_size}
use Rattle.rules.specs.Rules.{declare, declare_read}
use Rattle.rules.specs.Rules.Words.{choose◌then◌else◌, Given, is}
use Rattle.rules.specs.Lists.{in_bytes}
use Rattle.rules.specs.States.{numbers, back}
use Rattle.rules.specs.declared.State.{State}
use Rattle.rules.proofs.StateLaws.{back-numbers}
use Rattle.rules.proofs.Granted.{declare_more}
use Rattle.run.specs.Apply as apply
use Rattle.run.specs.Apply.{opens_of, stands, stood, depth_of, Pushed, Popping, NamePut, Entering, Declaring}
use Rattle.run.specs.declared.apply.Opened.TheVariants as opened

has_place_lem : (b : List ℕ) (size at : ℕ) → at < places b size → has_place b size at ≡ true
unfolding has_place
has_place_lem b size at l = lt-ltb at (length b / size) l

pub no_place : (b : List ℕ) (size at : ℕ) → has_place b size at ≡ false → places b size ≤ at
unfolding has_place
no_place b size at e = ltb-false at (length b / size) e

pub is_place : (b : List ℕ) (size at : ℕ) → has_place b size at ≡ true → at < places b size
unfolding has_place
is_place b size at e = ltb-true at (length b / size) e

pub length_opens : (b : List ℕ) (n : ℕ) → length (opens_of b n) ≡ n
unfolding opens_of
length_opens b n = t.length_stack (λ i. back (state_at b i)) (λ i. back (state_at b i)) n

pub length_anchors : (b : List ℕ) (n : ℕ) → length (a.anchors_of b n) ≡ n
unfolding a.anchors_of
length_anchors b n = t.length_table (a.anchor_at b) (a.anchor_at b) 0 n

pub length_handles : (b : List ℕ) (n : ℕ) → length (h.handles_of b n) ≡ n
unfolding h.handles_of
length_handles b n = t.length_table (h.handle_at b) (h.handle_at b) 0 n

clash : true ≡ false → ⊥
clash e = let z : ◌≡◌ {A = ℕ} 0 1 = cc in omega arith

-- a push
module _ (b : List ℕ) (n : ℕ) (p : State) (s : OpenState) (e : s ≡ numbers p) (r : Bool) (after : List ℕ) (put : Put b n (numbers_of s) r after) where
  pub pushed : r ≡ true → Pushed b n p (n + 1) after
  unfolding opens_of numbers_of
  pushed q = record {
    stack = λ l. t.stack_push (λ i. back (state_at b i)) (λ i. back (state_at after i)) n p same other;
    unused = unused_put put (omega arith) (λ _. omega arith);
  } where
    same : back (state_at after n) ≡ p
    same = rw (put.bytes, st.state_same b n s (sym put.room ∙ q), e, back-numbers p)

    other : (j : ℕ) → (j ≡ n → ⊥) → back (state_at after j) ≡ back (state_at b j)
    other j d = rw (put.bytes, st.state_other b n s j d)

  pub not_pushed : r ≡ false → Pushed b n p n after
  unfolding numbers_of
  not_pushed q = record {
    stack = λ l. absurd (omega (arith, no_place b state_size n (sym put.room ∙ q)));
    unused = unused_put put (omega arith) (λ e. absurd (clash (sym e ∙ q)));
  }

-- a pop
module _ (b : List ℕ) where
  opens_lowered : (n : ℕ) → opens_of (lowered b (suc n)) n ≡ opens_of b n
  unfolding opens_of lowered numbers_of
  opens_lowered n =
      t.stack_kept (λ i. back (state_at b i)) (λ i. back (state_at (stored b n (0 ∷ 0 ∷ [])) i)) n
      (λ j q. ap back (st.state_other b n (record { rank = 0; position = 0 }) j (λ e. omega arith)))

  top_some : (n : ℕ) (p : OpenState) → popped.State p ≡ top b n → (0 < n) × (p ≡ state_at b (n - 1))
  unfolding top
  top_some zero p e = let z : ◌≡◌ {A = ℕ} 0 1 = cc in absurd (omega arith)
  top_some (suc n) p e = go (has_place b state_size n) e where
    go : (r : Bool) → popped.State p ≡ cond r (popped.State (state_at b n)) popped.Nothing → (0 < suc n) × (p ≡ state_at b (suc n - 1))
    go true q = let i : p ≡ state_at b n = cc in let k : suc n - 1 ≡ n = omega arith in (omega arith, rw k i)
    go false q = let z : ◌≡◌ {A = ℕ} 0 1 = cc in absurd (omega arith)

  top_none : (n : ℕ) → popped.Nothing ≡ top b (suc n) → places b state_size ≤ n
  unfolding top
  top_none n e = go (has_place b state_size n) refl e where
    go : (r : Bool) → has_place b state_size n ≡ r → popped.Nothing ≡ cond r (popped.State (state_at b n)) popped.Nothing → places b state_size ≤ n
    go true q e = let z : ◌≡◌ {A = ℕ} 0 1 = cc in absurd (omega arith)
    go false q e = no_place b state_size n q

  pub some_open : (n : ℕ) (p : OpenState) (after : List ℕ) → Pop b n (popped.State p) after → 0 < n
  some_open n p after h = (top_some n p h.state).0

  pub pops : (n : ℕ) (p : OpenState) (after : List ℕ) → Pop b n (popped.State p) after → Popping b n (stands (back p) (n - 1)) after
  unfolding stands stood opens_of stack apply.popped depth_of lowered encode le
  pops zero p after h = let l = some_open zero p after h in absurd (omega arith)
  pops (suc n) p after h =
      let k : suc n - 1 ≡ n = omega arith in
      record {
        stack = λ l. rw (h.bytes, (top_some (suc n) p h.state).1, k, opens_lowered n);
        unused = λ l u. rw (h.bytes, k) (unused_last (0 ∷ 0 ∷ []) (has_place_lem b state_size n l) refl u);
      }

  pub pops_none : (n : ℕ) (after : List ℕ) → Pop b n popped.Nothing after → Popping b n opened.Nothing after
  unfolding stood opens_of stack apply.popped depth_of lowered
  pops_none zero after h = record { stack = λ l. refl; unused = λ l u. rw h.bytes u }
  pops_none (suc n) after h =
      let k = top_none n h.state in record { stack = λ l. absurd (omega arith); unused = λ l. absurd (omega arith) }

module _ {A : Type 0} (p : A → Bool) (x : A) where
  -- the place that a name is entered in is one of those in use afterwards
  seat_below : (at n : ℕ) (xs : List A) → n ≡ at + length xs → place_for (leftmost p at xs) n < at + length (entered p x xs)
  unfolding leftmost place_for entered
  seat_below at n [] e = omega arith
  seat_below at n (y ∷ ys) e = go (p y) (seat_below (suc at) n ys (omega arith)) where
    go : (r : Bool) → place_for (leftmost p (suc at) ys) n < suc at + length (entered p x ys)
        → place_for (cond r (found.At at) (leftmost p (suc at) ys)) n < at + length (cond r (x ∷ ys) (y ∷ entered p x ys))
    go true ih = omega arith
    go false ih = omega arith

-- an anchor put where the search says
module _ (b : List ℕ) (n i : ℕ) (x : Anchor) (r : Bool) (after : List ℕ) (put : Put b i (a.numbers_of x) r after) where
  module _ (text : List ℕ) (e : i ≡ place_for (find text b anchor_size n x.name) n)
      (room : length (entered (a.named text x.name) x (a.anchors_of b n)) ≤ places b anchor_size) where
    there : has_place b anchor_size i ≡ true
    there = has_place_lem b anchor_size i
        (omega (arith, seat_below (a.named text x.name) x 0 n (a.anchors_of b n) (omega (arith, length_anchors b n)), rw (al.looked text b n x.name) at e))

    named_by : (k : ℕ) → k ≡ used_after (find text b anchor_size n x.name) n → a.anchors_of after k ≡ entered (a.named text x.name) x (a.anchors_of b n)
    unfolding a.numbers_of
    named_by k q = al.enter b x text n k after (record { used = rw (← e, there, q); bytes = rw (← e) put.bytes })

  pub named_next : i ≡ n → NamePut b n i x (n + 1) after
  unfolding a.numbers_of
  named_next q = record {
    table = λ text e room. go text e room (seat text b anchor_size x.name n);
    unused = λ l. unused_put put (omega arith) (λ _. omega arith);
  } where
    go : (text : List ℕ) (e : i ≡ place_for (find text b anchor_size n x.name) n)
        (room : length (entered (a.named text x.name) x (a.anchors_of b n)) ≤ places b anchor_size) → Seat n (find text b anchor_size n x.name)
        → a.anchors_of after (n + 1) ≡ entered (a.named text x.name) x (a.anchors_of b n)
    go text e room (own l u) = absurd (omega arith)
    go text e room (next l u) = named_by text e room (n + 1) (sym u)

  pub named_own : (i ≡ n → ⊥) → NamePut b n i x n after
  unfolding a.numbers_of
  named_own q = record {
    table = λ text e room. go text e room (seat text b anchor_size x.name n);
    unused = λ l. unused_put put (omega arith) (λ _. omega (arith, q));
  } where
    go : (text : List ℕ) (e : i ≡ place_for (find text b anchor_size n x.name) n)
        (room : length (entered (a.named text x.name) x (a.anchors_of b n)) ≤ places b anchor_size) → Seat n (find text b anchor_size n x.name)
        → a.anchors_of after n ≡ entered (a.named text x.name) x (a.anchors_of b n)
    go text e room (own l u) = named_by text e room n (sym u)
    go text e room (next l u) = absurd (q (e ∙ l))

  pub not_named : r ≡ false → NamePut b n i x n after
  unfolding a.numbers_of
  not_named q = record {
    table = λ text e room. absurd (clash (sym (there text e room) ∙ sym put.room ∙ q));
    unused = λ l. unused_put put (omega arith) (λ e. absurd (clash (sym e ∙ q)));
  }

-- a handle entered
module _ (text b : List ℕ) (n : ℕ) (x : Handle) (after : List ℕ) where
  pub entered_used : (m : ℕ) → Enter text b n x.name (h.numbers_of x) (entered.Used m) after → Entering text b n x m after
  unfolding h.numbers_of
  entered_used m q = record { table = λ room. hl.enter b x text n m after q; unused = unused_entered q }

  full : (r : Bool) (k : ℕ) → entered.Full ≡ cond r (entered.Used k) entered.Full → r ≡ false
  full true k e = let z : ◌≡◌ {A = ℕ} 0 1 = cc in absurd (omega arith)
  full false k e = refl

  pub entered_full : Enter text b n x.name (h.numbers_of x) entered.Full after → Entering text b n x n after
  unfolding h.numbers_of
  entered_full q = record {
    table = λ room.
        let f = find text b handle_size n x.name in
        let none = no_place b handle_size (place_for f n) (full (has_place b handle_size (place_for f n)) (used_after f n) q.used) in
        let here = seat_below (h.named text x.name) x 0 n (h.handles_of b n) (omega (arith, length_handles b n)) in
        absurd (omega (arith, rw (hl.looked text b n x.name) at none, here));
    unused = unused_entered q;
  }

-- the handle of one token
module _ (tokens text b : List ℕ) (n at : ℕ) where
  declared_one : (g : Given) (hs : List Handle) → declare g 1 at hs ≡ declare_read g (g.read at) hs
  unfolding declare
  declared_one g hs = refl

  pub declared_refused : (e : Refusal) → read_at tokens (length text) at ≡ read.Refused e → Declaring tokens text b n at 1 n b
  unfolding declare_read in_bytes
  declared_refused e q = record {
    table = λ keep forget room.
        rw (declared_one (in_bytes tokens (places tokens token_size) text keep forget) (h.handles_of b n), q);
    unused = λ u. u;
  }

  pub declared_other : (x : Token) → read_at tokens (length text) at ≡ read.Token x → (x.kind ≡ 4 → ⊥) → Declaring tokens text b n at 1 n b
  unfolding declare_read in_bytes is choose◌then◌else◌
  declared_other x q d = record {
    table = λ keep forget room.
        rw (declared_one (in_bytes tokens (places tokens token_size) text keep forget) (h.handles_of b n), q, ne_eqb x.kind 4 d);
    unused = λ u. u;
  }

  pub declared_tag : (x : Token) (r : ℕ) (after : List ℕ) → read_at tokens (length text) at ≡ read.Token x → x.kind ≡ 4
      → Entering text b n (record { name = x.a; prefix = x.b }) r after → Declaring tokens text b n at 1 r after
  unfolding declare_read in_bytes is choose◌then◌else◌
  declared_tag x r after q d k = record {
    table = λ keep forget.
        rw (declared_one (in_bytes tokens (places tokens token_size) text keep forget) (h.handles_of b n), q, eq-eqb x.kind 4 d) k.table;
    unused = k.unused;
  }

-- one token more
module _ (tokens text b : List ℕ) (n from : ℕ) where
  pub declared_start : Declaring tokens text b n from 0 n b
  unfolding declare
  declared_start = record { table = λ keep forget room. refl; unused = λ u. u }

  entered_grows : {A : Type 0} (p : A → Bool) (x : A) (xs : List A) → length xs ≤ length (entered p x xs)
  unfolding entered
  entered_grows p x [] = omega arith
  entered_grows p x (y ∷ ys) = go (p y) (entered_grows p x ys) where
    go : (r : Bool) → length ys ≤ length (entered p x ys) → suc (length ys) ≤ length (cond r (x ∷ ys) (y ∷ entered p x ys))
    go true i = omega arith
    go false i = omega arith

  read_grows : (g : Given) (x : Read) (hs : List Handle) → length hs ≤ length (declare_read g x hs)
  unfolding declare_read choose◌then◌else◌
  read_grows g (read.Refused e) hs = omega arith
  read_grows g (read.Token x) hs = go (is x 4) where
    ys : List Handle
    ys = entered (h.named g.text x.a) (record { name = x.a; prefix = x.b }) hs

    go : (r : Bool) → length hs ≤ length (choose r then ys else hs)
    go true = entered_grows (h.named g.text x.a) (record { name = x.a; prefix = x.b }) hs
    go false = omega arith

  pub declared_more : (k used at : ℕ) (mid : List ℕ) (r : ℕ) (after : List ℕ) → at ≡ from + k → length mid ≡ length b
      → Declaring tokens text b n from k used mid → Declaring tokens text mid used at 1 r after
      → Declaring tokens text b n from (suc k) r after
  declared_more k used at mid r after e l d o = record {
    table = λ keep forget room. go (in_bytes tokens (places tokens token_size) text keep forget) (d.table keep forget) (o.table keep forget) room;
    unused = λ u. o.unused (d.unused u);
  } where
    go : (g : Given)
        → (length (declare g k from (h.handles_of b n)) ≤ places b handle_size → h.handles_of mid used ≡ declare g k from (h.handles_of b n))
        → (length (declare g 1 at (h.handles_of mid used)) ≤ places mid handle_size → h.handles_of after r ≡ declare g 1 at (h.handles_of mid used))
        → length (declare g (suc k) from (h.handles_of b n)) ≤ places b handle_size
        → h.handles_of after r ≡ declare g (suc k) from (h.handles_of b n)
    go g first second room =
        let more = declare_more g k from (h.handles_of b n) in
        let grows = read_grows g (g.read (from + k)) (declare g k from (h.handles_of b n)) in
        let q : h.handles_of mid used ≡ declare g k from (h.handles_of b n) = first (omega (arith, rw more at room, grows)) in
        let whole : declare g 1 at (h.handles_of mid used) ≡ declare g (suc k) from (h.handles_of b n) =
        rw (q, declared_one tokens text b n at g (declare g k from (h.handles_of b n)), e, more) in
        second (rw (whole, l) room) ∙ whole
