-- Rooms: a run with less room is the run that lacks nothing, or a beginning of it that ends at the first need not met. Assumes
-- nothing.
use mathlib.Core.Path.{◌≡◌, refl, sym, ap, ◌∙◌}
use mathlib.Core.Bool.{Bool, true, false}
use mathlib.Core.List.{List, [], ◌∷◌, append-nil}
use mathlib.Core.Logic.{◌↔◌}
use Prim.Native.Nat.{ℕ, zero, suc, ◌+◌, ◌*◌, ◌≤◌, ◌<◌, max}
use native.Mathlib.Omega.{arith}
use borrow.Author.Tests.{lt-ltb, le-ltb, ltb-true, ltb-false, leb-true, leb-false}
use lib.Dec.{leb}
use lib.ListN.{length}
use Rattle.records.specs.declared.events.Event.{Event}
use Rattle.rules.specs.Rules as w
use Rattle.rules.specs.Rules.{choose◌then◌else◌, Given, Place, Decision, Refused, Hit, Miss, Got, first}
use Rattle.rules.specs.Run.{Rooms, room, limit, Model, fresh, Step, Go, Halt, Stuck, settle, step, Outcome, stop, store, ended, onward, run}
use Rattle.rules.specs.Lists.{Listed}
use Rattle.rules.specs.Needs as need
use Rattle.rules.specs.Needs.{Need, Work, Store, lacks, lacked, granted, wanted, decided, free_step, later, needs, all_needs, Fits, peaks, enough, ample, Begins, Cut, same, cut, Short, Wider}
use Rattle.rules.proofs.NeverStuck.{short_range}
use Rattle.rules.proofs.Bounds.{places_suffice}

-- a decision with these rooms: each want is met, or the first that is not refuses it
data Judged (r : Rooms) (n : ℕ) (d : Decision) (after : List Need) : Type 0 where
  met : limit r d ≡ granted d → first (lacks r n) (wanted d after) ≡ first (lacks r n) after → Judged r n d after
  unmet : (x : Need) → limit r d ≡ Refused (lacked x) 0 → first (lacks r n) (wanted d after) ≡ Got x → Judged r n d after

judge : (r : Rooms) (n : ℕ) (d : Decision) (after : List Need) → Judged r n d after
unfolding limit granted wanted first lacks lacked choose◌then◌else◌
judge r n (w.Next c) after = met refl refl
judge r n (w.Refused number place) after = met refl refl
judge r n w.Unreachable after = met refl refl
judge r n (w.Wants p k d) after = go (leb k (room r p)) refl (judge r n d after) where
  go : (t : Bool) → leb k (room r p) ≡ t → Judged r n d after → Judged r n (w.Wants p k d) after
  go false e j = unmet (Work p k) (rw e) (rw (lt-ltb (room r p) k (leb-false k (room r p) e)))
  go true e (met l q) = met (rw e l) (rw (le-ltb (room r p) k (leb-true k (room r p) e)) q)
  go true e (unmet x l q) = unmet x (rw e l) (rw (le-ltb (room r p) k (leb-true k (room r p) e)) q)

-- the run that lacks no place in the work memory
unfoldable free_run : Given → ℕ → Model → Outcome
free_run g zero m = onward m (free_step g m) λ e m'. stop m 22 0
free_run g (suc n) m = onward m (free_step g m) λ e m'. store e (choose ended m'.state then stop m' 0 0 else free_run g n m')

cut_stop : (m : Model) (x : Need) (whole : Outcome) → Cut (stop m (lacked x) 0) whole (Got x)
unfolding stop
cut_stop m x whole = cut x refl refl (record { rest = _; joined = refl })

cut_store : (e : Event) {o whole : Outcome} {h : Hit Need} → Cut o whole h → Cut (store e o) (store e whole) h
unfolding store
cut_store e (same q) = same (ap (store e) q)
cut_store e (cut x q p b) = cut x q p (record { rest = b.rest; joined = ap (λ l. e ∷ l) b.joined })

module _ (g : Given) where
  -- what the whole run gives in one step and the rest
  whole_22 : (m m' : Model) (ev : Event) → free_step g m ≡ Go ev m' → (free_run g zero m).number ≡ 22
  unfolding free_run onward stop
  whole_22 m m' ev s = rw s

  whole_on : (N : ℕ) (m m' : Model) (ev : Event) → free_step g m ≡ Go ev m' → ended m'.state ≡ false
      → (free_run g (suc N) m).number ≡ (free_run g N m').number
  unfolding free_run onward store choose◌then◌else◌
  whole_on N m m' ev s f = rw (s, f)

module _ (r : Rooms) (g : Given) (lim : ℕ) where
  -- one step, and then what its event is stored to or not
  cut_onward : (m : Model) (k k' : Event → Model → Outcome) (after : Model → List Need)
      → ((e : Event) (m' : Model) → free_step g m ≡ Go e m' → Cut (k e m') (k' e m') (first (lacks r lim) (after m')))
      → Cut (onward m (step r g m) k) (onward m (free_step g m) k') (first (lacks r lim) (wanted (decided g m) (later (free_step g m) after)))
  unfolding step settle onward later first free_step decided
  cut_onward m k k' after h = judged (judge r lim (decided g m) (later (free_step g m) after)) where
    go : (s : Step) → free_step g m ≡ s → Cut (onward m s k) (onward m s k') (first (lacks r lim) (later s after))
    go (Go e m') q = h e m' q
    go (Halt number place) q = same refl
    go Stuck q = same refl

    judged : Judged r lim (decided g m) (later (free_step g m) after)
        → Cut (onward m (step r g m) k) (onward m (free_step g m) k') (first (lacks r lim) (wanted (decided g m) (later (free_step g m) after)))
    judged (unmet x l q) = rw (l, q) (cut_stop m x _)
    judged (met l q) = rw (l, q) (go (free_step g m) refl)

  -- there is no place for the event, or there is one
  no_store : (e : ℕ) (after : List Need) → lim ≡ e → first (lacks r lim) (Store (suc e) ∷ after) ≡ Got (Store (suc e))
  unfolding first lacks choose◌then◌else◌
  no_store e after q = rw (lt-ltb lim (suc e) (omega arith))

  stored : (e : ℕ) (after : List Need) → e < lim → first (lacks r lim) (Store (suc e) ∷ after) ≡ first (lacks r lim) after
  unfolding first lacks choose◌then◌else◌
  stored e after q = rw (le-ltb lim (suc e) q)

  cut_full : (m : Model) (e : ℕ) (after : List Need) (whole : Outcome) → lim ≡ e
      → Cut (stop m 22 0) whole (first (lacks r lim) (Store (suc e) ∷ after))
  unfolding lacked
  cut_full m e after whole q = rw (no_store e after q) (cut_stop m (Store (suc e)) whole)

  cut_rest : (n N e : ℕ) (m : Model) (t : Bool)
      → (t ≡ false → Cut (run r g n m) (free_run g N m) (first (lacks r lim) (needs g N (suc e) m)))
      → Cut (choose t then stop m 0 0 else run r g n m) (choose t then stop m 0 0 else free_run g N m) (first (lacks r lim) (choose t then [] else needs g N (suc e) m))
  unfolding choose◌then◌else◌ first
  cut_rest n N e m true h = same refl
  cut_rest n N e m false h = h refl

  cut_run : (n N e : ℕ) (m : Model) → n + e ≡ lim → ((free_run g N m).number ≡ 22 → n ≤ N)
      → Cut (run r g n m) (free_run g N m) (first (lacks r lim) (needs g N e m))
  unfolding run free_run needs
  cut_run zero zero e m q i = cut_onward m _ _ _ λ ev m' s. cut_full m e _ _ (omega arith)
  cut_run zero (suc N) e m q i = cut_onward m _ _ _ λ ev m' s. cut_full m e _ _ (omega arith)
  cut_run (suc n) zero e m q i = cut_onward m _ _ _ λ ev m' s. absurd (omega (arith, i (whole_22 g m m' ev s)))
  cut_run (suc n) (suc N) e m q i = cut_onward m _ _ _ λ ev m' s.
      rw (stored e (choose ended m'.state then [] else needs g N (suc e) m') (omega arith))
      (cut_store ev (cut_rest n N e m' (ended m'.state) λ f.
      cut_run n N (suc e) m' (omega arith) (λ p. omega (arith, i (whole_on g N m m' ev s f ∙ p)))))

pub lacked-short : (x : Need) → Short (lacked x)
unfolding lacked
lacked-short (Work p k) = omega (arith, short_range p)
lacked-short (Store k) = omega arith

-- the first need that is not met, and the most that is needed
module _ (r : Rooms) (n : ℕ) where
  fits_on : (x : Need) (p : need.Peaks) → lacks r n x ≡ false → Fits r n p → Fits r n (need.raise x p)
  unfolding lacks need.raise room
  fits_on (Store k) p e f = omega (arith, ltb-false n k e)
  fits_on (Work w.OpenPlace k) p e f = omega (arith, ltb-false r.opens k e)
  fits_on (Work w.AnchorPlace k) p e f = omega (arith, ltb-false r.anchors k e)
  fits_on (Work w.HandlePlace k) p e f = omega (arith, ltb-false r.handles k e)

  fits_rest : (x : Need) (p : need.Peaks) → Fits r n (need.raise x p) → Fits r n p
  unfolding need.raise
  fits_rest (Store k) p f = omega arith
  fits_rest (Work w.OpenPlace k) p f = omega arith
  fits_rest (Work w.AnchorPlace k) p f = omega arith
  fits_rest (Work w.HandlePlace k) p f = omega arith

  fits_not : (x : Need) (p : need.Peaks) → lacks r n x ≡ true → Fits r n (need.raise x p) → ⊥
  unfolding lacks need.raise room
  fits_not (Store k) p e f = omega (arith, ltb-true n k e)
  fits_not (Work w.OpenPlace k) p e f = omega (arith, ltb-true r.opens k e)
  fits_not (Work w.AnchorPlace k) p e f = omega (arith, ltb-true r.anchors k e)
  fits_not (Work w.HandlePlace k) p e f = omega (arith, ltb-true r.handles k e)

  data Sought (xs : List Need) : Type 0 where
    fit : first (lacks r n) xs ≡ Miss → Fits r n (peaks xs) → Sought xs
    over : (x : Need) → first (lacks r n) xs ≡ Got x → (Fits r n (peaks xs) → ⊥) → Sought xs

  seek : (xs : List Need) → Sought xs
  unfolding first choose◌then◌else◌ peaks
  seek [] = fit refl (omega arith)
  seek (x ∷ xs) = go (lacks r n x) refl (seek xs) where
    go : (t : Bool) → lacks r n x ≡ t → Sought xs → Sought (x ∷ xs)
    go true e s = over x (rw e) (fits_not x (peaks xs) e)
    go false e (fit q f) = fit (rw e q) (fits_on x (peaks xs) e f)
    go false e (over y q f) = over y (rw e q) (λ h. f (fits_rest x (peaks xs) h))

-- a run fits and is whole, or it does not and is short
data Verdict (o whole : Outcome) (F : Type 0) : Type 0 where
  fits : F → o ≡ whole → Verdict o whole F
  exceeds : (F → ⊥) → Short o.number → Verdict o whole F

verdict : {o whole : Outcome} (r : Rooms) (n : ℕ) (xs : List Need) → Cut o whole (first (lacks r n) xs)
    → Verdict o whole (Fits r n (peaks xs))
verdict {o} {whole} r n xs c = go (seek r n xs) where
  missed : Cut o whole Miss → o ≡ whole
  missed (same q) = q

  got : {x : Need} → Cut o whole (Got x) → Short o.number
  got (cut x q p b) = rw q (lacked-short x)

  go : Sought r n xs → Verdict o whole (Fits r n (peaks xs))
  go (fit e f) = fits f (missed (rw e at c))
  go (over x e f) = exceeds f (got (rw e at c))

begins : {o whole : Outcome} {h : Hit Need} → Cut o whole h → Begins o.events whole.events
begins {o} (same q) = record { rest = []; joined = append-nil o.events ∙ ap (λ (x : Outcome). x.events) q }
begins (cut x q p b) = b

-- the most events that are needed are those of the run, unless they were too many
wanted_events : (d : Decision) (xs : List Need) → (peaks (wanted d xs)).events ≡ (peaks xs).events
unfolding wanted peaks need.raise
wanted_events (w.Next c) xs = refl
wanted_events (w.Refused number place) xs = refl
wanted_events w.Unreachable xs = refl
wanted_events (w.Wants w.OpenPlace n d) xs = wanted_events d xs
wanted_events (w.Wants w.AnchorPlace n d) xs = wanted_events d xs
wanted_events (w.Wants w.HandlePlace n d) xs = wanted_events d xs

module _ (g : Given) where
  events_later : (e : ℕ) (m : Model) (x : Step) (k : Event → Model → Outcome) (f : Model → List Need)
      → ((ev : Event) (m' : Model) → x ≡ Go ev m' → max e (peaks (f m')).events ≡ e + length (k ev m').events)
      → max e (peaks (later x f)).events ≡ e + length (onward m x k).events
  unfolding later onward stop peaks
  events_later e m (Go ev m') k f h = h ev m' refl
  events_later e m (Halt number place) k f h = omega arith
  events_later e m Stuck k f h = omega arith

  events_peak : (N e : ℕ) (m : Model) → ((free_run g N m).number ≡ 22 → ⊥)
      → max e (peaks (needs g N e m)).events ≡ e + length (free_run g N m).events
  unfolding needs free_run peaks need.raise store stop choose◌then◌else◌
  events_peak zero e m i = rw (wanted_events (decided g m)) (events_later e m (free_step g m) _ _ λ ev m' q. absurd (i (whole_22 g m m' ev q)))
  events_peak (suc N) e m i = rw (wanted_events (decided g m)) (events_later e m (free_step g m) _ _ λ ev m' q.
      go m' ev (ended m'.state) refl (λ f. events_peak N (suc e) m' (λ p. i (whole_on g N m m' ev q f ∙ p))))
    where
      go : (m' : Model) (ev : Event) (t : Bool) → ended m'.state ≡ t
          → (ended m'.state ≡ false → max (suc e) (peaks (needs g N (suc e) m')).events ≡ suc e + length (free_run g N m').events)
          → max e (peaks (Store (suc e) ∷ (choose t then [] else needs g N (suc e) m'))).events ≡ e + length (store ev (choose t then stop m' 0 0 else free_run g N m')).events
      go m' ev true q h = omega arith
      go m' ev false q h = omega (arith, h q)

-- the theorems: the run of a list with any rooms, beside the one with room enough
module _ {g : Given} (l : Listed g) where
  ample_plain : (ample g).number ≤ 14
  unfolding ample room enough
  ample_plain = places_suffice (enough g) l (3 * g.count) (omega arith) every where
    every : (p : Place) → g.count ≤ room (enough g) p
    every w.OpenPlace = omega arith
    every w.AnchorPlace = omega arith
    every w.HandlePlace = omega arith

  ample_fits : (Fits (enough g) (3 * g.count) (peaks (all_needs g))) × (ample g ≡ free_run g (3 * g.count) fresh)
  unfolding ample all_needs
  ample_fits = go (verdict (enough g) T _ (cut_run (enough g) g T T T 0 fresh (omega arith) (λ q. omega arith))) where
    T : ℕ
    T = 3 * g.count

    go : {whole : Outcome} {F : Type 0} → Verdict (ample g) whole F → F × (ample g ≡ whole)
    go (fits f q) = (f, q)
    go (exceeds f s) = absurd (omega (arith, ample_plain))

  -- a list of T tokens needs at most 3T events and T places of each kind
  pub needs_bounded : Fits (enough g) (3 * g.count) (peaks (all_needs g))
  needs_bounded = ample_fits.0

  number_free : (free_run g (3 * g.count) fresh).number ≤ 14
  number_free = rw ample_fits.1 at ample_plain

  -- the events that a list needs are those that it has
  pub events_needed : (peaks (all_needs g)).events ≡ length (ample g).events
  unfolding all_needs
  events_needed = rw ample_fits.1 (omega (arith, events_peak g (3 * g.count) 0 fresh (λ q. omega (arith, number_free))))

  module _ (r : Rooms) (n : ℕ) where
    -- the number is that of the first act whose need is not met
    pub by_order : Cut (run r g n fresh) (ample g) (first (lacks r n) (all_needs g))
    unfolding all_needs
    by_order = rw ample_fits.1 (cut_run r g n n (3 * g.count) 0 fresh (omega arith) (λ q. absurd (omega (arith, number_free))))

    pub beginning : Begins (run r g n fresh).events (ample g).events
    beginning = begins by_order

    pub fitting : Fits r n (peaks (all_needs g)) → run r g n fresh ≡ ample g
    fitting f = go (verdict r n (all_needs g) by_order) where
      go : Verdict (run r g n fresh) (ample g) (Fits r n (peaks (all_needs g))) → run r g n fresh ≡ ample g
      go (fits h q) = q
      go (exceeds h s) = absurd (h f)

    pub exactly : Short (run r g n fresh).number ↔ (Fits r n (peaks (all_needs g)) → ⊥)
    exactly = (forth, back (verdict r n (all_needs g) by_order)) where
      forth : Short (run r g n fresh).number → Fits r n (peaks (all_needs g)) → ⊥
      forth s f = omega (arith, ample_plain, ap (λ (o : Outcome). o.number) (fitting f))

      back : Verdict (run r g n fresh) (ample g) (Fits r n (peaks (all_needs g))) → (Fits r n (peaks (all_needs g)) → ⊥)
          → Short (run r g n fresh).number
      back (fits h q) f = absurd (f h)
      back (exceeds h s) f = s

-- more room changes no answer but 22 to 25, for any list
pub more_room : (r r' : Rooms) (g : Given) (n n' : ℕ) → Wider r r' → n ≤ n' → (Short (run r g n fresh).number → ⊥)
    → run r' g n' fresh ≡ run r g n fresh
more_room r r' g n n' h i s = go
    (verdict r n (needs g n' 0 fresh) (cut_run r g n n n' 0 fresh (omega arith) (λ q. i)))
    (verdict r' n' (needs g n' 0 fresh) (cut_run r' g n' n' n' 0 fresh (omega arith) (λ q. omega arith)))
  where
    go : {whole : Outcome} {p : need.Peaks} → Verdict (run r g n fresh) whole (Fits r n p)
        → Verdict (run r' g n' fresh) whole (Fits r' n' p)
        → run r' g n' fresh ≡ run r g n fresh
    go (exceeds f e) v = absurd (s e)
    go (fits f q) (fits f' q') = q' ∙ sym q
    go (fits f q) (exceeds f' e) = absurd (f' (omega arith))
