-- A step that the code decided and applied is the step of the rules, on what the bytes say. Assumes nothing.
use Prim.{Unit, tt}
use mathlib.Core.Path.{◌≡◌, refl, sym, subst, ◌∙◌}
use mathlib.Core.List.{List, [], ◌∷◌}
use Prim.Native.Nat.{ℕ, ◌≤◌}
use native.Mathlib.Omega.{arith}
use lib.ListN.{length}
use Rattle.places.specs.Places.{places, Unused}
use Rattle.records.specs.declared.events.Event.{Event}
use Rattle.records.specs.declared.tokens.Refusal.{Refusal}
use Rattle.tables.specs.Anchors.{anchor_size, anchors_of}
use Rattle.tables.specs.Handles.{handle_size, handles_of}
use Rattle.tables.proofs.LookupLaws.{seated}
use Rattle.tables.specs.States.{state_size}
use Rattle.rules.specs.Rules.{state_machine}
use Rattle.rules.specs.Rules.Words as r
use Rattle.rules.specs.Rules.Words.{Given, Decision, Change, Move}
use Rattle.rules.specs.Run as run
use Rattle.rules.specs.Run.{Model, Step, Go, Halt, Stuck, limit, settle, step, moved, after}
use Rattle.rules.specs.Lists.{in_bytes}
use Rattle.rules.specs.declared.State.{State}
use Rattle.rules.proofs.Granted.{Fits, Granted, granted, opened}
use Rattle.parser.specs.Machine.{Lent, lent, given, small, rooms}
use Rattle.parser.specs.Answers.{goes, next, refusing, state_after, open_after, names_after, handles_after, answer, decided}
use Rattle.parser.specs.declared.Machine.{Machine}
use Rattle.parser.specs.declared.Terms.{Terms}
use Rattle.parser.specs.declared.Stepped.{Stepped}
use Rattle.parser.specs.declared.Step.TheVariants as st
use Rattle.run.specs.Apply as apply
use Rattle.run.specs.Apply.{opens_of, Stood, Over, Empty, stood, depth_of, popped, opening, deep, Naming, NamePut, Handling, advanced, Applying}
use Rattle.run.specs.Turns.{model_of, given_of, Tidy}
use Rattle.run.specs.declared.apply.Opened.{Opened}
use Rattle.run.specs.declared.apply.Opened.TheVariants as opened
use Rattle.run.specs.declared.apply.Applied.{Applied}
use Rattle.run.specs.declared.apply.Applied.TheVariants as applied
use Rattle.run.proofs.ApplyLaws.{length_opens, length_anchors, length_handles}

-- what the code answers of a decision, and the rules
data Chosen (x : Lent) (m : Machine) (d : Decision) (s : Stepped) : Type 0 where
  chosen : (c : Change) → d ≡ r.Next c
      → s ≡ record { machine = goes m c.at (state_after m c.move); event = c.event; states = open_after c.move; names = names_after x m c.names; handles = handles_after c.tags }
      → Chosen x m d s

module _ (x : Lent) (m : Machine) where
  choice : (d : Decision) (s : Stepped) → answer x m d ≡ st.Next s → Chosen x m d s
  unfolding answer refusing next
  choice (r.Next c) s e = chosen c refl (cc)
  choice (r.Refused n p) s e = let z : ◌≡◌ {A = ℕ} 0 1 = cc in absurd (omega arith)
  choice r.Unreachable s e = let z : ◌≡◌ {A = ℕ} 0 1 = cc in absurd (omega arith)
  choice (r.Wants p n d) s e = let z : ◌≡◌ {A = ℕ} 0 1 = cc in absurd (omega arith)

  halts : (g : Given) (w : Model) (d : Decision) (e : Refusal) → answer x m d ≡ st.Refused e → settle g w d ≡ Halt e.number e.place
  unfolding answer refusing next settle
  halts g w (r.Next c) e q = let z : ◌≡◌ {A = ℕ} 0 1 = cc in absurd (omega arith)
  halts g w (r.Refused n p) e q = let i : n ≡ e.number = cc in let j : p ≡ e.place = cc in rw (i, j)
  halts g w r.Unreachable e q = let z : ◌≡◌ {A = ℕ} 0 1 = cc in absurd (omega arith)
  halts g w (r.Wants p n d) e q = let z : ◌≡◌ {A = ℕ} 0 1 = cc in absurd (omega arith)

  sticks : (g : Given) (w : Model) (d : Decision) → answer x m d ≡ st.Stuck → settle g w d ≡ Stuck
  unfolding answer refusing next settle
  sticks g w (r.Next c) q = let z : ◌≡◌ {A = ℕ} 0 1 = cc in absurd (omega arith)
  sticks g w (r.Refused n p) q = let z : ◌≡◌ {A = ℕ} 0 1 = cc in absurd (omega arith)
  sticks g w r.Unreachable q = refl
  sticks g w (r.Wants p n d) q = refl

-- what was applied leaves the places that are not in use zero
unfoldable pub Tidied : Applied → List ℕ → List ℕ → List ℕ → Type 0
Tidied (applied.Next m) states anchors handles = Tidy states anchors handles m
Tidied applied.Stuck states anchors handles = Unit {0}

-- what was applied, as a step of the rules
unfoldable pub stepped : Applied → Event → List ℕ → List ℕ → List ℕ → Step
stepped (applied.Next m) e states anchors handles = Go e (model_of states anchors handles m)
stepped applied.Stuck e states anchors handles = Stuck

module _ (tokens text : List ℕ) (terms : Terms) (states anchors handles : List ℕ) (m : Machine) where
  abbrev x : Lent
  x = lent tokens text anchors handles terms

  abbrev g : Given
  g = given_of tokens text terms

  abbrev w : Model
  w = model_of states anchors handles m

  abbrev d : Decision
  d = limit (rooms terms) (state_machine g (run.small w) w.state)

  small_model : small x m ≡ run.small w
  unfolding small run.small model_of lent
  small_model = rw length_opens

  decided_by : decided x m (λ g m. state_machine g m m.state) ≡ answer x m d
  unfolding decided given lent given_of in_bytes run.small
  decided_by = rw small_model

  pub step_halts : (e : Refusal) → decided x m (λ g m. state_machine g m m.state) ≡ st.Refused e → step (rooms terms) g w ≡ Halt e.number e.place
  unfolding step
  step_halts e q = halts x m g w d e (sym decided_by ∙ q)

  pub step_sticks : decided x m (λ g m. state_machine g m m.state) ≡ st.Stuck → step (rooms terms) g w ≡ Stuck
  unfolding step
  step_sticks q = sticks x m g w d (sym decided_by ∙ q)

  module _ (c : Change) (k : Granted (rooms terms) g w c) (states' anchors' handles' : List ℕ) where
    names_after_lem : (names : r.Names) (n : ℕ) → length (run.named g w names) ≤ places anchors anchor_size
        → Naming anchors m.names (names_after x m names) n anchors' → anchors_of anchors' n ≡ run.named g w names
    unfolding Naming names_after run.named lent given_of in_bytes model_of
    names_after_lem r.NamesKept n l h = h.0
    names_after_lem (r.NamePut name) n l h = h.table text refl l
    names_after_lem r.NamesForgotten n l h = h.1

    tags_after : (tags : r.Tags) (n : ℕ) → length (run.handled g w tags) ≤ places handles handle_size
        → Handling tokens text handles m.handles (handles_after tags) n handles' → handles_of handles' n ≡ run.handled g w tags
    unfolding Handling handles_after run.handled given_of model_of
    tags_after r.TagsKept n l h = h.0
    tags_after (r.TagsDeclared i j) n l h = h.table terms.keep terms.forget l
    tags_after r.TagsForgotten n l h = h.1

    names_unused : (names : r.Names) (n : ℕ) → m.names ≤ places anchors anchor_size
        → Naming anchors m.names (names_after x m names) n anchors' → Unused anchors anchor_size m.names → Unused anchors' anchor_size n
    unfolding Naming names_after lent
    names_unused r.NamesKept n l h = h.1
    names_unused (r.NamePut name) n l h = h.unused (seated text anchors anchor_size name m.names)
    names_unused r.NamesForgotten n l h = h.2 l

    tags_unused : (tags : r.Tags) (n : ℕ) → m.handles ≤ places handles handle_size
        → Handling tokens text handles m.handles (handles_after tags) n handles' → Unused handles handle_size m.handles → Unused handles' handle_size n
    unfolding Handling handles_after
    tags_unused r.TagsKept n l h = h.1
    tags_unused (r.TagsDeclared i j) n l h = h.unused
    tags_unused r.TagsForgotten n l h = h.2 l

    next_after : (names : r.Names) → apply.numbered m.next (names_after x m names) ≡ run.numbered w.next names
    unfolding apply.numbered run.numbered names_after model_of
    next_after r.NamesKept = refl
    next_after (r.NamePut name) = refl
    next_after r.NamesForgotten = refl

    unfoldable after_stood : Stood → Step
    after_stood (Over state stack) = after g w c state stack
    after_stood Empty = Stuck

    moved_stood : (mv : Move) (stack : List State) → moved g w c mv stack ≡ after_stood (opening (open_after mv) (state_after m mv) stack)
    unfolding moved after_stood opening open_after state_after popped
    moved_stood (r.Stay state) stack = refl
    moved_stood (r.Push p state) stack = refl
    moved_stood r.Pop [] = refl
    moved_stood r.Pop (p ∷ stack) = refl

    deep_opened : (mv : Move) (n : ℕ) → deep (open_after mv) n ≡ opened mv n
    unfolding deep open_after
    deep_opened (r.Stay state) n = refl
    deep_opened (r.Push p state) n = refl
    deep_opened r.Pop n = refl

    stepped_stood : (o : Opened) (names used : ℕ) → anchors_of anchors' names ≡ run.named g w c.names → handles_of handles' used ≡ run.handled g w c.tags
        → stepped (advanced (goes m c.at (state_after m c.move)) o names used (apply.numbered m.next (names_after x m c.names))) c.event states' anchors' handles'
        ≡ after_stood (stood states' o)
    unfolding stepped advanced after_stood stood after goes model_of
    stepped_stood (opened.At s) names used p q = rw (p, q, next_after c.names)
    stepped_stood opened.Nothing names used p q = refl

    tidied_stood : (z : Machine) (o : Opened) (names used next : ℕ) → Unused states' state_size (depth_of o) → Unused anchors' anchor_size names → Unused handles' handle_size used
        → Tidied (advanced z o names used next) states' anchors' handles'
    unfolding Tidied advanced depth_of
    tidied_stood z (opened.At s) names used next us ua uh = record { states = us; anchors = ua; handles = uh }
    tidied_stood z opened.Nothing names used next us ua uh = tt

  -- a step that was taken
  module _ (f : Fits (rooms terms) w) (s : Stepped) (q : decided x m (λ g m. state_machine g m m.state) ≡ st.Next s) where
    pub taken_next : s.machine.next ≡ m.next
    unfolding goes
    taken_next = go (choice x m d s (sym decided_by ∙ q)) where
      go : Chosen x m d s → s.machine.next ≡ m.next
      go (chosen c i e) = rw e

    pub step_taken : (o : Applied) (states' anchors' handles' : List ℕ) → terms.states ≡ places states state_size → terms.names ≡ places anchors anchor_size → terms.handles ≡ places handles handle_size
        → Tidy states anchors handles m → Applying tokens text states anchors handles s o states' anchors' handles'
        → (step (rooms terms) g w ≡ stepped o s.event states' anchors' handles') × Tidied o states' anchors' handles'
    unfolding step settle rooms goes model_of
    step_taken o states' anchors' handles' rs ra rh u a = go (choice x m d s (sym decided_by ∙ q)) where
      go : Chosen x m d s → (step (rooms terms) g w ≡ stepped o s.event states' anchors' handles') × Tidied o states' anchors' handles'
      go (chosen c i e) =
          let k = granted (rooms terms) g w f c i in
          let a' = subst (λ s. Applying tokens text states anchors handles s o states' anchors' handles') e a in
          let n = names_after_lem c k states' anchors' handles' c.names a'.names (rw (← ra) k.anchors) a'.naming in
          let h = tags_after c k states' anchors' handles' c.tags a'.used (rw (← rh) k.handles) a'.handling in
          let room : deep (open_after c.move) m.depth ≤ places states state_size = rw (deep_opened c k states' anchors' handles' c.move m.depth, ← rs) (rw length_opens at k.deep) in
          let l = a'.opening.stack room in
          let y = stepped_stood c k states' anchors' handles' a'.opened a'.names a'.used n h in
          let z = moved_stood c k states' anchors' handles' c.move (opens_of states m.depth) in
          let un = names_unused c k states' anchors' handles' c.names a'.names (omega (arith, f.anchors, length_anchors anchors m.names)) a'.naming u.anchors in
          let uh = tags_unused c k states' anchors' handles' c.tags a'.used (omega (arith, f.handles, length_handles handles m.handles)) a'.handling u.handles in
          (rw (i, e, a'.result) (z ∙ sym (y ∙ rw l)), rw a'.result (tidied_stood c k states' anchors' handles' _ a'.opened a'.names a'.used _ (a'.opening.unused room u.states) un uh))
