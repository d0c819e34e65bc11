-- Laws of a node: what its content decides, and what a name or a handle that was looked up tells of the rule. Assumes nothing.
use mathlib.Core.Path.{◌≡◌, refl, sym, ap, ◌∙◌}
use mathlib.Core.Bool.{Bool, true, false, cond, ◌&&◌}
use mathlib.Core.List.{List}
use Prim.Native.Nat.{ℕ, zero, suc, ◌<◌, ◌≤◌}
use native.Mathlib.Omega.{arith}
use borrow.Author.Tests.{ltb-true, ltb-false}
use lib.Dec.{ltb}
use lib.ListN.{length}
use Rattle.records.specs.Names.{part}
use Rattle.records.specs.declared.names.Range.{Range}
use Rattle.records.specs.Tokens.{read_at}
use Rattle.records.specs.declared.tokens.Token.{Token}
use Rattle.records.specs.declared.tokens.Read.{Read}
use Rattle.records.specs.declared.tokens.Read.TheVariants as read
use Rattle.tables.specs.Tables.{table}
use Rattle.tables.specs.Lookup.{find, leftmost, place_for}
use Rattle.tables.specs.Anchors as anchors
use Rattle.tables.specs.Handles as handles
use Rattle.tables.specs.declared.anchors.Anchor.{Anchor}
use Rattle.tables.specs.declared.lookup.Found.{Found}
use Rattle.tables.specs.declared.lookup.Found.TheVariants as found
use Rattle.tables.proofs.AnchorLaws as anchor_laws
use Rattle.tables.proofs.HandleLaws as handle_laws
use Rattle.tables.proofs.TableLaws.{length_table}
use Rattle.records.proofs.TokenLaws.{inside}
use Rattle.tables.specs.Anchors.{anchor_size}
use Rattle.tables.specs.Handles.{handle_size}
use Rattle.rules.specs.Rules as rules
use Rattle.rules.specs.Rules.Words as r
use Rattle.rules.specs.Rules.Words.{choose◌then◌else◌, first, hit?, Hit, Miss, Got}
use Rattle.rules.specs.Rules.{content, node_content, block_content, node, register_anchor, with_tag, tagged, resolve_tag, alias}
use Rattle.rules.specs.Run.{Rooms, limit, room, short}
use Rattle.parser.specs.Machine.{Lent, given, small, rooms}
use Rattle.parser.specs.Answers.{answer, refusing, refused_by, moved, names_after, handles_after}
use Rattle.parser.specs.Nodes.{names_of, properties_of, named_answer, placed, place_of, known_of, behind_done, behind_content, behind_of, behind, Follows}
use Rattle.parser.specs.Tags.{resolved_of}
use Rattle.parser.specs.declared.Machine.{Machine}
use Rattle.parser.specs.declared.Step.{Step}
use Rattle.parser.specs.declared.node.Properties.{Properties}
use Rattle.parser.specs.declared.node.Behind.{Behind}
use Rattle.parser.specs.declared.node.Place.{Place}
use Rattle.parser.specs.declared.node.Place.TheVariants as place
use Rattle.parser.specs.declared.node.Known.{Known}
use Rattle.parser.specs.declared.node.Known.TheVariants as known
use Rattle.parser.specs.declared.tag.Resolved.{Resolved}
use Rattle.parser.specs.declared.tag.Resolved.TheVariants as tag
use Rattle.parser.proofs.By.{by_room, by_full}

module _ {A : Type 0} (p : A → Bool) (f : ℕ → A) where
  -- the first value of a table is the one in the leftmost place
  pub first_none : (at n : ℕ) → leftmost p at (table f at n) ≡ found.Nothing → first p (table f at n) ≡ Miss
  unfolding leftmost table first choose◌then◌else◌
  first_none at zero e = refl
  first_none at (suc n) e = go (p (f at)) e (first_none (suc at) n) where
    go : (t : Bool) → cond t (found.At at) (leftmost p (suc at) (table f (suc at) n)) ≡ found.Nothing
        → (leftmost p (suc at) (table f (suc at) n) ≡ found.Nothing → first p (table f (suc at) n) ≡ Miss)
        → choose◌then◌else◌ {A = Hit A} t (Got (f at)) (first p (table f (suc at) n)) ≡ Miss
    go true e ih = let z : ◌≡◌ {A = ℕ} 0 1 = cc in absurd (omega arith)
    go false e ih = ih e

  pub first_at : (at n i : ℕ) → leftmost p at (table f at n) ≡ found.At i → first p (table f at n) ≡ Got (f i)
  unfolding leftmost table first choose◌then◌else◌
  first_at at zero i e = let z : ◌≡◌ {A = ℕ} 0 1 = cc in absurd (omega arith)
  first_at at (suc n) i e = go (p (f at)) e (first_at (suc at) n i) where
    go : (t : Bool) → cond t (found.At at) (leftmost p (suc at) (table f (suc at) n)) ≡ found.At i
        → (leftmost p (suc at) (table f (suc at) n) ≡ found.At i → first p (table f (suc at) n) ≡ Got (f i))
        → choose◌then◌else◌ {A = Hit A} t (Got (f at)) (first p (table f (suc at) n)) ≡ Got (f i)
    go true e ih = let q : at ≡ i = cc in rw q
    go false e ih = ih e

-- the same of anchors in their places
module _ (text names : List ℕ) (n : ℕ) (name : Range) {q : Found} (e : q ≡ find text names anchor_size n name) where
  pub anchor_none : q ≡ found.Nothing → first (anchors.named text name) (anchors.anchors_of names n) ≡ Miss
  unfolding anchors.anchors_of
  anchor_none h = first_none (anchors.named text name) (anchors.anchor_at names) 0 n (sym (anchor_laws.looked text names n name) ∙ sym e ∙ h)

  pub anchor_at_lem : (i : ℕ) → q ≡ found.At i → first (anchors.named text name) (anchors.anchors_of names n) ≡ Got (anchors.anchor_at names i)
  unfolding anchors.anchors_of
  anchor_at_lem i h = first_at (anchors.named text name) (anchors.anchor_at names) 0 n i (sym (anchor_laws.looked text names n name) ∙ sym e ∙ h)

known-alias : (at : ℕ) (over : rules.Over) (t : Token) (h : Hit Anchor) (id : ℕ) → known_of h ≡ known.Id id
    → alias at over t h ≡ r.give at (rules.pop_state over) (r.plain 5 t.start t.end id)
unfolding known_of alias
known-alias at over t Miss id e = let z : ◌≡◌ {A = ℕ} 0 1 = cc in absurd (omega arith)
known-alias at over t (Got b) id e = let q : b.id ≡ id = cc in rw q

unknown_alias : (at : ℕ) (over : rules.Over) (t : Token) (h : Hit Anchor) → known_of h ≡ known.Unknown → alias at over t h ≡ r.Refused 7 t.start
unfolding known_of alias
unknown_alias at over t Miss e = refl
unknown_alias at over t (Got b) e = let z : ◌≡◌ {A = ℕ} 0 1 = cc in absurd (omega arith)

-- what a place that was found says of the search
record Placed (q : Found) (n room i : ℕ) : Type 0 where
  own : place_for q n ≡ i
  free : q ≡ found.Nothing → n < room

placed_at : (q : Found) (n room i : ℕ) → placed q n room ≡ place.At i → Placed q n room i
unfolding placed place_for choose◌then◌else◌
placed_at (found.At j) n room i e = record { own = cc; free = λ f. let z : ◌≡◌ {A = ℕ} 0 1 = cc in absurd (omega arith) }
placed_at found.Nothing n room i e = go (ltb n room) refl e where
  go : (t : Bool) → ltb n room ≡ t → choose◌then◌else◌ {A = Place} t (place.At n) place.Full ≡ place.At i → Placed found.Nothing n room i
  go true h e = record { own = cc; free = λ f. ltb-true n room h }
  go false h e = let z : ◌≡◌ {A = ℕ} 0 1 = cc in absurd (omega arith)

-- and what says that there was none
record Unplaced (q : Found) (n room : ℕ) : Type 0 where
  new : q ≡ found.Nothing
  full : room ≤ n

placed_full : (q : Found) (n room : ℕ) → placed q n room ≡ place.Full → Unplaced q n room
unfolding placed choose◌then◌else◌
placed_full (found.At j) n room e = let z : ◌≡◌ {A = ℕ} 0 1 = cc in absurd (omega arith)
placed_full found.Nothing n room e = go (ltb n room) refl e where
  go : (t : Bool) → ltb n room ≡ t → choose◌then◌else◌ {A = Place} t (place.At n) place.Full ≡ place.Full → Unplaced found.Nothing n room
  go true h e = let z : ◌≡◌ {A = ℕ} 0 1 = cc in absurd (omega arith)
  go false h e = record { new = refl; full = ltb-false n room h }

-- what stands behind properties stands in the list
pub by_follows : (tokens : List ℕ) (size at : ℕ) (q : Properties) {z : Behind} → z ≡ behind_of (read_at tokens size at) at q → Follows tokens z.content
unfolding behind_of behind_done behind_content
by_follows tokens size at q f = rw f (go (read_at tokens size at) refl) where
  go : (y : Read) → read_at tokens size at ≡ y → Follows tokens (behind_of y at q).content
  go (read.Token t) e = inside tokens size at refl e
  go (read.Refused y) e = tt

module _ (x : Lent) (m : Machine) (w : Rooms) where
  either : (t : Bool) (d e : r.Decision) (names : r.Names)
      → answer x m (limit w d) ≡ named_answer m (names_after x m names) d
      → answer x m (limit w e) ≡ named_answer m (names_after x m names) e
      → answer x m (limit w (choose t then d else e)) ≡ named_answer m (names_after x m names) (choose t then d else e)
  unfolding choose◌then◌else◌
  either true d e names p q = p
  either false d e names p q = q

  -- a content that wants nothing passes its names on
  content_names : (at : ℕ) (over : rules.Over) (block indentless : Bool) (p : rules.Properties) (t : Token)
      → answer x m (limit w (content at over block indentless p t))
      ≡ named_answer m (names_after x m p.names) (content at over block indentless p t)
  unfolding content block_content node answer limit named_answer moved handles_after
  content_names at over block indentless p t =
      either (indentless && r.is t r.BLOCK_ENTRY) _ _ p.names refl
      (either (r.is t r.SCALAR) _ _ p.names refl
      (either (r.is t r.FLOW_SEQUENCE_START) _ _ p.names refl
      (either (r.is t r.FLOW_MAPPING_START) _ _ p.names refl
      (either (block && r.is t r.BLOCK_SEQUENCE_START) _ _ p.names refl
      (either (block && r.is t r.BLOCK_MAPPING_START) _ _ p.names refl (either p.any _ _ p.names refl refl))))))

  -- behind its properties a node comes to what its content decides
  module _ (over : rules.Over) (block indentless : Bool) (at : ℕ) (q : Properties) (e : q.names ≡ names_after x m (names_of q.names)) where
    pub by_content : {z : Behind} (t : Token) → z ≡ behind_content at t q
        → behind m over block indentless z.step z.content ≡ answer x m (limit w (content at over block indentless (properties_of q) t))
    unfolding behind behind_content properties_of
    by_content t f =
        rw f (ap (λ n. named_answer m n (content at over block indentless (properties_of q) t)) e ∙ sym (content_names at over block indentless (properties_of q) t))

    pub by_behind : {z : Behind} → z ≡ behind_of (read_at x.tokens (length x.text) at) at q
        → behind m over block indentless z.step z.content ≡ answer x m (limit w (node_content (given x) at over block indentless (properties_of q)))
    unfolding node_content r.look r.seen given behind behind_done behind_of refused_by answer limit refusing
    by_behind {z} f = rw f (go (read_at x.tokens (length x.text) at)) where
      go : (y : Read) → behind m over block indentless (behind_of y at q).step (behind_of y at q).content
          ≡ answer x m (limit w (r.seen y (content at over block indentless (properties_of q))))
      go (read.Token t) = by_content t refl
      go (read.Refused y) = refl

  -- a tag that was resolved, and one that was not
  module _ (a : Step) (p : rules.Properties) (t : Token) (k : rules.Properties → r.Decision) {q : Resolved}
      (e : resolved_of q ≡ rules.resolved (first (handles.named x.text t.a) (handles.handles_of x.tags m.handles)) (rules.undeclared (part x.text t.a) t.a)) where
    pub by_tagged : {source : ℕ} {prefix : Range} → q ≡ tag.Tagged source prefix
        → a ≡ answer x m (limit w (k (record { any = true; start = p.start; end = t.end; id = p.id; tag = record { source = source; prefix = prefix; suffix = t.b }; names = p.names })))
        → a ≡ answer x m (limit w (with_tag (given x) (small x m) p t k))
    unfolding with_tag tagged resolved_of resolve_tag given small
    by_tagged f h = rw (sym e ∙ ap resolved_of f) h

    pub by_untagged : q ≡ tag.Undeclared → a ≡ refusing 13 p.start → a ≡ answer x m (limit w (with_tag (given x) (small x m) p t k))
    unfolding with_tag tagged resolved_of resolve_tag given small answer limit
    by_untagged f h = rw (sym e ∙ ap resolved_of f) h

  -- an alias whose name is known, and one whose is not
  module _ (a : Step) (at : ℕ) (over : rules.Over) (t : Token) (h : Hit Anchor) {q : Known} (e : q ≡ known_of h) where
    pub by_known : {id : ℕ} → q ≡ known.Id id → a ≡ answer x m (limit w (r.give at (rules.pop_state over) (r.plain 5 t.start t.end id)))
        → a ≡ answer x m (limit w (alias at over t h))
    by_known {id} f g = rw (known-alias at over t h id (sym e ∙ f)) g

    pub by_unknown : q ≡ known.Unknown → a ≡ refusing 7 t.start → a ≡ answer x m (limit w (alias at over t h))
    unfolding answer limit
    by_unknown f g = rw (unknown_alias at over t h (sym e ∙ f)) g

-- a name that is put into a place, and one for which there is none
module _ (x : Lent) (m : Machine) (a : Step) (t : Token) (d : r.Decision) {q : Place}
    (e : q ≡ place_of x.text x.names m.names x.terms.names t.a) where
  abbrev q' : Found
  q' = find x.text x.names anchor_size m.names t.a

  -- the rule's own table has as many anchors as are in use
  count : length (anchors.anchors_of x.names m.names) ≡ m.names
  unfolding anchors.anchors_of
  count = length_table (anchors.anchor_at x.names) (anchors.anchor_at x.names) 0 m.names

  pub by_registered : {i : ℕ} → q ≡ place.At i → a ≡ answer x m (limit (rooms x.terms) d)
      → a ≡ answer x m (limit (rooms x.terms) (register_anchor (given x) (small x m) t d))
  unfolding place_of register_anchor given small hit? choose◌then◌else◌ short room rooms
  by_registered {i} f h = go q' refl where
    go : (z : Found) → q' ≡ z → a ≡ answer x m (limit (rooms x.terms) (register_anchor (given x) (small x m) t d))
    go (found.At j) g = rw (anchor_at_lem x.text x.names m.names t.a refl j g) h
    go found.Nothing g =
        rw (anchor_none x.text x.names m.names t.a refl g)
        (by_room x m (rooms x.terms) a r.AnchorPlace (length (anchors.anchors_of x.names m.names)) d (rw count ((placed_at q' m.names x.terms.names i (sym e ∙ f)).free g)) h)

  pub by_unregistered : q ≡ place.Full → a ≡ refusing 24 0
      → a ≡ answer x m (limit (rooms x.terms) (register_anchor (given x) (small x m) t d))
  unfolding place_of register_anchor given small hit? choose◌then◌else◌ short room rooms
  by_unregistered f h =
      let u = placed_full q' m.names x.terms.names (sym e ∙ f) in
      rw (anchor_none x.text x.names m.names t.a refl u.new)
      (by_full x m (rooms x.terms) a r.AnchorPlace (length (anchors.anchors_of x.names m.names)) d (rw count u.full) h)

-- the place is the name's own, else the next
pub place_for_lem : (text names : List ℕ) (n room : ℕ) (name : Range) {q : Place} {i : ℕ} → q ≡ place_of text names n room name → q ≡ place.At i
    → i ≡ place_for (find text names anchor_size n name) n
unfolding place_of
place_for_lem text names n room name {q} {i} e f = sym (placed_at (find text names anchor_size n name) n room i (sym e ∙ f)).own

-- the same of handles in their places
module _ (text tags : List ℕ) (n : ℕ) (name : Range) {q : Found} (e : q ≡ find text tags handle_size n name) where
  pub handle_none : q ≡ found.Nothing → first (handles.named text name) (handles.handles_of tags n) ≡ Miss
  unfolding handles.handles_of
  handle_none h = first_none (handles.named text name) (handles.handle_at tags) 0 n (sym (handle_laws.looked text tags n name) ∙ sym e ∙ h)

  pub handle_at_lem : (i : ℕ) → q ≡ found.At i → first (handles.named text name) (handles.handles_of tags n) ≡ Got (handles.handle_at tags i)
  unfolding handles.handles_of
  handle_at_lem i h = first_at (handles.named text name) (handles.handle_at tags) 0 n i (sym (handle_laws.looked text tags n name) ∙ sym e ∙ h)
