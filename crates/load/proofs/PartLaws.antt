-- Each way through a walker's body keeps what the walker promises. Assumes nothing.
use mathlib.Core.Path.{◌≡◌, refl, sym, ◌∙◌}
use mathlib.Core.Logic.{◌⊎◌, inl, inr}
use mathlib.Core.List.{List, ◌∷◌, []}
use Prim.Native.Nat.{ℕ, suc, ◌+◌, ◌-◌, ◌≤◌, ◌<◌, ◌%◌, max}
use native.Mathlib.Omega.{arith}
use lib.ListN.{length}
use borrow.Author.Tests.{eq-eqb, ne_eqb, lt-ltb, le-ltb}
use Rattle.std.specs.Prelude.{Result, Ok, Err, Option, Some}
use Rattle.records.specs.Events.{event_size}
use Rattle.records.specs.EventKinds.{event_number, event_kind_of}
use Rattle.records.specs.Says.{Says, Goes, Number}
use Rattle.records.specs.declared.kinds.EventKind.{EventKind}
use Rattle.records.specs.declared.kinds.EventKind.TheVariants as e
use Rattle.rules.specs.Walk.{Open, inside, between, after, outside, over, ended, to, enter, begin, within, lead, walk, finish}
use Rattle.rules.specs.Walk as k
use Rattle.load.specs.Load.{count, kind_at, from, number_of, place_of, answered, answer_of, said, loaded}
use Rattle.load.specs.Parts.{part_says, Further, onto, Node, Collection, Sequence, Mapping, Document}
use Rattle.load.specs.declared.Fault.{Fault}
use Rattle.load.specs.declared.Fault.TheVariants.{Uneven, Unexpected, TooDeep}
use Rattle.load.proofs.KindLaws.{number, not_number, found, leads, stops, cannot, said_at, from_none}

-- a part behind one event
further_more : (bs : List ℕ) (at : ℕ) (s : Says ℕ) → at < count bs → Further bs (at + 1) s → Further bs at s
further_more bs at (Goes j) h f = (omega (arith, f.0), f.1)
further_more bs at (Number m j) h f = omega arith

-- a part behind another
further_then : (bs : List ℕ) (at i : ℕ) (s : Says ℕ) → at ≤ i → i ≤ max at (count bs) → Further bs i s → Further bs at s
further_then bs at i (Goes j) h l f = (omega (arith, f.0), f.1)
further_then bs at i (Number m j) h l f = omega arith

module _ {bs : List ℕ} {at left : ℕ} {kind : Option EventKind} (is : kind ≡ event_kind_of (kind_at bs at)) where
  node_one : {x : EventKind} → kind ≡ Some x → ((o : List Open) → begin o (event_number x) ≡ to (ended o))
      → Node bs at left (Ok (at + 1))
  unfolding lead
  node_one q h = let l = found bs at is q in record {
    further = (omega arith, omega (arith, l));
    reads = λ o d b. leads bs at (inside o) (ended o) l (b ∙ rw (number bs at is q) (h o));
  }

  pub node_leaf : (kind ≡ Some e.Alias) ⊎ (kind ≡ Some e.Scalar) → Node bs at left (Ok (at + 1))
  unfolding event_number begin
  node_leaf (inl q) = node_one q (λ o. refl)
  node_leaf (inr q) = node_one q (λ o. refl)

  pub node_no : (kind ≡ Some e.Alias → ⊥) → (kind ≡ Some e.Scalar → ⊥) → (kind ≡ Some e.SequenceStart → ⊥)
      → (kind ≡ Some e.MappingStart → ⊥) → Node bs at left (Err (Unexpected at))
  unfolding event_number lead begin finish
  node_no a b c d = record {
    further = omega arith;
    reads = λ o l q. cannot bs at (inside o) refl (q ∙ rw (
      ne_eqb (kind_at bs at) 5 (not_number bs at is a),
      ne_eqb (kind_at bs at) 6 (not_number bs at is b),
      ne_eqb (kind_at bs at) 7 (not_number bs at is c),
      ne_eqb (kind_at bs at) 9 (not_number bs at is d),
    ));
  }

  -- a kind that opens a collection
  module _ (c : Open) (h : at < count bs) (opens : (o : List Open) → begin o (kind_at bs at) ≡ enter c o) where
    node_full : left ≡ 0 → Node bs at left (Err (TooDeep at))
    unfolding lead enter
    node_full z = record {
      further = omega arith;
      reads = λ o l b. stops bs at 31 (inside o) h (b ∙ opens o ∙ rw (le-ltb (length o) 1000 (omega arith)));
    }

    node_open : {r : Result ℕ Fault} → (left ≡ 0 → ⊥) → Collection c bs (at + 1) (left - 1) r → Node bs at left r
    unfolding lead enter
    node_open {r = r} z p = record {
      further = further_more bs at (part_says r) h p.further;
      reads = λ o l b.
          leads bs at (inside o) (inside (c ∷ o)) h (b ∙ opens o ∙ rw (lt-ltb (length o) 1000 (omega arith)))
          ∙ p.reads o (omega arith);
    }

  pub node_deep : (kind ≡ Some e.SequenceStart) ⊎ (kind ≡ Some e.MappingStart) → left ≡ 0 → Node bs at left (Err (TooDeep at))
  unfolding event_number begin
  node_deep (inl q) = node_full k.sequence (found bs at is q) (λ o. rw (number bs at is q))
  node_deep (inr q) = node_full k.key (found bs at is q) (λ o. rw (number bs at is q))

  pub node_sequence : {r : Result ℕ Fault} → kind ≡ Some e.SequenceStart → (left ≡ 0 → ⊥)
      → Sequence bs (at + 1) (left - 1) r → Node bs at left r
  unfolding event_number begin
  node_sequence q = node_open k.sequence (found bs at is q) (λ o. rw (number bs at is q))

  pub node_mapping : {r : Result ℕ Fault} → kind ≡ Some e.MappingStart → (left ≡ 0 → ⊥)
      → Mapping bs (at + 1) (left - 1) r → Node bs at left r
  unfolding event_number begin
  node_mapping q = node_open k.key (found bs at is q) (λ o. rw (number bs at is q))

-- one entry of a collection: a node, or a pair of nodes
pub record Entry (x : Open) (bs : List ℕ) (i left : ℕ) (r : Result ℕ Fault) : Type 0 where
  pub further : Further bs i (part_says r)
  pub reads : (o : List Open) → suc (length o + left) ≡ 1000 → walk (inside (x ∷ o)) (from bs i) ≡ onto bs (inside (x ∷ o)) (part_says r)

-- the entries from `at` to i are read
pub record Been (x : Open) (bs : List ℕ) (at left i : ℕ) : Type 0 where
  pub from_at : at ≤ i
  pub in_bounds : i ≤ max at (count bs)
  pub reads : (o : List Open) → suc (length o + left) ≡ 1000 → walk (inside (x ∷ o)) (from bs at) ≡ walk (inside (x ∷ o)) (from bs i)

pub been_none : {x : Open} {bs : List ℕ} {at left : ℕ} → Been x bs at left at
been_none = record { from_at = omega arith; in_bounds = omega arith; reads = λ o l. refl }

module _ {x : Open} {bs : List ℕ} {at left i : ℕ} (b : Been x bs at left i) where
  pub been_more : {j : ℕ} → Entry x bs i left (Ok j) → Been x bs at left j
  been_more p = record {
    from_at = omega (arith, b.from_at, p.further.0);
    in_bounds = omega (arith, p.further.1);
    reads = λ o l. b.reads o l ∙ p.reads o l;
  }

  pub been_no : {n : Fault} → Entry x bs i left (Err n) → Collection x bs at left (Err n)
  been_no {n = n} p = record {
    further = further_then bs at i (part_says (Err n)) b.from_at b.in_bounds p.further;
    reads = λ o l. b.reads o l ∙ p.reads o l;
  }

  been_end : {kind : Option EventKind} → kind ≡ event_kind_of (kind_at bs i) → {y : EventKind} → kind ≡ Some y
      → ((o : List Open) → within (x ∷ o) (event_number y) ≡ to (ended o)) → Collection x bs at left (Ok (i + 1))
  unfolding lead
  been_end is q h = let l = found bs i is q in record {
    further = (omega (arith, b.from_at), omega (arith, l));
    reads = λ o d. b.reads o d ∙ leads bs i (inside (x ∷ o)) (ended o) l (rw (number bs i is q) (h o));
  }

module _ {bs : List ℕ} {at left i : ℕ} {kind : Option EventKind} (is : kind ≡ event_kind_of (kind_at bs i)) where
  pub sequence_end : Been k.sequence bs at left i → kind ≡ Some e.SequenceEnd → Sequence bs at left (Ok (i + 1))
  unfolding event_number within
  sequence_end b q = been_end b is q (λ o. refl)

  pub mapping_end : Been k.key bs at left i → kind ≡ Some e.MappingEnd → Mapping bs at left (Ok (i + 1))
  unfolding event_number within
  mapping_end b q = been_end b is q (λ o. refl)

module _ {bs : List ℕ} {i left : ℕ} {kind : Option EventKind} (is : kind ≡ event_kind_of (kind_at bs i)) where
  -- an entry of a sequence
  pub item : {r : Result ℕ Fault} → (kind ≡ Some e.SequenceEnd → ⊥) → Node bs i left r → Entry k.sequence bs i left r
  unfolding event_number within
  item h n = record {
    further = n.further;
    reads = λ o l. n.reads (k.sequence ∷ o) (omega arith) (rw (ne_eqb (kind_at bs i) 8 (not_number bs i is h)));
  }

  -- a key of a mapping leads to its value
  module _ (h : kind ≡ Some e.MappingEnd → ⊥) where
    key_reads : {r : Result ℕ Fault} → Node bs i left r → (o : List Open) → suc (length o + left) ≡ 1000
        → walk (inside (k.key ∷ o)) (from bs i) ≡ onto bs (inside (k.value ∷ o)) (part_says r)
    unfolding event_number within
    key_reads key o l = key.reads (k.key ∷ o) (omega arith) (rw (ne_eqb (kind_at bs i) 10 (not_number bs i is h)))

    pub no_key : {n : Fault} → Node bs i left (Err n) → Entry k.key bs i left (Err n)
    no_key key = record { further = key.further; reads = key_reads key }

    pub pair : {v : ℕ} {r : Result ℕ Fault} → Node bs i left (Ok v) → Node bs v left r → Entry k.key bs i left r
    unfolding within
    pair {v = v} {r = r} key value = record {
      further = further_then bs i v (part_says r) (omega (arith, key.further.0)) (omega (arith, key.further.1)) value.further;
      reads = λ o l. key_reads key o l ∙ value.reads (k.value ∷ o) (omega arith) refl;
    }

-- a document
inner : (bs : List ℕ) (at : ℕ) {kind : Option EventKind} {r : Result ℕ Fault} → kind ≡ event_kind_of (kind_at bs at)
    → kind ≡ Some e.DocumentStart → Node bs (at + 1) 1000 r → walk between (from bs at) ≡ onto bs after (part_says r)
unfolding event_number lead within
inner bs at is q node = leads bs at between (inside []) (found bs at is q) (rw (number bs at is q)) ∙ node.reads [] refl refl

module _ {bs : List ℕ} {at : ℕ} {kind : Option EventKind} (is : kind ≡ event_kind_of (kind_at bs at)) where
  pub document_no : (kind ≡ Some e.DocumentStart → ⊥) → Document bs at (Err (Unexpected at))
  unfolding event_number lead finish
  document_no h = record {
    further = omega arith;
    reads = λ d. cannot bs at between refl (rw (ne_eqb (kind_at bs at) 2 d, ne_eqb (kind_at bs at) 3 (not_number bs at is h)));
  }

  module _ (opens : kind ≡ Some e.DocumentStart) where
    pub document_node : {n : Fault} → Node bs (at + 1) 1000 (Err n) → Document bs at (Err n)
    document_node {n = n} node = record {
      further = further_more bs at (part_says (Err n)) (found bs at is opens) node.further;
      reads = λ z. inner bs at is opens node;
    }

    module _ {j : ℕ} {next : Option EventKind} (node : Node bs (at + 1) 1000 (Ok j)) (then : next ≡ event_kind_of (kind_at bs j)) where
      pub document_open : (next ≡ Some e.DocumentEnd → ⊥) → Document bs at (Err (Unexpected j))
      unfolding event_number lead finish
      document_open h = record {
        further = omega (arith, node.further.1);
        reads = λ z. inner bs at is opens node ∙ cannot bs j after refl (rw (ne_eqb (kind_at bs j) 4 (not_number bs j then h)));
      }

      pub document_end : next ≡ Some e.DocumentEnd → Document bs at (Ok (j + 1))
      unfolding event_number lead
      document_end q = let l = found bs j then q in record {
        further = (omega (arith, node.further.0), omega (arith, l));
        reads = λ z. inner bs at is opens node ∙ leads bs j after between l (rw (number bs j then q));
      }

-- the documents from 1 to i are read
pub record Read (bs : List ℕ) (i : ℕ) : Type 0 where
  pub in_bounds : i ≤ count bs
  pub reads : walk outside (from bs 0) ≡ walk between (from bs i)

-- the whole list
pub uneven : (bs : List ℕ) → (length bs % event_size ≡ 0 → ⊥) → answer_of Uneven ≡ loaded bs
unfolding loaded
uneven bs h = rw (ne_eqb (length bs % event_size) 0 h)

pub started : {bs : List ℕ} {kind : Option EventKind} → kind ≡ event_kind_of (kind_at bs 0) → kind ≡ Some e.StreamStart → Read bs 1
unfolding event_number lead
started {bs = bs} is q = let l = found bs 0 is q in record {
  in_bounds = omega (arith, l);
  reads = leads bs 0 outside between l (rw (number bs 0 is q));
}

module _ (bs : List ℕ) (whole : length bs % event_size ≡ 0) where
  loaded_as : (m i : ℕ) → said (count bs) (walk outside (from bs 0)) ≡ answered m i → answered m i ≡ loaded bs
  unfolding loaded
  loaded_as m i q = rw (eq-eqb (length bs % event_size) 0 whole) (sym q)

  pub not_started : {kind : Option EventKind} → kind ≡ event_kind_of (kind_at bs 0) → (kind ≡ Some e.StreamStart → ⊥)
      → answer_of (Unexpected 0) ≡ loaded bs
  unfolding event_number lead finish
  not_started is h =
      loaded_as 30 0 (said_at bs 30 0 _ (omega arith) (cannot bs 0 outside refl (rw (ne_eqb (kind_at bs 0) 1 (not_number bs 0 is h)))))

  module _ {i : ℕ} {kind : Option EventKind} (b : Read bs i) (is : kind ≡ event_kind_of (kind_at bs i)) where
    module _ (more : kind ≡ Some e.StreamEnd → ⊥) where
      document_reads : {r : Result ℕ Fault} → Document bs i r → walk outside (from bs 0) ≡ onto bs between (part_says r)
      unfolding event_number
      document_reads document = b.reads ∙ document.reads (not_number bs i is more)

      pub read_more : {j : ℕ} → Document bs i (Ok j) → Read bs j
      read_more document = record { in_bounds = document.further.1; reads = document_reads document }

      pub not_read : {n : Fault} → Document bs i (Err n) → answer_of n ≡ loaded bs
      not_read {n = n} document =
          loaded_as (number_of n) (place_of n)
          (said_at bs (number_of n) (place_of n) _ (omega (arith, document.further, b.in_bounds)) (document_reads document))

    module _ (end : kind ≡ Some e.StreamEnd) where
      ends : walk outside (from bs 0) ≡ walk over (from bs (i + 1))
      unfolding event_number lead
      ends = b.reads ∙ leads bs i between over (found bs i is end) (rw (number bs i is end))

      pub not_over : i + 1 < count bs → answer_of (Unexpected (i + 1)) ≡ loaded bs
      unfolding lead
      not_over h = loaded_as 30 (i + 1) (said_at bs 30 (i + 1) _ (omega arith) (ends ∙ stops bs (i + 1) 30 over h refl))

      pub all_read : count bs ≤ i + 1 → answered 0 0 ≡ loaded bs
      unfolding said walk finish
      all_read h = loaded_as 0 0 (rw (ends, from_none bs (i + 1) h))
