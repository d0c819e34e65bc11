-- A list of tokens written as bytes reads back as that list. Assumes nothing.
use mathlib.Core.Path.{◌≡◌, refl, sym, ap, ◌∙◌, fun_ext}
use mathlib.Core.Bool.{Bool, true, false, cond, ◌&&◌, ◌||◌}
use mathlib.Core.List.{List, [], ◌∷◌, ◌++◌}
use Prim.Native.Nat.{ℕ, zero, suc, ◌+◌, ◌*◌, ◌%◌, ◌^◌, ◌-◌, ◌≤◌, ◌<◌}
use native.Mathlib.Omega.{arith}
use borrow.Author.Tests.{ltb-true, ltb-false, lt-ltb, le-ltb, lt-leb, eqb-true, eq-eqb, ne_eqb}
use lib.Dec.{ltb, eqb}
use lib.ListN.{length, get_or, length-append, get_or-append}
use Rattle.places.specs.Words.{word, encode}
use Rattle.places.specs.Places.{places, has_place, field_of}
use Rattle.places.proofs.WordLaws.{length-encode, word-encode}
use Rattle.records.specs.Names.{no_range, range_of}
use Rattle.records.specs.Tokens.{token_size, uses_a, uses_b, uses_style, range_if, style_if, token_at, good, last_end, read_at}
use Rattle.records.specs.declared.names.Range.{Range}
use Rattle.records.specs.declared.tokens.Token.{Token}
use Rattle.records.specs.declared.tokens.Read.TheVariants as read
use Rattle.records.specs.Checks.{most_tokens, most_text, good_run, check_records, first_checks}
use Rattle.records.specs.declared.checks.Checked.TheVariants as checked
use Rattle.records.proofs.TokenLaws.{past_end}
use Rattle.rules.specs.Lists.{read_in, last_token_end, listed, in_bytes}
use Rattle.rules.proofs.ListLaws.{no_token, read_within, read_past}
use Rattle.promises.specs.Bytes.{numbers, as_bytes, small, empty, tidy, sound, all_sound}

eight : (t : Token) (k : ℕ) → k < 8 → k < length (numbers t)
unfolding numbers
eight t k h = h

pub false_true : false ≡ true → ⊥
false_true e = let z : ◌≡◌ {A = ℕ} 0 1 = ap (λ (b : Bool). cond b 1 0) e in absurd (omega arith)

-- a word before the seam, and one behind it
get_or-behind : (xs ys : List ℕ) (j : ℕ) → get_or (xs ++ ys) (length xs + j) 0 ≡ get_or ys j 0
get_or-behind [] ys j = let e : 0 + j ≡ j = omega arith in rw e
get_or-behind (x ∷ xs) ys j = let e : suc (length xs) + j ≡ suc (length xs + j) = omega arith in rw e (get_or-behind xs ys j)

word_before : (xs ys : List ℕ) (j : ℕ) → j + 4 ≤ length xs → word (xs ++ ys) j ≡ word xs j
unfolding word
word_before xs ys j h =
    rw (get_or-append xs ys 0 j (omega arith), get_or-append xs ys 0 (j + 1) (omega arith), get_or-append xs ys 0 (j + 2) (omega arith), get_or-append xs ys 0 (j + 3) (omega arith))

word_after : (xs ys : List ℕ) (j : ℕ) → word (xs ++ ys) (length xs + j) ≡ word ys j
unfolding word
word_after xs ys j =
    let e : (r : ℕ) → length xs + j + r ≡ length xs + (j + r) = λ r. omega arith in
    rw (e 1, e 2, e 3, get_or-behind xs ys j, get_or-behind xs ys (j + 1), get_or-behind xs ys (j + 2), get_or-behind xs ys (j + 3))

length-numbers : (t : Token) → length (encode (numbers t)) ≡ token_size
unfolding numbers
length-numbers t = length-encode (numbers t)

pub length_bytes : (ts : List Token) → length (as_bytes ts) ≡ token_size * length ts
unfolding as_bytes
length_bytes [] = refl
length_bytes (t ∷ ts) = length-append (encode (numbers t)) (as_bytes ts) ∙ omega (arith, length-numbers t, length_bytes ts)

pub places_bytes : (ts : List Token) → places (as_bytes ts) token_size ≡ length ts
places_bytes ts = rw (length_bytes ts) (omega arith)

pub and_both : (a b : Bool) → a && b ≡ true → (a ≡ true) × (b ≡ true)
and_both true b e = (refl, e)
and_both false b e = absurd (false_true e)

small_at : (ns : List ℕ) (k : ℕ) → small ns ≡ true → get_or ns k 0 < 2 ^ 32
unfolding small
small_at [] k h = omega arith
small_at (n ∷ ns) zero h = ltb-true n (2 ^ 32) (and_both (ltb n (2 ^ 32)) (small ns) h).0
small_at (n ∷ ns) (suc k) h = small_at ns k (and_both (ltb n (2 ^ 32)) (small ns) h).1

-- the parts of a sound token
record Parts (size : ℕ) (t : Token) : Type 0 where
  is_good : good size t ≡ true
  fits : (k : ℕ) → get_or (numbers t) k 0 < 2 ^ 32
  a_used : uses_a t.kind || empty t.a ≡ true
  b_used : uses_b t.kind || empty t.b ≡ true
  style_used : uses_style t.kind || eqb t.style 0 ≡ true

parts : (size : ℕ) (t : Token) → sound size t ≡ true → Parts size t
unfolding sound tidy
parts size t h =
    let x = and_both (good size t) _ h in
    let y = and_both (small (numbers t)) _ x.1 in
    let z = and_both (uses_a t.kind || empty t.a) _ y.1 in
    let w = and_both (uses_b t.kind || empty t.b) _ z.1 in
    record { is_good = x.0; fits = λ k. small_at (numbers t) k y.0; a_used = z.0; b_used = w.0; style_used = w.1 }

sound_at : (size : ℕ) (ts : List Token) (i : ℕ) → i < length ts → all_sound size ts ≡ true → sound size (get_or ts i no_token) ≡ true
unfolding all_sound
sound_at size [] i l h = absurd (omega arith)
sound_at size (t ∷ ts) zero l h = (and_both (sound size t) (all_sound size ts) h).0
sound_at size (t ∷ ts) (suc i) l h = sound_at size ts i (omega arith) (and_both (sound size t) (all_sound size ts) h).1

-- the k-th number of the i-th record
word_at : (size : ℕ) (ts : List Token) (i k : ℕ) → i < length ts → k < 8 → all_sound size ts ≡ true
    → word (as_bytes ts) (token_size * i + 4 * k) ≡ get_or (numbers (get_or ts i no_token)) k 0
unfolding as_bytes all_sound
word_at size [] i k l m h = absurd (omega arith)
word_at size (t ∷ ts) zero k l m h =
    let e : token_size * zero + 4 * k ≡ 4 * k = omega arith in
    let p = parts size t (and_both (sound size t) (all_sound size ts) h).0 in
    let n = length-numbers t in
    rw e (word_before (encode (numbers t)) (as_bytes ts) (4 * k) (omega arith) ∙ word-encode (numbers t) k (eight t k m))
word_at size (t ∷ ts) (suc i) k l m h =
    let n = length-numbers t in
    let e : token_size * suc i + 4 * k ≡ length (encode (numbers t)) + (token_size * i + 4 * k) = omega arith in
    rw e (word_after (encode (numbers t)) (as_bytes ts) (token_size * i + 4 * k) ∙ word_at size ts i k (omega arith) m (and_both (sound size t) (all_sound size ts) h).1)

field_at : (size : ℕ) (ts : List Token) (i k : ℕ) → i < length ts → k < 8 → all_sound size ts ≡ true
    → field_of (as_bytes ts) token_size i k ≡ get_or (numbers (get_or ts i no_token)) k 0
unfolding field_of has_place
field_at size ts i k l m h =
    let p = places_bytes ts in
    rw (lt-ltb k 8 m, lt-ltb i (places (as_bytes ts) token_size) (omega arith)) (word_at size ts i k l m h)

no_range_lem : (r : Range) → r.from ≡ 0 → r.to ≡ 0 → no_range ≡ r
unfolding no_range
no_range_lem r p q = λ i. record { from = sym p i; to = sym q i }

range_is : (u : Bool) (r : Range) → u || empty r ≡ true → cond u r no_range ≡ r
unfolding empty no_range
range_is true r e = refl
range_is false r e =
    let x = and_both (eqb r.from 0) (eqb r.to 0) e in
    no_range_lem r (eqb-true r.from 0 x.0) (eqb-true r.to 0 x.1)

style_is : (u : Bool) (n : ℕ) → u || eqb n 0 ≡ true → cond u n 0 ≡ n
style_is true n e = refl
style_is false n e = sym (eqb-true n 0 e)

end_of : (t : Token) → get_or (numbers t) 2 0 ≡ t.end
unfolding numbers
end_of t = refl

token_at_lem : (size : ℕ) (ts : List Token) (i : ℕ) → i < length ts → all_sound size ts ≡ true → token_at (as_bytes ts) i ≡ get_or ts i no_token
unfolding token_at range_if style_if range_of numbers
token_at_lem size ts i l h =
    let f : (k : ℕ) → k < 8 → field_of (as_bytes ts) token_size i k ≡ get_or (numbers (get_or ts i no_token)) k 0 = λ k m. field_at size ts i k l m h in
    let t = get_or ts i no_token in
    let p = parts size t (sound_at size ts i l h) in
    rw (f 0 (omega arith), f 1 (omega arith), f 2 (omega arith), f 3 (omega arith), f 4 (omega arith), f 5 (omega arith), f 6 (omega arith), f 7 (omega arith))
    (rw (range_is (uses_a t.kind) t.a p.a_used, range_is (uses_b t.kind) t.b p.b_used, style_is (uses_style t.kind) t.style p.style_used))

-- the i-th record is the i-th token
pub read_at_lem : (size : ℕ) (ts : List Token) → all_sound size ts ≡ true → (i : ℕ) → i < length ts → read_at (as_bytes ts) size i ≡ read.Token (get_or ts i no_token)
unfolding read_at
read_at_lem size ts h i l =
    let p = places_bytes ts in
    rw (lt-leb (places (as_bytes ts) token_size) i (omega arith), token_at_lem size ts i l h, (parts size (get_or ts i no_token) (sound_at size ts i l h)).is_good)

last_is : (t : Token) (ts : List Token) → last_token_end (t ∷ ts) ≡ (get_or (t ∷ ts) (length ts) no_token).end
unfolding last_token_end
last_is t [] = refl
last_is t (u ∷ ts) = last_is u ts

end_at : (size : ℕ) (ts : List Token) → all_sound size ts ≡ true → last_end (as_bytes ts) ≡ last_token_end ts
unfolding last_end last_token_end as_bytes
end_at size [] h = refl
end_at size (t ∷ ts) h =
    let p = places_bytes (t ∷ ts) in
    let d : places (as_bytes (t ∷ ts)) token_size ≡ 0 → ⊥ = λ e. omega arith in
    let q : places (as_bytes (t ∷ ts)) token_size - 1 ≡ length ts = omega arith in
    rw (ne_eqb (places (as_bytes (t ∷ ts)) token_size) 0 d, q) (field_at size (t ∷ ts) (length ts) 2 (omega arith) (omega arith) h ∙ end_of (get_or (t ∷ ts) (length ts) no_token) ∙ sym (last_is t ts))

-- a list of tokens as bytes is that list, and passes the first checks
pub reads_back : (size : ℕ) (ts : List Token) → all_sound size ts ≡ true → (i : ℕ) → read_at (as_bytes ts) size i ≡ read_in (last_token_end ts) ts i
reads_back size ts h i = go (ltb i (length ts)) refl where
  go : (b : Bool) → ltb i (length ts) ≡ b → read_at (as_bytes ts) size i ≡ read_in (last_token_end ts) ts i
  go true e = let l = ltb-true i (length ts) e in read_at_lem size ts h i l ∙ sym (read_within (last_token_end ts) ts i l)
  go false e =
      let l = ltb-false i (length ts) e in
      let p = places_bytes ts in
      past_end (as_bytes ts) size i (omega arith) ∙ rw (end_at size ts h) (sym (read_past (last_token_end ts) ts i l))

pub given_back : (ts : List Token) (text : List ℕ) (keep forget : Bool) → all_sound (length text) ts ≡ true
    → in_bytes (as_bytes ts) (length ts) text keep forget ≡ listed ts text keep forget
unfolding in_bytes listed
given_back ts text keep forget h =
    let f : read_at (as_bytes ts) (length text) ≡ read_in (last_token_end ts) ts = fun_ext (reads_back (length text) ts h) in
    λ i. record { count = length ts; read = f i; text = text; keep = keep; forget = forget }

found_all : (size : ℕ) (ts : List Token) → all_sound size ts ≡ true → (at left : ℕ) → at + left ≡ length ts → good_run (as_bytes ts) size at left ≡ length ts
unfolding good_run
found_all size ts h at zero e = omega arith
found_all size ts h at (suc left) e = rw (read_at_lem size ts h at (omega arith)) (found_all size ts h (at + 1) left (omega arith))

pub checks_pass : (size : ℕ) (ts : List Token) → all_sound size ts ≡ true → length ts ≤ most_tokens → size ≤ most_text → first_checks (as_bytes ts) size ≡ checked.Passed (length ts)
unfolding first_checks check_records
checks_pass size ts h few short =
    let n = length_bytes ts in
    let m : length (as_bytes ts) % token_size ≡ 0 = omega arith in
    rw (eq-eqb (length (as_bytes ts) % token_size) 0 m, places_bytes ts, le-ltb most_tokens (length ts) few, le-ltb most_text size short, found_all size ts h 0 (length ts) (omega arith), le-ltb (length ts) (length ts) (omega arith))
