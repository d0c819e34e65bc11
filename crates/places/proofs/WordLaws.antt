-- Laws of a run of stores (`sets`) and of numbers of 4 bytes: where a store is read back and what it leaves alone.
-- Assumes nothing.
use mathlib.Core.Path.{◌≡◌, refl, sym, ap, ◌∙◌}
use Prim.Native.Nat.{ℕ, zero, suc, ◌+◌, ◌*◌, ◌≤◌, ◌<◌}
use native.Mathlib.Nat.{add-zero}
use native.Mathlib.Numerals.{add-one}
use native.Mathlib.Omega.{arith}
use mathlib.Core.List.{List, [], ◌∷◌, ◌++◌}
use mathlib.Core.Logic.{◌⊎◌, inl, inr, ⊎_elim}
use lib.ListN.{length, get_or, set, take, length-set}
use lib.Seq.{sets, length-take-le, take-suc, get_or-set_same, get_or-set_other}
use Rattle.places.specs.Words.{word, le, encode}

-- two runs of stores, one after the other, are one
pub sets-append : (xs ys l : List ℕ) (i : ℕ) → sets l i (xs ++ ys) ≡ sets (sets l i xs) (i + length xs) ys
sets-append [] ys l i = rw add-zero
sets-append (x ∷ xs) ys l i =
    let e : i + suc (length xs) ≡ suc i + length xs = omega arith in
    rw e (sets-append xs ys (set l i x) (suc i))

-- what a run of stores leaves alone
pub get_or-sets_other : (vs l : List ℕ) (i j : ℕ) → (j < i) ⊎ (i + length vs ≤ j) → get_or (sets l i vs) j 0 ≡ get_or l j 0
get_or-sets_other [] l i j h = refl
get_or-sets_other (v ∷ vs) l i j h =
    get_or-sets_other vs (set l i v) (suc i) j (⊎_elim (λ (p : j < i). inl (omega arith)) (λ (p : i + suc (length vs) ≤ j). inr (omega arith)) h)
    ∙ get_or-set_other l i j v 0 (λ e. ⊎_elim (λ (p : j < i). omega arith) (λ (p : i + suc (length vs) ≤ j). omega arith) h)

-- what a run of stores puts
pub get_or-sets : (vs l : List ℕ) (i j : ℕ) → i + length vs ≤ length l → j < length vs → get_or (sets l i vs) (i + j) 0 ≡ get_or vs j 0
get_or-sets [] l i j h k = absurd (omega arith)
get_or-sets (v ∷ vs) l i zero h k =
    let e : i + zero ≡ i = omega arith in
    rw e (get_or-sets_other vs (set l i v) (suc i) i (inl (omega arith)) ∙ get_or-set_same l i v 0 (omega arith))
get_or-sets (v ∷ vs) l i (suc j) h k =
    let e : i + suc j ≡ suc i + j = omega arith in
    rw e (get_or-sets vs (set l i v) (suc i) j (simp length-set (omega arith)) (omega arith))

-- a number is read where it was stored
pub word-sets : (vs l : List ℕ) (i j : ℕ) → i + length vs ≤ length l → j + 4 ≤ length vs → word (sets l i vs) (i + j) ≡ word vs j
unfolding word
word-sets vs l i j h k =
    let at : (r : ℕ) → r < 4 → get_or (sets l i vs) (i + j + r) 0 ≡ get_or vs (j + r) 0 =
    λ r p. let e : i + j + r ≡ i + (j + r) = omega arith in rw e (get_or-sets vs l i (j + r) h (omega arith)) in
    let e0 : get_or (sets l i vs) (i + j) 0 ≡ get_or vs j 0 = get_or-sets vs l i j h (omega arith) in
    simp (e0, at 1 (omega arith), at 2 (omega arith), at 3 (omega arith))

-- a number that no store reached is what it was
pub word-sets_other : (vs l : List ℕ) (i j : ℕ) → (j + 4 ≤ i) ⊎ (i + length vs ≤ j) → word (sets l i vs) j ≡ word l j
unfolding word
word-sets_other vs l i j h =
    let at : (r : ℕ) → r < 4 → get_or (sets l i vs) (j + r) 0 ≡ get_or l (j + r) 0 =
    λ r p. get_or-sets_other vs l i (j + r) (⊎_elim (λ (q : j + 4 ≤ i). inl (omega arith)) (λ (q : i + length vs ≤ j). inr (omega arith)) h) in
    let e0 : get_or (sets l i vs) j 0 ≡ get_or l j 0 = rw add-zero at (at 0 (omega arith)) in
    simp (e0, at 1 (omega arith), at 2 (omega arith), at 3 (omega arith))

pub encode-append : (ms ns : List ℕ) → encode (ms ++ ns) ≡ encode ms ++ encode ns
unfolding encode le
encode-append [] ns = refl
encode-append (m ∷ ms) ns = rw (encode-append ms ns)

pub length-encode : (ns : List ℕ) → length (encode ns) ≡ 4 * length ns
unfolding encode le
length-encode [] = refl
length-encode (n ∷ ns) = omega (arith, length-encode ns)

-- the number that 4 bytes hold is the number that they were made of
pub word-le : (n : ℕ) (rest : List ℕ) → word (le n ++ rest) 0 ≡ n
unfolding word le
word-le n rest = omega arith

-- a number behind the 4 bytes of another
pub word-behind : (n : ℕ) (rest : List ℕ) (j : ℕ) → word (le n ++ rest) (4 + j) ≡ word rest j
unfolding word le
word-behind n rest j =
    let e : (r : ℕ) → 4 + j + r ≡ suc (suc (suc (suc (j + r)))) = λ r. omega arith in
    let e0 : 4 + j ≡ suc (suc (suc (suc j))) = omega arith in
    rw (e 1, e 2, e 3, e0)

-- the kth of the numbers stands at 4 * k
pub word-encode : (ns : List ℕ) (k : ℕ) → k < length ns → word (encode ns) (4 * k) ≡ get_or ns k 0
unfolding encode
word-encode [] k h = absurd (omega arith)
word-encode (n ∷ ns) zero h = word-le n (encode ns)
word-encode (n ∷ ns) (suc k) h =
    let e : 4 * suc k ≡ 4 + 4 * k = omega arith in
    rw e (word-behind n (encode ns) (4 * k) ∙ word-encode ns k (omega arith))

-- one more number stored
pub put_more : (b : List ℕ) (at : ℕ) (ns : List ℕ) (i : ℕ) → i < length ns → sets (sets b at (encode (take i ns))) (at + 4 * i) (le (get_or ns i 0)) ≡ sets b at (encode (take (i + 1) ns))
unfolding encode le
put_more b at ns i h =
    let e1 : encode (take (i + 1) ns) ≡ encode (take i ns) ++ le (get_or ns i 0) = rw (add-one, take-suc ns i 0, encode-append) in
    let e2 : length (encode (take i ns)) ≡ 4 * i = length-encode (take i ns) ∙ ap (λ (k : ℕ). 4 * k) (length-take-le i ns (omega arith)) in
    rw e1 (sym (sets-append (encode (take i ns)) (le (get_or ns i 0)) b at ∙ rw e2))
