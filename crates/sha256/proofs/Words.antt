-- Words and their bytes, and words of a list of bytes.
-- Assumes nothing.
use Rattle.std.proofs.Common.{◌≡◌, ℕ, zero, suc, ◌+◌, ◌*◌, ◌/◌, ◌%◌, ◌^◌, ◌<◌, ◌≤◌, ◌⊎◌, List, [], ◌∷◌, ◌++◌, length, get_or, replicate, sym, refl, ap, ◌∙◌, ap₂, inl, inr, add_assoc, arith, ext_get_or}
use native.Mathlib.Decide.{dec_lt}
use lib.ListN.{get_or-append, get_or-eq_default}
use Rattle.sha256.specs.Claims as claims
use Rattle.sha256.specs.Fips180.{word_at, words_at}

pub lt_or_le : (a b : ℕ) → (a < b) ⊎ (b ≤ a)
lt_or_le a b = go (dec_lt a b)
  where
    go : Dec (a < b) → (a < b) ⊎ (b ≤ a)
    go (yes h) = inl h
    go (no n) = inr (omega arith)

-- a word is its four bytes
pub word_bytes : claims.WordBytes
word_bytes a b c d la lb lc ld =
    let n : ℕ = a * 2 ^ 24 + b * 2 ^ 16 + c * 2 ^ 8 + d in
    let e0 : n / 2 ^ 24 % 256 ≡ a = omega arith in
    let e1 : n / 2 ^ 16 % 256 ≡ b = omega arith in
    let e2 : n / 2 ^ 8 % 256 ≡ c = omega arith in
    let e3 : n % 256 ≡ d = omega arith in
    (omega arith, rw (e0, e1, e2, e3))

-- a word depends on its four bytes
pub word_same : (p q : List ℕ) (j : ℕ) → ((k : ℕ) → j ≤ k → k < j + 4 → get_or p k 0 ≡ get_or q k 0) → word_at p j ≡ word_at q j
unfolding word_at
word_same p q j e =
    rw (e j (omega arith) (omega arith), e (j + 1) (omega arith) (omega arith), e (j + 2) (omega arith) (omega arith), e (j + 3) (omega arith) (omega arith))

-- what stands behind a list does not change its words
pub word_front : (p q : List ℕ) (j : ℕ) → j + 4 ≤ length p → word_at (p ++ q) j ≡ word_at p j
word_front p q j h = word_same (p ++ q) p j (λ k above below. get_or-append p q 0 k (omega arith))

-- behind the end of a list a word is zero
pub word_behind : (p : List ℕ) (j : ℕ) → length p ≤ j → word_at p j ≡ 0
unfolding word_at
word_behind p j h =
    rw (get_or-eq_default p 0 {n = j} h, get_or-eq_default p 0 {n = j + 1} (omega arith), get_or-eq_default p 0 {n = j + 2} (omega arith), get_or-eq_default p 0 {n = j + 3} (omega arith))

pub words_length : (n : ℕ) (p : List ℕ) (j : ℕ) → length (words_at n p j) ≡ n
unfolding words_at
words_length zero p j = refl
words_length (suc n) p j = ap suc (words_length n p (j + 4))

pub words_at_lem : (n : ℕ) (p : List ℕ) (j u : ℕ) → u < n → get_or (words_at n p j) u 0 ≡ word_at p (j + 4 * u)
unfolding words_at
words_at_lem zero p j u h = absurd (omega arith)
words_at_lem (suc n) p j zero h = ap (word_at p) (omega arith)
words_at_lem (suc n) p j (suc u) h = words_at_lem n p (j + 4) u (omega arith) ∙ ap (word_at p) (omega arith)

-- words depend on their bytes
pub words_same : (n : ℕ) (p q : List ℕ) (j : ℕ) → ((k : ℕ) → j ≤ k → k < j + 4 * n → get_or p k 0 ≡ get_or q k 0)
    → words_at n p j ≡ words_at n q j
unfolding words_at
words_same zero p q j e = refl
words_same (suc n) p q j e =
    ap₂ ◌∷◌
    (word_same p q j (λ k above below. e k above (omega arith)))
    (words_same n p q (j + 4) (λ k above below. e k (omega arith) (omega arith)))

-- a list with the right words is the list of words
pub words_are : (n : ℕ) (p : List ℕ) (j : ℕ) (w : List ℕ) → length w ≡ n → ((u : ℕ) → u < n → get_or w u 0 ≡ word_at p (j + 4 * u))
    → w ≡ words_at n p j
words_are n p j w e each =
    ext_get_or 0 w (words_at n p j) (e ∙ sym (words_length n p j))
    (λ u below. let h : u < n = omega arith in each u h ∙ sym (words_at_lem n p j u h))

-- behind the end of a list all words are zero
pub words_behind : (n : ℕ) (p : List ℕ) (j : ℕ) → length p ≤ j → replicate n 0 ≡ words_at n p j
unfolding words_at
words_behind zero p j h = refl
words_behind (suc n) p j h = ap₂ ◌∷◌ (sym (word_behind p j h)) (words_behind n p (j + 4) (omega arith))

infixr 30 ◌∷≡◌
-- lists are equal element by element
pub ◌∷≡◌ : {x y : ℕ} {xs ys : List ℕ} → x ≡ y → xs ≡ ys → x ∷ xs ≡ y ∷ ys
e ∷≡ es = ap₂ ◌∷◌ e es

-- sixteen words, written out
pub sixteen_words : (p : List ℕ) (j : ℕ)
    → words_at 16 p j
    ≡ word_at p j ∷ word_at p (j + 4) ∷ word_at p (j + 8) ∷ word_at p (j + 12) ∷ word_at p (j + 16) ∷ word_at p (j + 20) ∷ word_at p (j + 24) ∷ word_at p (j + 28) ∷ word_at p (j + 32) ∷ word_at p (j + 36) ∷ word_at p (j + 40) ∷ word_at p (j + 44) ∷ word_at p (j + 48) ∷ word_at p (j + 52) ∷ word_at p (j + 56) ∷ word_at p (j + 60) ∷ []
unfolding words_at
sixteen_words p j = simp add_assoc
