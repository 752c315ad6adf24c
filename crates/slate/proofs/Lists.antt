-- Lists of bytes: the test of equality, parts, two lists end to end, and bytes.
-- Assumes nothing.
use mathlib.Core.Bool.{true, false}
use mathlib.Core.List.{List, [], ◌∷◌, ◌++◌}
use mathlib.Core.Path.{◌≡◌, refl, sym, ap, ◌∙◌}
use Prim.Native.Nat.{ℕ, zero, suc, ◌+◌, ◌-◌, ◌≤◌, ◌<◌, min}
use native.Mathlib.Nat.{add-sub_cancel_left}
use native.Mathlib.Omega.{arith}
use borrow.Author.Tests.{eq-eqb, eqb-true}
use lib.Dec.{eqb}
use lib.ListN.{length, get_or, take, drop, length-take, length-drop, get_or-eq_default}
use lib.Seq.{drop_at, drop-drop, get_or-drop, get_or-take, take_all, take_at, take-take}
use Rattle.slate.specs.Bytes.{Bytes, part, same}
use Rattle.slate.specs.Claims as claims
use Rattle.slate.proofs.Cases.{by_bool, by_order, true_false}

-- ---- the test that two lists are equal

pub same_refl : (a : List ℕ) → same a a ≡ true
unfolding same
same_refl [] = refl
same_refl (x ∷ xs) = rw (eq-eqb x x refl) (same_refl xs)

pub same_true : (a b : List ℕ) → same a b ≡ true → a ≡ b
unfolding same
same_true [] [] e = refl
same_true [] (y ∷ ys) e = cc
same_true (x ∷ xs) [] e = cc
same_true (x ∷ xs) (y ∷ ys) e =
    by_bool (eqb x y)
    (λ t. let q : x ≡ y = eqb-true x y t in let r : xs ≡ ys = same_true xs ys (rw t at e) in cc)
    (λ f. let z : false ≡ true = rw f at e in cc)

pub same_ne : (a b : List ℕ) → (a ≡ b → ⊥) → same a b ≡ false
same_ne a b n = by_bool (same a b) (λ t. absurd (n (same_true a b t))) (λ f. f)

pub same_false : (a b : List ℕ) → same a b ≡ false → a ≡ b → ⊥
same_false a b f e = true_false (same_refl b) (rw e at f)

-- ---- a part

pub part_length : (b : List ℕ) (o n : ℕ) → o + n ≤ length b → length (part b o n) ≡ n
unfolding part
part_length b o n h = simp (length-take, length-drop) (omega arith)

-- a part ends where the bytes end
pub part_size : (b : List ℕ) (o n : ℕ) → length (part b o n) ≡ min n (length b - o)
unfolding part
part_size b o n = simp (length-take, length-drop)

-- the n bytes behind the first o are m
pub part_is : (p m r : List ℕ) (o n : ℕ) → length p ≡ o → length m ≡ n → part (p ++ (m ++ r)) o n ≡ m
unfolding part
part_is p m r o n l k = rw (drop_at p (m ++ r) o l) (take_at m r n k)

pub parts : claims.Parts
parts = (λ a b c. part_is a b c (length a) (length b) refl refl, part_size)

take_inside : (k m n : ℕ) (l : List ℕ) → k + m ≤ n → take m (drop k (take n l)) ≡ take m (drop k l)
take_inside zero m n l h = take-take m n l (omega arith)
take_inside (suc k) m zero l h = absurd (omega arith)
take_inside (suc k) m (suc n) [] h = refl
take_inside (suc k) m (suc n) (x ∷ xs) h = take_inside k m n xs (omega arith)

pub part_part : (b : List ℕ) (o n k m : ℕ) → k + m ≤ n → part (part b o n) k m ≡ part b (o + k) m
unfolding part
part_part b o n k m h = take_inside k m n (drop o b) h ∙ ap (take m) (drop-drop k o b)

-- a part of the first n bytes
pub part_take : (b : List ℕ) (n o m : ℕ) → o + m ≤ n → part (take n b) o m ≡ part b o m
unfolding part
part_take b n o m h = take_inside o m n b h

-- where n bytes are the same, so are the first of them
pub part_same : (b c : List ℕ) (o n m : ℕ) → m ≤ n → part b o n ≡ part c o n → part b o m ≡ part c o m
unfolding part
part_same b c o n m h e = sym (take-take m n (drop o b) h) ∙ ap (take m) e ∙ take-take m n (drop o c) h

pub part_byte : (b : List ℕ) (o n k : ℕ) → k < n → get_or (part b o n) k 0 ≡ get_or b (o + k) 0
unfolding part
part_byte b o n k h = rw (get_or-take n (drop o b) k 0 h) (get_or-drop o b k 0)

-- the bytes from o up to, not including, o + n
pub part_slice : (b : List ℕ) (o n : ℕ) → take (o + n - o) (drop o b) ≡ part b o n
unfolding part
part_slice b o n = rw add-sub_cancel_left

-- the bytes from o up to the end
pub rest_slice : (b : List ℕ) (o : ℕ) → take (length b - o) (drop o b) ≡ drop o b
rest_slice b o = take_all (length b - o) (drop o b) (omega (arith, length-drop o b))

-- ---- two lists end to end

pub append_inj : (n : ℕ) (a b c d : List ℕ) → length a ≡ n → length c ≡ n → a ++ b ≡ c ++ d → (a ≡ c) × (b ≡ d)
append_inj n a b c d k l e =
    (sym (take_at a b n k) ∙ ap (take n) e ∙ take_at c d n l, sym (drop_at a b n k) ∙ ap (drop n) e ∙ drop_at c d n l)

-- ---- bytes

pub bytes_cons : (x : ℕ) (l : List ℕ) → x < 256 → Bytes l → Bytes (x ∷ l)
bytes_cons x l h b zero = h
bytes_cons x l h b (suc i) = b i

pub byte_lists : claims.ByteLists
byte_lists = (λ i. omega arith, bytes_cons, λ x l b. (b 0, λ i. b (suc i)))

pub bytes_append : (a b : List ℕ) → Bytes a → Bytes b → Bytes (a ++ b)
bytes_append [] b ha hb i = hb i
bytes_append (x ∷ xs) b ha hb zero = ha 0
bytes_append (x ∷ xs) b ha hb (suc i) = bytes_append xs b (λ k. ha (suc k)) hb i

pub bytes_part : (b : List ℕ) (o n : ℕ) → Bytes b → Bytes (part b o n)
unfolding part
bytes_part b o n h i =
    by_order i n
    (λ q. rw (get_or-take n (drop o b) i 0 q, get_or-drop o b i 0) (h (o + i)))
    (λ q. rw (get_or-eq_default (take n (drop o b)) 0 {n = i} (simp length-take (omega arith))) (omega arith))
