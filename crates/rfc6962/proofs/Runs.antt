-- The values under a node of the tree by heights, as a list: the RFC splits it into those under the left child and those under the right one.
-- Assumes nothing.
use mathlib.Core.Bool.{false}
use mathlib.Core.List.{List, [], ◌∷◌}
use mathlib.Core.Path.{◌≡◌, refl, sym, ap, ap₂, ◌∙◌}
use Prim.Native.Nat.{ℕ, zero, suc, ◌+◌, ◌^◌, ◌<◌}
use native.Mathlib.Omega.{arith}
use borrow.Author.Tests.{lt-leb}
use lib.Dec.{leb}
use lib.ListN.{length, get_or, take, drop}
use lib.Pow.{pow_pos}
use lib.Seq.{drop-drop, get_or-drop, get_or-take, length-slice, slice, take-length, take-nil, take-take}
use Rattle.slate.specs.Digits.{base, digit, left}
use Rattle.slate.proofs.Bits.{base_le, base_zero, left_base, left_end, left_lt, left_pred}
use Rattle.rfc6962.specs.Rfc6962.{split_height}
use Rattle.rfc6962.proofs.Splits.{node_split, size}

-- the values under the highest node of height at most h at position x
abbrev pub run : List (List ℕ) → ℕ → ℕ → List (List ℕ)
run vs x h = slice (base x h) (suc x) vs

pub none_left : {A : Type 0} (l : List A) → length l ≡ 0 → l ≡ []
none_left [] e = refl
none_left (y ∷ l) e = absurd (omega arith)

take_drop : {A : Type 0} (l : List A) (a m : ℕ) → take m (drop a l) ≡ drop a (take (a + m) l)
take_drop l zero m = let e : m ≡ 0 + m = omega arith in ap (λ (j : ℕ). take j l) e
take_drop [] (suc a) m =
    let e : suc (a + m) ≡ suc a + m = omega arith in take-nil m ∙ ap (λ (j : ℕ). drop (suc a) (take j [])) e
take_drop (y ∷ l) (suc a) m =
    let e : suc (a + m) ≡ suc a + m = omega arith in take_drop l a m ∙ ap (λ (j : ℕ). drop (suc a) (take j (y ∷ l))) e

pub run_length : (vs : List (List ℕ)) (x h : ℕ) → x < length vs → length (run vs x h) ≡ size x h
run_length vs x h lt = length-slice (base x h) (suc x) vs lt

-- all the values
pub run_whole : (vs : List (List ℕ)) (x h : ℕ) → length vs ≡ suc x → base x h ≡ 0 → run vs x h ≡ vs
run_whole vs x h e z = rw (z, ← e) (take-length vs)

-- one value
pub run_one : (vs : List (List ℕ)) (x : ℕ) → x < length vs → get_or (run vs x 0) 0 [] ≡ get_or vs x []
run_one vs x lt =
    let z : base x 0 + 0 ≡ x = omega (arith, base_zero x) in
    get_or-drop (base x 0) (take (suc x) vs) 0 [] ∙ rw z (get_or-take (suc x) vs x [] (omega arith))

module _ (vs : List (List ℕ)) (x p : ℕ) (lt : x < length vs) (d : digit x p ≡ 1) where
  pub run_more : leb (length (run vs x (suc p))) 1 ≡ false
  run_more = lt-leb (length (run vs x (suc p))) 1 (omega (arith, run_length vs x (suc p) lt, left_end x p d, base_le x p, pow_pos p))

  pub run_split : split_height (length (run vs x (suc p))) ≡ p
  run_split = rw (run_length vs x (suc p) lt) (node_split x p d)

  pub run_left : take (2 ^ p) (run vs x (suc p)) ≡ run vs (left x p) p
  run_left =
      let e : base x (suc p) + 2 ^ p ≡ suc (left x p) = omega (arith, left_end x p d, left_pred x p d) in
      take_drop (take (suc x) vs) (base x (suc p)) (2 ^ p)
      ∙ ap (drop (base x (suc p))) (take-take (base x (suc p) + 2 ^ p) (suc x) vs (omega (arith, left_lt x p d)))
      ∙ ap₂ (λ (i j : ℕ). drop i (take j vs)) (sym (left_base x p d)) e

  pub run_right : drop (2 ^ p) (run vs x (suc p)) ≡ run vs x p
  run_right = drop-drop (2 ^ p) (base x (suc p)) (take (suc x) vs) ∙ ap (λ (j : ℕ). drop j (take (suc x) vs)) (sym (left_end x p d))
