-- Document 01's formulas for the moves to a leaf are what the recursion on the height counts.
-- Assumes nothing.
use mathlib.Core.Path.{◌≡◌, refl, sym, ap, ◌∙◌}
use Prim.Native.Nat.{ℕ, zero, suc, ◌+◌, ◌*◌, ◌-◌, ◌/◌, ◌%◌, ◌^◌, ◌≤◌, ◌<◌}
use native.Mathlib.Decide.{le_ind}
use native.Mathlib.Nat.{div-add-mod', div-eq_of_lt, mod-lt, pow-suc, suc-mul}
use native.Mathlib.Omega.{arith}
use borrow.Author.Tests.{eq-eqb, ne_eqb, lt-ltb, le-ltb}
use lib.Count.{ones, ones_cat, count_trailing_zeros}
use lib.Dec.{ltb}
use lib.Pow.{pow_pos, shr_mono}
use Rattle.slate.specs.Claims as claims
use Rattle.slate.specs.Digits.{base, digit, left, max_height, ones_below}
use Rattle.slate.specs.Moves.{hops, hops_from, lefts, lefts_from, split_bit, turn}
use Rattle.slate.proofs.Bits.{base_gt, base_le, half, in_block, left_pred, ones_below_all, ones_below_mod}
use Rattle.slate.proofs.Cases.{by_bool, by_digit, by_order}
use Rattle.slate.proofs.Descent.{moves_left, moves_none, moves_right}
use Rattle.slate.proofs.HighestBit.{Differ, same_above, split_bit_lem, split_le, trailing_is, trailing_lt}

-- ---- the recursion's bounds

pub lefts_le_hops : (x h t : ℕ) → lefts_from x h t ≤ hops_from x h t
unfolding lefts_from hops_from
lefts_le_hops x zero t = omega arith
lefts_le_hops x (suc p) t =
    by_digit x p
    (λ d. rw d (lefts_le_hops x p t))
    (λ d. rw d (by_bool (ltb t (base x p))
    (λ b. rw b (omega (arith, lefts_le_hops (left x p) p t)))
    (λ b. rw b (omega (arith, lefts_le_hops x p t)))))

pub hops_le : (x h t : ℕ) → hops_from x h t ≤ h
unfolding hops_from
hops_le x zero t = omega arith
hops_le x (suc p) t =
    by_digit x p
    (λ d. rw d (omega (arith, hops_le x p t)))
    (λ d. rw d (by_bool (ltb t (base x p))
    (λ b. rw b (omega (arith, hops_le (left x p) p t)))
    (λ b. rw b (omega (arith, hops_le x p t)))))

-- ---- the moves below the last entry of a full subtree

-- the entry at z ends the full subtree of height h that holds the leaf at t
abbrev pub Full : ℕ → ℕ → ℕ → Type 0
Full z t h = suc z ≡ suc (t / 2 ^ h) * 2 ^ h

full_last : (z t h : ℕ) → Full z t h → t ≤ z
unfolding base
full_last z t h f = omega (arith, base_gt t h, suc-mul (t / 2 ^ h) (2 ^ h))

full_block : (z t h : ℕ) → Full z t h → z / 2 ^ h ≡ t / 2 ^ h
full_block z t h f =
    in_block (t / 2 ^ h) z h
    (omega (arith, pow_pos h, suc-mul (t / 2 ^ h) (2 ^ h)))
    (omega (arith, suc-mul (t / 2 ^ h) (2 ^ h)))

module _ (z t p : ℕ) (f : Full z t (suc p)) where
  full_end : suc z ≡ t / 2 ^ p / 2 * 2 * 2 ^ p + 2 * 2 ^ p
  full_end = omega (arith, rw (half t p, pow-suc 2 p) at f)

  full_quotient : z / 2 ^ p ≡ suc (t / 2 ^ p / 2 * 2)
  full_quotient =
      in_block (suc (t / 2 ^ p / 2 * 2)) z p (omega (arith, full_end, pow_pos p)) (omega (arith, full_end))

  full_set : digit z p ≡ 1
  unfolding digit
  full_set = omega (arith, full_quotient)

  full_left : digit t p ≡ 0 → Full (left z p) t p
  unfolding base digit
  full_left d =
      let e : z / 2 ^ p ≡ suc (t / 2 ^ p) = omega (arith, full_quotient) in
      left_pred z p full_set ∙ ap (λ (q : ℕ). q * 2 ^ p) e

  full_before : digit t p ≡ 0 → t < base z p
  full_before d = omega (arith, full_last (left z p) t p (full_left d), left_pred z p full_set)

  full_right : digit t p ≡ 1 → Full z t p
  unfolding digit
  full_right d =
      let e : t / 2 ^ p ≡ suc (t / 2 ^ p / 2 * 2) = omega arith in
      omega (arith, full_end, ap (λ (q : ℕ). suc q * 2 ^ p) e)

  full_after : digit t p ≡ 1 → base z p ≤ t
  unfolding base
  full_after d = rw (full_block z t p (full_right d)) (base_le t p)

-- in a full subtree each height is one move, left at a clear digit of the leaf
full_lefts : (z t h : ℕ) → Full z t h → lefts_from z h t + ones_below t h ≡ h
unfolding lefts_from ones_below
full_lefts z t zero f = refl
full_lefts z t (suc p) f =
    rw (full_set z t p f)
    (by_digit t p
    (λ d. rw (d, lt-ltb t (base z p) (full_before z t p f d)) (omega (arith, full_lefts (left z p) t p (full_left z t p f d))))
    (λ d. rw (d, le-ltb t (base z p) (full_after z t p f d)) (omega (arith, full_lefts z t p (full_right z t p f d)))))

pub full_hops : (z t h : ℕ) → Full z t h → hops_from z h t ≡ h
unfolding hops_from
full_hops z t zero f = refl
full_hops z t (suc p) f =
    by_digit t p
    (λ d. moves_left z p t (full_set z t p f) (full_before z t p f d) ∙ ap suc (full_hops (left z p) t p (full_left z t p f d)))
    (λ d. moves_right z p t (full_set z t p f) (full_after z t p f d) ∙ ap suc (full_hops z t p (full_right z t p f d)))

-- ---- the moves from the root: above bit j all go right, and then there is a full subtree

module _ (n x t j : ℕ) (next : suc x ≡ n) (le : t ≤ x) (d : Differ n t j) (few : j < 32) where
  quotient : n / 2 ^ j ≡ suc (t / 2 ^ j)
  unfolding digit
  quotient = omega (arith, half n j, half t j)

  -- the lowest bit of n is bit j: no turn
  module _ (whole : n % 2 ^ j ≡ 0) where
    whole_full : Full x t j
    whole_full = omega (arith, div-add-mod' n (2 ^ j), ap (λ (q : ℕ). q * 2 ^ j) quotient)

    whole_digit : digit x j ≡ 0
    unfolding digit
    whole_digit = omega (arith, full_block x t j whole_full)

    whole_turn : turn n j ≡ 0
    unfolding turn
    whole_turn = rw (eq-eqb j (count_trailing_zeros 32 n) (sym (trailing_is 32 n j few whole d.set)))

  -- n has a lower bit: the first left move
  module _ (more : 0 < n % 2 ^ j) where
    more_quotient : x / 2 ^ j ≡ n / 2 ^ j
    more_quotient =
        in_block (n / 2 ^ j) x j (omega (arith, div-add-mod' n (2 ^ j))) (omega (arith, div-add-mod' n (2 ^ j), mod-lt n (pow_pos j)))

    more_digit : digit x j ≡ 1
    unfolding digit
    more_digit = omega (arith, more_quotient)

    more_full : Full (left x j) t j
    unfolding base
    more_full = left_pred x j more_digit ∙ ap (λ (q : ℕ). q * 2 ^ j) (more_quotient ∙ quotient)

    more_left : t < base x j
    more_left = omega (arith, full_last (left x j) t j more_full, left_pred x j more_digit)

    more_turn : turn n j ≡ 1
    unfolding turn
    more_turn = rw (ne_eqb j (count_trailing_zeros 32 n) (λ e. omega (arith, trailing_lt 32 n j few more)))

  hops_turn : hops_from x (suc j) t ≡ turn n j + j
  unfolding hops_from
  hops_turn =
      by_order 0 (n % 2 ^ j)
      (λ m. rw (more_digit m, more_turn m, lt-ltb t (base x j) (more_left m)) (omega (arith, full_hops (left x j) t j (more_full m))))
      (λ m. let w : n % 2 ^ j ≡ 0 = omega arith in rw (whole_digit w, whole_turn w) (omega (arith, full_hops x t j (whole_full w))))

  lefts_turn : lefts_from x (suc j) t + ones_below t j ≡ turn n j + j
  unfolding lefts_from
  lefts_turn =
      by_order 0 (n % 2 ^ j)
      (λ m. rw (more_digit m, more_turn m, lt-ltb t (base x j) (more_left m)) (omega (arith, full_lefts (left x j) t j (more_full m))))
      (λ m. let w : n % 2 ^ j ≡ 0 = omega arith in rw (whole_digit w, whole_turn w) (omega (arith, full_lefts x t j (whole_full w))))

  -- above bit j: a right move at each bit of n
  module _ (h : ℕ) (high : suc j ≤ h) where
    above_same : n / 2 ^ h ≡ t / 2 ^ h
    above_same = same_above n t (suc j) h d.above high

    above_quotient : x / 2 ^ h ≡ n / 2 ^ h
    above_quotient =
        let below : t / 2 ^ h ≤ x / 2 ^ h = shr_mono h le in
        let over : x / 2 ^ h ≤ n / 2 ^ h = shr_mono h (omega arith) in
        omega (arith, above_same)

    above_digit : digit x h ≡ digit n h
    unfolding digit
    above_digit = ap (λ (q : ℕ). q % 2) above_quotient

    above_right : base x h ≤ t
    unfolding base
    above_right = rw (above_quotient ∙ above_same) (base_le t h)

    hops_above : hops_from x (suc h) t ≡ digit n h + hops_from x h t
    unfolding hops_from
    hops_above = rw (← above_digit, le-ltb t (base x h) above_right) (by_digit x h (λ e. rw e (omega arith)) (λ e. rw e (omega arith)))

    lefts_above : lefts_from x (suc h) t ≡ lefts_from x h t
    unfolding lefts_from
    lefts_above = rw (le-ltb t (base x h) above_right) (by_digit x h (λ e. rw e) (λ e. rw e))

  hops_from_lem : (h : ℕ) → suc j ≤ h → hops_from x h t + ones_below n (suc j) ≡ ones_below n h + (turn n j + j)
  unfolding ones_below
  hops_from_lem h high =
      le_ind (λ (m : ℕ). hops_from x m t + ones_below n (suc j) ≡ ones_below n m + (turn n j + j)) (omega (arith, hops_turn))
      (λ m k e. omega (arith, hops_above m k)) h high

  lefts_from_lem : (h : ℕ) → suc j ≤ h → lefts_from x h t + ones (t % 2 ^ j) ≡ turn n j + j
  lefts_from_lem h high =
      le_ind (λ (m : ℕ). lefts_from x m t + ones (t % 2 ^ j) ≡ turn n j + j) (omega (arith, lefts_turn, ones_below_mod t j))
      (λ m k e. omega (arith, lefts_above m k)) h high

-- the ones from digit k on, and those below
ones_split : (n k : ℕ) → ones n ≡ ones (n / 2 ^ k) + ones_below n k
ones_split n k =
    ap ones (sym (div-add-mod' n (2 ^ k))) ∙ ones_cat k (n / 2 ^ k) (n % 2 ^ k) (mod-lt n (pow_pos k))
    ∙ ap (λ (r : ℕ). ones (n / 2 ^ k) + r) (sym (ones_below_mod n k))

no_digit : (x h : ℕ) → x < 2 ^ h → digit x h ≡ 0
unfolding digit
no_digit x h lt = rw (div-eq_of_lt lt)

lefts_top : (x h t : ℕ) → x < 2 ^ h → lefts_from x (suc h) t ≡ lefts_from x h t
unfolding lefts_from
lefts_top x h t lt = rw (no_digit x h lt)

-- ---- the formulas

few_digits : max_height < 32
unfolding max_height
few_digits = omega arith

pub hops_formula : claims.HopsFormula
unfolding hops
hops_formula n i first last small =
    let few : split_bit n i < 32 = omega (arith, split_le n i, few_digits) in
    omega (
      arith,
      hops_from_lem n (n - 1) (i - 1) (split_bit n i) (omega arith) (omega arith) (split_bit_lem n i first last small) few
          (suc max_height) (omega (arith, split_le n i)),
      ones_below_all n (suc max_height) (omega (arith, pow-suc 2 max_height, pow_pos max_height)),
      ones_split n (suc (split_bit n i)),
      moves_none (n - 1) max_height (i - 1) (no_digit (n - 1) max_height (omega arith)),
    )

pub lefts_formula : claims.LeftsFormula
unfolding lefts
lefts_formula n i first last small =
    let few : split_bit n i < 32 = omega (arith, split_le n i, few_digits) in
    omega (
      arith,
      lefts_from_lem n (n - 1) (i - 1) (split_bit n i) (omega arith) (omega arith) (split_bit_lem n i first last small) few
          (suc max_height) (omega (arith, split_le n i)),
      lefts_top (n - 1) max_height (i - 1) (omega arith),
    )
