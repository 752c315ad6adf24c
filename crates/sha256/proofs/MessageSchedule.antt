-- The message schedule: W's recurrence as the standard writes it, from the list of words that defines it; and the sixteen words that are kept.
-- Assumes nothing.
use Rattle.std.proofs.Common.{◌≡◌, ℕ, zero, suc, ◌+◌, ◌-◌, ◌%◌, ◌<◌, ◌≤◌, List, [], ◌∷◌, length, get_or, sym, refl, ap, ◌∙◌, ⊎_elim, mod-eq_of_lt, eq-or-lt_of_le, arith, length-append, length-set, get_or-set_other, get_or-set_same, le-ltb, lt-ltb}
use lib.ListN.{get_or-append}
use lib.Seq.{get_or_at}
use Rattle.sha256.specs.Claims as claims
use Rattle.sha256.specs.Fips180.{W, next, schedule, extend}
use Rattle.sha256.specs.Window.{kept, made, rolled, rolled_by}

pub schedule_length : (M : List ℕ) (t : ℕ) → length (schedule M t) ≡ t
unfolding schedule
schedule_length M zero = refl
schedule_length M (suc t) = simp (length-append, schedule_length M t) (omega arith)

-- word u of the list is W_u
schedule_at : (M : List ℕ) (t u : ℕ) → u < t → get_or (schedule M t) u 0 ≡ W M u
unfolding schedule W
schedule_at M zero u h = absurd (omega arith)
schedule_at M (suc t) u h =
    ⊎_elim
    (λ e. rw e (get_or_at (schedule M t) (next M (schedule M t) t) [] 0 t (schedule_length M t)))
    (λ l. get_or-append (schedule M t) (next M (schedule M t) t ∷ []) 0 u (omega (arith, schedule_length M t)) ∙ schedule_at M t u l)
    (eq-or-lt_of_le {n = u} {m = t} (omega arith))

pub W-early : claims.FirstWords
unfolding W next
W-early M t h = rw (lt-ltb t 16 h)

W-extend : (M : List ℕ) (t : ℕ) → 16 ≤ t → W M t ≡ extend (W M (t - 2)) (W M (t - 7)) (W M (t - 15)) (W M (t - 16))
unfolding W next
W-extend M t h =
    rw (le-ltb t 16 h, schedule_at M t (t - 2) (omega arith), schedule_at M t (t - 7) (omega arith), schedule_at M t (t - 15) (omega arith), schedule_at M t (t - 16) (omega arith))

pub W-late : claims.LaterWords
unfolding extend
W-late M t h = W-extend M t h

-- the word that is made of the sixteen words before it
made_word : (M : List ℕ) (t : ℕ) (w : List ℕ) → 16 ≤ t → ((u : ℕ) → t - 16 ≤ u → u < t → get_or w (u % 16) 0 ≡ W M u) → made w t ≡ W M t
unfolding made
made_word M t w h each =
    let last : get_or w (t % 16) 0 ≡ W M (t - 16) = ap (λ (n : ℕ). get_or w n 0) (omega arith) ∙ each (t - 16) (omega arith) (omega arith) in
    rw (each (t - 2) (omega arith) (omega arith), each (t - 7) (omega arith) (omega arith), each (t - 15) (omega arith) (omega arith), last) (sym (W-extend M t h))

module _ (M : List ℕ) (block : length M ≡ 16) where
  -- behind n words more there are sixteen still
  rolled_length : (n : ℕ) → length (rolled_by M n) ≡ 16
  unfolding rolled_by rolled
  rolled_length zero = block
  rolled_length (suc n) = simp length-set (rolled_length n)

  -- and each of the last sixteen words stands at its number modulo 16
  rolled_each : (n u : ℕ) → n ≤ u → u < n + 16 → get_or (rolled_by M n) (u % 16) 0 ≡ W M u
  unfolding rolled_by rolled
  rolled_each zero u above below =
      let first : u < 16 = omega arith in
      ap (λ (n : ℕ). get_or M n 0) (mod-eq_of_lt first) ∙ sym (W-early M u first)
  rolled_each (suc n) u above below =
      let w = rolled_by M n in
      let word = made_word M (16 + n) w (omega arith) (λ v from to. rolled_each n v (omega arith) (omega arith)) in
      ⊎_elim
      (λ same. rw same (get_or-set_same w _ _ 0 (omega (arith, rolled_length n)) ∙ word))
      (λ older. get_or-set_other w _ (u % 16) _ 0 (λ same. omega arith) ∙ rolled_each n u (omega arith) (omega arith))
      (eq-or-lt_of_le {n = u} {m = 16 + n} (omega arith))

pub words_kept : claims.WordsKept
words_kept M t block low high = (
  rolled_length M block _,
  λ u from to. rolled_each M block _ u (omega arith) (omega arith),
  λ p below.
      let u : ℕ = t - (t - p) % 16 in
      ap (λ (n : ℕ). get_or (kept M t) n 0) (omega arith) ∙ rolled_each M block _ u (omega arith) (omega arith),
)

-- until a word is made the block is kept as it is loaded
pub kept_early : (M : List ℕ) (n : ℕ) → n ≡ 0 → rolled_by M n ≡ M
unfolding rolled_by
kept_early M n e = rw e

-- the word behind n words more
pub made_next : (M : List ℕ) (n t : ℕ) → length M ≡ 16 → t ≡ 16 + n → made (rolled_by M n) t ≡ W M t
made_next M n t block e = made_word M t (rolled_by M n) (omega arith) (λ u from to. rolled_each M block n u (omega arith) (omega arith))

-- and what is kept with it
pub rolled_next : (M : List ℕ) (n m t : ℕ) → t ≡ 16 + n → m ≡ suc n → rolled (rolled_by M n) t ≡ rolled_by M m
unfolding rolled_by
rolled_next M n m t e more = ap (rolled (rolled_by M n)) e ∙ ap (rolled_by M) (sym more)
