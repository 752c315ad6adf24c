-- Down in two logs: it answers the leaf to which the digests of their trees lead.
-- Assumes nothing.
use mathlib.Core.List.{List, [], ◌∷◌}
use mathlib.Core.Path.{◌≡◌, refl, sym, ap, ◌∙◌}
use Prim.Native.Nat.{ℕ, zero, suc, ◌≤◌, ◌<◌}
use native.Mathlib.Omega.{arith}
use lib.ListN.{length}
use Rattle.slate.specs.Difference.{differing_leaf}
use Rattle.slate.specs.Digits.{digit, left, max_height}
use Rattle.slate.specs.Length.{offset}
use Rattle.slate.specs.Tree.{slate, top}
use Rattle.entry.specs.Log.{Holds}
use Rattle.entry.specs.Walk.{Place}
use Rattle.split.specs.Below.{down, leaf, reading_both}
use Rattle.slate.proofs.Bits.{left_lt}
use Rattle.slate.proofs.Cases.{by_digit, by_equal}
use Rattle.slate.proofs.Differences.{leaf_left, leaf_none, leaf_right, right_differs}
use Rattle.entry.proofs.LogDescent.{descend_log, walked}
use Rattle.entry.proofs.LogShape.{log_left_step}
use Rattle.entry.proofs.WholeLog.{log_digest, log_left_digest}
use Rattle.split.proofs.Downs.{down_descends, down_left, down_none, down_right, left_entry}

module _ {vs ws : List (List ℕ)} {b c : List ℕ} (v : Holds vs b) (w : Holds ws c) where
  -- from the tops of height at most h at position x it answers the leaf at position t
  abbrev Answers : ℕ → ℕ → ℕ → Type 0
  Answers x h t =
      (l : ℕ) × (m : ℕ) × (qs : List Place) × (rs : List Place) × (down b c (offset vs x) (offset ws x) x h ≡ leaf t l m qs rs)

  module _ (x p : ℕ) (lv : x < length vs) (lw : x < length ws) (le : p < max_height) (d : digit x p ≡ 1) where
    -- to the left where the left tops differ, else to the right
    left_answers : (t : ℕ) → (top slate vs (left x p) p ≡ top slate ws (left x p) p → ⊥) → Answers (left x p) p t → Answers x (suc p) t
    left_answers t n (l, m, qs, rs, e) = (
      l,
      m,
      left_entry x p (offset vs (left x p)) ∷ qs,
      left_entry x p (offset ws (left x p)) ∷ rs,
      down_left b c (offset vs x) (offset ws x) x p d
          (λ g. n (sym (log_left_digest v x lv p le d) ∙ g ∙ log_left_digest w x lw p le d)) _ _
          (log_left_step v x p lv le d) (log_left_step w x p lw le d)
          ∙ ap (reading_both _ _) e,
    )

    right_answers : (t : ℕ) → top slate vs (left x p) p ≡ top slate ws (left x p) p → (top slate vs x p ≡ top slate ws x p → ⊥)
        → Answers x p t → Answers x (suc p) t
    right_answers t e n a =
        rw (down_right b c (offset vs x) (offset ws x) x p d
        (log_left_digest v x lv p le d ∙ e ∙ sym (log_left_digest w x lw p le d))
        (λ g. n (sym (log_digest v x lv p (omega arith)) ∙ g ∙ log_digest w x lw p (omega arith))))
        a

  down_answers : (x h : ℕ) → x < length vs → x < length ws → h ≤ max_height → (top slate vs x h ≡ top slate ws x h → ⊥)
      → Answers x h (differing_leaf slate vs ws x h)
  unfolding down differing_leaf top
  down_answers x zero lv lw le n = (offset vs x, offset ws x, [], [], refl)
  down_answers x (suc p) lv lw le n =
      by_digit x p
      (λ d.
      rw (down_none b c (offset vs x) (offset ws x) x p d, leaf_none slate vs ws x p d)
      (down_answers x p lv lw (omega arith) (rw d at n)))
      (λ d. by_equal (top slate vs (left x p) p) (top slate ws (left x p) p)
      (λ e.
      let r = right_differs slate vs ws x p d e n in
      rw (leaf_right slate vs ws x p d e) (right_answers x p lv lw le d _ e r (down_answers x p lv lw (omega arith) r)))
      (λ m.
      rw (leaf_left slate vs ws x p d m)
      (left_answers x p lv lw le d _ m
      (down_answers (left x p) p (omega (arith, left_lt x p d)) (omega (arith, left_lt x p d)) (omega arith) m))))

  -- in each log it reads what a descent to that leaf reads
  pub down_log : (x h t : ℕ) → x < length vs → x < length ws → h ≤ max_height → (top slate vs x h ≡ top slate ws x h → ⊥)
      → t ≡ differing_leaf slate vs ws x h
      → down b c (offset vs x) (offset ws x) x h ≡ leaf t (offset vs t) (offset ws t) (walked vs x h t) (walked ws x h t)
  down_log x h t lv lw le n e =
      let a : Answers x h t = rw e (down_answers x h lv lw le n) in
      let d = down_descends b c (offset vs x) (offset ws x) x h t a.0 a.1 a.2 a.3 a.4 in
      cc (a.4, d.2, d.3, descend_log v t x h d.0 d.1 lv le, descend_log w t x h d.0 d.1 lw le)
