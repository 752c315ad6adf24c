-- The fold of a proof as code takes it, from the leaf up: h is p + 1, and x the position at which the way down stands at height h.
-- Assumes nothing.
use mathlib.Core.List.{List}
use mathlib.Core.Path.{◌≡◌, refl, ◌∙◌}
use Prim.Native.Nat.{ℕ, suc, ◌+◌, ◌*◌, ◌^◌, ◌≤◌, ◌<◌}
use native.Mathlib.Decide.{le_ind}
use native.Mathlib.Nat.{mul-suc, zero-add}
use native.Mathlib.Numerals.{one-add}
use native.Mathlib.Omega.{arith}
use borrow.Author.Tests.{le-ltb, lt-ltb}
use lib.ListN.{length, take, drop, length-drop}
use lib.Seq.{drop-drop}
use Rattle.sha256.specs.Answer.{tagged}
use Rattle.slate.specs.Bytes.{part}
use Rattle.slate.specs.Digits.{base, digit, if_set}
use Rattle.slate.specs.Moves.{hops_from}
use Rattle.slate.specs.Path.{fold_from}
use Rattle.slate.specs.Tree.{Rule}
use Rattle.slate.proofs.Cases.{by_digit, by_order}
use Rattle.slate.proofs.Descent.{moves_left, moves_none, moves_right}
use Rattle.slate.proofs.WayUp.{on_left, on_right, on_way, way_left, way_none, way_right, way_root}

-- up to height h the leaf at position t is folded: to own, and the siblings left are `rest`
pub record Folded (pre : Rule) (m t : ℕ) (leaf proof : List ℕ) (h : ℕ) (own rest : List ℕ) : Type 0 where
  pub digest : own ≡ fold_from pre (on_way m t h) h t leaf proof
  pub place : rest ≡ drop (32 * hops_from (on_way m t h) h t) proof

module _ (m t : ℕ) (le : t ≤ m) where
  -- a sibling more for each set digit
  moves_up : (p x : ℕ) → x ≡ on_way m t (suc p) → hops_from x (suc p) t ≡ digit x p + hops_from (on_way m t p) p t
  moves_up p x on =
      by_digit x p
      (λ d. rw (d, way_none m t le p x on d) (moves_none x p t d ∙ omega arith))
      (λ d. by_order t (base x p)
      (λ o. rw (d, way_left m t le p x on d o) (moves_left x p t d o ∙ omega arith))
      (λ o. rw (d, way_right m t le p x on d o) (moves_right x p t d o ∙ omega arith)))

  moves_rise : (p h : ℕ) → p ≤ h → hops_from (on_way m t p) p t ≤ hops_from (on_way m t h) h t
  moves_rise p h up =
      le_ind (λ (q : ℕ). hops_from (on_way m t p) p t ≤ hops_from (on_way m t q) q t) (omega arith)
      (λ q k e. omega (arith, moves_up q (on_way m t (suc q)) refl)) h up

  module _ (pre : Rule) (leaf proof : List ℕ) where
    pub folded_leaf : Folded pre m t leaf proof 0 leaf proof
    unfolding fold_from hops_from
    folded_leaf = record { digest = refl; place = refl }

    pub folded_root : (h : ℕ) → m < 2 ^ h → (own rest : List ℕ) → Folded pre m t leaf proof h own rest → own ≡ fold_from pre m h t leaf proof
    folded_root h lt own rest f = rw (way_root m t le h lt) at f.digest

    module _ (p h x : ℕ) (next : h ≡ suc p) (on : x ≡ on_way m t h) (own rest : List ℕ) (f : Folded pre m t leaf proof p own rest) where
      here : x ≡ on_way m t (suc p)
      here = rw next at on

      moves_here : hops_from (on_way m t h) h t ≡ digit x p + hops_from (on_way m t p) p t
      moves_here = rw (← on, next) (moves_up p x here)

      pub folded_none : digit x p ≡ 0 → Folded pre m t leaf proof h own rest
      unfolding fold_from
      folded_none d = record {
        digest = f.digest ∙ rw (← on, way_none m t le p x here d, next, d);
        place = rw (moves_here, d, zero-add) f.place;
      }

      module _ (d : digit x p ≡ 1) where
        -- a sibling is left
        pub folded_room : (k : ℕ) → h ≤ k → m < 2 ^ k → 32 * hops_from m k t ≤ length proof → 32 ≤ length rest
        folded_room k up lt room =
            rw (f.place, length-drop) (omega (arith, moves_here, rw (way_root m t le k lt) at (moves_rise h k up)))

        pub folded_node : (sibling above r : List ℕ) → sibling ≡ take 32 rest → above ≡ drop 32 rest
            → r ≡ if_set (digit t p) (tagged (pre h) sibling own) (tagged (pre h) own sibling)
            → Folded pre m t leaf proof h r above
        unfolding fold_from part tagged
        folded_node sibling above r first behind e = record {
          digest =
              by_digit t p
              (λ s. let o = on_left m t le p x here d s in
              e ∙ rw (s, first, f.place, f.digest, ← on, way_left m t le p x here d o, next, d, lt-ltb t (base x p) o))
              (λ s. let o = on_right m t le p x here d s in
              e ∙ rw (s, first, f.place, f.digest, ← on, way_right m t le p x here d o, next, d, le-ltb t (base x p) o));
          place = rw (behind, f.place, moves_here, d, one-add, mul-suc) (drop-drop 32 (32 * hops_from (on_way m t p) p t) proof);
        }
