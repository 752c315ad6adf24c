-- Equal digests in two trees: the same values, or two inputs with one digest.
-- Assumes nothing.
use mathlib.Core.List.{List, []}
use mathlib.Core.Logic.{◌⊎◌, inl, inr, ⊎_elim}
use mathlib.Core.Path.{◌≡◌}
use Prim.Native.Nat.{ℕ, zero, suc, ◌-◌, ◌<◌}
use native.Mathlib.Omega.{arith}
use lib.ListN.{length, get_or}
use Rattle.sha256.specs.Fips180.{sha256}
use Rattle.slate.specs.Address.{HasNode, input}
use Rattle.slate.specs.Claims as claims
use Rattle.slate.specs.Clash.{Clash, Same}
use Rattle.slate.specs.Digits.{base, left}
use Rattle.slate.specs.Tree.{Rule, top}
use Rattle.slate.proofs.Bits.{base_zero, left_base, left_lt, left_pred, no_left}
use Rattle.slate.proofs.Cases.{by_digit, by_equal, by_order}
use Rattle.slate.proofs.Lists.{append_inj}
use Rattle.slate.proofs.Tops.{top_length}

pub clash_when : claims.ClashWhen
clash_when pre vs ws = (
  λ i h a b n e. record { index = i; height = h; first = a; second = b; inputs = n; digests = e },
  λ c. (c.index, c.height, c.first, c.second, c.inputs, c.digests),
)

module _ (pre : Rule) (vs ws : List (List ℕ)) where
  -- two inputs with one digest at the same place are a clash
  clash_at : (x h : ℕ) → x < length vs → x < length ws → HasNode x h → (input pre vs x h ≡ input pre ws x h → ⊥)
      → sha256 (input pre vs x h) ≡ sha256 (input pre ws x h) → Clash pre vs ws
  clash_at x h lv lw n i d =
      let e : suc x - 1 ≡ x = omega arith in
      record {
        index = suc x;
        height = h;
        first = record { low = omega arith; high = lv; node = rw e n };
        second = record { low = omega arith; high = lw; node = rw e n };
        inputs = rw e i;
        digests = rw e d;
      }

  -- one input of two nodes: the same digests of their children
  same_node : (x p : ℕ) → input pre vs x (suc p) ≡ input pre ws x (suc p)
      → (top pre vs (left x p) p ≡ top pre ws (left x p) p) × (top pre vs x p ≡ top pre ws x p)
  unfolding input
  same_node x p e =
      append_inj 32 (top pre vs (left x p) p) (top pre vs x p) (top pre ws (left x p) p) (top pre ws x p)
      (top_length pre vs (left x p) p) (top_length pre ws (left x p) p) (cc)

-- the same values in two runs end to end
pub same_joined : {C : Type 0} (vs ws : List (List ℕ)) (a m e : ℕ) → Same a m vs ws ⊎ C → Same m e vs ws ⊎ C → Same a e vs ws ⊎ C
same_joined vs ws a m e (inr c) t = inr c
same_joined vs ws a m e (inl s) (inr c) = inr c
same_joined vs ws a m e (inl s) (inl t) = inl (λ k low high. by_order k m (λ l. s k low l) (λ l. t k l high))

-- one digest of the highest nodes of height at most h: the same values below them, or a clash
pub tops_values : claims.EqualTops
unfolding input top
tops_values pre vs ws x zero lv lw e =
    by_equal (get_or vs x []) (get_or ws x [])
    (λ q. inl (λ k a b. let z : k ≡ x = omega (arith, base_zero x) in rw z q))
    (λ n. inr (clash_at pre vs ws x 0 lv lw tt (λ i. n (cc)) e))
tops_values pre vs ws x (suc p) lv lw e =
    by_digit x p
    (λ d. ⊎_elim (λ s. inl (λ k a b. s k (omega (arith, no_left x p d)) b)) inr (tops_values pre vs ws x p lv lw (rw d at e)))
    (λ d. by_equal (input pre vs x (suc p)) (input pre ws x (suc p))
    (λ q.
    let l =
    tops_values pre vs ws (left x p) p (omega (arith, left_lt x p d)) (omega (arith, left_lt x p d)) (same_node pre vs ws x p q).0 in
    same_joined vs ws (base x (suc p)) (base x p) (suc x) (rw (left_base x p d, left_pred x p d) at l)
    (tops_values pre vs ws x p lv lw (same_node pre vs ws x p q).1))
    (λ n. inr (clash_at pre vs ws x (suc p) lv lw d n (rw d at e))))
