-- The comparison value by value, from where two lists of values are the same, and the values that it finds in common.
-- Assumes nothing.
use mathlib.Core.List.{List, []}
use mathlib.Core.Path.{◌≡◌, refl, sym, ◌∙◌}
use Prim.Native.Nat.{ℕ, zero, suc, ◌+◌, ◌≤◌, ◌<◌, min}
use native.Mathlib.Omega.{arith}
use borrow.Author.Tests.{eq-eqb, le-ltb, lt-ltb, ne_eqb}
use lib.ListN.{length, get_or, take}
use lib.Seq.{ext_get_or, get_or-take, length-take-le}
use Rattle.slate.specs.Claims as claims
use Rattle.slate.specs.Clash.{Same}
use Rattle.slate.specs.Comparison.{by_length, compared, compared_from, differ_at}
use Rattle.slate.proofs.Cases.{by_equal, by_order}
use Rattle.slate.proofs.Lists.{same_ne, same_refl}

module _ (vs ws : List (List ℕ)) where
  same_step : (f j : ℕ) → get_or vs j [] ≡ get_or ws j [] → compared_from vs ws (suc f) j ≡ compared_from vs ws f (suc j)
  unfolding compared_from
  same_step f j e = rw (e, same_refl (get_or ws j []))

  from_differ : (f j k : ℕ) → j ≤ k → k < j + f → Same j k vs ws → (get_or vs k [] ≡ get_or ws k [] → ⊥)
      → compared_from vs ws f j ≡ record { common = k; verdict = differ_at (suc k) }
  unfolding compared_from
  from_differ zero j k a b s n = absurd (omega arith)
  from_differ (suc f) j k a b s n =
      by_order j k
      (λ l. rw (same_step f j (s j (omega arith) l)) (from_differ f (suc j) k l (omega arith) (λ i c d. s i (omega arith) d) n))
      (λ l. let e : j ≡ k = omega arith in rw (e, same_ne (get_or vs k []) (get_or ws k []) n))

  from_equal : (f j : ℕ) → Same j (j + f) vs ws
      → compared_from vs ws f j ≡ record { common = j + f; verdict = by_length (length vs) (length ws) }
  unfolding compared_from
  from_equal zero j s = let e : j + 0 ≡ j = omega arith in rw e
  from_equal (suc f) j s =
      let e : j + suc f ≡ suc j + f = omega arith in
      rw (same_step f j (s j (omega arith) (omega arith)), e) (from_equal f (suc j) (λ i c d. s i (omega arith) (omega arith)))

-- the first k values are the same and the next ones differ
pub compared_differ : claims.ComparedDiffer
unfolding compared
compared_differ vs ws k a b s n = from_differ vs ws (min (length vs) (length ws)) 0 k (omega arith) (omega arith) s n

-- the values of the shorter list are the first of the other
pub compared_whole : (vs ws : List (List ℕ)) → Same 0 (min (length vs) (length ws)) vs ws
    → compared vs ws ≡ record { common = min (length vs) (length ws); verdict = by_length (length vs) (length ws) }
unfolding compared
compared_whole vs ws s =
    let e : 0 + min (length vs) (length ws) ≡ min (length vs) (length ws) = omega arith in
    rw e at (from_equal vs ws (min (length vs) (length ws)) 0 (λ i c d. s i c (omega arith)))

pub compared_equal : claims.ComparedEqual
unfolding by_length
compared_equal vs ws s =
    rw (compared_whole vs ws s) (
      refl,
      λ e. rw (eq-eqb (length vs) (length ws) e),
      λ l. rw (ne_eqb (length vs) (length ws) (omega arith), lt-ltb (length vs) (length ws) l),
      λ l. rw (ne_eqb (length vs) (length ws) (omega arith), le-ltb (length vs) (length ws) (omega arith)),
    )

-- ---- the values in common: both lists begin with them

module _ (vs ws : List (List ℕ)) where
  from_common : (f j : ℕ) → Same 0 j vs ws
      → ((compared_from vs ws f j).common ≤ j + f) × Same 0 (compared_from vs ws f j).common vs ws
  unfolding compared_from
  from_common zero j s = (omega arith, s)
  from_common (suc f) j s =
      by_equal (get_or vs j []) (get_or ws j [])
      (λ e.
      let u = from_common f (suc j) (λ k a b. by_order k j (s k a) (λ l. let z : k ≡ j = omega arith in rw z e)) in
      rw (e, same_refl (get_or ws j [])) (omega (arith, u.0), u.1))
      (λ n. rw (same_ne (get_or vs j []) (get_or ws j []) n) (omega arith, s))

  common_from : ((compared vs ws).common ≤ min (length vs) (length ws)) × Same 0 (compared vs ws).common vs ws
  unfolding compared
  common_from =
      let u = from_common (min (length vs) (length ws)) 0 (λ k a b. absurd (omega arith)) in
      (omega (arith, u.0), u.1)

  pub common_first : (compared vs ws).common ≤ length vs
  common_first = omega (arith, common_from.0)

  pub common_second : (compared vs ws).common ≤ length ws
  common_second = omega (arith, common_from.0)

  pub common_taken : take (compared vs ws).common vs ≡ take (compared vs ws).common ws
  common_taken =
      let k : ℕ = (compared vs ws).common in
      let n : length (take k vs) ≡ k = length-take-le k vs common_first in
      ext_get_or [] (take k vs) (take k ws) (n ∙ sym (length-take-le k ws common_second))
      (λ i h.
      get_or-take k vs i [] (omega arith) ∙ common_from.1 i (omega arith) (omega arith) ∙ sym (get_or-take k ws i [] (omega arith)))
