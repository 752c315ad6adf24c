-- The search of two well-formed logs: it answers, in agreement with the values or with a clash, and ends where the common entries do.
-- Assumes nothing.
use mathlib.Core.List.{List, []}
use mathlib.Core.Logic.{◌⊎◌, inl, inr, ⊎_elim}
use mathlib.Core.Path.{◌≡◌, refl, sym, ◌∙◌}
use Prim.Native.Nat.{ℕ, zero, suc, ◌-◌, ◌≤◌, ◌<◌, min}
use native.Mathlib.Omega.{arith}
use lib.ListN.{length, get_or}
use Rattle.slate.specs.Clash.{Clash, Same}
use Rattle.slate.specs.Comparison.{Compared, compared, differ_at}
use Rattle.slate.specs.Difference.{differing_leaf}
use Rattle.slate.specs.Digits.{base, max_height}
use Rattle.slate.specs.Length.{offset}
use Rattle.slate.specs.Tree.{slate, top}
use Rattle.entry.specs.Log.{Values, log}
use Rattle.entry.specs.Read.{digest_at}
use Rattle.split.specs.Claims as claims
use Rattle.split.specs.Search.{Trace, answered, searched}
use Rattle.slate.proofs.Bits.{whole_base}
use Rattle.slate.proofs.Cases.{by_equal}
use Rattle.slate.proofs.Clashes.{tops_values}
use Rattle.slate.proofs.Comparisons.{compared_differ, compared_whole}
use Rattle.slate.proofs.Differences.{leaf_differs, leaf_first, leaf_under}
use Rattle.entry.proofs.Claimed.{opening_counts}
use Rattle.entry.proofs.LogDescent.{walked}
use Rattle.entry.proofs.LogShape.{log_opened}
use Rattle.entry.proofs.Reached.{log_reached}
use Rattle.entry.proofs.WholeLog.{holds_self, log_digest, log_ends}
use Rattle.split.proofs.Brought.{Brought}
use Rattle.split.proofs.LogDowns.{down_log}
use Rattle.split.proofs.Searches.{by_lengths, ended, parted, searched_equal, searched_none, searched_parted}

-- ---- a log

log_top : (vs : List (List ℕ)) (t : ℕ) → Values vs → t < length vs → digest_at (log vs) (offset vs t) t max_height ≡ top slate vs t max_height
log_top vs t ok lt = log_digest (holds_self vs ok) t lt max_height (omega arith)

log_brought : (vs : List (List ℕ)) (x t : ℕ) → Values vs → length vs ≡ suc x → t ≤ x
    → Brought (log vs) (offset vs x) x t (offset vs t) (walked vs x max_height t)
log_brought vs x t ok n le = record {
  opens = log_opened vs x ok n;
  high = le;
  run = let e : length vs - 1 ≡ x = omega arith in rw e at (log_reached vs ok t (omega arith));
}

-- ---- two logs

module _ (vs ws : List (List ℕ)) where
  -- what f says is true of the values, or there is a clash; a difference that it names is one
  pub record Sound (f : Compared) : Type 0 where
    pub agrees : (f ≡ compared vs ws) ⊎ Clash slate vs ws
    pub named : (i : ℕ) → f.verdict ≡ differ_at i
        → (1 ≤ i) × (i ≤ length vs) × (i ≤ length ws) × (get_or vs (i - 1) [] ≡ get_or ws (i - 1) [] → ⊥)

  ended_sound : (n : ℕ) → min (length vs) (length ws) ≡ n → Same 0 n vs ws ⊎ Clash slate vs ws → Sound (ended n (length vs) (length ws))
  ended_sound n e s =
      record {
        agrees = ⊎_elim (λ s. inl (sym (rw e at (compared_whole vs ws (rw e s))))) inr s;
        named = λ i h.
            let z = by_lengths (λ v. v ≡ differ_at i → ◌≡◌ {A = ℕ} 0 1) (length vs) (length ws) (λ g. cc) (λ g. cc) (λ g. cc) h in
            absurd (omega arith);
      }

  parted_sound : (u : ℕ) → u < length vs → u < length ws → Same 0 u vs ws ⊎ Clash slate vs ws → (get_or vs u [] ≡ get_or ws u [] → ⊥)
      → Sound (parted u)
  parted_sound u lv lw s n =
      record {
        agrees = ⊎_elim (λ s. inl (sym (compared_differ vs ws u lv lw s n))) inr s;
        named = λ i h.
            let e : i ≡ suc u = cc in
            let f : i - 1 ≡ u = omega arith in
            (omega arith, omega arith, omega arith, rw f n);
      }

  module _ (okv : Values vs) (okw : Values ws) where
    -- an answer: what it says of the values, and that each log is left where the entries in common end
    abbrev Answer : Type 0
    Answer =
        (f : Compared) × (a : Trace) × (d : Trace) × (searched (log vs) (log ws) ≡ answered f a d)
        × Sound f × (a.at ≡ offset vs f.common) × (d.at ≡ offset ws f.common)

    none_found : min (length vs) (length ws) ≡ 0 → Answer
    unfolding offset
    none_found n = (
      _,
      _,
      _,
      searched_none (log vs) (log ws) _ _ _ _ (opening_counts vs okv) (opening_counts ws okw) n,
      ended_sound 0 n (inl (λ k a b. absurd (omega arith))),
      refl,
      refl,
    )

    -- both are brought to the entry at position t
    module _ (x y t : ℕ) (ex : length vs ≡ suc x) (ey : length ws ≡ suc y) (n : min (suc x) (suc y) ≡ suc t) where
      lv : t < length vs
      lv = omega arith

      lw : t < length ws
      lw = omega arith

      whole : base t max_height ≡ 0
      whole = whole_base t max_height (omega (arith, lv, okv.few))

      first : Brought (log vs) (offset vs x) x t (offset vs t) (walked vs x max_height t)
      first = log_brought vs x t okv ex (omega arith)

      second : Brought (log ws) (offset ws y) y t (offset ws t) (walked ws y max_height t)
      second = log_brought ws y t okw ey (omega arith)

      equal_found : top slate vs t max_height ≡ top slate ws t max_height → Answer
      equal_found e = (
        _,
        _,
        _,
        searched_equal first second n (log_top vs t okv lv ∙ e ∙ sym (log_top ws t okw lw)),
        rw (← ex, ← ey) (ended_sound (suc t) (rw (ex, ey) n) (rw whole at (tops_values slate vs ws t max_height lv lw e))),
        log_ends (holds_self vs okv) t lv,
        log_ends (holds_self ws okw) t lw,
      )

      parted_found : (top slate vs t max_height ≡ top slate ws t max_height → ⊥) → Answer
      parted_found e =
          let u : ℕ = differing_leaf slate vs ws t max_height in
          let high : u ≤ t = (leaf_under slate vs ws t max_height).1 in (
            _,
            _,
            _,
            searched_parted first second n (λ g. e (sym (log_top vs t okv lv) ∙ g ∙ log_top ws t okw lw)) u _ _ _ _
                (down_log (holds_self vs okv) (holds_self ws okw) t max_height u lv lw (omega arith) e refl),
            parted_sound u (omega (arith, lv)) (omega (arith, lw)) (rw whole at (leaf_first slate vs ws t max_height lv lw))
                (leaf_differs slate vs ws t max_height e),
            refl,
            refl,
          )

    log_search : Answer
    log_search = go (min (length vs) (length ws)) refl
      where
        go : (n : ℕ) → min (length vs) (length ws) ≡ n → Answer
        go zero n = none_found n
        go (suc t) n =
            let ex : length vs ≡ suc (length vs - 1) = omega arith in
            let ey : length ws ≡ suc (length ws - 1) = omega arith in
            let least = rw (ex, ey) at n in
            by_equal (top slate vs t max_height) (top slate ws t max_height)
            (equal_found (length vs - 1) (length ws - 1) t ex ey least)
            (parted_found (length vs - 1) (length ws - 1) t ex ey least)

-- ---- the claims

pub search_answers : claims.SearchAnswers
search_answers vs ws okv okw = let r = log_search vs ws okv okw in (r.0, r.1, r.2, r.3)

-- what holds of an answer
module _ (vs ws : List (List ℕ)) (f : Compared) (a d : Trace) (okv : Values vs) (okw : Values ws)
    (h : searched (log vs) (log ws) ≡ answered f a d) where
  pub answer_sound : Sound vs ws f × (a.at ≡ offset vs f.common) × (d.at ≡ offset ws f.common)
  answer_sound =
      let r = log_search vs ws okv okw in
      let i : f ≡ r.0 = cc (h, r.3) in
      let j : a ≡ r.1 = cc (h, r.3) in
      let k : d ≡ r.2 = cc (h, r.3) in
      rw (i, j, k) (r.4, r.5, r.6)

pub search_agrees : claims.SearchAgrees
search_agrees vs ws f a d okv okw h = (answer_sound vs ws f a d okv okw h).0.agrees

pub named_differs : claims.NamedDiffers
named_differs vs ws f a d i okv okw h = (answer_sound vs ws f a d okv okw h).0.named i
