-- What the search answers, in the order of its checks: its refusals, and the numbers of its answer.
-- Assumes nothing.
use mathlib.Core.List.{List}
use mathlib.Core.Logic.{◌⊎◌, inl, inr, ⊎_elim}
use mathlib.Core.Path.{◌≡◌, refl, sym, ap, ◌∙◌}
use Prim.Native.Nat.{ℕ, zero, suc, ◌-◌, min}
use native.Mathlib.Omega.{arith}
use Rattle.std.specs.Prelude.{Err, None, Option, Some}
use Rattle.sha256.specs.Reasons.{Decided, Reason}
use Rattle.slate.specs.Comparison.{Compared, Verdict, differ_at, equal, first_shorter, second_shorter}
use Rattle.slate.specs.Digits.{max_height}
use Rattle.entry.specs.Read.{digest_at}
use Rattle.entry.specs.Reasons.{Opens}
use Rattle.entry.specs.Shape.{opened_log}
use Rattle.entry.specs.Walk.{Descent, Place, arrived, descend, left_step, stopped}
use Rattle.entry.specs.declared.Cause.{Cause}
use Rattle.entry.specs.declared.Cause.TheVariants as cause
use Rattle.entry.specs.declared.Opened.{Opened}
use Rattle.entry.specs.Opening.{opening_at}
use Rattle.entry.specs.Refusal.{cause_number}
use Rattle.split.specs.Answer.{Split, difference_place, side_number, split_of, verdict_number}
use Rattle.split.specs.Below.{Below, blocked, down, leaf}
use Rattle.split.specs.Claims as claims
use Rattle.split.specs.Search.{Trace, answered, opening, refused, search_brought, searched}
use Rattle.split.specs.declared.Side.{Side}
use Rattle.split.specs.declared.Side.TheVariants as side
use Rattle.slate.proofs.Cases.{by_equal}
use Rattle.slate.proofs.Lists.{same_ne}
use Rattle.entry.proofs.Cases.{opening_same}
use Rattle.entry.proofs.Descents.{by_left_step, descend_causes}
use Rattle.split.proofs.AnyBytes.{brought_reaches}
use Rattle.split.proofs.Brought.{Brought}
use Rattle.split.proofs.Searches.{searched_equal, searched_none, searched_parted}
use Rattle.split.proofs.Stops.{down_stops}

-- ---- the numbers of an answer

verdict_told : (v : Verdict) → claims.Told v (verdict_number v) (difference_place v)
verdict_told equal = (λ e. (refl, refl), λ e. (cc, refl), λ e. (cc, refl), λ i e. (cc, cc))
verdict_told first_shorter = (λ e. (cc, refl), λ e. (refl, refl), λ e. (cc, refl), λ i e. (cc, cc))
verdict_told second_shorter = (λ e. (cc, refl), λ e. (cc, refl), λ e. (refl, refl), λ i e. (cc, cc))
verdict_told (differ_at i) = (λ e. (cc, cc), λ e. (cc, cc), λ e. (cc, cc), λ j e. (refl, cc))

answers : (b c : List ℕ) (f : Compared) (a d : Trace) → searched b c ≡ answered f a d → claims.Answers b c (split_of (searched b c))
answers b c f a d e = (f, a, d, e, verdict_number f.verdict, difference_place f.verdict, verdict_told f.verdict, rw e refl)

-- ---- reasons

pub opens_at : (b : List ℕ) (o m : ℕ) (P : ℕ → ℕ → Type 0) → opened_log b ≡ opening_at o m → Opens b P → P o m
opens_at b o m P e (l, n, f, p) =
    let s = opening_same l n o m (sym f ∙ e) in
    rw (s.0, s.1) at p

-- a log that opens with x + 1 entries, and the descent from the last of them to the one at position t
module _ (b : List ℕ) (o x t : ℕ) (e : opened_log b ≡ opening_at o (suc x)) where
  ex : suc x - 1 ≡ x
  ex = omega arith

  et : suc t - 1 ≡ t
  et = omega arith

  stops_at : (z : Cause) → descend b o x max_height t ≡ stopped z → claims.Stops b (suc t) z
  stops_at z f = (o, suc x, e, rw (ex, et) f)

  stops_only : (z : Cause) → claims.Stops b (suc t) z → descend b o x max_height t ≡ stopped z
  stops_only z h = rw (ex, et) at (opens_at b o (suc x) _ e h)

  reaches_only : (l : ℕ) → claims.Reaches b (suc t) l → (qs : List Place) × (descend b o x max_height t ≡ arrived l qs)
  reaches_only l h = rw (ex, et) at (opens_at b o (suc x) _ e h)

  no_stops : (l : ℕ) (qs : List Place) → descend b o x max_height t ≡ arrived l qs → (z : Cause) → claims.Stops b (suc t) z → ⊥
  no_stops l qs f z h = let g = stops_only z h in let y : ◌≡◌ {A = ℕ} 0 1 = cc in omega arith

step_causes : (b : List ℕ) (o x p : ℕ) (k : Cause) → left_step b o x p ≡ Err k → (k ≡ cause.Shape) ⊎ (k ≡ cause.Link)
step_causes b o x p k =
    by_left_step (λ s. s ≡ Err k → (k ≡ cause.Shape) ⊎ (k ≡ cause.Link)) b o x p
    (λ n h. inl (cc)) (λ s n h. inr (cc)) (λ s f h. let z : ◌≡◌ {A = ℕ} 0 1 = cc in absurd (omega arith))

-- ---- the order of the checks

module _ (b c : List ℕ) where
  abbrev Rest : List (Reason Split) → Type 0
  Rest rs = Decided rs (claims.Answers b c) (split_of (searched b c))

  -- nothing is refused below
  below_answers : ((s : Side) (k : Cause) → claims.Blocked b c s k → ⊥) → claims.Answers b c (split_of (searched b c))
      → Rest (claims.reasons_below b c)
  below_answers n p = inr (
    n side.First cause.Shape,
    inr (n side.First cause.Link, inr (n side.Second cause.Shape, inr (n side.Second cause.Link, inr (n side.Both cause.Link, p)))),
  )

  -- both logs are open, and n is t + 1
  module _ (o x q y t : ℕ) (fo : opened_log b ≡ opening_at o (suc x)) (so : opened_log c ≡ opening_at q (suc y))
      (n : min (suc x) (suc y) ≡ suc t) where
    least : claims.Least b c (suc t)
    least = (o, suc x, fo, (q, suc y, so, (sym n, omega arith)))

    least_only : (k : ℕ) → claims.Least b c k → k ≡ suc t
    least_only k h = (opens_at c q (suc y) _ so (opens_at b o (suc x) _ fo h)).0 ∙ n

    first_goes : (l : ℕ) (qs : List Place) → descend b o x max_height t ≡ arrived l qs → (z : Cause)
        → ((k : ℕ) × claims.Least b c k × claims.Stops b k z) → ⊥
    first_goes l qs e z (k, h, s) = no_stops b o x t fo l qs e z (rw (least_only k h) at s)

    second_goes : (l : ℕ) (qs : List Place) → descend c q y max_height t ≡ arrived l qs → (z : Cause)
        → ((k : ℕ) × claims.Least b c k × claims.Stops c k z) → ⊥
    second_goes l qs e z (k, h, s) = no_stops c q y t so l qs e z (rw (least_only k h) at s)

    searched_at : (r s : Descent) → descend b o x max_height t ≡ r → descend c q y max_height t ≡ s
        → searched b c ≡ search_brought b c t (opening o (suc x)) (opening q (suc y)) r s
    unfolding searched
    searched_at r s f g = rw (fo, so, n, ex b o x t fo, ex c q y t so, f, g)

    -- both stand at that entry
    module _ (l m : ℕ) (qs rs : List Place) (f : descend b o x max_height t ≡ arrived l qs)
        (g : descend c q y max_height t ≡ arrived m rs) where
      first : Brought b o x t l qs
      first = record { opens = fo; high = omega (arith, n); run = f }

      second : Brought c q y t m rs
      second = record { opens = so; high = omega (arith, n); run = g }

      abbrev Apart : Type 0
      Apart = digest_at b l t max_height ≡ digest_at c m t max_height → ⊥

      blocked_at : (s : Side) (k : Cause) → Apart → down b c l m t max_height ≡ blocked s k → claims.Blocked b c s k
      blocked_at s k a e =
          let z : suc t - 1 ≡ t = omega arith in
          (suc t, l, m, least, brought_reaches first (suc t) refl, brought_reaches second (suc t) refl, rw z a, rw z e)

      blocked_only : (s : Side) (k : Cause) → claims.Blocked b c s k → Apart × (down b c l m t max_height ≡ blocked s k)
      blocked_only s k (n', l', m', h, i, j, a, e) =
          let en : n' ≡ suc t = least_only n' h in
          let z : n' - 1 ≡ t = omega arith in
          let u = reaches_only b o x t fo l' (rw en at i) in
          let v = reaches_only c q y t so m' (rw en at j) in
          let el : l' ≡ l = cc (u.1, f) in
          let em : m' ≡ m = cc (v.1, g) in
          (rw (z, el, em) at a, rw (z, el, em) at e)

      -- going down is refused, and for no other reason
      module _ (s : Side) (k : Cause) (a : Apart) (e : down b c l m t max_height ≡ blocked s k) where
        here : claims.Blocked b c s k
        here = blocked_at s k a e

        not : (s' : Side) (k' : Cause) → (side_number s' ≡ side_number s → cause_number k' ≡ cause_number k → ⊥) → claims.Blocked b c s' k' → ⊥
        not s' k' f h =
            let i : blocked s' k' ≡ blocked s k = sym (blocked_only s' k' h).1 ∙ e in
            let j : s' ≡ s = cc in
            let i : k' ≡ k = cc in
            f (ap side_number j) (ap cause_number i)

        searched_blocked : searched b c ≡ refused s k
        searched_blocked = searched_at _ _ f g ∙ rw (same_ne (digest_at b l t max_height) (digest_at c m t max_height) a, e)

        split_at : split_of (searched b c) ≡ split_of (refused s k)
        split_at = ap split_of searched_blocked

      module _ (a : Apart) where
        abbrev To : Side → Cause → Type 0
        To s k = down b c l m t max_height ≡ blocked s k

        first_shape : To side.First cause.Shape → Rest (claims.reasons_below b c)
        first_shape e = inl (here _ _ a e, split_at _ _ a e)

        first_link : To side.First cause.Link → Rest (claims.reasons_below b c)
        first_link e = inr (not _ _ a e side.First cause.Shape (λ i j. omega arith), inl (here _ _ a e, split_at _ _ a e))

        second_shape : To side.Second cause.Shape → Rest (claims.reasons_below b c)
        second_shape e = inr (
          not _ _ a e side.First cause.Shape (λ i j. omega arith),
          inr (not _ _ a e side.First cause.Link (λ i j. omega arith), inl (here _ _ a e, split_at _ _ a e)),
        )

        second_link : To side.Second cause.Link → Rest (claims.reasons_below b c)
        second_link e = inr (
          not _ _ a e side.First cause.Shape (λ i j. omega arith),
          inr (
            not _ _ a e side.First cause.Link (λ i j. omega arith),
            inr (not _ _ a e side.Second cause.Shape (λ i j. omega arith), inl (here _ _ a e, split_at _ _ a e)),
          ),
        )

        both_link : To side.Both cause.Link → Rest (claims.reasons_below b c)
        both_link e = inr (
          not _ _ a e side.First cause.Shape (λ i j. omega arith),
          inr (
            not _ _ a e side.First cause.Link (λ i j. omega arith),
            inr (
              not _ _ a e side.Second cause.Shape (λ i j. omega arith),
              inr (not _ _ a e side.Second cause.Link (λ i j. omega arith), inl (here _ _ a e, split_at _ _ a e)),
            ),
          ),
        )

        below_blocked : (s : Side) (k : Cause) → To s k → Rest (claims.reasons_below b c)
        below_blocked s k e =
            ⊎_elim
            (λ u. ⊎_elim
            (λ w. ⊎_elim (λ j. first_shape (rw (w.1, j) at e)) (λ j. first_link (rw (w.1, j) at e)) (step_causes _ _ _ _ _ w.0))
            (λ w. ⊎_elim (λ j. second_shape (rw (w.3, j) at e)) (λ j. second_link (rw (w.3, j) at e)) (step_causes _ _ _ _ _ w.2))
            u.1)
            (λ u. both_link (rw (u.2, u.3) at e))
            (down_stops b c l m t max_height s k a e).why

      below : Rest (claims.reasons_below b c)
      below =
          by_equal (digest_at b l t max_height) (digest_at c m t max_height)
          (λ e. below_answers (λ s k h. (blocked_only s k h).0 e)
          (answers b c _ _ _ (searched_equal first second n e)))
          (λ a. go a (down b c l m t max_height) refl)
        where
          go : Apart → (d : Below) → down b c l m t max_height ≡ d → Rest (claims.reasons_below b c)
          go a (blocked s k) e = below_blocked a s k e
          go a (leaf u i j us vs) e =
              below_answers (λ s k h. let r = (blocked_only s k h).1 in let z : ◌≡◌ {A = ℕ} 0 1 = cc in omega arith)
              (answers b c _ _ _ (searched_parted first second n a u i j us vs e))

    bringing : (r s : Descent) → descend b o x max_height t ≡ r → descend c q y max_height t ≡ s → Rest (claims.reasons_bringing b c)
    bringing (stopped z) s f g =
        let e = ap split_of (searched_at _ s f g) in
        ⊎_elim
        (λ i. inl ((suc t, least, stops_at b o x t fo _ (rw i at f)), rw i at e))
        (λ i. inr (
          λ h. let j = stops_only b o x t fo _ (rw (least_only h.0 h.1) at h.2) in let y : ◌≡◌ {A = ℕ} 0 1 = cc in omega arith,
          inl ((suc t, least, stops_at b o x t fo _ (rw i at f)), rw i at e),
        ))
        (descend_causes b o x max_height t z f)
    bringing (arrived l qs) (stopped z) f g =
        let e = ap split_of (searched_at _ _ f g) in
        ⊎_elim
        (λ i. inr (
          first_goes l qs f cause.Shape,
          inr (first_goes l qs f cause.Link, inl ((suc t, least, stops_at c q y t so _ (rw i at g)), rw i at e)),
        ))
        (λ i. inr (
          first_goes l qs f cause.Shape,
          inr (
            first_goes l qs f cause.Link,
            inr (
              λ h. let j = stops_only c q y t so _ (rw (least_only h.0 h.1) at h.2) in let y : ◌≡◌ {A = ℕ} 0 1 = cc in omega arith,
              inl ((suc t, least, stops_at c q y t so _ (rw i at g)), rw i at e),
            ),
          ),
        ))
        (descend_causes c q y max_height t z g)
    bringing (arrived l qs) (arrived m rs) f g = inr (
      first_goes l qs f cause.Shape,
      inr (
        first_goes l qs f cause.Link,
        inr (second_goes m rs g cause.Shape, inr (second_goes m rs g cause.Link, below l m qs rs f g)),
      ),
    )

  -- one log is empty
  none : (o m q k : ℕ) → opened_log b ≡ opening_at o m → opened_log c ≡ opening_at q k → min m k ≡ 0 → Rest (claims.reasons_bringing b c)
  none o m q k fo so n = inr (
    λ h. not_least h.0 h.1,
    inr (
      λ h. not_least h.0 h.1,
      inr (
        λ h. not_least h.0 h.1,
        inr (
          λ h. not_least h.0 h.1,
          below_answers (λ s z h. not_least h.0 h.3) (answers b c _ _ _ (searched_none b c o m q k fo so n)),
        ),
      ),
    ),
  )
    where
      not_least : (j : ℕ) → claims.Least b c j → ⊥
      not_least j h = let g = opens_at c q k _ so (opens_at b o m _ fo h) in omega (arith, g.0, g.1, n)

  opening_both : (o m q k n : ℕ) → opened_log b ≡ opening_at o m → opened_log c ≡ opening_at q k → min m k ≡ n
      → Rest (claims.reasons_bringing b c)
  opening_both o m q k zero fo so n = none o m q k fo so n
  opening_both o (suc x) q (suc y) (suc t) fo so n =
      bringing o x q y t fo so n (descend b o x max_height t) (descend c q y max_height t) refl refl
  opening_both o zero q k (suc t) fo so n = absurd (omega arith)
  opening_both o (suc x) q zero (suc t) fo so n = absurd (omega arith)

  decided : (r s : Option Opened) → opened_log b ≡ r → opened_log c ≡ s → Rest (claims.reasons b c)
  unfolding searched
  decided None s f g = inl (f, rw f refl)
  decided (Some l) None f g =
      inr (λ h. let z : ◌≡◌ {A = ℕ} 0 1 = cc in omega arith, inl (g, rw (f, g) refl))
  decided (Some l) (Some r) f g = inr (
    λ h. let z : ◌≡◌ {A = ℕ} 0 1 = cc in omega arith,
    inr (λ h. let z : ◌≡◌ {A = ℕ} 0 1 = cc in omega arith, opening_both l.start l.count r.start r.count (min l.count r.count) f g refl),
  )

pub search_decided : claims.SearchDecided
search_decided b c = decided b c (opened_log b) (opened_log c) refl refl
