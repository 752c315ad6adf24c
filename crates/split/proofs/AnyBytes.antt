-- On any bytes: what an answered search has read and says, where the piece starts, and that it depends on the entries read alone.
-- Assumes nothing.
use mathlib.Core.List.{List, ◌∷◌}
use mathlib.Core.Logic.{◌⊎◌, inl, inr}
use mathlib.Core.Path.{◌≡◌, refl, sym, ◌∙◌}
use Prim.Native.Nat.{ℕ, zero, suc, ◌+◌, ◌-◌, ◌≤◌, min}
use native.Mathlib.Omega.{arith}
use borrow.Author.Tests.{le-ltb, lt-ltb}
use lib.ListN.{length, length-append}
use Rattle.slate.specs.Comparison.{Compared, Verdict, by_length, differ_at}
use Rattle.slate.specs.Digits.{max_height}
use Rattle.entry.specs.Read.{digest_at, entry_len_at}
use Rattle.entry.specs.Shape.{opened_log}
use Rattle.entry.specs.Walk.{Kept, Place, arrived, descend}
use Rattle.entry.specs.Opening.{opening_at}
use Rattle.split.specs.Claims as claims
use Rattle.split.specs.Reads.{lefts_below, reads_formula}
use Rattle.split.specs.Search.{Trace, answered, opening, searched}
use Rattle.split.proofs.Brought.{Brought, brought_inside, brought_length, brought_local, brought_reads, brought_same, brought_top}
use Rattle.split.proofs.Brought.{descend_lefts, kept_split, opening_local}
use Rattle.split.proofs.Downs.{down_descends, down_local}
use Rattle.split.proofs.Searches.{by_answered, by_lengths, searched_equal, searched_none, searched_parted}
use Rattle.split.proofs.Stops.{leaves_differ}

-- ---- the entries read

opening_reads : (o n : ℕ) (v : Verdict) → length (opening o n).reads ≡ reads_formula n 0 v
opening_reads o zero v = refl
opening_reads o (suc x) v = refl

-- no difference is named: there is no way down
no_lefts : (n m k : ℕ) → lefts_below n (by_length m k) ≡ 0
no_lefts n m k = by_lengths (λ v. lefts_below n v ≡ 0) m k refl refl refl

pub reads_counted : claims.ReadsCounted
reads_counted b c f a d h =
    by_answered b c
    (λ f a d.
    (o : ℕ) × (q : ℕ) × (opened_log b ≡ opening_at o a.count) × (opened_log c ≡ opening_at q d.count)
    × (length a.reads ≡ reads_formula a.count (min a.count d.count) f.verdict)
    × (length d.reads ≡ reads_formula d.count (min a.count d.count) f.verdict))
    (λ o m q k fo so n.
    rw n (o, q, fo, so, opening_reads o m _, opening_reads q k _))
    (λ o x q y t l m qs rs v w n e.
    rw (n, no_lefts (suc t) (suc x) (suc y))
    (o, q, v.opens, w.opens, omega (arith, brought_reads v), omega (arith, brought_reads w)))
    (λ o x q y t l m qs rs v w n e u i j us vs r.
    let g = down_descends b c l m t max_height u i j us vs r in
    rw n (
      o,
      q,
      v.opens,
      w.opens,
      omega (arith, brought_reads v, length-append qs us, descend_lefts b l t u i us g.1 (brought_inside v).few g.2),
      omega (arith, brought_reads w, length-append rs vs, descend_lefts c m t u j vs g.1 (brought_inside w).few g.3),
    ))
    f a d h

-- ---- what an answer says

-- entry t + 1 of a log that is brought to it
pub brought_reaches : {b : List ℕ} {o x t l : ℕ} {qs : List Place} → Brought b o x t l qs → (n : ℕ) → n ≡ suc t → claims.Reaches b n l
brought_reaches {o = o} {x} {t} {qs = qs} v n e =
    let i : suc x - 1 ≡ x = omega arith in
    let j : n - 1 ≡ t = omega arith in
    (o, suc x, v.opens, (qs, rw (i, j) v.run))

pub answer_says : claims.AnswerSays
answer_says b c f a d n h en =
    by_answered b c
    (λ f a d. n ≡ min a.count d.count
    → ((f ≡ record { common = n; verdict = by_length a.count d.count })
    × ((n ≡ 0)
    ⊎ ((l : ℕ) × (r : ℕ) × claims.Reaches b n l × claims.Reaches c n r
    × (digest_at b l (n - 1) max_height ≡ digest_at c r (n - 1) max_height))))
    ⊎ ((i : ℕ) × (1 ≤ i) × (i ≤ n) × (f ≡ record { common = i - 1; verdict = differ_at i })
    × (l : ℕ) × (r : ℕ) × claims.Reaches b n l × claims.Reaches c n r
    × (digest_at b l (n - 1) max_height ≡ digest_at c r (n - 1) max_height → ⊥)
    × (e : ℕ) × (g : ℕ) × claims.Leads b n l i e × claims.Leads c n r i g × (digest_at b e (i - 1) 0 ≡ digest_at c g (i - 1) 0 → ⊥)))
    (λ o m q k fo so z en. let i : n ≡ 0 = omega (arith, z, en) in inl (rw i, inl i))
    (λ o x q y t l m qs rs v w z e en.
    let i : n ≡ suc t = omega (arith, z, en) in
    let j : n - 1 ≡ t = omega arith in
    inl (rw i, inr (l, m, brought_reaches v n i, brought_reaches w n i, rw j e)))
    (λ o x q y t l m qs rs v w z e u i j us vs r en.
    let g = down_descends b c l m t max_height u i j us vs r in
    let en : n ≡ suc t = omega (arith, z, en) in
    let et : n - 1 ≡ t = omega arith in
    let eu : suc u - 1 ≡ u = omega arith in
    inr (
      suc u,
      omega arith,
      omega (arith, g.1),
      rw eu,
      l,
      m,
      brought_reaches v n en,
      brought_reaches w n en,
      rw et e,
      i,
      j,
      (us, rw (et, eu) g.2),
      (vs, rw (et, eu) g.3),
      rw eu (leaves_differ b c l m t max_height u i j us vs e r),
    ))
    f a d h en

-- ---- where the piece starts

-- no place of difference where the verdict is by the lengths
not_differ : (m k i : ℕ) → by_length m k ≡ differ_at i → ⊥
not_differ m k i h =
    let z : ◌≡◌ {A = ℕ} 0 1 = by_lengths (λ v. v ≡ differ_at i → ◌≡◌ {A = ℕ} 0 1) m k (λ g. cc) (λ g. cc) (λ g. cc) h in
    omega arith

starts_ended : {b : List ℕ} {o x t l : ℕ} {qs : List Place} → Brought b o x t l qs → (n m k : ℕ) → n ≡ suc t
    → claims.Starts b n (by_length m k) (l + entry_len_at b l t)
starts_ended {t = t} {l} v n m k e =
    let i : n - 1 ≡ t = omega arith in
    (λ z. absurd (omega arith), λ i h. absurd (not_differ m k i h), λ le no. (l, brought_reaches v n e, rw i refl))

starts_parted : {b : List ℕ} {o x t l : ℕ} {qs : List Place} → Brought b o x t l qs → (n u e : ℕ) (us : List Place) → n ≡ suc t
    → descend b l t max_height u ≡ arrived e us → claims.Starts b n (differ_at (suc u)) e
starts_parted {t = t} {l} v n u e us en r =
    let et : n - 1 ≡ t = omega arith in (
      λ z. absurd (omega arith),
      λ i h.
          let ei : i ≡ suc u = cc in
          let eu : i - 1 ≡ u = omega arith in
          (l, brought_reaches v n en, (us, rw (et, eu) r)),
      λ le no. absurd (no (suc u) refl),
    )

starts : (b c : List ℕ) (f : Compared) (a d : Trace) (n : ℕ) → searched b c ≡ answered f a d → n ≡ min a.count d.count
    → claims.Starts b n f.verdict a.at × claims.Starts c n f.verdict d.at
starts b c f a d n h en =
    by_answered b c
    (λ f a d. n ≡ min a.count d.count → claims.Starts b n f.verdict a.at × claims.Starts c n f.verdict d.at)
    (λ o m q k fo so z en. (
      (λ e. refl, λ i h. absurd (not_differ m k i h), λ le no. absurd (omega (arith, z, en))),
      (λ e. refl, λ i h. absurd (not_differ m k i h), λ le no. absurd (omega (arith, z, en))),
    ))
    (λ o x q y t l m qs rs v w z e en.
    let i : n ≡ suc t = omega (arith, z, en) in
    (starts_ended v n (suc x) (suc y) i, starts_ended w n (suc x) (suc y) i))
    (λ o x q y t l m qs rs v w z e u i j us vs r en.
    let g = down_descends b c l m t max_height u i j us vs r in
    let en : n ≡ suc t = omega (arith, z, en) in
    (starts_parted v n u i us en g.2, starts_parted w n u j vs en g.3))
    f a d h en

pub piece_starts : claims.PieceStarts
piece_starts b c f a d p n h e en =
    let s = starts b c f a d n h en in (
      λ le. rw (e, h, le-ltb a.count d.count le) (refl, s.0),
      λ lt. rw (e, h, lt-ltb a.count d.count lt) (refl, s.1),
    )

-- ---- what was not read

pub unread_free : claims.UnreadFree
unread_free b c b' c' f a d lb lc h =
    by_answered b c (λ f a d. Kept b b' a.reads → Kept c c' d.reads → searched b' c' ≡ answered f a d)
    (λ o m q k fo so n kb kc.
    searched_none b' c' o m q k (opening_local b b' o m lb fo kb) (opening_local c c' q k lc so kc) n)
    (λ o x q y t l m qs rs v w n e kb kc.
    rw (brought_length v b' lb kb, brought_length w c' lc kc)
    (searched_equal (brought_local v b' lb kb) (brought_local w c' lc kc) n
    (sym (brought_top v b' lb kb) ∙ e ∙ brought_top w c' lc kc)))
    (λ o x q y t l m qs rs v w n e u i j us vs r kb kc.
    let sb = kept_split b b' (record { begins = o; position = x } ∷ qs) us kb in
    let sc = kept_split c c' (record { begins = q; position = y } ∷ rs) vs kc in
    searched_parted (brought_local v b' lb sb.0) (brought_local w c' lc sc.0) n
    (λ g. e (brought_top v b' lb sb.0 ∙ g ∙ sym (brought_top w c' lc sc.0)))
    u i j us vs
    (down_local b c b' c' lb lc l m t max_height u i j us vs (omega arith)
    (brought_same v b' lb sb.0) (brought_same w c' lc sc.0) r sb.1 sc.1))
    f a d h
