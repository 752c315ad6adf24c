-- The whole search, in any bytes: what it answers in each of its cases, and an answer by cases.
-- Assumes nothing.
use mathlib.Core.List.{List, ◌∷◌, ◌++◌}
use mathlib.Core.Path.{◌≡◌, refl, ◌∙◌}
use Prim.Native.Nat.{ℕ, zero, suc, ◌+◌, ◌-◌, min}
use native.Mathlib.Omega.{arith}
use lib.Dec.{eqb, ltb}
use Rattle.std.specs.Prelude.{None, Option, Some}
use Rattle.slate.specs.Bytes.{same}
use Rattle.slate.specs.Comparison.{Compared, Verdict, by_length, differ_at, equal, first_shorter, second_shorter}
use Rattle.slate.specs.Digits.{max_height}
use Rattle.entry.specs.Read.{digest_at, entry_len_at}
use Rattle.entry.specs.Shape.{opened_log}
use Rattle.entry.specs.Walk.{Descent, Place, arrived, descend, stopped}
use Rattle.entry.specs.declared.Cause.{Cause}
use Rattle.entry.specs.declared.Opened.{Opened}
use Rattle.entry.specs.Opening.{opening_at}
use Rattle.split.specs.Below.{Below, blocked, down, leaf}
use Rattle.split.specs.Search.{Trace, answered, opening, refused, search_at, search_below, search_brought, search_from, search_opened, searched}
use Rattle.split.specs.declared.Side.{Side}
use Rattle.slate.proofs.Cases.{by_bool}
use Rattle.slate.proofs.Lists.{same_false, same_ne, same_refl, same_true}
use Rattle.split.proofs.Brought.{Brought}

-- ---- what is answered

-- n values in common, and none differs
abbrev pub ended : ℕ → ℕ → ℕ → Compared
ended n m k = record { common = n; verdict = by_length m k }

pub by_lengths {ℓ} : (P : Verdict → Type ℓ) (m k : ℕ) → P equal → P first_shorter → P second_shorter → P (by_length m k)
unfolding by_length
by_lengths P m k e f s = by_bool (eqb m k) (λ g. rw g e) (λ g. by_bool (ltb m k) (λ h. rw (g, h) f) (λ h. rw (g, h) s))

-- the values at position u differ
abbrev pub parted : ℕ → Compared
parted u = record { common = u; verdict = differ_at (suc u) }

-- a log of x + 1 entries, the last of which begins at o, that is left at e with the entries qs read
abbrev pub trace_to : ℕ → ℕ → List Place → ℕ → Trace
trace_to o x qs e = record { count = suc x; reads = record { begins = o; position = x } ∷ qs; at = e }

pub opening_count : (o n : ℕ) → (opening o n).count ≡ n
opening_count o zero = refl
opening_count o (suc x) = refl

-- a log of n entries that is left at 0, where nothing but its opening is read
abbrev pub unmoved : ℕ → ℕ → Trace
unmoved o n = record { count = n; reads = (opening o n).reads; at = 0 }

-- one log is empty
pub searched_none : (b c : List ℕ) (o m q k : ℕ) → opened_log b ≡ opening_at o m → opened_log c ≡ opening_at q k → min m k ≡ 0
    → searched b c ≡ answered (ended 0 m k) (unmoved o m) (unmoved q k)
unfolding searched
searched_none b c o m q k f s n = rw (f, s, n, opening_count o m, opening_count q k)

module _ {b : List ℕ} {o x t l : ℕ} {qs : List Place} (a : Brought b o x t l qs)
    {c : List ℕ} {q y m : ℕ} {rs : List Place} (d : Brought c q y t m rs) (n : min (suc x) (suc y) ≡ suc t) where
  searched_brought : searched b c ≡ search_at b c t (trace_to o x qs l) (trace_to q y rs m)
  unfolding searched
  searched_brought =
      let ex : suc x - 1 ≡ x = omega arith in
      let ey : suc y - 1 ≡ y = omega arith in
      rw (a.opens, d.opens, n, ex, ey, a.run, d.run)

  pub searched_equal : digest_at b l t max_height ≡ digest_at c m t max_height
      → searched b c
      ≡ answered (ended (suc t) (suc x) (suc y)) (trace_to o x qs (l + entry_len_at b l t)) (trace_to q y rs (m + entry_len_at c m t))
  searched_equal e = searched_brought ∙ rw (e, same_refl (digest_at c m t max_height))

  pub searched_parted : (digest_at b l t max_height ≡ digest_at c m t max_height → ⊥)
      → (u i j : ℕ) (us vs : List Place) → down b c l m t max_height ≡ leaf u i j us vs
      → searched b c ≡ answered (parted u) (trace_to o x (qs ++ us) i) (trace_to q y (rs ++ vs) j)
  searched_parted e u i j us vs r =
      searched_brought ∙ rw (same_ne (digest_at b l t max_height) (digest_at c m t max_height) e, r)

-- ---- an answer by cases

module _ (b c : List ℕ) (P : Compared → Trace → Trace → Type 0)
    (none : (o m q k : ℕ) → opened_log b ≡ opening_at o m → opened_log c ≡ opening_at q k → min m k ≡ 0
    → P (ended 0 m k) (unmoved o m) (unmoved q k))
    (agree : (o x q y t l m : ℕ) (qs rs : List Place) → Brought b o x t l qs → Brought c q y t m rs → min (suc x) (suc y) ≡ suc t
    → digest_at b l t max_height ≡ digest_at c m t max_height
    → P (ended (suc t) (suc x) (suc y)) (trace_to o x qs (l + entry_len_at b l t)) (trace_to q y rs (m + entry_len_at c m t)))
    (differ : (o x q y t l m : ℕ) (qs rs : List Place) → Brought b o x t l qs → Brought c q y t m rs → min (suc x) (suc y) ≡ suc t
    → (digest_at b l t max_height ≡ digest_at c m t max_height → ⊥)
    → (u i j : ℕ) (us vs : List Place) → down b c l m t max_height ≡ leaf u i j us vs
    → P (parted u) (trace_to o x (qs ++ us) i) (trace_to q y (rs ++ vs) j))
    (f : Compared) (a d : Trace)
  where
    -- the case's answer is the answer
    answers : (g : Compared) (r s : Trace) → answered g r s ≡ answered f a d → P g r s → P f a d
    answers g r s e p =
        let i : f ≡ g = cc in
        let j : a ≡ r = cc in
        let k : d ≡ s = cc in
        rw (i, j, k) p

    -- a refusal is none
    no_answer : (s : Side) (k : Cause) → refused s k ≡ answered f a d → P f a d
    no_answer s k e = let z : ◌≡◌ {A = ℕ} 0 1 = cc in absurd (omega arith)

    module _ (o x q y t : ℕ) (fo : opened_log b ≡ opening_at o (suc x)) (so : opened_log c ≡ opening_at q (suc y))
        (n : min (suc x) (suc y) ≡ suc t) where
      at_entry : (l m : ℕ) (qs rs : List Place) → Brought b o x t l qs → Brought c q y t m rs
          → search_at b c t (trace_to o x qs l) (trace_to q y rs m) ≡ answered f a d → P f a d
      at_entry l m qs rs v w e =
          by_bool (same (digest_at b l t max_height) (digest_at c m t max_height))
          (λ g. answers _ _ _ (rw g at e) (agree o x q y t l m qs rs v w n (same_true _ _ g)))
          (λ g. below (down b c l m t max_height) refl (rw g at e) (same_false _ _ g))
        where
          below : (r : Below) → down b c l m t max_height ≡ r
              → search_below (trace_to o x qs l) (trace_to q y rs m) r ≡ answered f a d
              → (digest_at b l t max_height ≡ digest_at c m t max_height → ⊥) → P f a d
          below (leaf u i j us vs) r e g = answers _ _ _ e (differ o x q y t l m qs rs v w n g u i j us vs r)
          below (blocked s k) r e g = no_answer s k e

      by_steps : (r s : Descent) → descend b o x max_height t ≡ r → descend c q y max_height t ≡ s
          → search_brought b c t (opening o (suc x)) (opening q (suc y)) r s ≡ answered f a d → P f a d
      by_steps (arrived l qs) (arrived m rs) g h e =
          at_entry l m qs rs
          (record { opens = fo; high = omega arith; run = g }) (record { opens = so; high = omega arith; run = h }) e
      by_steps (arrived l qs) (stopped k) g h e = no_answer _ k e
      by_steps (stopped k) s g h e = no_answer _ k e

    by_counts : (o m q k n : ℕ) → opened_log b ≡ opening_at o m → opened_log c ≡ opening_at q k → min m k ≡ n
        → search_from b c n (opening o m) (opening q k) ≡ answered f a d → P f a d
    by_counts o m q k zero fo so n e = answers _ _ _ (rw (opening_count o m, opening_count q k) at e) (none o m q k fo so n)
    by_counts o (suc x) q (suc y) (suc t) fo so n e =
        let ex : suc x - 1 ≡ x = omega arith in
        let ey : suc y - 1 ≡ y = omega arith in
        by_steps o x q y t fo so n (descend b o x max_height t) (descend c q y max_height t) refl refl (rw (ex, ey) at e)
    by_counts o zero q k (suc t) fo so n e = absurd (omega arith)
    by_counts o (suc x) q zero (suc t) fo so n e = absurd (omega arith)

    by_opened : (r s : Option Opened) → opened_log b ≡ r → opened_log c ≡ s → search_opened b c r s ≡ answered f a d → P f a d
    by_opened (Some l) (Some r) fo so e = by_counts l.start l.count r.start r.count (min l.count r.count) fo so refl e
    by_opened (Some l) None fo so e = no_answer _ _ e
    by_opened None s fo so e = no_answer _ _ e

    pub by_answered : searched b c ≡ answered f a d → P f a d
    unfolding searched
    by_answered e = by_opened (opened_log b) (opened_log c) refl refl e
