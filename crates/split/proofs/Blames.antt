-- A refusal never names a well-formed log alone.
-- Assumes nothing.
use mathlib.Core.List.{List, [], ◌∷◌}
use mathlib.Core.Logic.{inl, inr, ⊎_elim}
use mathlib.Core.Path.{◌≡◌, sym, ap, ◌∙◌}
use Prim.Native.Nat.{ℕ, ◌-◌, ◌≤◌, ◌<◌}
use native.Mathlib.Omega.{arith}
use lib.ListN.{length}
use Rattle.std.specs.Prelude.{Err}
use Rattle.sha256.specs.Reasons.{Decided, Reason}
use Rattle.slate.specs.Digits.{base, digit, max_height}
use Rattle.slate.specs.Length.{offset}
use Rattle.entry.specs.Log.{Values, log}
use Rattle.entry.specs.Reasons.{Unopened}
use Rattle.entry.specs.Walk.{Place, arrived, descend, left_step}
use Rattle.entry.specs.declared.Cause.{Cause}
use Rattle.split.specs.Answer.{Split, split_of}
use Rattle.split.specs.Claims as claims
use Rattle.split.specs.Search.{searched}
use Rattle.split.specs.declared.Side.TheVariants as side
use Rattle.slate.proofs.Bits.{whole_base}
use Rattle.entry.proofs.Claimed.{opening_counts}
use Rattle.entry.proofs.LogDescent.{descend_log}
use Rattle.entry.proofs.LogShape.{log_left_step}
use Rattle.entry.proofs.Reached.{log_reached}
use Rattle.entry.proofs.WholeLog.{holds_self}
use Rattle.split.proofs.Decisions.{opens_at, search_decided}
use Rattle.split.proofs.Stops.{down_stops}

-- a decision by its cases
abbrev Cases : List (Reason Split) → (Split → Type 0) → Split → Type 0 → Type 0
Cases [] P s Q = (P s → Q) → Q
Cases (r ∷ rs) P s Q = (r.when → s ≡ r.answer → Q) → Cases rs P s Q

decided_case : (rs : List (Reason Split)) (P : Split → Type 0) (s : Split) (Q : Type 0) → Q → Cases rs P s Q
decided_case [] P s Q q = λ f. q
decided_case (r ∷ rs) P s Q q = λ f. decided_case rs P s Q q

by_reasons : (rs : List (Reason Split)) (P : Split → Type 0) (s : Split) (Q : Type 0) → Decided rs P s → Cases rs P s Q
by_reasons [] P s Q d = λ f. f d
by_reasons (r ∷ rs) P s Q (inl (h, e)) = λ f. decided_case rs P s Q (f h e)
by_reasons (r ∷ rs) P s Q (inr (_, d)) = λ f. by_reasons rs P s Q d

-- a refusal that names side t does not name another
names : (s : Split) (k t u : ℕ) → s ≡ claims.zeros k t → s.side ≡ u → t ≡ u
names s k t u e i = sym (ap (λ (r : Split). r.side) e) ∙ i

module _ (vs : List (List ℕ)) (ok : Values vs) where
  -- it opens
  opens : Unopened (log vs) → ⊥
  opens h = let e = opening_counts vs ok in let z : ◌≡◌ {A = ℕ} 0 1 = cc in omega arith

  -- it is brought to each entry n
  module _ (n : ℕ) (low : 1 ≤ n) (high : n ≤ length vs) where
    goes : (k : Cause) → claims.Stops (log vs) n k → ⊥
    goes k h =
        let e = opens_at (log vs) _ _ _ (opening_counts vs ok) h in
        let r = log_reached vs ok (n - 1) (omega arith) in
        let z : ◌≡◌ {A = ℕ} 0 1 = cc in
        omega arith

    lies : (l : ℕ) → claims.Reaches (log vs) n l → l ≡ offset vs (n - 1)
    lies l h =
        let e = opens_at (log vs) _ _ _ (opening_counts vs ok) h in
        let r = log_reached vs ok (n - 1) (omega arith) in
        cc (e.1, r)

    -- and on the way down from there no left step fails
    steps : (l y p e : ℕ) (qs : List Place) (k : Cause) → claims.Reaches (log vs) n l → y ≤ n - 1 → p < max_height → digit y p ≡ 1
        → descend (log vs) l (n - 1) max_height y ≡ arrived e qs → left_step (log vs) e y p ≡ Err k → ⊥
    steps l y p e qs k h le lt d r f =
        let w = holds_self vs ok in
        let whole : base (n - 1) max_height ≡ 0 = whole_base (n - 1) max_height (omega (arith, ok.few)) in
        let g = descend_log w y (n - 1) max_height (omega (arith, whole)) le (omega arith) (omega arith) in
        let el : l ≡ offset vs (n - 1) = lies l h in
        let ee : e ≡ offset vs y = cc (rw el at r, g) in
        let s = log_left_step w y p (omega arith) lt d in
        let i = rw ee at f in
        let z : ◌≡◌ {A = ℕ} 0 1 = cc in
        omega arith

  module _ (c : List ℕ) where
    -- it is the first log
    first_least : (n : ℕ) → claims.Least (log vs) c n → (1 ≤ n) × (n ≤ length vs)
    first_least n h =
        let (q, k, e, (i, j)) = opens_at (log vs) _ _ _ (opening_counts vs ok) h in
        (j, omega arith)

    first_blocked : (k : Cause) → claims.Blocked (log vs) c side.First k → ⊥
    first_blocked k (n, l, r, h, i, j, a, e) =
        let b = first_least n h in
        let z = down_stops (log vs) c l r (n - 1) max_height side.First k a e in
        ⊎_elim
        (λ u. ⊎_elim
        (λ w. steps n b.0 b.1 l z.place z.height z.first _ k i z.high z.under z.set z.first_run w.0)
        (λ w. let s = w.3 in let z : ◌≡◌ {A = ℕ} 0 1 = cc in omega arith)
        u.1)
        (λ u. let s = u.2 in let z : ◌≡◌ {A = ℕ} 0 1 = cc in omega arith)
        z.why

    pub first_fair : (split_of (searched (log vs) c)).side ≡ 1 → ⊥
    first_fair i =
        by_reasons (claims.reasons (log vs) c) (claims.Answers (log vs) c) (split_of (searched (log vs) c)) ⊥ (search_decided (log vs) c)
        (λ h e. opens h)
        (λ h e. omega (arith, names _ 6 2 1 e i))
        (λ h e. let b = first_least h.0 h.1 in goes h.0 b.0 b.1 _ h.2)
        (λ h e. let b = first_least h.0 h.1 in goes h.0 b.0 b.1 _ h.2)
        (λ h e. omega (arith, names _ 6 2 1 e i))
        (λ h e. omega (arith, names _ 7 2 1 e i))
        (λ h e. first_blocked _ h)
        (λ h e. first_blocked _ h)
        (λ h e. omega (arith, names _ 6 2 1 e i))
        (λ h e. omega (arith, names _ 7 2 1 e i))
        (λ h e. omega (arith, names _ 7 3 1 e i))
        (λ (f, a, d, e, k, p, t, r). omega (arith, ap (λ (s : Split). s.side) r, i))

    -- it is the second
    second_least : (n : ℕ) → claims.Least c (log vs) n → (1 ≤ n) × (n ≤ length vs)
    second_least n (o, m, e, h) =
        let (i, j) = opens_at (log vs) _ _ _ (opening_counts vs ok) h in
        (j, omega arith)

    second_blocked : (k : Cause) → claims.Blocked c (log vs) side.Second k → ⊥
    second_blocked k (n, l, r, h, i, j, a, e) =
        let b = second_least n h in
        let z = down_stops c (log vs) l r (n - 1) max_height side.Second k a e in
        ⊎_elim
        (λ u. ⊎_elim
        (λ w. let s = w.1 in let z : ◌≡◌ {A = ℕ} 0 1 = cc in omega arith)
        (λ w. steps n b.0 b.1 r z.place z.height z.second _ k j z.high z.under z.set z.second_run w.2)
        u.1)
        (λ u. let s = u.2 in let z : ◌≡◌ {A = ℕ} 0 1 = cc in omega arith)
        z.why

    pub second_fair : (split_of (searched c (log vs))).side ≡ 2 → ⊥
    second_fair i =
        by_reasons (claims.reasons c (log vs)) (claims.Answers c (log vs)) (split_of (searched c (log vs))) ⊥ (search_decided c (log vs))
        (λ h e. omega (arith, names _ 6 1 2 e i))
        (λ h e. opens h)
        (λ h e. omega (arith, names _ 6 1 2 e i))
        (λ h e. omega (arith, names _ 7 1 2 e i))
        (λ h e. let b = second_least h.0 h.1 in goes h.0 b.0 b.1 _ h.2)
        (λ h e. let b = second_least h.0 h.1 in goes h.0 b.0 b.1 _ h.2)
        (λ h e. omega (arith, names _ 6 1 2 e i))
        (λ h e. omega (arith, names _ 7 1 2 e i))
        (λ h e. second_blocked _ h)
        (λ h e. second_blocked _ h)
        (λ h e. omega (arith, names _ 7 3 2 e i))
        (λ (f, a, d, e, k, p, t, r). omega (arith, ap (λ (s : Split). s.side) r, i))

pub blame_fair : claims.BlameFair
blame_fair vs c ok = (first_fair vs ok c, second_fair vs ok c)
