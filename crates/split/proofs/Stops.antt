-- Going down, in any bytes: its turns, the unequal nodes at which it is refused, and the leaf digests to which it leads.
-- Assumes nothing.
use mathlib.Core.List.{List, []}
use mathlib.Core.Logic.{◌⊎◌, inl, inr}
use mathlib.Core.Path.{◌≡◌, refl, sym, ap, ◌∙◌}
use Prim.Native.Nat.{ℕ, zero, suc, ◌-◌, ◌≤◌, ◌<◌}
use native.Mathlib.Omega.{arith}
use Rattle.std.specs.Prelude.{Err, Ok}
use Rattle.slate.specs.Bytes.{same}
use Rattle.slate.specs.Digits.{base, digit, left, ones_below}
use Rattle.entry.specs.Read.{digest_at, digest_place, left_digest_at}
use Rattle.entry.specs.Walk.{Place, arrived, descend, left_step}
use Rattle.entry.specs.declared.Cause.{Cause}
use Rattle.entry.specs.declared.Cause.TheVariants as cause
use Rattle.entry.specs.Walk.{Step}
use Rattle.split.specs.Below.{Below, after_both, blocked, down, leaf, reading_both}
use Rattle.split.specs.Claims as claims
use Rattle.split.specs.declared.Side.{Side}
use Rattle.split.specs.declared.Side.TheVariants as side
use Rattle.slate.proofs.Bits.{base_le, left_base, left_end, left_lt, left_pred, no_left}
use Rattle.slate.proofs.Cases.{by_bool, by_digit}
use Rattle.slate.proofs.Lists.{same_false, same_true}
use Rattle.entry.proofs.Descents.{descend_here, descend_none, descend_right, left_step_to}
use Rattle.split.proofs.Downs.{by_down, down_highest, down_left, down_right, left_entry, step_descends}

-- ---- digests

ones_none : (x p : ℕ) → digit x p ≡ 0 → ones_below x (suc p) ≡ ones_below x p
unfolding ones_below
ones_none x p d = omega (arith, d)

-- the digest of the highest node of height at most p + 1 is that of height at most p, where there is no node of height p + 1
digest_none : (b : List ℕ) (o x p : ℕ) → digit x p ≡ 0 → digest_at b o x (suc p) ≡ digest_at b o x p
unfolding digest_at digest_place
digest_none b o x p d = rw (ones_none x p d)

module _ (b c : List ℕ) (o q x p : ℕ) where
  none_differ : digit x p ≡ 0 → (digest_at b o x (suc p) ≡ digest_at c q x (suc p) → ⊥) → digest_at b o x p ≡ digest_at c q x p → ⊥
  none_differ d n e = n (digest_none b o x p d ∙ e ∙ sym (digest_none c q x p d))

  -- left steps from left digests that differ lead to nodes that differ
  left_differ : (l m : ℕ) → left_step b o x p ≡ Ok l → left_step c q x p ≡ Ok m
      → (left_digest_at b o x p ≡ left_digest_at c q x p → ⊥) → digest_at b l (left x p) p ≡ digest_at c m (left x p) p → ⊥
  left_differ l m f s n e = n (sym (left_step_to b o x p l f).2 ∙ e ∙ (left_step_to c q x p m s).2)

-- from digests that differ, the way down leads to leaf digests that differ
pub leaves_differ : (b c : List ℕ) (o q x h t l m : ℕ) (qs rs : List Place) → (digest_at b o x h ≡ digest_at c q x h → ⊥)
    → down b c o q x h ≡ leaf t l m qs rs → digest_at b l t 0 ≡ digest_at c m t 0 → ⊥
unfolding down
leaves_differ b c o q x zero t l m qs rs n h e =
    let i : t ≡ x = cc in
    let j : l ≡ o = cc in
    let k : m ≡ q = cc in
    n (rw (i, j, k) at e)
leaves_differ b c o q x (suc p) t l m qs rs n h e =
    by_down b c o q x p t l m qs rs h
    (λ d f. leaves_differ b c o q x p t l m qs rs (none_differ b c o q x p d n) f e)
    (λ d g u f. leaves_differ b c o q x p t l m qs rs u f e)
    (λ d u s. leaves_differ b c s.first s.second (left x p) p t l m s.first_rest s.second_rest
    (left_differ b c o q x p s.first s.second s.first_step s.second_step u) s.below e)

-- ---- refusals

-- why it stops at the nodes of height p + 1 of the entries at position y, which begin at l and r
abbrev Why : List ℕ → List ℕ → ℕ → ℕ → ℕ → ℕ → Side → Cause → Type 0
Why b c l r y p s k =
    ((left_digest_at b l y p ≡ left_digest_at c r y p → ⊥)
    × (((left_step b l y p ≡ Err k) × (s ≡ side.First))
    ⊎ ((e : ℕ) × (left_step b l y p ≡ Ok e) × (left_step c r y p ≡ Err k) × (s ≡ side.Second))))
    ⊎ ((left_digest_at b l y p ≡ left_digest_at c r y p) × (digest_at b l y p ≡ digest_at c r y p) × (s ≡ side.Both) × (k ≡ cause.Link))

-- the nodes at which the way down from the entries at position x stops
pub record Stop (b c : List ℕ) (o q x h : ℕ) (s : Side) (k : Cause) : Type 0 where
  pub place : ℕ
  pub height : ℕ
  pub first : ℕ
  pub second : ℕ
  pub first_reads : List Place
  pub second_reads : List Place
  pub low : base x h ≤ place
  pub high : place ≤ x
  pub under : height < h
  pub set : digit place height ≡ 1
  pub first_run : descend b o x h place ≡ arrived first first_reads
  pub second_run : descend c q x h place ≡ arrived second second_reads
  pub differ : digest_at b first place (suc height) ≡ digest_at c second place (suc height) → ⊥
  pub why : Why b c first second place height s k

module _ (b c : List ℕ) (o q x p : ℕ) (s : Side) (k : Cause) where
  stop_here : digit x p ≡ 1 → (digest_at b o x (suc p) ≡ digest_at c q x (suc p) → ⊥) → Why b c o q x p s k → Stop b c o q x (suc p) s k
  stop_here d n w = record {
    place = x;
    height = p;
    first = o;
    second = q;
    first_reads = [];
    second_reads = [];
    low = base_le x (suc p);
    high = omega arith;
    under = omega arith;
    set = d;
    first_run = descend_here b o x (suc p);
    second_run = descend_here c q x (suc p);
    differ = n;
    why = w;
  }

  -- where the descents go on in these entries
  stop_inside : (z : Stop b c o q x p s k) → base x (suc p) ≤ z.place → descend b o x (suc p) z.place ≡ descend b o x p z.place
      → descend c q x (suc p) z.place ≡ descend c q x p z.place → Stop b c o q x (suc p) s k
  stop_inside z le f g = record {
    place = z.place;
    height = z.height;
    first = z.first;
    second = z.second;
    first_reads = z.first_reads;
    second_reads = z.second_reads;
    low = le;
    high = z.high;
    under = omega (arith, z.under);
    set = z.set;
    first_run = f ∙ z.first_run;
    second_run = g ∙ z.second_run;
    differ = z.differ;
    why = z.why;
  }

  stop_none : digit x p ≡ 0 → Stop b c o q x p s k → Stop b c o q x (suc p) s k
  stop_none d z = stop_inside z (omega (arith, z.low, no_left x p d)) (descend_none b o x p _ d) (descend_none c q x p _ d)

  stop_right : digit x p ≡ 1 → Stop b c o q x p s k → Stop b c o q x (suc p) s k
  stop_right d z =
      stop_inside z (omega (arith, z.low, left_end x p d)) (descend_right b o x p _ d z.low) (descend_right c q x p _ d z.low)

  stop_left : digit x p ≡ 1 → (l m : ℕ) → left_step b o x p ≡ Ok l → left_step c q x p ≡ Ok m → Stop b c l m (left x p) p s k
      → Stop b c o q x (suc p) s k
  stop_left d l m f g z =
      let before : z.place < base x p = omega (arith, z.high, left_pred x p d) in
      record {
        place = z.place;
        height = z.height;
        first = z.first;
        second = z.second;
        first_reads = _;
        second_reads = _;
        low = omega (arith, z.low, left_base x p d);
        high = omega (arith, z.high, left_lt x p d);
        under = omega (arith, z.under);
        set = z.set;
        first_run = step_descends b o x p _ _ _ d before
            (record { to = l; rest = z.first_reads; stepped = f; below = z.first_run; reads = refl });
        second_run = step_descends c q x p _ _ _ d before
            (record { to = m; rest = z.second_reads; stepped = g; below = z.second_run; reads = refl });
        differ = z.differ;
        why = z.why;
      }

pub down_stops : (b c : List ℕ) (o q x h : ℕ) (s : Side) (k : Cause) → (digest_at b o x h ≡ digest_at c q x h → ⊥)
    → down b c o q x h ≡ blocked s k → Stop b c o q x h s k
unfolding down
down_stops b c o q x zero s k n e = let z : ◌≡◌ {A = ℕ} 0 1 = cc in absurd (omega arith)
down_stops b c o q x (suc p) s k n e =
    by_digit x p
    (λ d. stop_none b c o q x p s k d (down_stops b c o q x p s k (none_differ b c o q x p d n) (rw d at e)))
    (λ d. by_bool (same (left_digest_at b o x p) (left_digest_at c q x p))
    (λ f. by_bool (same (digest_at b o x p) (digest_at c q x p))
    (λ g.
    let y : blocked side.Both cause.Link ≡ blocked s k = rw (d, f, g) at e in
    stop_here b c o q x p s k d n (inr (same_true _ _ f, same_true _ _ g, cc, cc)))
    (λ g. stop_right b c o q x p s k d (down_stops b c o q x p s k (same_false _ _ g) (rw (d, f, g) at e))))
    (λ f.
    stepped d (same_false _ _ f) (λ l m u h. down_stops b c l m (left x p) p s k u h) (left_step b o x p) (left_step c q x p) refl refl
    (rw (d, f) at e)))
  where
    read : (i j : Place) (w : Below) → reading_both i j w ≡ blocked s k → w ≡ blocked s k
    read i j (leaf t l m qs rs) h = let z : ◌≡◌ {A = ℕ} 0 1 = cc in absurd (omega arith)
    read i j (blocked z y) h = h

    stepped : digit x p ≡ 1 → (left_digest_at b o x p ≡ left_digest_at c q x p → ⊥)
        → ((l m : ℕ) → (digest_at b l (left x p) p ≡ digest_at c m (left x p) p → ⊥) → down b c l m (left x p) p ≡ blocked s k
        → Stop b c l m (left x p) p s k)
        → (u v : Step) → left_step b o x p ≡ u → left_step c q x p ≡ v
        → after_both u v (λ l m. reading_both (left_entry x p l) (left_entry x p m) (down b c l m (left x p) p)) ≡ blocked s k
        → Stop b c o q x (suc p) s k
    stepped d f rest (Err j) v eu ev h =
        let i : j ≡ k = cc in stop_here b c o q x p s k d n (inl (f, inl (rw i at eu, cc)))
    stepped d f rest (Ok l) (Err j) eu ev h =
        let i : j ≡ k = cc in stop_here b c o q x p s k d n (inl (f, inr (l, eu, rw i at ev, cc)))
    stepped d f rest (Ok l) (Ok m) eu ev h =
        stop_left b c o q x p s k d l m eu ev
        (rest l m (left_differ b c o q x p l m eu ev f) (read _ _ (down b c l m (left x p) p) h))

-- ---- the turns

pub down_turns : claims.DownTurns
unfolding left base down
down_turns b c o q i = (
  λ h. down_highest b c o q (i - 1) h,
  refl,
  λ p d n l r f s t e g qs rs h. down_left b c o q (i - 1) p d n l r f s ∙ ap (reading_both _ _) h,
  λ p d e n. down_right b c o q (i - 1) p d e n ∙ down_highest b c o q (i - 1) p,
)
