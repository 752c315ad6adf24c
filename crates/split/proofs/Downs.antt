-- Down from two unequal tops, in any bytes: its cases, its answer as two descents to a leaf, and that it depends on the entries read.
-- Assumes nothing.
use mathlib.Core.List.{List, ◌∷◌}
use mathlib.Core.Path.{◌≡◌, refl, sym, ap, ap₂, ◌∙◌}
use Prim.Native.Nat.{ℕ, zero, suc, ◌≤◌, ◌<◌}
use native.Mathlib.Omega.{arith}
use lib.ListN.{length}
use Rattle.std.specs.Prelude.{Err, Ok}
use Rattle.slate.specs.Address.{highest}
use Rattle.slate.specs.Bytes.{same}
use Rattle.slate.specs.Digits.{base, digit, left, max_height}
use Rattle.entry.specs.Read.{digest_at, entry_len_at, left_digest_at}
use Rattle.entry.specs.Walk.{Kept, Place, SameEntry, arrived, descend, left_step, reading}
use Rattle.entry.specs.declared.Cause.{Cause}
use Rattle.entry.specs.Walk.{Step}
use Rattle.split.specs.Below.{Below, after_both, blocked, down, leaf, reading_both}
use Rattle.split.specs.declared.Side.{Side}
use Rattle.slate.proofs.Addresses.{to_highest}
use Rattle.slate.proofs.Bits.{base_zero, left_base, left_end, left_lt, left_pred, no_left}
use Rattle.slate.proofs.Cases.{by_bool, by_digit}
use Rattle.slate.proofs.Lists.{same_false, same_ne, same_refl, same_true}
use Rattle.entry.proofs.Descents.{Stepped, descend_left, descend_none, descend_right, left_step_local}
use Rattle.entry.proofs.Shaped.{same_window}
use Rattle.entry.proofs.Windows.{Window, digest_window, left_digest_window}

-- ---- cases

-- a refusal is no leaf
no_leaf {ℓ} : {P : Type ℓ} {s : Side} {k : Cause} {t l m : ℕ} {qs rs : List Place} → blocked s k ≡ leaf t l m qs rs → P
no_leaf e = let z : ◌≡◌ {A = ℕ} 0 1 = cc in absurd (omega arith)

-- the entry of the left child of the node of height p + 1 at position x, where a left step leads to l
abbrev pub left_entry : ℕ → ℕ → ℕ → Place
left_entry x p l = record { begins = l; position = left x p }

-- a way down that goes left in both logs, from the nodes of height p + 1 in the entries at position x
pub record Turned (b c : List ℕ) (o q x p t l m : ℕ) (qs rs : List Place) : Type 0 where
  pub first : ℕ
  pub second : ℕ
  pub first_step : left_step b o x p ≡ Ok first
  pub second_step : left_step c q x p ≡ Ok second
  pub first_rest : List Place
  pub second_rest : List Place
  pub below : down b c first second (left x p) p ≡ leaf t l m first_rest second_rest
  pub first_reads : qs ≡ left_entry x p first ∷ first_rest
  pub second_reads : rs ≡ left_entry x p second ∷ second_rest

module _ (b c : List ℕ) (o q x p : ℕ) where
  pub down_none : digit x p ≡ 0 → down b c o q x (suc p) ≡ down b c o q x p
  unfolding down
  down_none d = rw d

  module _ (d : digit x p ≡ 1) where
    -- left equal: the right child, whose digests differ
    pub down_right : left_digest_at b o x p ≡ left_digest_at c q x p → (digest_at b o x p ≡ digest_at c q x p → ⊥)
        → down b c o q x (suc p) ≡ down b c o q x p
    unfolding down
    down_right e n = rw (d, e, same_refl (left_digest_at c q x p), same_ne (digest_at b o x p) (digest_at c q x p) n)

    pub down_left : (left_digest_at b o x p ≡ left_digest_at c q x p → ⊥)
        → (i j : ℕ) → left_step b o x p ≡ Ok i → left_step c q x p ≡ Ok j
        → down b c o q x (suc p) ≡ reading_both (left_entry x p i) (left_entry x p j) (down b c i j (left x p) p)
    unfolding down
    down_left n i j f s = rw (d, same_ne (left_digest_at b o x p) (left_digest_at c q x p) n, f, s)

  module _ (t l m : ℕ) (qs rs : List Place) where
    reading_turned : (i j : ℕ) → left_step b o x p ≡ Ok i → left_step c q x p ≡ Ok j
        → (d : Below) → down b c i j (left x p) p ≡ d
        → reading_both (left_entry x p i) (left_entry x p j) d ≡ leaf t l m qs rs
        → Turned b c o q x p t l m qs rs
    reading_turned i j f g (leaf t' l' m' us vs) r e =
        record {
          first = i;
          second = j;
          first_step = f;
          second_step = g;
          first_rest = us;
          second_rest = vs;
          below = r ∙ (cc);
          first_reads = cc;
          second_reads = cc;
        }
    reading_turned i j f g (blocked s k) r e = no_leaf e

    after_turned : (r s : Step) → left_step b o x p ≡ r → left_step c q x p ≡ s
        → after_both r s (λ i j. reading_both (left_entry x p i) (left_entry x p j) (down b c i j (left x p) p)) ≡ leaf t l m qs rs
        → Turned b c o q x p t l m qs rs
    after_turned (Ok i) (Ok j) f g e = reading_turned i j f g (down b c i j (left x p) p) refl e
    after_turned (Ok i) (Err k) f g e = no_leaf e
    after_turned (Err k) s f g e = no_leaf e

    -- an answer by cases
    pub by_down {ℓ} : {P : Type ℓ} → down b c o q x (suc p) ≡ leaf t l m qs rs
        → (digit x p ≡ 0 → down b c o q x p ≡ leaf t l m qs rs → P)
        → (digit x p ≡ 1 → left_digest_at b o x p ≡ left_digest_at c q x p → (digest_at b o x p ≡ digest_at c q x p → ⊥)
        → down b c o q x p ≡ leaf t l m qs rs → P)
        → (digit x p ≡ 1 → (left_digest_at b o x p ≡ left_digest_at c q x p → ⊥) → Turned b c o q x p t l m qs rs → P)
        → P
    unfolding down
    by_down h none right turned =
        by_digit x p
        (λ d. none d (rw d at h))
        (λ d. by_bool (same (left_digest_at b o x p) (left_digest_at c q x p))
        (λ e. by_bool (same (digest_at b o x p) (digest_at c q x p))
        (λ f. no_leaf (rw (d, e, f) at h))
        (λ f. right d (same_true _ _ e) (same_false _ _ f) (rw (d, e, f) at h)))
        (λ e. turned d (same_false _ _ e) (after_turned (left_step b o x p) (left_step c q x p) refl refl (rw (d, e) at h))))

-- the way down begins at the highest node
pub down_highest : (b c : List ℕ) (o q x h : ℕ) → down b c o q x h ≡ down b c o q x (highest x h)
down_highest b c o q x h = to_highest x (down b c o q x) (λ p d. down_none b c o q x p d) h

-- ---- two descents

-- a descent that goes left
pub step_descends : (b : List ℕ) (o x p t l : ℕ) (qs : List Place) → digit x p ≡ 1 → t < base x p → Stepped b o x p t l qs
    → descend b o x (suc p) t ≡ arrived l qs
step_descends b o x p t l qs d before s =
    descend_left b o x p t d before s.to s.stepped
    ∙ ap (reading (left_entry x p s.to)) s.below ∙ ap (arrived l) (sym s.reads)

-- the leaf lies under the tops begun with, and in each log a descent to it reads the same entries
pub down_descends : (b c : List ℕ) (o q x h t l m : ℕ) (qs rs : List Place) → down b c o q x h ≡ leaf t l m qs rs
    → (base x h ≤ t) × (t ≤ x) × (descend b o x h t ≡ arrived l qs) × (descend c q x h t ≡ arrived m rs)
unfolding down descend
down_descends b c o q x zero t l m qs rs h = let e : t ≡ x = cc in (omega (arith, base_zero x), omega arith, cc, cc)
down_descends b c o q x (suc p) t l m qs rs h =
    by_down b c o q x p t l m qs rs h
    (λ d e.
    let u = down_descends b c o q x p t l m qs rs e in
    (omega (arith, u.0, no_left x p d), u.1, descend_none b o x p t d ∙ u.2, descend_none c q x p t d ∙ u.3))
    (λ d e n f.
    let u = down_descends b c o q x p t l m qs rs f in (
      omega (arith, u.0, left_end x p d),
      u.1,
      descend_right b o x p t d u.0 ∙ u.2,
      descend_right c q x p t d u.0 ∙ u.3,
    ))
    (λ d n s.
    let u = down_descends b c s.first s.second (left x p) p t l m s.first_rest s.second_rest s.below in
    let before : t < base x p = omega (arith, u.1, left_pred x p d) in (
      omega (arith, u.0, left_base x p d),
      omega (arith, u.1, left_lt x p d),
      step_descends b o x p t l qs d before
          (record { to = s.first; rest = s.first_rest; stepped = s.first_step; below = u.2; reads = s.first_reads }),
      step_descends c q x p t m rs d before
          (record { to = s.second; rest = s.second_rest; stepped = s.second_step; below = u.3; reads = s.second_reads }),
    ))

-- ---- what an answer depends on

-- two logs of the same lengths as these
module _ (b c b' c' : List ℕ) (lb : length b ≡ length b') (lc : length c ≡ length c') where
  -- with the bytes of the entries at position x, and of all the entries read below, they get the same answer
  pub down_local : (o q x h t l m : ℕ) (qs rs : List Place) → h ≤ max_height
      → SameEntry b b' (record { begins = o; position = x }) → SameEntry c c' (record { begins = q; position = x })
      → down b c o q x h ≡ leaf t l m qs rs → Kept b b' qs → Kept c c' rs
      → down b' c' o q x h ≡ leaf t l m qs rs
  unfolding down
  down_local o q x zero t l m qs rs le eb ec h kb kc = h
  down_local o q x (suc p) t l m qs rs le eb ec h kb kc =
      let wb : Window b o b' o (entry_len_at b o x) = same_window b b' o x eb in
      let wc : Window c q c' q (entry_len_at c q x) = same_window c c' q x ec in
      by_down b c o q x p t l m qs rs h
      (λ d e. down_none b' c' o q x p d ∙ down_local o q x p t l m qs rs (omega arith) eb ec e kb kc)
      (λ d e n f.
      down_right b' c' o q x p d (sym (left_digest_window x wb p le d) ∙ e ∙ left_digest_window x wc p le d)
      (λ g. n (digest_window x wb p (omega arith) ∙ g ∙ sym (digest_window x wc p (omega arith))))
      ∙ down_local o q x p t l m qs rs (omega arith) eb ec f kb kc)
      (λ d n s.
      let fb : Kept b b' (left_entry x p s.first ∷ s.first_rest) = rw s.first_reads at kb in
      let fc : Kept c c' (left_entry x p s.second ∷ s.second_rest) = rw s.second_reads at kc in
      down_left b' c' o q x p d (λ g. n (left_digest_window x wb p le d ∙ g ∙ sym (left_digest_window x wc p le d)))
      s.first s.second
      (left_step_local b b' lb o x p s.first le d eb s.first_step fb.0)
      (left_step_local c c' lc q x p s.second le d ec s.second_step fc.0)
      ∙ ap (reading_both (left_entry x p s.first) (left_entry x p s.second))
      (down_local s.first s.second (left x p) p t l m s.first_rest s.second_rest (omega arith)
      fb.0 fc.0 s.below fb.1 fc.1)
      ∙ ap₂ (leaf t l m) (sym s.first_reads) (sym s.second_reads))
