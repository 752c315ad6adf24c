-- A turn of the way down, from the numbers that are computed on it.
-- Assumes nothing.
use mathlib.Core.Bool.{Bool, true, false}
use mathlib.Core.List.{List, []}
use mathlib.Core.Path.{◌≡◌, refl, sym, ap, ◌∙◌}
use Prim.Native.Nat.{ℕ, suc, ◌+◌, ◌-◌, ◌≤◌}
use native.Mathlib.Numerals.{add-one}
use native.Mathlib.Omega.{arith}
use lib.ListN.{length}
use Rattle.std.specs.Prelude.{Err, Ok, Result}
use Rattle.slate.specs.Address.{highest}
use Rattle.slate.specs.Bytes.{same}
use Rattle.slate.specs.Digits.{digit, left}
use Rattle.entry.specs.Read.{digest_at, left_digest_at}
use Rattle.entry.specs.Walk.{Place, Step, left_step}
use Rattle.entry.specs.declared.Cause.TheVariants as cause
use Rattle.split.specs.Below.{Below, after_both, blocked, down, down_of, leaf, reading_both, steps_of}
use Rattle.split.specs.declared.Leaf.{Leaf}
use Rattle.split.specs.declared.SearchRefusal.{SearchRefusal}
use Rattle.split.specs.declared.Side.TheVariants as side
use Rattle.split.specs.declared.pair.Pair.{Pair}
use Rattle.slate.proofs.Addresses.{highest_digit}
use Rattle.entry.proofs.LogDescent.{descend_le}
use Rattle.split.proofs.Downs.{down_descends, down_highest}

-- the answer with one entry read in each log before
abbrev one_more : Leaf → Leaf
one_more a = record {
  position = a.position;
  first = a.first;
  second = a.second;
  first_reads = a.first_reads + 1;
  second_reads = a.second_reads + 1;
}

read_both : (q r : Place) (d : Below) (a : Leaf) → Ok a ≡ down_of d → Ok (one_more a) ≡ down_of (reading_both q r d)
read_both q r (leaf t l m qs rs) a e =
    let ea : a ≡ record { position = t; first = l; second = m; first_reads = length qs; second_reads = length rs } = cc in
    rw (ea, add-one (length qs), add-one (length rs))
read_both q r (blocked s k) a e = cc

both_refused : (q r : Place) (d : Below) (z : SearchRefusal) → Err z ≡ down_of d → Err z ≡ down_of (reading_both q r d)
both_refused q r (leaf t l m qs rs) z e = cc
both_refused q r (blocked s k) z e = e

-- a leaf answered is the leaf found, with the entries read counted
pub record Counted (d : Below) (a : Leaf) : Type 0 where
  pub first : List Place
  pub second : List Place
  pub run : d ≡ leaf a.position a.first a.second first second
  pub first_count : a.first_reads ≡ length first
  pub second_count : a.second_reads ≡ length second

pub leaf_counted : (d : Below) (w : Result Leaf SearchRefusal) (a : Leaf) → w ≡ down_of d → w ≡ Ok a → Counted d a
leaf_counted (leaf t l m qs rs) w a ew e =
    let ea : a ≡ record { position = t; first = l; second = m; first_reads = length qs; second_reads = length rs } = cc in
    record { first = qs; second = rs; run = rw ea refl; first_count = rw ea refl; second_count = rw ea refl }
leaf_counted (blocked z k) w a ew e = let z : ◌≡◌ {A = ℕ} 0 1 = cc in absurd (omega arith)

-- ---- the left steps

steps_refused : (u v : Step) (y : ℕ) (f : ℕ → ℕ → Below) (z : SearchRefusal)
    → blocked z.side z.cause ≡ after_both u v (λ l m. leaf y l m [] []) → after_both u v f ≡ blocked z.side z.cause
steps_refused (Err k) v y f z e = sym e
steps_refused (Ok l) (Err k) y f z e = sym e
steps_refused (Ok l) (Ok m) y f z e = cc

-- where they lead, whatever follows there
steps_landed : (u v : Step) (y : ℕ) (a : Pair)
    → leaf a.first.position a.first.start a.second.start [] [] ≡ after_both u v (λ l m. leaf y l m [] [])
    → (a.first.position ≡ y) × ((f : ℕ → ℕ → Below) → after_both u v f ≡ f a.first.start a.second.start)
steps_landed (Err k) v y a e = (cc, λ f. cc)
steps_landed (Ok l) (Err k) y a e = (cc, λ f. cc)
steps_landed (Ok l) (Ok m) y a e =
    let el : a.first.start ≡ l = cc in
    let em : a.second.start ≡ m = cc in
    (cc, λ f. rw (el, em) refl)

-- ---- a turn

-- the highest nodes of the entries at position x have height k; v is whether their left digests are equal
pub record Node (b c : List ℕ) (o q x h k : ℕ) (v : Bool) : Type 0 where
  pub top : k ≡ highest x h
  pub high : k ≡ 0 → ⊥
  pub lefts : same (left_digest_at b o x (k - 1)) (left_digest_at c q x (k - 1)) ≡ v

module _ (b c : List ℕ) (o q x h k : ℕ) where
  pub at_leaf : k ≡ highest x h → k ≡ 0
      → Ok (record { position = x; first = o; second = q; first_reads = 0; second_reads = 0 }) ≡ down_of (down b c o q x h)
  unfolding down
  at_leaf ek e = rw (down_highest b c o q x h, ← ek, e)

  turn : {v : Bool} → Node b c o q x h k v → down_of (down b c o q x h) ≡ down_of (down b c o q x (suc (k - 1)))
  turn n =
      let e : highest x h ≡ suc (k - 1) = omega (arith, n.top, n.high) in
      ap down_of (down_highest b c o q x h ∙ ap (λ (m : ℕ). down b c o q x m) e)

  set : {v : Bool} → Node b c o q x h k v → digit x (k - 1) ≡ 1
  set n = highest_digit x h k n.top n.high

  -- their left digests are equal; r is whether the right digests are
  module _ (n : Node b c o q x h k true) (r : Bool) (er : r ≡ same (digest_at b o x (k - 1)) (digest_at c q x (k - 1))) where
    pub both_equal : r ≡ true → Err (record { side = side.Both; cause = cause.Link }) ≡ down_of (down b c o q x h)
    unfolding down
    both_equal e = sym (turn n ∙ rw (set n, n.lefts, ← er, e))

    pub to_right : r ≡ false → (w : Result Leaf SearchRefusal) → w ≡ down_of (down b c o q x (k - 1)) → w ≡ down_of (down b c o q x h)
    unfolding down
    to_right e w ew = ew ∙ sym (turn n ∙ rw (set n, n.lefts, ← er, e))

  -- their left digests differ; s is what the left steps answer
  module _ (n : Node b c o q x h k false) (s : Result Pair SearchRefusal)
      (es : steps_of s ≡ after_both (left_step b o x (k - 1)) (left_step c q x (k - 1)) (λ l m. leaf (left x (k - 1)) l m [] [])) where
    pub step_refused : (z : SearchRefusal) → s ≡ Err z → Err z ≡ down_of (down b c o q x h)
    unfolding down
    step_refused z e = sym (turn n ∙ rw (set n, n.lefts, steps_refused _ _ _ _ z (rw e at es)))

    -- they lead to these entries, and w is what the way down from there answers
    module _ (a : Pair) (to : s ≡ Ok a) (w : Result Leaf SearchRefusal)
        (ew : w ≡ down_of (down b c a.first.start a.second.start a.first.position (k - 1))) where
      abbrev read : ℕ → Place
      read l = record { begins = l; position = a.first.position }

      stepped : down_of (down b c o q x h)
          ≡ down_of (reading_both (read a.first.start) (read a.second.start) (down b c a.first.start a.second.start a.first.position (k - 1)))
      unfolding down
      stepped =
          let l = steps_landed _ _ _ a (rw to at es) in
          turn n ∙ rw (set n, n.lefts, l.1 _, l.0)

      pub under_leaf : (l : Leaf) → w ≡ Ok l → Ok (one_more l) ≡ down_of (down b c o q x h)
      under_leaf l e =
          read_both _ _ (down b c a.first.start a.second.start a.first.position (k - 1)) l (sym e ∙ ew) ∙ sym stepped

      pub under_refused : (z : SearchRefusal) → w ≡ Err z → Err z ≡ down_of (down b c o q x h)
      under_refused z e =
          both_refused _ _ (down b c a.first.start a.second.start a.first.position (k - 1)) z (sym e ∙ ew) ∙ sym stepped

-- at most h entries are read in each log
pub down_reads_le : (b c : List ℕ) (o q x h : ℕ) (w : Result Leaf SearchRefusal) (a : Leaf)
    → w ≡ down_of (down b c o q x h) → w ≡ Ok a → (a.first_reads ≤ h) × (a.second_reads ≤ h)
down_reads_le b c o q x h w a ew e =
    let k = leaf_counted (down b c o q x h) w a ew e in
    let u = down_descends b c o q x h a.position a.first a.second k.first k.second k.run in (
      omega (arith, k.first_count, descend_le b o x h a.position a.first k.first u.2),
      omega (arith, k.second_count, descend_le c q x h a.position a.second k.second u.3),
    )
