-- The two roots that come out of a consistency proof as code takes them, from the digest d of the first m values up, with the siblings ss: t is
-- the position of the last of those values.
-- Assumes nothing.
use mathlib.Core.Bool.{true, false}
use mathlib.Core.List.{List}
use mathlib.Core.Path.{◌≡◌, refl, sym, ap, ◌∙◌}
use Prim.Native.Nat.{ℕ, zero, suc, ◌+◌, ◌*◌, ◌-◌, ◌^◌, ◌≤◌, ◌<◌}
use native.Mathlib.Decide.{le_ind}
use native.Mathlib.Omega.{arith}
use lib.ListN.{length, take, drop, length-drop}
use lib.Pow.{pow_pos}
use lib.Seq.{drop-drop}
use Rattle.sha256.specs.Answer.{tagged}
use Rattle.slate.specs.Bytes.{part}
use Rattle.slate.specs.Digits.{base, digit, left, max_height}
use Rattle.slate.specs.Path.{sibling}
use Rattle.slate.specs.PartialTree.{cuts}
use Rattle.slate.specs.Tree.{rfc6962}
use Rattle.slate.proofs.Bits.{base_le, base_under, base_zero, left_end, no_left}
use Rattle.slate.proofs.Cases.{by_digit, by_order}
use Rattle.slate.proofs.WayUp.{on_left, on_right, on_way, way_left, way_none, way_right, way_root}
use Rattle.rfc6962.specs.Consistency.{new_from, new_root, old_from, old_root, omitted, sibling_count}
use Rattle.rfc6962.specs.Layouts.{apart}
use Rattle.rfc6962.proofs.Apart.{cuts_end, cuts_left, cuts_none, cuts_right}
use Rattle.rfc6962.proofs.Folds.{new_end, new_left, new_right, old_end, old_left, old_right}
use Rattle.rfc6962.proofs.SiblingCounts.{count_cuts, up_to_whole}
use Rattle.rfc6962.proofs.Splits.{below_power, few_left, few_right, size, up_to}
use Rattle.rfc6962.proofs.WaySplits.{Split, end_here, none_here, way_inside}

abbrev pub Found : ℕ → ℕ → ℕ → List ℕ → List ℕ → List ℕ → List ℕ → Type 0
Found f m n d ss old new = (old ≡ old_from rfc6962 f m n d ss) × (new ≡ new_from rfc6962 f m n d ss)

-- ---- at a node

-- the values under the highest node of height at most h at position x are folded: those up to t to old, and all to new. So many siblings are
-- taken, and `rest` is what is left of them
pub record Folded (t : ℕ) (d ss : List ℕ) (x h : ℕ) (old new rest : List ℕ) : Type 0 where
  pub roots : (f : ℕ) → size x h ≤ 2 ^ f → Found f (up_to t x h) (size x h) d ss old new
  pub count : ℕ
  pub taken : suc count ≡ cuts (apart t) x h
  pub place : rest ≡ drop (32 * count) ss

module _ (t : ℕ) (d ss : List ℕ) where
  -- where the last of the values is at t, both are the digest of the first m
  end_same : (h : ℕ) → Folded t d ss t h d d ss
  end_same h = record {
    roots = λ f few. (sym (old_end rfc6962 d ss f (size t h)), sym (new_end rfc6962 d ss f (size t h)));
    count = 0;
    taken = sym (cuts_end t h);
    place = refl;
  }

  end_is : (h : ℕ) (old new rest : List ℕ) → Folded t d ss t h old new rest → (old ≡ d) × (new ≡ d) × (rest ≡ ss)
  end_is h old new rest v =
      let n : ℕ = size t h in
      let r = v.roots n (omega (arith, below_power n)) in
      let z : v.count ≡ 0 = omega (arith, v.taken, cuts_end t h) in
      (r.0 ∙ old_end rfc6962 d ss n n, r.1 ∙ new_end rfc6962 d ss n n, v.place ∙ ap (λ (c : ℕ). drop (32 * c) ss) z)

  end_up : (p h : ℕ) (old new rest : List ℕ) → Folded t d ss t p old new rest → Folded t d ss t h old new rest
  end_up p h old new rest v = let e = end_is p old new rest v in rw (e.0, e.1, e.2) (end_same h)

  -- the next sibling is the one behind those of the node
  next : (x h f : ℕ) → size x h ≤ 2 ^ f → base x h ≤ t → t ≤ x → (old new rest : List ℕ) → Folded t d ss x h old new rest
      → (s : List ℕ) → s ≡ take 32 rest → s ≡ sibling ss (sibling_count f (up_to t x h) (size x h))
  unfolding part
  next x h f few low high old new rest v s e =
      let n : v.count ≡ sibling_count f (up_to t x h) (size x h) = omega (arith, v.taken, count_cuts t x h f few low high) in
      rw (e, v.place, n) refl

  module _ (x p : ℕ) (low : base x (suc p) ≤ t) (less : t < x) (old new rest : List ℕ) where
    none_up : digit x p ≡ 0 → Folded t d ss x p old new rest → Folded t d ss x (suc p) old new rest
    none_up z v = record {
      roots = rw (no_left x p z) at v.roots;
      count = v.count;
      taken = v.taken ∙ rw (cuts_none t x p low less z);
      place = v.place;
    }

    -- s is the next sibling, and the others are `above`
    module _ (set : digit x p ≡ 1) (s above : List ℕ) (front : s ≡ take 32 rest) (back : above ≡ drop 32 rest) where
      -- so there is a split
      split : size x (suc p) ≤ 2 ^ 0 → ⊥
      split few = omega (arith, left_end x p set, base_le x p, pow_pos p)

      behind : (c : ℕ) → rest ≡ drop (32 * c) ss → above ≡ drop (32 * suc c) ss
      behind c e =
          let n : 32 * c + 32 ≡ 32 * suc c = omega arith in
          back ∙ ap (drop 32) e ∙ drop-drop 32 (32 * c) ss ∙ ap (λ (k : ℕ). drop k ss) n

      left_up : t < base x p → Folded t d ss (left x p) p old new rest → (r : List ℕ) → r ≡ tagged 1 new s
          → Folded t d ss x (suc p) old r above
      unfolding tagged
      left_up o v r e = record {
        roots = roots;
        count = suc v.count;
        taken = omega (arith, v.taken, cuts_left t x p low less set o);
        place = behind v.count v.place;
      }
        where
          roots : (f : ℕ) → size x (suc p) ≤ 2 ^ f → Found f (up_to t x (suc p)) (size x (suc p)) d ss old r
          roots zero few = absurd (split few)
          roots (suc f) few =
              let w = base_under x p t set low o in
              let child = few_left x p f set few in
              let found = v.roots f child in (
                found.0 ∙ sym (old_left rfc6962 d ss t x p f low less set o),
                e ∙ rw (found.1, next (left x p) p f child w.0 w.1 old new rest v s front, new_left rfc6962 d ss t x p f low less set o),
              )

      right_up : base x p ≤ t → Folded t d ss x p old new rest → (q r : List ℕ) → q ≡ tagged 1 s old → r ≡ tagged 1 s new
          → Folded t d ss x (suc p) q r above
      unfolding tagged
      right_up o v q r eq er = record {
        roots = roots;
        count = suc v.count;
        taken = omega (arith, v.taken, cuts_right t x p low less set o);
        place = behind v.count v.place;
      }
        where
          roots : (f : ℕ) → size x (suc p) ≤ 2 ^ f → Found f (up_to t x (suc p)) (size x (suc p)) d ss q r
          roots zero few = absurd (split few)
          roots (suc f) few =
              let child = few_right x p f set few in
              let found = v.roots f child in
              let here = next x p f child o (omega arith) old new rest v s front in (
                eq ∙ rw (found.0, here, old_right rfc6962 d ss t x p f low less set o),
                er ∙ rw (found.1, here, new_right rfc6962 d ss t x p f low less set o),
              )

-- ---- on the way up

-- l is the position of the last value, and the way down from it to t is folded up to height h
abbrev pub FoldedUp : ℕ → ℕ → List ℕ → List ℕ → ℕ → List ℕ → List ℕ → List ℕ → Type 0
FoldedUp l t d ss h old new rest = Folded t d ss (on_way l t h) h old new rest

module _ (l t : ℕ) (less : t < l) (d ss : List ℕ) where
  le : t ≤ l
  le = omega arith

  way_leaf : on_way l t 0 ≡ t
  unfolding on_way
  way_leaf = omega (arith, base_zero t)

  pub folded_start : FoldedUp l t d ss 0 d d ss
  folded_start = rw way_leaf (end_same t d ss 0)

  -- the position at which the way stands at height p + 1
  abbrev pub above : ℕ → ℕ
  above p = on_way l t (suc p)

  under : (p : ℕ) → base (above p) (suc p) ≤ t
  under p = (way_inside l t le p (above p) refl).0

  -- where the way has ended, it is at t below too
  way_end : (p : ℕ) → above p ≤ t → (above p ≡ t) × (on_way l t p ≡ t)
  way_end p o = let e : above p ≡ t = omega (arith, (way_inside l t le p (above p) refl).1) in (e, below ∙ e)
    where
      below : on_way l t p ≡ above p
      below =
          by_digit (above p) p
          (way_none l t le p (above p) refl)
          (λ s. way_right l t le p (above p) refl s (omega (arith, base_le (above p) p)))

  -- ---- how many siblings there are: one more for each split

  abbrev counted : ℕ → ℕ
  counted h = cuts (apart t) (on_way l t h) h

  counted_split : (p : ℕ) → Split t p (above p) → counted (suc p) ≡ suc (counted p)
  counted_split p s =
      by_order t (base (above p) p)
      (λ o. rw (way_left l t le p (above p) refl s.1 o) (cuts_left t (above p) p (under p) s.0 s.1 o))
      (λ o. rw (way_right l t le p (above p) refl s.1 o) (cuts_right t (above p) p (under p) s.0 s.1 o))

  counted_up : (p : ℕ) → counted p ≤ counted (suc p)
  counted_up p =
      by_order t (above p)
      (λ q. by_digit (above p) p
      (λ z. rw (way_none l t le p (above p) refl z, cuts_none t (above p) p (under p) q z) (omega arith))
      (λ s. omega (arith, counted_split p (q, s))))
      (λ o. let e = way_end p o in rw (e.0, e.1, cuts_end t p, cuts_end t (suc p)) (omega arith))

  counted_rise : (p h : ℕ) → p ≤ h → counted p ≤ counted h
  counted_rise p h up = le_ind (λ (q : ℕ). counted p ≤ counted q) (omega arith) (λ q k e. omega (arith, counted_up q)) h up

  -- ---- a turn: h is p + 1, and m is t + 1

  module _ (p h : ℕ) (next : h ≡ suc p) (old new rest : List ℕ) (v : FoldedUp l t d ss p old new rest) where
    pub folded_none : digit t p ≡ 0 → base t p ≡ base l p → FoldedUp l t d ss h old new rest
    folded_none z e =
        let w = none_here l t less p (above p) refl z e in
        rw next (none_up t d ss (above p) p (under p) w.0 old new rest w.1 (rw (way_none l t le p (above p) refl w.1) at v))

    pub folded_end : (m : ℕ) → m ≡ suc t → base m h ≡ m → FoldedUp l t d ss h old new rest
    folded_end m e b =
        let w = way_end p (end_here l t less p (above p) refl h next m e b) in
        rw (next, w.0) (end_up t d ss p (suc p) old new rest (rw w.1 at v))

    module _ (s : Split t p (above p)) where
      -- a sibling is left: up to height g there are c of them
      pub folded_room : (g c : ℕ) → h ≤ g → l < 2 ^ g → cuts (apart t) l g ≡ suc c → 32 * c ≤ length ss → 32 ≤ length rest
      folded_room g c up lt all room =
          let rise : counted (suc p) ≤ counted g = counted_rise (suc p) g (omega arith) in
          let top : counted g ≡ suc c = rw (← way_root l t le g lt) at all in
          rw (v.place, length-drop) (omega (arith, v.taken, counted_split p s, rise, top))

      -- q is the next one, and the others are r
      module _ (q r : List ℕ) (front : q ≡ take 32 rest) (back : r ≡ drop 32 rest) where
        pub folded_left : digit t p ≡ 0 → (n : List ℕ) → n ≡ tagged (rfc6962 h) new q → FoldedUp l t d ss h old n r
        folded_left z n e =
            let o = on_left l t le p (above p) refl s.1 z in
            let w = rw (way_left l t le p (above p) refl s.1 o) at v in
            rw next (left_up t d ss (above p) p (under p) s.0 old new rest s.1 q r front back o w n (rw next at e))

        pub folded_right : digit t p ≡ 1 → (m n : List ℕ) → m ≡ tagged (rfc6962 h) q old → n ≡ tagged (rfc6962 h) q new
            → FoldedUp l t d ss h m n r
        folded_right z m n em en =
            let o = on_right l t le p (above p) refl s.1 z in
            let w = rw (way_right l t le p (above p) refl s.1 o) at v in
            rw next (right_up t d ss (above p) p (under p) s.0 old new rest s.1 q r front back o w m n (rw next at em) (rw next at en))

-- ---- of n values

pub found_same : (m n : ℕ) (d ss : List ℕ) → m ≡ n → Found max_height m n d ss d d
found_same m n d ss e = rw e (sym (old_end rfc6962 d ss max_height n), sym (new_end rfc6962 d ss max_height n))

pub folded_whole : (m n : ℕ) → 1 ≤ m → m ≤ n → n ≤ 2 ^ max_height → (d ss old new rest : List ℕ)
    → FoldedUp (n - 1) (m - 1) d ss max_height old new rest → Found max_height m n d ss old new
folded_whole m n some le few d ss old new rest v =
    let l : ℕ = n - 1 in
    let t : ℕ = m - 1 in
    let lt : l < 2 ^ max_height = omega arith in
    let w : Folded t d ss l max_height old new rest = rw (way_root l t (omega arith) max_height lt) at v in
    let all = up_to_whole n l (omega arith) lt in
    rw (up_to_whole m l some lt, all) at (w.roots max_height (omega (arith, all)))

-- ---- from a whole proof

module _ (m n : ℕ) (proof old : List ℕ) where
  abbrev pub Come : List ℕ → List ℕ → Type 0
  Come r q = (r ≡ old_root rfc6962 m n proof old) × (q ≡ new_root rfc6962 m n proof old)

  -- the lent root is the digest of the first m
  pub come_omitted : omitted m n ≡ true → (d r q : List ℕ) → d ≡ old → Found max_height m n d proof r q → Come r q
  unfolding old_root new_root
  come_omitted t d r q e f = (f.0 ∙ rw (t, e), f.1 ∙ rw (t, e))

  -- the first digest of the proof is
  pub come_first : omitted m n ≡ false → (d ss r q : List ℕ) → d ≡ take 32 proof → ss ≡ drop 32 proof → Found max_height m n d ss r q
      → Come r q
  unfolding old_root new_root
  come_first t d ss r q e es f = (f.0 ∙ rw (t, e, es), f.1 ∙ rw (t, e, es))
