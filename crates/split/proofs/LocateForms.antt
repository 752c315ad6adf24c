-- The stages of the search, from what is computed at each of them.
-- Assumes nothing.
use mathlib.Core.Bool.{Bool, true, false}
use mathlib.Core.List.{List, [], ◌∷◌}
use mathlib.Core.Path.{◌≡◌, refl, sym, ap, ap₂, ◌∙◌}
use Prim.Native.Nat.{ℕ, zero, suc, ◌+◌, ◌-◌, ◌≤◌, ◌<◌, min}
use native.Mathlib.Numerals.{add-one, one-add}
use native.Mathlib.Nat.{add-zero}
use native.Mathlib.Omega.{arith}
use lib.ListN.{length, length-append}
use Rattle.std.specs.Prelude.{Err, Ok, Result}
use Rattle.slate.specs.Bytes.{same}
use Rattle.slate.specs.Comparison.{Compared, by_length}
use Rattle.slate.specs.Address.{highest}
use Rattle.slate.specs.Digits.{digit, max_height}
use Rattle.entry.specs.Read.{digest_at, entry_len_at}
use Rattle.entry.specs.Walk.{Descent, Place, arrived, descend, walk_of}
use Rattle.entry.specs.declared.Cause.{Cause}
use Rattle.entry.specs.declared.Walk.{Walk}
use Rattle.entry.specs.Walk.{arrival}
use Rattle.split.specs.Below.{Below, blocked, down, down_of, leaf}
use Rattle.split.specs.Located.{further, located_at, located_below, located_of, tally, to_verdict}
use Rattle.split.specs.Search.{Search, Trace, answered, moved, opening, refused, search_at, search_below, search_brought, search_from, searched}
use Rattle.split.specs.declared.Leaf.{Leaf}
use Rattle.split.specs.declared.Located.{Located}
use Rattle.split.specs.declared.SearchRefusal.{SearchRefusal}
use Rattle.split.specs.declared.Side.TheVariants as side
use Rattle.split.specs.declared.Tally.{Tally}
use Rattle.split.specs.declared.Verdict.{Verdict}
use Rattle.split.specs.declared.Verdict.TheVariants as verdict
use Rattle.slate.proofs.Cases.{by_bool}
use Rattle.entry.proofs.Cases.{arrival_same}
use Rattle.entry.proofs.Descents.{descend_inside}
use Rattle.entry.proofs.Reached.{Indexed, walk_reached, walk_stopped}
use Rattle.split.proofs.Brought.{brought_inside}
use Rattle.split.proofs.DownForms.{at_leaf, leaf_counted}
use Rattle.split.proofs.Downs.{down_descends}
use Rattle.split.proofs.Searches.{by_answered}

-- ---- both logs stand at the entry at position t

refused_below : (d : Below) (w : Result Leaf SearchRefusal) (z : SearchRefusal) → w ≡ down_of d → w ≡ Err z → d ≡ blocked z.side z.cause
refused_below (leaf t l m qs rs) w z ew e = cc
refused_below (blocked s k) w z ew e = let ez : z ≡ record { side = s; cause = k } = cc in rw ez refl

-- v is whether the tops are equal
module _ (b c : List ℕ) (t : ℕ) (a d : Tally) (v : Bool)
    (tops : v ≡ same (digest_at b a.at t max_height) (digest_at c d.at t max_height)) where
  pub equal_tops : v ≡ true → (l m : ℕ) → l ≡ entry_len_at b a.at t → m ≡ entry_len_at c d.at t
      → (w : Verdict) → w ≡ to_verdict (by_length a.count d.count)
      → Ok (record {
        common = t + 1;
        verdict = w;
        first = record { count = a.count; reads = a.reads; at = a.at + l };
        second = record { count = d.count; reads = d.reads; at = d.at + m };
      }) ≡ located_at b c t a d
  equal_tops e l m el em w ew = rw (← tops, e, el, em, ew, add-one t)

  -- w is what the way down answers
  module _ (e : v ≡ false) (w : Result Leaf SearchRefusal) (ew : w ≡ down_of (down b c a.at d.at t max_height)) where
    pub below_refused : (z : SearchRefusal) → w ≡ Err z → Err z ≡ located_at b c t a d
    below_refused z r = rw (← tops, e, refused_below (down b c a.at d.at t max_height) w z ew r)

    pub below_leaf : (x : Leaf) → w ≡ Ok x
        → Ok (record {
          common = x.position;
          verdict = verdict.DifferAt (x.position + 1);
          first = further a x.first x.first_reads;
          second = further d x.second x.second_reads;
        }) ≡ located_at b c t a d
    below_leaf x f =
        let k = leaf_counted (down b c a.at d.at t max_height) w x ew f in
        rw (← tops, e, k.run, ← k.first_count, ← k.second_count, add-one x.position)

  -- at the first entry there is nothing below
  pub first_leaf_lem : v ≡ false → t ≡ 0
      → Ok (record { common = 0; verdict = verdict.DifferAt 1; first = a; second = d }) ≡ located_at b c t a d
  unfolding highest max_height digit
  first_leaf_lem e z =
      let top : 0 ≡ highest t max_height = rw z in
      let here : Leaf = record { position = t; first = a.at; second = d.at; first_reads = 0; second_reads = 0 } in
      let found = below_leaf e (Ok here) (at_leaf b c a.at d.at t max_height 0 top refl) here refl in
      rw z (rw (add-zero a.reads, add-zero d.reads, z) at found)

-- ---- both logs are open, and n is the smaller length

-- the entries read before are counted
at_tallied : (b c : List ℕ) (t : ℕ) (a d : Trace) → located_of (search_at b c t a d) ≡ located_at b c t (tally a) (tally d)
at_tallied b c t a d =
    by_bool (same (digest_at b a.at t max_height) (digest_at c d.at t max_height))
    (λ e. rw e)
    (λ e. rw e (below_tallied (down b c a.at d.at t max_height)))
  where
    below_tallied : (w : Below) → located_of (search_below a d w) ≡ located_below (tally a) (tally d) w
    below_tallied (leaf x l m qs rs) = rw (length-append a.reads qs, length-append d.reads rs)
    below_tallied (blocked s k) = refl

-- a log that is not empty is opened by one read
opening_last : (o m : ℕ) → 0 < m → opening o m ≡ record { count = m; reads = record { begins = o; position = m - 1 } ∷ []; at = o }
opening_last o zero lt = absurd (omega arith)
opening_last o (suc x) lt = let e : suc x - 1 ≡ x = omega arith in rw e

moved_tally : (o m l r : ℕ) (qs : List Place) → 0 < m → r ≡ length qs
    → tally (moved (opening o m) l qs) ≡ record { count = m; reads = 1 + r; at = l }
moved_tally o m l r qs lt e = rw (opening_last o m lt, e, one-add (length qs))

-- a walk's answer counts the entries read
walk_count : (d : Descent) (w : Result Walk Cause) (l r : ℕ) (qs : List Place) → w ≡ walk_of d → w ≡ arrival l r → d ≡ arrived l qs
    → r ≡ length qs
walk_count d w l r qs ew e f = (arrival_same l r l (length qs) (sym e ∙ ew ∙ ap walk_of f)).1

module _ (b c : List ℕ) (o m q k n : ℕ) (a : Indexed b o m n) (d : Indexed c q k n) (en : n ≡ min m k) where
  turn : search_from b c (min m k) (opening o m) (opening q k)
      ≡ search_brought b c (n - 1) (opening o m) (opening q k) (descend b o (m - 1) max_height (n - 1)) (descend c q (k - 1) max_height (n - 1))
  turn =
      let e : min m k ≡ suc (n - 1) = omega (arith, a.first, en) in
      rw (e, opening_last o m (omega (arith, a.first, a.high)), opening_last q k (omega (arith, d.first, d.high)))

  -- of the first log, then of the second
  module _ (w : Result Walk Cause) (ew : w ≡ walk_of (descend b o (m - 1) max_height (n - 1))) where
    pub first_stopped : (z : Cause) → w ≡ Err z
        → Err (record { side = side.First; cause = z }) ≡ located_of (search_from b c (min m k) (opening o m) (opening q k))
    first_stopped z e = sym (ap located_of turn ∙ rw (walk_stopped a w ew z e))

    module _ (l r : ℕ) (e : w ≡ arrival l r) (w' : Result Walk Cause) (ew' : w' ≡ walk_of (descend c q (k - 1) max_height (n - 1))) where
      pub second_stopped : (z : Cause) → w' ≡ Err z
          → Err (record { side = side.Second; cause = z }) ≡ located_of (search_from b c (min m k) (opening o m) (opening q k))
      second_stopped z f = sym (ap located_of turn ∙ rw ((walk_reached a w ew l r e).run, walk_stopped d w' ew' z f))

      pub both_arrived : (l' r' : ℕ) → w' ≡ arrival l' r' → (x : Result Located SearchRefusal)
          → x ≡ located_at b c (n - 1) (record { count = m; reads = 1 + r; at = l }) (record { count = k; reads = 1 + r'; at = l' })
          → x ≡ located_of (search_from b c (min m k) (opening o m) (opening q k))
      both_arrived l' r' e' x ex =
          let i = walk_reached a w ew l r e in
          let j = walk_reached d w' ew' l' r' e' in
          ex
          ∙ sym
          (ap located_of turn ∙ rw (i.run, j.run)
          (at_tallied b c (n - 1) (moved (opening o m) l i.reads) (moved (opening q k) l' j.reads)
          ∙ ap₂ (located_at b c (n - 1))
          (moved_tally o m l r i.reads (omega (arith, a.first, a.high)) (walk_count _ w l r i.reads ew e i.run))
          (moved_tally q k l' r' j.reads (omega (arith, d.first, d.high)) (walk_count _ w' l' r' j.reads ew' e' j.run))))

-- ---- the entries in common end inside

pub ends_inside : (b c : List ℕ) (f : Compared) (a d : Trace) → searched b c ≡ answered f a d → (a.at ≤ length b) × (d.at ≤ length c)
ends_inside b c f a d h =
    by_answered b c (λ f a d. (a.at ≤ length b) × (d.at ≤ length c))
    (λ o m q k fo so n. (omega arith, omega arith))
    (λ o x q y t l m qs rs v w n e. ((brought_inside v).within, (brought_inside w).within))
    (λ o x q y t l m qs rs v w n e u i j us vs r.
    let g = down_descends b c l m t max_height u i j us vs r in (
      omega (arith, (descend_inside b u i t max_height g.0 g.1 l us (brought_inside v) g.2).within),
      omega (arith, (descend_inside c u j t max_height g.0 g.1 m vs (brought_inside w) g.3).within),
    ))
    f a d h

-- ---- what the code's answer tells

-- w is what the search answers
module _ (b c : List ℕ) (w : Result Located SearchRefusal) (ew : w ≡ located_of (searched b c)) where
  -- it has found what the definition answers, with the entries read counted
  pub by_found : (P : Located → Type 0)
      → ((f : Compared) (r s : Trace) → searched b c ≡ answered f r s
      → P (record { common = f.common; verdict = to_verdict f.verdict; first = tally r; second = tally s }))
      → (x : Located) → w ≡ Ok x → P x
  by_found P p x e = go (searched b c) refl (sym e ∙ ew)
    where
      go : (y : Search) → searched b c ≡ y → Ok x ≡ located_of y → P x
      go (answered f r s) run h =
          let i : x ≡ record { common = f.common; verdict = to_verdict f.verdict; first = tally r; second = tally s } = cc in
          rw i (p f r s run)
      go (refused z k) run h = let y : ◌≡◌ {A = ℕ} 0 1 = cc in absurd (omega arith)

  pub refused_run : (z : SearchRefusal) → w ≡ Err z → searched b c ≡ refused z.side z.cause
  refused_run z e = go (searched b c) (sym e ∙ ew)
    where
      go : (y : Search) → Err z ≡ located_of y → y ≡ refused z.side z.cause
      go (answered f r s) h = cc
      go (refused s k) h = let i : z ≡ record { side = s; cause = k } = cc in rw i refl
