-- What binds a consistency proof: where the new root is that of a tree, its digests are those of the tree's own subtrees; or an address of the
-- tree has, in it and in what is hashed for the new root, two inputs with one digest.
-- Assumes nothing.
use mathlib.Core.List.{List, ◌∷◌, ◌++◌, append_assoc, append-nil}
use mathlib.Core.Logic.{◌⊎◌, inl, inr, ⊎_elim}
use mathlib.Core.Path.{◌≡◌, refl, sym, ◌∙◌}
use Prim.Native.Nat.{ℕ, suc, ◌+◌, ◌*◌, ◌-◌, ◌^◌, ◌≤◌, ◌<◌}
use native.Mathlib.Omega.{arith}
use lib.ListN.{length, take}
use lib.Seq.{take-add}
use Rattle.sha256.specs.Fips180.{sha256}
use Rattle.slate.specs.Address.{input}
use Rattle.slate.specs.Bytes.{part}
use Rattle.slate.specs.Digits.{base, digit, left}
use Rattle.slate.specs.Hashed.{ClashAmong, Hashed, here, there}
use Rattle.slate.specs.Path.{sibling}
use Rattle.slate.specs.Tree.{Rule, node_input, top}
use Rattle.slate.proofs.Bits.{left_base, left_end, left_lt, no_left}
use Rattle.slate.proofs.Cases.{by_equal}
use Rattle.slate.proofs.Lists.{append_inj, part_length}
use Rattle.slate.proofs.Tops.{top_length, top_set, top_unset}
use Rattle.rfc6962.specs.Consistency.{new_from, sibling_count}
use Rattle.rfc6962.specs.Hashed.{inputs_from}
use Rattle.rfc6962.proofs.Apart.{digests, digests_end, digests_left, digests_none, digests_right}
use Rattle.rfc6962.proofs.SiblingCounts.{count_end, count_left, count_right}
use Rattle.rfc6962.proofs.Ends.{goes_left, goes_right, left_full, not_end, to_end, up_to_left, up_to_right}
use Rattle.rfc6962.proofs.Folds.{new_end, new_left, new_length, new_right}
use Rattle.rfc6962.proofs.Splits.{node_split, size, up_to}

-- ---- what is hashed at a node on the way, and below it

-- what is hashed for the node of height p + 1 at position x, over the digests l and r
abbrev hashed_at : Rule → ℕ → ℕ → List ℕ → List ℕ → Hashed
hashed_at pre x p l r = record { index = suc x; height = suc p; input = node_input pre (suc p) l r }

module _ (pre : Rule) (first s : List ℕ) (t x p f : ℕ) (low : base x (suc p) ≤ t) (less : t < x) (d : digit x p ≡ 1) where
  last : base x (suc p) + size x (suc p) ≡ suc x
  last = omega arith

  inputs_left : t < base x p
      → let m = up_to t (left x p) p in
      let n = size (left x p) p in
      inputs_from pre (suc f) (base x (suc p)) (up_to t x (suc p)) (size x (suc p)) first s
      ≡ hashed_at pre x p (new_from pre f m n first s) (sibling s (sibling_count f m n)) ∷ inputs_from pre f (base (left x p) p) m n first s
  unfolding inputs_from
  inputs_left o =
      rw (not_end t x p low less, node_split x p d, goes_left t x p low d o, last, up_to_left t x p d, left_full x p d, left_base x p d)

  inputs_right : base x p ≤ t
      → let m = up_to t x p in
      let n = size x p in
      inputs_from pre (suc f) (base x (suc p)) (up_to t x (suc p)) (size x (suc p)) first s
      ≡ hashed_at pre x p (sibling s (sibling_count f m n)) (new_from pre f m n first s) ∷ inputs_from pre f (base x p) m n first s
  unfolding inputs_from
  inputs_right o =
      rw (
        not_end t x p low less,
        node_split x p d,
        goes_right t x p low d o,
        last,
        up_to_right t x p d,
        up_to_right x x p d,
        ← left_end x p d,
      )

-- ---- one node: the digests of its children, or two inputs

module _ (pre : Rule) (vs : List (List ℕ)) where
  later : {a : Hashed} {hs : List Hashed} → ClashAmong pre vs hs → ClashAmong pre vs (a ∷ hs)
  later c = record { hashed = c.hashed; among = there c.among; present = c.present; inputs = c.inputs; digests = c.digests }

  node_binds : {Q : Type 0} {hs : List Hashed} (x p : ℕ) (l r : List ℕ) → x < length vs → digit x p ≡ 1 → length l ≡ 32
      → sha256 (node_input pre (suc p) l r) ≡ top pre vs x (suc p)
      → (l ≡ top pre vs (left x p) p → r ≡ top pre vs x p → Q ⊎ ClashAmong pre vs hs)
      → Q ⊎ ClashAmong pre vs (hashed_at pre x p l r ∷ hs)
  unfolding input
  node_binds x p l r lt d n e f =
      by_equal (input pre vs x (suc p)) (node_input pre (suc p) l r)
      (λ q.
      let i = append_inj 32 (top pre vs (left x p) p) (top pre vs x p) l r (top_length pre vs (left x p) p) n (cc) in
      ⊎_elim inl (λ c. inr (later c)) (f (sym i.0) (sym i.1)))
      (λ q.
      let z : suc x - 1 ≡ x = omega arith in
      inr (record {
        hashed = hashed_at pre x p l r;
        among = here;
        present = record { low = omega arith; high = lt; node = rw z d };
        inputs = rw z q;
        digests = rw z (sym (e ∙ top_set pre vs x p d));
      }))

-- ---- all nodes on the way

-- the digests with one more sibling
one_more : (first s a b : List ℕ) (c : ℕ) → first ++ take (32 * c) s ≡ a → sibling s c ≡ b → first ++ take (32 * suc c) s ≡ a ++ b
unfolding part
one_more first s a b c e q =
    let z : 32 * suc c ≡ 32 * c + 32 = omega arith in
    rw (z, take-add (32 * c) 32 s, ← append_assoc, e, q)

module _ (pre : Rule) (vs : List (List ℕ)) (t : ℕ) (first s : List ℕ) (digest : length first ≡ 32) where
  abbrev Binds : ℕ → ℕ → ℕ → Type 0
  Binds x h f =
      let m = up_to t x h in
      let n = size x h in
      x < length vs → 32 * sibling_count f m n ≤ length s → new_from pre f m n first s ≡ top pre vs x h
      → (first ++ take (32 * sibling_count f m n) s ≡ digests pre vs t x h) ⊎ ClashAmong pre vs (inputs_from pre f (base x h) m n first s)

  -- where the digest of a node comes out
  pub new_binds : (x h f : ℕ) → size x h ≤ 2 ^ f → base x h ≤ t → t ≤ x → Binds x h f
  new_binds =
      to_end {P = Binds} t
      (λ h f lt fit e. inl
      (rw (count_end f (up_to t t h) (up_to t t h) refl, digests_end pre vs t h) (append-nil first ∙ sym (new_end pre first s f (up_to t t h)) ∙ e)))
      (λ x p f low q d c lt fit e. rw (← no_left x p d, digests_none pre vs t x p low q d)
      (c lt (rw (← no_left x p d) at fit) ((rw (← no_left x p d) at e) ∙ top_unset pre vs x p d)))
      (λ x p f low q d o few c lt fit e.
      let m = up_to t (left x p) p in
      let n = size (left x p) p in
      let more = count_left t x p f low q d o in
      rw (inputs_left pre first s t x p f low q d o, digests_left pre vs t x p low q d o, more)
      (node_binds pre vs x p (new_from pre f m n first s) (sibling s (sibling_count f m n)) lt d (new_length pre first s f m n digest)
      (sym (new_left pre first s t x p f low q d o) ∙ e)
      (λ a b. ⊎_elim (λ g. inl (one_more first s _ _ (sibling_count f m n) g b)) inr (c (omega (arith, left_lt x p d)) (omega arith) a))))
      (λ x p f low q d o few c lt fit e.
      let m = up_to t x p in
      let n = size x p in
      let more = count_right t x p f low q d o in
      rw (inputs_right pre first s t x p f low q d o, digests_right pre vs t x p low q d o, more)
      (node_binds pre vs x p (sibling s (sibling_count f m n)) (new_from pre f m n first s) lt d
      (part_length s (32 * sibling_count f m n) 32 (omega arith))
      (sym (new_right pre first s t x p f low q d o) ∙ e)
      (λ a b. ⊎_elim (λ g. inl (one_more first s _ _ (sibling_count f m n) g a)) inr (c lt (omega arith) b))))
