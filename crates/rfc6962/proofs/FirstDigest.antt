-- Where the digest of D[m] is omitted from a consistency proof it is the root of the first m values; so the old root can stand in.
-- Assumes nothing.
use mathlib.Core.Bool.{Bool, true, false}
use mathlib.Core.List.{List, ◌++◌}
use mathlib.Core.Path.{◌≡◌, refl, sym, ap, ◌∙◌}
use Prim.Native.Nat.{ℕ, ◌+◌, ◌*◌, ◌-◌, ◌^◌, ◌≤◌}
use native.Mathlib.Omega.{arith}
use lib.ListN.{length, take, drop, length-drop, take-append-drop}
use lib.Seq.{length-take-le, take_all, take-append-le}
use Rattle.sha256.specs.Pick.{pick}
use Rattle.slate.specs.Digits.{base, left, max_height}
use Rattle.slate.specs.Tree.{Rule, top}
use Rattle.slate.proofs.Bits.{base_under, no_left, under_left, under_none, whole_base}
use Rattle.slate.proofs.Cases.{true_false}
use Rattle.slate.proofs.Tops.{top_length, top_unset}
use Rattle.rfc6962.specs.Consistency.{digest_count, first_digest, omitted, sibling_count, siblings_in}
use Rattle.rfc6962.specs.Rfc6962.{proof}
use Rattle.rfc6962.proofs.Apart.{digests, digests_end, digests_left, digests_none, digests_some}
use Rattle.rfc6962.proofs.SiblingCounts.{up_to_whole}
use Rattle.rfc6962.proofs.Ends.{to_end}
use Rattle.rfc6962.proofs.Omitted.{flag_left, flag_right}
use Rattle.rfc6962.proofs.Splits.{size, up_to}
use Rattle.rfc6962.proofs.Subproofs.{proof_is, without}

module _ (pre : Rule) (vs : List (List ℕ)) (t : ℕ) where
  abbrev First : ℕ → ℕ → ℕ → Type 0
  First x h f = omitted (up_to t x h) (size x h) ≡ true → take 32 (digests pre vs t x h) ≡ top pre vs t h

  first_omitted : (x h f : ℕ) → size x h ≤ 2 ^ f → base x h ≤ t → t ≤ x → First x h f
  first_omitted =
      to_end {P = First} t
      (λ h f c. rw (digests_end pre vs t h) (take_all 32 (top pre vs t h) (omega (arith, top_length pre vs t h))))
      (λ x p f low q d e c. rw (digests_none pre vs t x p low q d, top_unset pre vs t p (under_none x p t d low (omega arith)))
      (e (rw (← no_left x p d) at c)))
      (λ x p f low q d o few e c.
      let w = base_under x p t d low o in
      rw (digests_left pre vs t x p low q d o, top_unset pre vs t p (under_left x p t d low o))
      (take-append-le 32 (digests pre vs t (left x p) p) (top pre vs x p) (digests_some pre vs t (left x p) p w.0 w.1)
      ∙ e (sym (flag_left t x p low q d o) ∙ c)))
      (λ x p f low q d o few e c. true_false c (flag_right t x p low q d o))

-- ---- what the check reads

read_digests : (c : Bool) (old ds : List ℕ) → 32 ≤ length ds → length old ≡ 32 → (c ≡ true → take 32 ds ≡ old)
    → let rest = without c ds in
    (length (pick c old (take 32 rest)) ≡ 32) × (pick c old (take 32 rest) ++ pick c rest (drop 32 rest) ≡ ds)
read_digests true old ds l o e = (o, ap (λ (a : List ℕ). a ++ drop 32 ds) (sym (e refl)) ∙ take-append-drop 32 ds)
read_digests false old ds l o e = (length-take-le 32 ds l, take-append-drop 32 ds)

-- out of PROOF(m, D[n]) and the old root it reads the digests of the tree
pub proof_read : (pre : Rule) (vs : List (List ℕ)) (m : ℕ) → 1 ≤ m → m ≤ length vs → length vs ≤ 2 ^ max_height
    → let old = top pre vs (m - 1) max_height in
    let first = first_digest m (length vs) (proof pre m vs) old in
    (length first ≡ 32) × (first ++ siblings_in m (length vs) (proof pre m vs) ≡ digests pre vs (m - 1) (length vs - 1) max_height)
proof_read pre vs m some le few =
    let t : ℕ = m - 1 in
    let x : ℕ = length vs - 1 in
    let z : base x max_height ≡ 0 = whole_base x max_height (omega arith) in
    rw (proof_is pre vs m some le few)
    (read_digests (omitted m (length vs)) (top pre vs t max_height) (digests pre vs t x max_height)
    (digests_some pre vs t x max_height (omega arith) (omega arith)) (top_length pre vs t max_height)
    (rw (up_to_whole m x some (omega arith), up_to_whole (length vs) x (omega arith) (omega arith))
    at (first_omitted pre vs t x max_height max_height (omega arith) (omega arith) (omega arith))))

-- a proof of the right length is the first digest and the siblings
pub read_length : (m n : ℕ) (ds old : List ℕ) → length old ≡ 32 → length ds ≡ 32 * digest_count m n
    → (length (first_digest m n ds old) ≡ 32) × (length (siblings_in m n ds) ≡ 32 * sibling_count max_height m n)
unfolding digest_count
read_length m n ds old o e = by_flag (omitted m n) e
  where
    by_flag : (c : Bool) → length ds ≡ 32 * (pick c 0 1 + sibling_count max_height m n)
        → (length (pick c old (take 32 ds)) ≡ 32) × (length (pick c ds (drop 32 ds)) ≡ 32 * sibling_count max_height m n)
    by_flag true l = (o, omega arith)
    by_flag false l = (length-take-le 32 ds (omega arith), rw (length-drop 32 ds) (omega arith))
