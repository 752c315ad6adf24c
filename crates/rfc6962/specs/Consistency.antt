-- The consistency check: the roots of the first m and of all n values, as they come out of a proof by the rule of SUBPROOF, read from its
-- inside out. Where SUBPROOF comes to D[m], the digest of D[m] is the first of the proof or, where it is omitted, the lent old root; each
-- split on the way there adds one digest, the MTH of the other side: the siblings. In each recursion f only bounds the splits: 2 ^ f is
-- not below n.
use Rattle.std.specs.Prelude.{Bool, true, List, [], ◌∷◌, ℕ, zero, suc, ◌+◌, ◌*◌, ◌-◌, ◌^◌, eqb, leb, length, take, drop}
use Rattle.std.specs.Int.Count.{ones}
use Rattle.sha256.specs.Fips180.{sha256}
use Rattle.sha256.specs.Pick.{pick}
use Rattle.slate.specs.Bytes.{same}
use Rattle.slate.specs.Digits.{max_height}
use Rattle.slate.specs.Path.{sibling}
use Rattle.slate.specs.Tree.{Rule, node_input}
use Rattle.entry.specs.Shape.{all}
use Rattle.slate.specs.Index.{is_index}
use Rattle.rfc6962.specs.Rfc6962.{k, split_height}

-- how many siblings there are
unfoldable pub sibling_count : ℕ → ℕ → ℕ → ℕ
sibling_count zero m n = 0
sibling_count (suc f) m n =
    pick (eqb m n)
    0
    (suc (pick (leb m (k n)) (sibling_count f m (k n)) (sibling_count f (m - k n) (n - k n))))

-- the root of the first m of n values, from the digest d of D[m] and the siblings: for m <= k they all are among D[0:k], and for m > k the
-- sibling is MTH(D[0:k])
unfoldable pub old_from : Rule → ℕ → ℕ → ℕ → List ℕ → List ℕ → List ℕ
old_from pre zero m n d siblings = d
old_from pre (suc f) m n d siblings =
    pick (eqb m n)
    d
    (pick (leb m (k n))
    (old_from pre f m (k n) d siblings)
    (sha256
    (node_input pre (suc (split_height n)) (sibling siblings (sibling_count f (m - k n) (n - k n)))
    (old_from pre f (m - k n) (n - k n) d siblings))))

-- the root of all n values: for m <= k the sibling is MTH(D[k:n]), and for m > k it is MTH(D[0:k])
unfoldable pub new_from : Rule → ℕ → ℕ → ℕ → List ℕ → List ℕ → List ℕ
new_from pre zero m n d siblings = d
new_from pre (suc f) m n d siblings =
    pick (eqb m n)
    d
    (pick (leb m (k n))
    (sha256
    (node_input pre (suc (split_height n)) (new_from pre f m (k n) d siblings) (sibling siblings (sibling_count f m (k n)))))
    (sha256
    (node_input pre (suc (split_height n)) (sibling siblings (sibling_count f (m - k n) (n - k n)))
    (new_from pre f (m - k n) (n - k n) d siblings))))

-- the flag of SUBPROOF is still true at D[m], so that its digest is omitted, where m = n or m is a power of two
unfoldable pub omitted : ℕ → ℕ → Bool
omitted m n = pick (eqb m n) true (eqb (ones m) 1)

-- how many digests PROOF(m, D[n]) has
unfoldable pub digest_count : ℕ → ℕ → ℕ
digest_count m n = pick (omitted m n) 0 1 + sibling_count max_height m n

-- the digest of D[m]: where it is omitted, the lent old root stands in
abbrev pub first_digest : ℕ → ℕ → List ℕ → List ℕ → List ℕ
first_digest m n proof old = pick (omitted m n) old (take 32 proof)

abbrev pub siblings_in : ℕ → ℕ → List ℕ → List ℕ
siblings_in m n proof = pick (omitted m n) proof (drop 32 proof)

-- the two roots that come out of a proof from m to n values
unfoldable pub old_root : Rule → ℕ → ℕ → List ℕ → List ℕ → List ℕ
old_root pre m n proof old = old_from pre max_height m n (first_digest m n proof old) (siblings_in m n proof)

unfoldable pub new_root : Rule → ℕ → ℕ → List ℕ → List ℕ → List ℕ
new_root pre m n proof old = new_from pre max_height m n (first_digest m n proof old) (siblings_in m n proof)

-- 1 ≤ m ≤ n ≤ 4,096; the roots have 32 bytes; no byte of the proof is left over; both roots come out of it
unfoldable pub consistency_tests : Rule → ℕ → ℕ → List ℕ → List ℕ → List ℕ → List Bool
consistency_tests pre m n proof old new =
    is_index m n
    ∷ leb n (2 ^ max_height)
    ∷ eqb (length old) 32
    ∷ eqb (length new) 32
    ∷ eqb (length proof) (32 * digest_count m n)
    ∷ same (old_root pre m n proof old) old
    ∷ same (new_root pre m n proof old) new
    ∷ []

unfoldable pub consistency_holds : Rule → ℕ → ℕ → List ℕ → List ℕ → List ℕ → Bool
consistency_holds pre m n proof old new = all (consistency_tests pre m n proof old new)
