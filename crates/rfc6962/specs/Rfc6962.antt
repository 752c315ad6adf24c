-- RFC 6962, section 2.1, on lists, in its own words: what is said of a list of n values is made of what is said of its first k and of the
-- others, where k is the largest power of two smaller than n. It is for any prefix rule; the RFC's is `rfc6962`. In each recursion f only
-- bounds the splits: there are fewer of them on the way to one value than there are values.
use Rattle.std.specs.Prelude.{Bool, true, false, List, [], ◌∷◌, ◌++◌, ℕ, zero, suc, ◌-◌, ◌^◌, eqb, leb, ltb, length, get_or, take, drop}
use Rattle.sha256.specs.Fips180.{sha256}
use Rattle.sha256.specs.Pick.{pick}
use Rattle.slate.specs.Tree.{Rule, empty_root, leaf_input, node_input}

-- the largest p below h with 2 ^ p smaller than n, 0 if there is none
unfoldable pub power_below : ℕ → ℕ → ℕ
power_below n zero = 0
power_below n (suc p) = pick (ltb (2 ^ p) n) p (power_below n p)

-- for n > 1, k = 2 ^ split_height n is the largest power of two smaller than n. The node over n values has the height split_height n + 1
unfoldable pub split_height : ℕ → ℕ
split_height n = power_below n n

abbrev pub k : ℕ → ℕ
k n = 2 ^ split_height n

-- MTH({d(0)}) = SHA-256(0x00 || d(0)); for n > 1, MTH(D[n]) = SHA-256(0x01 || MTH(D[0:k]) || MTH(D[k:n]))
unfoldable pub mth_from : Rule → ℕ → List (List ℕ) → List ℕ
mth_from pre zero ds = sha256 (leaf_input pre (get_or ds 0 []))
mth_from pre (suc f) ds =
    pick (leb (length ds) 1)
    (sha256 (leaf_input pre (get_or ds 0 [])))
    (sha256
    (node_input pre (suc (split_height (length ds))) (mth_from pre f (take (k (length ds)) ds)) (mth_from pre f (drop (k (length ds)) ds))))

-- MTH({}) = SHA-256(), the root of no values of both editions
unfoldable pub mth : Rule → List (List ℕ) → List ℕ
mth pre [] = empty_root
mth pre (d ∷ ds) = mth_from pre (length ds) (d ∷ ds)

-- PATH(0, {d(0)}) = {}; for n > 1, PATH(m, D[n]) = PATH(m, D[0:k]) : MTH(D[k:n]) for m < k, and PATH(m - k, D[k:n]) : MTH(D[0:k]) for
-- m >= k. The m of a path counts from 0
unfoldable pub path_from : Rule → ℕ → ℕ → List (List ℕ) → List ℕ
path_from pre zero m ds = []
path_from pre (suc f) m ds =
    pick (leb (length ds) 1)
    []
    (pick (ltb m (k (length ds)))
    (path_from pre f m (take (k (length ds)) ds) ++ mth pre (drop (k (length ds)) ds))
    (path_from pre f (m - k (length ds)) (drop (k (length ds)) ds) ++ mth pre (take (k (length ds)) ds)))

abbrev pub path : Rule → ℕ → List (List ℕ) → List ℕ
path pre m ds = path_from pre (length ds) m ds

-- SUBPROOF(m, D[m], true) = {}, SUBPROOF(m, D[m], false) = {MTH(D[m])}; for m < n, SUBPROOF(m, D[n], b) = SUBPROOF(m, D[0:k], b) :
-- MTH(D[k:n]) for m <= k, and SUBPROOF(m - k, D[k:n], false) : MTH(D[0:k]) for m > k
unfoldable pub subproof_from : Rule → ℕ → ℕ → List (List ℕ) → Bool → List ℕ
subproof_from pre zero m ds b = pick b [] (mth pre ds)
subproof_from pre (suc f) m ds b =
    pick (eqb m (length ds))
    (pick b [] (mth pre ds))
    (pick (leb m (k (length ds)))
    (subproof_from pre f m (take (k (length ds)) ds) b ++ mth pre (drop (k (length ds)) ds))
    (subproof_from pre f (m - k (length ds)) (drop (k (length ds)) ds) false ++ mth pre (take (k (length ds)) ds)))

-- PROOF(m, D[n]) = SUBPROOF(m, D[n], true)
abbrev pub proof : Rule → ℕ → List (List ℕ) → List ℕ
proof pre m ds = subproof_from pre (length ds) m ds true
