-- Inclusion: the path of siblings, the one next to the leaf first, and the fold of a value with it.
use Rattle.std.specs.Prelude.{List, [], ◌++◌, ℕ, zero, suc, ◌*◌, ◌-◌, ltb, length}
use Rattle.sha256.specs.Fips180.{sha256}
use Rattle.sha256.specs.Pick.{pick}
use Rattle.slate.specs.Bytes.{part}
use Rattle.slate.specs.Digits.{base, digit, if_set, left, max_height}
use Rattle.slate.specs.Moves.{hops_from}
use Rattle.slate.specs.Tree.{Rule, leaf_input, node_input, top}

-- the siblings on the way from the highest node of height at most h at position x down to the leaf at position t
unfoldable pub path_from : Rule → List (List ℕ) → ℕ → ℕ → ℕ → List ℕ
path_from pre vs x zero t = []
path_from pre vs x (suc p) t =
    if_set (digit x p)
    (pick (ltb t (base x p))
    (path_from pre vs (left x p) p t ++ top pre vs x p)
    (path_from pre vs x p t ++ top pre vs (left x p) p))
    (path_from pre vs x p t)

-- the path of value i among all the values
abbrev pub path : Rule → List (List ℕ) → ℕ → List ℕ
path pre vs i = path_from pre vs (length vs - 1) max_height (i - 1)

-- the sibling behind the first n digests of a proof
abbrev pub sibling : List ℕ → ℕ → List ℕ
sibling proof n = part proof (32 * n) 32

-- the digest of that node, from the digest d of the leaf at position t and the siblings of a proof
unfoldable pub fold_from : Rule → ℕ → ℕ → ℕ → List ℕ → List ℕ → List ℕ
fold_from pre x zero t d proof = d
fold_from pre x (suc p) t d proof =
    if_set (digit x p)
    (pick (ltb t (base x p))
    (sha256 (node_input pre (suc p) (fold_from pre (left x p) p t d proof) (sibling proof (hops_from (left x p) p t))))
    (sha256 (node_input pre (suc p) (sibling proof (hops_from x p t)) (fold_from pre x p t d proof))))
    (fold_from pre x p t d proof)

-- the fold of the value v as value i of n with a proof: the digest of its leaf is hashed from it
abbrev pub fold : Rule → ℕ → ℕ → List ℕ → List ℕ → List ℕ
fold pre n i v proof = fold_from pre (n - 1) max_height (i - 1) (sha256 (leaf_input pre v)) proof
