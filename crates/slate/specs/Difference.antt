-- Where the digests of two trees lead: the leaf at which document 01's search finds a difference.
use Rattle.std.specs.Prelude.{List, ℕ, zero, suc}
use Rattle.sha256.specs.Pick.{pick}
use Rattle.slate.specs.Bytes.{same}
use Rattle.slate.specs.Digits.{digit, if_set, left}
use Rattle.slate.specs.Tree.{Rule, top}

-- from the highest nodes of height at most h at position x, whose digests differ: left where the left digests differ, else right
unfoldable pub differing_leaf : Rule → List (List ℕ) → List (List ℕ) → ℕ → ℕ → ℕ
differing_leaf pre vs ws x zero = x
differing_leaf pre vs ws x (suc p) =
    if_set (digit x p)
    (pick (same (top pre vs (left x p) p) (top pre ws (left x p) p))
    (differing_leaf pre vs ws x p)
    (differing_leaf pre vs ws (left x p) p))
    (differing_leaf pre vs ws x p)
