-- The subtrees whose digests a proof has: those outside the positions from a to t, and of two children the side of t first. With a = t that
-- is the layout `single` of a path.
use Rattle.std.specs.Prelude.{Bool, List, ℕ, suc, leb, drop}
use Rattle.sha256.specs.Pick.{pick}
use Rattle.slate.specs.Digits.{base}
use Rattle.slate.specs.PartialTree.{Layout, cut_digests, outside}
use Rattle.slate.specs.Tree.{rfc6962}

abbrev pub toward : ℕ → ℕ → Layout
toward a t = record { cut = outside a (suc t); right_first = λ x p. leb (base x p) t }

-- that of a consistency proof: no position is left out, and the subtree that ends with t, and those on either side of the way to it, are
-- apart
abbrev pub apart : ℕ → Layout
apart t = toward (suc t) t

-- the digests under the highest node of height at most h at position x, where `omit` holds without the first of them
unfoldable pub digests_under : Bool → ℕ → ℕ → List (List ℕ) → ℕ → ℕ → List ℕ
digests_under omit a t vs x h =
    pick omit (drop 32 (cut_digests rfc6962 (toward a t) vs x h)) (cut_digests rfc6962 (toward a t) vs x h)
