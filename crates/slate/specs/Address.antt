-- Node addresses in document 01's own terms: an index i from 1 with a height; leaves count, with height 0.
use Rattle.std.specs.Prelude.{List, [], ◌∷◌, ◌++◌, ◌≡◌, ℕ, zero, suc, ◌+◌, ◌*◌, ◌-◌, ◌/◌, ◌^◌, ◌≤◌, get_or}
use Rattle.sha256.specs.Fips180.{sha256}
use Rattle.slate.specs.Digits.{base, digit, if_set, left, max_height}
use Rattle.slate.specs.Tree.{Rule, leaf_input, node_input, top}

-- a leaf, or a node of height p + 1 for a set digit p of the position
abbrev pub HasNode : ℕ → ℕ → Type 0
HasNode x zero = Unit {0}
HasNode x (suc p) = digit x p ≡ 1

-- (i,h) is present in a log of m values when 1 ≤ i ≤ m and h is 0 or p + 1 for a set bit p of i − 1
pub record Present (m i h : ℕ) : Type 0 where
  pub low : 1 ≤ i
  pub high : i ≤ m
  pub node : HasNode (i - 1) h

-- the left child of (i,p+1) is (l,p), with l = floor((i−1)/2^p)·2^p
abbrev pub left_child : ℕ → ℕ → ℕ
left_child i p = (i - 1) / 2 ^ p * 2 ^ p

-- the height of the highest node of height at most h at position x, 0 if there is none
unfoldable pub highest : ℕ → ℕ → ℕ
highest x zero = 0
highest x (suc p) = if_set (digit x p) (suc p) (highest x p)

-- the right child of (i,p+1) is the next lower height in the same entry, 0 if none is lower
abbrev pub right_height : ℕ → ℕ → ℕ
right_height i p = highest (i - 1) p

-- the first leaf under (i,h), by the floor form of equation 12
abbrev pub first_leaf : ℕ → ℕ → ℕ
first_leaf i h = (i - 1) / 2 ^ h * 2 ^ h + 1

-- the positions of the leaves under the highest node of height at most h at position x, the left child's before the right child's
unfoldable pub leaves_from : ℕ → ℕ → List ℕ
leaves_from x zero = x ∷ []
leaves_from x (suc p) = if_set (digit x p) (leaves_from (left x p) p ++ leaves_from x p) (leaves_from x p)

-- a node of an entry: its height, and its left child
pub record Node : Type 0 where
  pub height : ℕ
  pub left_index : ℕ
  pub left_height : ℕ

-- the nodes of heights at most h at position x, in rising height
unfoldable pub nodes_below : ℕ → ℕ → List Node
nodes_below x zero = []
nodes_below x (suc p) =
    nodes_below x p ++ if_set (digit x p) (record { height = suc p; left_index = base x p; left_height = p } ∷ []) []

-- the nodes of entry i
abbrev pub nodes : ℕ → List Node
nodes i = nodes_below (i - 1) max_height

-- what is hashed at the address of position x and height h, where it is present
unfoldable pub input : Rule → List (List ℕ) → ℕ → ℕ → List ℕ
input pre vs x zero = leaf_input pre (get_or vs x [])
input pre vs x (suc p) = node_input pre (suc p) (top pre vs (left x p) p) (top pre vs x p)

-- the hash input of the address (i,h), and its digest
abbrev pub hash_input : Rule → List (List ℕ) → ℕ → ℕ → List ℕ
hash_input pre vs i h = input pre vs (i - 1) h

abbrev pub digest_of : Rule → List (List ℕ) → ℕ → ℕ → List ℕ
digest_of pre vs i h = sha256 (hash_input pre vs i h)
