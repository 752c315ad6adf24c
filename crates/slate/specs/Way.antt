-- The way from a node up to the root of n values, by addresses alone: each node on it is a child of the next one, and the other child is
-- the sibling.
use Rattle.std.specs.Prelude.{List, [], ◌∷◌, ◌++◌, ℕ, suc, ◌-◌, take, drop}
use Rattle.sha256.specs.Fips180.{sha256}
use Rattle.slate.specs.Address.{Present, digest_of, highest, left_child, right_height}
use Rattle.slate.specs.Digits.{max_height}
use Rattle.slate.specs.Tree.{Rule}

-- a node address
pub record Address : Type 0 where
  pub index : ℕ
  pub height : ℕ

-- Way n i h l s: from the address (i,h) up to the top node of entry n the siblings are s, the one next to (i,h) first, and l of the moves
-- down that way go left. From the left child of a node the sibling is its right child, and from the right child its left child
pub data Way (n : ℕ) : ℕ → ℕ → ℕ → List Address → Type 0 where
  at_top : Way n n (highest (n - 1) max_height) 0 []
  from_left : {i p l : ℕ} {s : List Address} → Present n i (suc p) → Way n i (suc p) l s
      → Way n (left_child i p) p (suc l) (record { index = i; height = right_height i p } ∷ s)
  from_right : {i p l : ℕ} {s : List Address} → Present n i (suc p) → Way n i (suc p) l s
      → Way n i (right_height i p) l (record { index = left_child i p; height = p } ∷ s)

-- the digests at these addresses, end to end
abbrev pub digests : Rule → List (List ℕ) → List Address → List ℕ
digests pre vs [] = []
digests pre vs (a ∷ s) = digest_of pre vs a.index a.height ++ digests pre vs s

-- a digest d at the beginning of the way, folded with a proof: each node hashes the prefix of its height, the left digest and the right
-- digest, of which one is folded so far and the other is the next 32 bytes of the proof
unfoldable pub fold_up : {n i h l : ℕ} {s : List Address} → Rule → Way n i h l s → List ℕ → List ℕ → List ℕ
fold_up pre at_top d proof = d
fold_up pre (from_left {p = p} at up) d proof = fold_up pre up (sha256 (pre (suc p) ∷ (d ++ take 32 proof))) (drop 32 proof)
fold_up pre (from_right {p = p} at up) d proof = fold_up pre up (sha256 (pre (suc p) ∷ (take 32 proof ++ d))) (drop 32 proof)
