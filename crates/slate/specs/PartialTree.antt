-- A proof over part of a tree: some subtrees, cut off, stand as digests, and of the rest the values are handed in. A layout says which
-- subtrees are cut off, and in which order their digests stand. The path of one value is such a proof.
use Rattle.std.specs.Prelude.{Bool, true, List, [], ◌++◌, ℕ, zero, suc, ◌+◌, ◌*◌, leb, ltb, drop, take}
use Rattle.sha256.specs.Fips180.{sha256}
use Rattle.sha256.specs.Pick.{pick}
use Rattle.slate.specs.Digits.{base, digit, if_set, left}
use Rattle.slate.specs.Tree.{Rule, leaf_input, node_input, top}

-- which subtrees are cut off: cut x h speaks of the highest node of height at most h at position x; and at which nodes the digests
-- under the right child come first: right_first x p speaks of the node of height p + 1 at position x
pub record Layout : Type 0 where
  pub cut : ℕ → ℕ → Bool
  pub right_first : ℕ → ℕ → Bool

-- no position under the highest node of height at most h at position x is from a up to, not including, e
unfoldable pub outside : ℕ → ℕ → ℕ → ℕ → Bool
outside a e x h = pick (ltb x a) true (leb e (base x h))

-- the layout of the path to the leaf at position t: what does not hold t is cut off, and the digests on the side of t come first
abbrev pub single : ℕ → Layout
single t = record { cut = outside t (suc t); right_first = λ x p. leb (base x p) t }

module _ (l : Layout) where
  -- how many subtrees are cut off under the highest node of height at most h at position x
  unfoldable pub cuts : ℕ → ℕ → ℕ
  cuts x zero = pick (l.cut x 0) 1 0
  cuts x (suc p) = pick (l.cut x (suc p)) 1 (if_set (digit x p) (cuts (left x p) p + cuts x p) (cuts x p))

  -- where a proof from the digests of a node on is ds: from those under its left child on, and from those under its right child on
  abbrev pub from_left : ℕ → ℕ → List ℕ → List ℕ
  from_left x p ds = pick (l.right_first x p) (drop (32 * cuts x p) ds) ds

  abbrev pub from_right : ℕ → ℕ → List ℕ → List ℕ
  from_right x p ds = pick (l.right_first x p) ds (drop (32 * cuts (left x p) p) ds)

-- the digests of the subtrees cut off, end to end
unfoldable pub cut_digests : Rule → Layout → List (List ℕ) → ℕ → ℕ → List ℕ
cut_digests pre l vs x zero = pick (l.cut x 0) (top pre vs x 0) []
cut_digests pre l vs x (suc p) =
    pick (l.cut x (suc p))
    (top pre vs x (suc p))
    (if_set (digit x p)
    (pick (l.right_first x p)
    (cut_digests pre l vs x p ++ cut_digests pre l vs (left x p) p)
    (cut_digests pre l vs (left x p) p ++ cut_digests pre l vs x p))
    (cut_digests pre l vs x p))

module _ (pre : Rule) (l : Layout) (val : ℕ → List ℕ) where
  -- the digest of the highest node of height at most h at position x, made of the values val, by position, and of a proof ds from
  -- its digests on
  unfoldable pub rebuilt : ℕ → ℕ → List ℕ → List ℕ
  rebuilt x zero ds = pick (l.cut x 0) (take 32 ds) (sha256 (leaf_input pre (val x)))
  rebuilt x (suc p) ds =
      pick (l.cut x (suc p))
      (take 32 ds)
      (if_set (digit x p)
      (sha256 (node_input pre (suc p) (rebuilt (left x p) p (from_left l x p ds)) (rebuilt x p (from_right l x p ds))))
      (rebuilt x p ds))

  -- what is hashed for the node of height p + 1 at position x, where it is not cut off
  abbrev pub rebuilt_input : ℕ → ℕ → List ℕ → List ℕ
  rebuilt_input x p ds = node_input pre (suc p) (rebuilt (left x p) p (from_left l x p ds)) (rebuilt x p (from_right l x p ds))
