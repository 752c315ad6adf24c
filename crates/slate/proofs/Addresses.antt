-- Node addresses, indexes from 1 with a height, against the recursion on the height at a position.
-- Assumes nothing.
use mathlib.Core.List.{List, [], ◌∷◌, ◌++◌}
use mathlib.Core.Path.{◌≡◌, refl, ap, ap₂, ◌∙◌}
use Prim.Native.Nat.{ℕ, zero, suc, ◌+◌, ◌*◌, ◌-◌, ◌%◌, ◌^◌, ◌≤◌, ◌<◌}
use native.Mathlib.Nat.{mod-lt, mod-one, pow-suc}
use native.Mathlib.Omega.{arith}
use lib.Count.{count_leading_zeros, leading_unique}
use lib.ListN.{length, get_or, length-append, get_or-append}
use lib.Pow.{pow_mono, pow_pos}
use lib.Seq.{get_or_at}
use Rattle.sha256.specs.Fips180.{sha256}
use Rattle.slate.specs.Address.{HasNode, Node, Present, hash_input, highest, input, nodes_below}
use Rattle.slate.specs.Bytes.{Bytes}
use Rattle.slate.specs.Claims as claims
use Rattle.slate.specs.Digits.{base, digit, left, max_height, ones_below}
use Rattle.slate.specs.Rules.{rule_of}
use Rattle.slate.specs.Tree.{Rule, node_input, rfc6962, slate, top}
use Rattle.slate.specs.declared.rule.Rule as code
use Rattle.slate.specs.declared.rule.Rule.TheVariants as rules
use Rattle.slate.proofs.Bits.{base_le, left_pos, left_present, mod_step, ones_below_mono, whole_base}
use Rattle.slate.proofs.Cases.{by_digit, by_order}
use Rattle.slate.proofs.Lists.{bytes_append, bytes_cons}
use Rattle.slate.proofs.Tops.{root_top, top_bytes, top_highest}

-- ---- the highest node of height at most h at position x

pub highest_le : (x h : ℕ) → highest x h ≤ h
unfolding highest
highest_le x zero = omega arith
highest_le x (suc p) = by_digit x p (λ d. rw d (omega (arith, highest_le x p))) (λ d. rw d (omega arith))

-- of the digits below p + 1 the highest that is set is p or one below p
highest_none : (x p : ℕ) → digit x p ≡ 0 → highest x (suc p) ≡ highest x p
unfolding highest
highest_none x p d = rw d

highest_here : (x p : ℕ) → digit x p ≡ 1 → highest x (suc p) ≡ suc p
unfolding highest
highest_here x p d = rw d

-- it is the number of digits of x below h, without leading zeros
highest_length : (x h : ℕ) → (x % 2 ^ h < 2 ^ highest x h) × (2 ^ highest x h ≤ 2 * (x % 2 ^ h) + 1)
unfolding highest
highest_length x zero = (omega (arith, mod-one x), omega arith)
highest_length x (suc p) =
    by_digit x p
    (λ d.
    let m : x % 2 ^ suc p ≡ x % 2 ^ p = mod_step x p ∙ rw d (omega arith) in
    rw (highest_none x p d, m) (highest_length x p))
    (λ d.
    let m : x % 2 ^ suc p ≡ 2 ^ p + x % 2 ^ p = mod_step x p ∙ rw d (omega arith) in
    rw (highest_here x p d) (mod-lt x (pow_pos (suc p)), omega (arith, m, pow-suc 2 p)))

pub highest_leading : (x h : ℕ) → h < 32 → 32 - count_leading_zeros 32 (x % 2 ^ h) ≡ highest x h
highest_leading x h lt =
    let le = highest_le x h in
    let u = highest_length x h in
    omega (arith, leading_unique 32 (x % 2 ^ h) (32 - highest x h) (highest x h) (omega arith) u.0 u.1)

pub highest_node : (x h : ℕ) → HasNode x (highest x h)
unfolding highest
highest_node x zero = tt
highest_node x (suc p) = by_digit x p (λ d. rw d (highest_node x p)) (λ d. rw d d)

node_digit : (x k : ℕ) → HasNode x k → (k ≡ 0 → ⊥) → digit x (k - 1) ≡ 1
node_digit x zero n f = absurd (f refl)
node_digit x (suc p) n f = let e : suc p - 1 ≡ p = omega arith in rw e n

-- k is its height: the digit below k is set
pub highest_digit : (x h k : ℕ) → k ≡ highest x h → (k ≡ 0 → ⊥) → digit x (k - 1) ≡ 1
highest_digit x h k e f = node_digit x k (rw e (highest_node x h)) f

-- and k is at most h
pub highest_height : (x h k : ℕ) → k ≡ highest x h → k ≤ h
highest_height x h k e = omega (arith, e, highest_le x h)

-- what stays the same from height p + 1 to p where digit p is not set is the same at the highest node
pub to_highest {ℓ} : {A : Type ℓ} (x : ℕ) (f : ℕ → A) → ((p : ℕ) → digit x p ≡ 0 → f (suc p) ≡ f p) → (h : ℕ) → f h ≡ f (highest x h)
unfolding highest
to_highest x f stays zero = refl
to_highest x f stays (suc p) = by_digit x p (λ d. rw d (stays p d ∙ to_highest x f stays p)) (λ d. rw d)

-- no node of height at most h is higher
pub highest_most : (x h q : ℕ) → q ≤ h → HasNode x q → q ≤ highest x h
unfolding highest
highest_most x h zero le n = omega arith
highest_most x zero (suc r) le n = absurd (omega arith)
highest_most x (suc p) (suc r) le n =
    by_digit x p
    (λ d. rw d (by_order r p
    (λ l. highest_most x p (suc r) l n)
    (λ l. let e : r ≡ p = omega arith in absurd (omega (arith, rw e at n)))))
    (λ d. rw d le)

pub right_child : claims.RightChild
right_child i p = (highest_le (i - 1) p, λ q le n. highest_most (i - 1) p q le n)

-- the left child of the node of height p + 1 is a node of exactly height p, or a leaf
pub left_highest : (x p : ℕ) → digit x p ≡ 1 → highest (left x p) p ≡ p
unfolding highest
left_highest x zero d = refl
left_highest x (suc p) d = rw (left_present x p d)

pub left_top : (pre : Rule) (vs : List (List ℕ)) (x p : ℕ) → digit x p ≡ 1
    → top pre vs (left x p) p ≡ sha256 (input pre vs (left x p) p)
left_top pre vs x p d = rw (left_highest x p d) at (top_highest pre vs (left x p) p)

-- ---- addresses

pub leaf_present : claims.LeafPresent
leaf_present m i = (λ a b. record { low = a; high = b; node = tt }, λ at. (at.low, at.high))

pub node_present : claims.NodePresent
unfolding digit
node_present m i p = (λ a b d. record { low = a; high = b; node = d }, λ at. (at.low, at.high, at.node))

-- both children of a node present are present
pub children_present : claims.ChildrenPresent
unfolding base left
children_present m i p w = (
  record {
    low = left_pos (i - 1) p w.node;
    high = omega (arith, w.low, w.high, base_le (i - 1) p);
    node = rw (left_highest (i - 1) p w.node) at (highest_node (left (i - 1) p) p);
  },
  record { low = w.low; high = w.high; node = highest_node (i - 1) p },
)

-- a leaf's input is its value behind the prefix
pub leaf_input_lem : claims.LeafInput
unfolding input
leaf_input_lem pre vs i = refl

-- a node's input is its height's prefix and the digests of its children
pub node_input_lem : claims.NodeInput
unfolding base input left
node_input_lem pre vs m i p w =
    ap₂ (node_input pre (suc p)) (left_top pre vs (i - 1) p w.node) (top_highest pre vs (i - 1) p)

-- in bytes
pub leaf_bytes : claims.LeafBytes
unfolding input
leaf_bytes vs i = (refl, refl)

pub node_bytes_lem : claims.NodeBytes
node_bytes_lem vs m i p at = let e = node_input_lem slate vs m i p at in (e, ap sha256 e)

pub rfc_leaf_bytes : claims.RfcLeafBytes
unfolding input
rfc_leaf_bytes vs i = (refl, refl)

pub rfc_node_bytes : claims.RfcNodeBytes
rfc_node_bytes vs m i p at = let e = node_input_lem rfc6962 vs m i p at in (e, ap sha256 e)

pub prefix_bytes : claims.PrefixBytes
prefix_bytes = (refl, λ p. refl, refl, λ p. refl)

pub top_digest : claims.TopDigest
top_digest pre vs i h = top_highest pre vs (i - 1) h

-- the root is the digest of the last entry's highest node
pub root_digest : claims.RootDigest
root_digest pre vs x n =
    let e : suc x - 1 ≡ x = omega arith in
    rw e (root_top pre vs x n ∙ top_highest pre vs x max_height)

pub root_of_one : claims.RootOfOne
unfolding digit highest input max_height
root_of_one v = root_digest slate (v ∷ []) 0 refl

-- ---- the list of an entry's nodes

-- the node of height p + 1
abbrev pub node_of : ℕ → ℕ → Node
node_of x p = record { height = suc p; left_index = base x p; left_height = p }

pub nodes_count : (x h : ℕ) → length (nodes_below x h) ≡ ones_below x h
unfolding nodes_below ones_below
nodes_count x zero = refl
nodes_count x (suc p) =
    by_digit x p
    (λ d. rw d (simp length-append (omega (arith, nodes_count x p))))
    (λ d. rw d (simp length-append (omega (arith, nodes_count x p))))

ones_rise : (x p h : ℕ) → p < h → digit x p ≡ 1 → ones_below x p < ones_below x h
unfolding ones_below
ones_rise x p h lt s = omega (arith, ones_below_mono x (suc p) h lt)

-- each set digit p below h has its node, behind one node for each set digit below p
pub node_listed : (x h p : ℕ) (d : Node) → p < h → digit x p ≡ 1 → get_or (nodes_below x h) (ones_below x p) d ≡ node_of x p
unfolding nodes_below
node_listed x zero p d lt s = absurd (omega arith)
node_listed x (suc q) p d lt s =
    by_order p q
    (λ l. get_or-append (nodes_below x q) _ d (ones_below x p) (omega (arith, nodes_count x q, ones_rise x p q l s))
    ∙ node_listed x q p d l s)
    (λ l. let e : p ≡ q = omega arith in
    rw (e, rw e at s) (get_or_at (nodes_below x q) (node_of x q) [] d (ones_below x q) (nodes_count x q)))

-- n is the node of a set digit of x below h, and k set digits are below that
pub record Listed (x h k : ℕ) (n : Node) : Type 0 where
  pub place : ℕ
  pub below : place < h
  pub set : digit x place ≡ 1
  pub rank : ones_below x place ≡ k
  pub is : n ≡ node_of x place

-- each element of the list is the node of a set digit
pub listed_node : (x h k : ℕ) (d : Node) → k < length (nodes_below x h) → Listed x h k (get_or (nodes_below x h) k d)
unfolding nodes_below ones_below
listed_node x zero k d lt = absurd (omega arith)
listed_node x (suc p) k d lt =
    by_order k (ones_below x p)
    (λ l.
    let r = listed_node x p k d (omega (arith, nodes_count x p)) in
    let e = get_or-append (nodes_below x p) _ d k (omega (arith, nodes_count x p)) in
    record { place = r.place; below = omega arith; set = r.set; rank = r.rank; is = e ∙ r.is })
    (λ l. by_digit x p
    (λ z. absurd (omega (arith, nodes_count x (suc p))))
    (λ s.
    let e : ones_below x p ≡ k = omega (arith, nodes_count x (suc p)) in
    record { place = p; below = omega arith; set = s; rank = e; is = rw e at (node_listed x (suc p) p d (omega arith) s) }))

-- the list is in rising height
pub nodes_rise : claims.NodesRise
nodes_rise i k l d kl lt =
    let r = listed_node (i - 1) max_height k d (omega arith) in
    let s = listed_node (i - 1) max_height l d lt in
    rw (r.is, s.is)
    (by_order r.place s.place
    (λ q. omega arith)
    (λ q. absurd (omega (arith, ones_below_mono (i - 1) s.place r.place q))))

-- a set digit of a number below 2 ^ h is below h
pub set_below : (x h p : ℕ) → x < 2 ^ h → digit x p ≡ 1 → p < h
set_below x h p lt d =
    by_order p h (λ l. l)
    (λ l. let q : 2 ^ h ≤ 2 ^ p = pow_mono l in absurd (omega (arith, left_pos x p d, whole_base x p (omega arith))))

-- the list of entry i has each node present there
pub present_listed : claims.NodesListed
unfolding base
present_listed m i p d small w =
    node_listed (i - 1) max_height p d (set_below (i - 1) max_height p (omega (arith, w.low, w.high)) w.node) w.node

-- the list of entry i has nodes present there only, each with its left child
pub listed_present : claims.ListedNodes
unfolding base
listed_present m i k d low high lt =
    let r = listed_node (i - 1) max_height k d lt in
    rw r.is (record { low = low; high = high; node = r.set }, refl, refl)

-- ---- what is hashed is bytes where the prefixes are

prefixed_bytes : (pre : Rule) → ((h : ℕ) → h ≤ max_height → pre h < 256)
    → (vs : List (List ℕ)) (m i h : ℕ) → m ≤ 2 ^ max_height → Present m i h → Bytes (get_or vs (i - 1) []) → Bytes (hash_input pre vs i h)
unfolding input
prefixed_bytes pre byte vs m i zero small at b = bytes_cons (pre 0) (get_or vs (i - 1) []) (byte 0 (omega arith)) b
prefixed_bytes pre byte vs m i (suc p) small at b =
    let l : List ℕ = top pre vs (left (i - 1) p) p in
    let r : List ℕ = top pre vs (i - 1) p in
    let low : p < max_height = set_below (i - 1) max_height p (omega (arith, at.low, at.high)) at.node in
    bytes_cons (pre (suc p)) (l ++ r) (byte (suc p) (omega arith))
    (bytes_append l r (top_bytes pre vs (left (i - 1) p) p) (top_bytes pre vs (i - 1) p))

-- a height is a byte, and so are 0x00 and 0x01
prefix_byte : (rule : code.Rule) (h : ℕ) → h ≤ max_height → rule_of rule h < 256
unfolding max_height
prefix_byte rules.Slate h le = omega arith
prefix_byte rules.Rfc6962 zero le = omega arith
prefix_byte rules.Rfc6962 (suc p) le = omega arith

pub input_bytes : claims.InputBytes
input_bytes rule = prefixed_bytes (rule_of rule) (prefix_byte rule)
