-- What is claimed of the tree's definitions: each claim is a type, and proofs/ has its proof.
use Rattle.std.specs.Prelude.{true, false, List, [], ◌∷◌, ◌++◌, ◌⊎◌, ◌≡◌, ℕ, suc, ◌+◌, ◌*◌, ◌-◌, ◌/◌, ◌%◌, ◌^◌, ◌≤◌, ◌<◌, min, length, get_or, replicate, take}
use Rattle.std.specs.Int.Count.{ones}
use Rattle.sha256.specs.Fips180.{sha256}
use Rattle.slate.specs.Address.{HasNode, Node, Present, digest_of, first_leaf, hash_input, highest, leaves_from, left_child, nodes, right_height}
use Rattle.slate.specs.Bytes.{Bytes, part}
use Rattle.slate.specs.Clash.{Clash, Same}
use Rattle.slate.specs.Comparison.{compared, differ_at, equal, first_shorter, second_shorter}
use Rattle.slate.specs.Difference.{differing_leaf}
use Rattle.slate.specs.Digits.{base, digit, left, max_height, ones_below}
use Rattle.slate.specs.Hashed.{ClashAmong, Hashed, In}
use Rattle.slate.specs.Index.{is_index}
use Rattle.slate.specs.Length.{entry_len, offset}
use Rattle.slate.specs.Moves.{hops, hops_from, lefts, lefts_from, split_bit}
use Rattle.slate.specs.PartialTree.{Layout, cut_digests, cuts, outside, rebuilt, single}
use Rattle.slate.specs.Path.{fold, fold_from, path, path_from}
use Rattle.slate.specs.Rules.{rule_of}
use Rattle.slate.specs.Tree.{Rule, leaf_input, node_input, rfc6962, root, slate, top}
use Rattle.slate.specs.Way.{Address, Way, digests, fold_up}
use Rattle.slate.specs.declared.rule.Rule as code
use Rattle.slate.specs.declared.rule.Rule.TheVariants as rules

-- a log has at most 4,096 values
abbrev pub Limit : Type 0
Limit = 2 ^ max_height ≡ 4096

-- each element of a list of bytes is a byte
abbrev pub ByteLists : Type 0
ByteLists =
    Bytes []
    × ((x : ℕ) (l : List ℕ) → x < 256 → Bytes l → Bytes (x ∷ l))
    × ((x : ℕ) (l : List ℕ) → Bytes (x ∷ l) → (x < 256) × Bytes l)

-- the n bytes from o on: those behind the first o, and no more than there are
abbrev pub Parts : Type 0
Parts =
    ((a b c : List ℕ) → part (a ++ (b ++ c)) (length a) (length b) ≡ b)
    × ((b : List ℕ) (o n : ℕ) → length (part b o n) ≡ min n (length b - o))

-- the test of an index: i is that of one of n values
abbrev pub IndexRange : Type 0
IndexRange = (i n : ℕ) → (1 ≤ i → i ≤ n → is_index i n ≡ true) × (is_index i n ≡ true → (1 ≤ i) × (i ≤ n))

-- ---- entries: the length of one, and where it begins

-- its length is 43 + value item + 70 times the number of ones in i − 1
abbrev pub EntryLength : Type 0
EntryLength = (n i : ℕ) → 1 ≤ i → i ≤ 2 ^ max_height → entry_len n (i - 1) ≡ 43 + n + 70 * ones (i - 1)

-- the first entry begins at 0, and each other one where the one before it ends
abbrev pub EntriesFollow : Type 0
EntriesFollow =
    (vs : List (List ℕ))
    → (offset vs 0 ≡ 0)
    × ((i : ℕ) → 1 ≤ i → i ≤ 2 ^ max_height → offset vs i ≡ offset vs (i - 1) + (43 + length (get_or vs (i - 1) []) + 70 * ones (i - 1)))

-- ---- moves, for 1 ≤ i ≤ n ≤ 4,096

-- j is the highest bit where n and i − 1 differ
abbrev pub SplitBit : Type 0
SplitBit =
    (n i : ℕ) → 1 ≤ i → i ≤ n → n ≤ 2 ^ max_height
    → (digit n (split_bit n i) ≡ digit (i - 1) (split_bit n i) → ⊥) × ((p : ℕ) → split_bit n i < p → digit n p ≡ digit (i - 1) p)

-- the formulas count the moves of the recursion on the height
abbrev pub HopsFormula : Type 0
HopsFormula = (n i : ℕ) → 1 ≤ i → i ≤ n → n ≤ 2 ^ max_height → hops n i ≡ hops_from (n - 1) max_height (i - 1)

abbrev pub LeftsFormula : Type 0
LeftsFormula = (n i : ℕ) → 1 ≤ i → i ≤ n → n ≤ 2 ^ max_height → lefts n i ≡ lefts_from (n - 1) max_height (i - 1)

-- ---- addresses

-- (i,h) is present in a log of m values when 1 ≤ i ≤ m and h is 0
abbrev pub LeafPresent : Type 0
LeafPresent = (m i : ℕ) → (1 ≤ i → i ≤ m → Present m i 0) × (Present m i 0 → (1 ≤ i) × (i ≤ m))

-- or p + 1 for a set bit p of i − 1
abbrev pub NodePresent : Type 0
NodePresent =
    (m i p : ℕ)
    → (1 ≤ i → i ≤ m → (i - 1) / 2 ^ p % 2 ≡ 1 → Present m i (suc p))
    × (Present m i (suc p) → (1 ≤ i) × (i ≤ m) × ((i - 1) / 2 ^ p % 2 ≡ 1))

-- so many digits below h are set in x
abbrev pub OnesBelow : Type 0
OnesBelow = (x h : ℕ) → ones_below x h ≡ ones (x % 2 ^ h)

-- the list of the nodes of entry i has each node that is present, with its left child
abbrev pub NodesListed : Type 0
NodesListed =
    (m i p : ℕ) (d : Node) → m ≤ 2 ^ max_height → Present m i (suc p)
    → get_or (nodes i) (ones_below (i - 1) p) d ≡ record { height = suc p; left_index = left_child i p; left_height = p }

-- it has no others
abbrev pub ListedNodes : Type 0
ListedNodes =
    (m i k : ℕ) (d : Node) → 1 ≤ i → i ≤ m → k < length (nodes i)
    → Present m i (get_or (nodes i) k d).height
    × ((get_or (nodes i) k d).height ≡ suc (get_or (nodes i) k d).left_height)
    × ((get_or (nodes i) k d).left_index ≡ left_child i (get_or (nodes i) k d).left_height)

-- and they stand in rising height
abbrev pub NodesRise : Type 0
NodesRise =
    (i k l : ℕ) (d : Node) → k < l → l < length (nodes i) → (get_or (nodes i) k d).height < (get_or (nodes i) l d).height

-- both children of a node are present where it is
abbrev pub ChildrenPresent : Type 0
ChildrenPresent = (m i p : ℕ) → Present m i (suc p) → Present m (left_child i p) p × Present m i (right_height i p)

-- the right child is the next lower height in the same entry
abbrev pub RightChild : Type 0
RightChild = (i p : ℕ) → (right_height i p ≤ p) × ((q : ℕ) → q ≤ p → HasNode (i - 1) q → q ≤ right_height i p)

-- the leaves under the node of height h in entry i are those from the first leaf to i
abbrev pub LeavesUnder : Type 0
LeavesUnder =
    (i h : ℕ) → 1 ≤ i
    → (length (leaves_from (i - 1) h) ≡ suc i - first_leaf i h)
    × ((k : ℕ) → k < length (leaves_from (i - 1) h) → suc (get_or (leaves_from (i - 1) h) k 0) ≡ first_leaf i h + k)

-- the leaf (i,0) is the only one under itself, and a node has those of its left child, then those of its right child
abbrev pub LeavesOfChildren : Type 0
LeavesOfChildren =
    ((i : ℕ) → leaves_from (i - 1) 0 ≡ (i - 1) ∷ [])
    × ((m i p : ℕ) → Present m i (suc p)
    → leaves_from (i - 1) (suc p) ≡ leaves_from (left_child i p - 1) p ++ leaves_from (i - 1) (right_height i p))

-- a leaf hashes its prefix and its value
abbrev pub LeafInput : Type 0
LeafInput = (pre : Rule) (vs : List (List ℕ)) (i : ℕ) → hash_input pre vs i 0 ≡ leaf_input pre (get_or vs (i - 1) [])

-- a node hashes its prefix and the digests of its two children
abbrev pub NodeInput : Type 0
NodeInput =
    (pre : Rule) (vs : List (List ℕ)) (m i p : ℕ) → Present m i (suc p)
    → hash_input pre vs i (suc p)
    ≡ node_input pre (suc p) (digest_of pre vs (left_child i p) p) (digest_of pre vs i (right_height i p))

-- the two prefix rules of the code: before a leaf both have 0x00; before a node document 01's has the height, RFC 6962's 0x01
abbrev pub PrefixBytes : Type 0
PrefixBytes =
    (rule_of rules.Slate 0 ≡ 0x00)
    × ((p : ℕ) → rule_of rules.Slate (suc p) ≡ suc p)
    × (rule_of rules.Rfc6962 0 ≡ 0x00)
    × ((p : ℕ) → rule_of rules.Rfc6962 (suc p) ≡ 0x01)

-- leaf digest: SHA-256 of 0x00 and the value item, kind included
abbrev pub LeafBytes : Type 0
LeafBytes =
    (vs : List (List ℕ)) (i : ℕ)
    → (hash_input slate vs i 0 ≡ 0x00 ∷ get_or vs (i - 1) []) × (digest_of slate vs i 0 ≡ sha256 (0x00 ∷ get_or vs (i - 1) []))

-- node digest: SHA-256 of the height as one byte, the left digest, the right digest
abbrev pub NodeBytes : Type 0
NodeBytes =
    (vs : List (List ℕ)) (m i p : ℕ) → Present m i (suc p)
    → (hash_input slate vs i (suc p) ≡ suc p ∷ (digest_of slate vs (left_child i p) p ++ digest_of slate vs i (right_height i p)))
    × (digest_of slate vs i (suc p) ≡ sha256 (suc p ∷ (digest_of slate vs (left_child i p) p ++ digest_of slate vs i (right_height i p))))

-- the RFC's leaf hash: SHA-256 of 0x00 and the value item
abbrev pub RfcLeafBytes : Type 0
RfcLeafBytes =
    (vs : List (List ℕ)) (i : ℕ)
    → (hash_input rfc6962 vs i 0 ≡ 0x00 ∷ get_or vs (i - 1) []) × (digest_of rfc6962 vs i 0 ≡ sha256 (0x00 ∷ get_or vs (i - 1) []))

-- its node hash: SHA-256 of 0x01, the left digest, the right digest
abbrev pub RfcNodeBytes : Type 0
RfcNodeBytes =
    (vs : List (List ℕ)) (m i p : ℕ) → Present m i (suc p)
    → (hash_input rfc6962 vs i (suc p) ≡ 0x01 ∷ (digest_of rfc6962 vs (left_child i p) p ++ digest_of rfc6962 vs i (right_height i p)))
    × (digest_of rfc6962 vs i (suc p) ≡ sha256 (0x01 ∷ (digest_of rfc6962 vs (left_child i p) p ++ digest_of rfc6962 vs i (right_height i p))))

-- so by both rules all that is hashed is bytes where the values are
abbrev pub InputBytes : Type 0
InputBytes =
    (rule : code.Rule) (vs : List (List ℕ)) (m i h : ℕ) → m ≤ 2 ^ max_height → Present m i h → Bytes (get_or vs (i - 1) [])
    → Bytes (hash_input (rule_of rule) vs i h)

-- the root of no values is SHA-256 of no bytes
abbrev pub EmptyRoot : Type 0
EmptyRoot = (pre : Rule) → root pre [] ≡ sha256 []

-- it differs from what an erased cell reads, 32 bytes 0xFF, and from what that reads after inversion, 32 zero bytes
abbrev pub EmptyRootApart : Type 0
EmptyRootApart = (pre : Rule) → (root pre [] ≡ replicate 32 0xFF → ⊥) × (root pre [] ≡ replicate 32 0x00 → ⊥)

-- the leaf digest is the root for n = 1
abbrev pub RootOfOne : Type 0
RootOfOne = (v : List ℕ) → root slate (v ∷ []) ≡ sha256 (0x00 ∷ v)

-- the root is the digest of the last entry's top node
abbrev pub RootDigest : Type 0
RootDigest =
    (pre : Rule) (vs : List (List ℕ)) (x : ℕ) → length vs ≡ suc x → root pre vs ≡ digest_of pre vs (suc x) (highest x max_height)

-- ---- tops and values

-- a top is the digest of the highest node of height at most h
abbrev pub TopDigest : Type 0
TopDigest = (pre : Rule) (vs : List (List ℕ)) (i h : ℕ) → top pre vs (i - 1) h ≡ digest_of pre vs i (highest (i - 1) h)

-- a clash of two logs is an address present in both whose hash inputs differ and whose digests are equal
abbrev pub ClashWhen : Type 0
ClashWhen =
    (pre : Rule) (vs ws : List (List ℕ))
    → ((i h : ℕ) → Present (length vs) i h → Present (length ws) i h → (hash_input pre vs i h ≡ hash_input pre ws i h → ⊥)
    → sha256 (hash_input pre vs i h) ≡ sha256 (hash_input pre ws i h) → Clash pre vs ws)
    × (Clash pre vs ws
    → (i h : ℕ) × Present (length vs) i h × Present (length ws) i h × (hash_input pre vs i h ≡ hash_input pre ws i h → ⊥)
    × (sha256 (hash_input pre vs i h) ≡ sha256 (hash_input pre ws i h)))

-- one of a list of inputs hashed is its first, or one of the rest
abbrev pub InWhen : Type 0
InWhen =
    ((a : Hashed) → In a [] → ⊥)
    × ((a b : Hashed) (hs : List Hashed) → (a ≡ b → In a (b ∷ hs)) × (In a hs → In a (b ∷ hs)) × (In a (b ∷ hs) → (a ≡ b) ⊎ In a hs))

-- a clash among them is one whose address is present in the tree, whose input is not the tree's there, and whose digest is
abbrev pub ClashAmongWhen : Type 0
ClashAmongWhen =
    (pre : Rule) (vs : List (List ℕ)) (hs : List Hashed)
    → ((i h : ℕ) (a : List ℕ) → In (record { index = i; height = h; input = a }) hs → Present (length vs) i h
    → (hash_input pre vs i h ≡ a → ⊥) → sha256 (hash_input pre vs i h) ≡ sha256 a → ClashAmong pre vs hs)
    × (ClashAmong pre vs hs
    → (i h : ℕ) × (a : List ℕ) × In (record { index = i; height = h; input = a }) hs × Present (length vs) i h
    × (hash_input pre vs i h ≡ a → ⊥) × (sha256 (hash_input pre vs i h) ≡ sha256 a))

-- a top depends on the values below it alone
abbrev pub EqualValues : Type 0
EqualValues =
    (pre : Rule) (vs ws : List (List ℕ)) (x h : ℕ) → Same (base x h) (suc x) vs ws → top pre vs x h ≡ top pre ws x h

-- equal tops give equal values below them, or a clash at an address of both
abbrev pub EqualTops : Type 0
EqualTops =
    (pre : Rule) (vs ws : List (List ℕ)) (x h : ℕ) → x < length vs → x < length ws → top pre vs x h ≡ top pre ws x h
    → Same (base x h) (suc x) vs ws ⊎ Clash pre vs ws

-- ---- the leaf under unequal tops to which the digests lead

-- at a leaf it is the leaf; at a node it is under the left child where the left digests differ, and where they are equal under the right
abbrev pub LeafByDigests : Type 0
LeafByDigests =
    (pre : Rule) (vs ws : List (List ℕ))
    → ((i : ℕ) → differing_leaf pre vs ws (i - 1) 0 ≡ i - 1)
    × ((m i p : ℕ) → Present m i (suc p)
    → ((digest_of pre vs (left_child i p) p ≡ digest_of pre ws (left_child i p) p → ⊥)
    → differing_leaf pre vs ws (i - 1) (suc p) ≡ differing_leaf pre vs ws (left_child i p - 1) p)
    × (digest_of pre vs (left_child i p) p ≡ digest_of pre ws (left_child i p) p
    → differing_leaf pre vs ws (i - 1) (suc p) ≡ differing_leaf pre vs ws (i - 1) (right_height i p)))

-- it is one of the leaves under them
abbrev pub LeafUnder : Type 0
LeafUnder =
    (pre : Rule) (vs ws : List (List ℕ)) (x h : ℕ)
    → (base x h ≤ differing_leaf pre vs ws x h) × (differing_leaf pre vs ws x h ≤ x)

-- its values differ, whatever digests agree
abbrev pub LeafDiffers : Type 0
LeafDiffers =
    (pre : Rule) (vs ws : List (List ℕ)) (x h : ℕ) → (top pre vs x h ≡ top pre ws x h → ⊥)
    → get_or vs (differing_leaf pre vs ws x h) [] ≡ get_or ws (differing_leaf pre vs ws x h) [] → ⊥

-- it is the first of them whose values differ, or there is a clash at an address of both
abbrev pub LeafFirst : Type 0
LeafFirst =
    (pre : Rule) (vs ws : List (List ℕ)) (x h : ℕ) → x < length vs → x < length ws
    → Same (base x h) (differing_leaf pre vs ws x h) vs ws ⊎ Clash pre vs ws

-- ---- inclusion, for 1 ≤ i ≤ n ≤ 4,096

-- a path has a digest of 32 bytes for each move
abbrev pub PathLength : Type 0
PathLength =
    (pre : Rule) (vs : List (List ℕ)) (i : ℕ) → 1 ≤ i → i ≤ length vs → length vs ≤ 2 ^ max_height
    → length (path pre vs i) ≡ 32 * hops (length vs) i

-- there is a way from leaf i up to the root of n values
abbrev pub WayThere : Type 0
WayThere = (n i : ℕ) → 1 ≤ i → i ≤ n → n ≤ 2 ^ max_height → (l : ℕ) × (s : List Address) × Way n i 0 l s

-- hops(n,i) are the moves of the way, and lefts(n,i) those of them that go left
abbrev pub WayMoves : Type 0
WayMoves =
    (n i l : ℕ) (s : List Address) → 1 ≤ i → i ≤ n → n ≤ 2 ^ max_height → Way n i 0 l s
    → (hops n i ≡ length s) × (lefts n i ≡ l)

-- the path is the digests of the siblings on the way, the one next to the leaf first
abbrev pub PathSiblings : Type 0
PathSiblings =
    (pre : Rule) (vs : List (List ℕ)) (i l : ℕ) (s : List Address) → Way (length vs) i 0 l s → path pre vs i ≡ digests pre vs s

-- any value folds with any proof along the way, from its leaf digest up
abbrev pub FoldSteps : Type 0
FoldSteps =
    (pre : Rule) (n i l : ℕ) (s : List Address) (way : Way n i 0 l s) (v proof : List ℕ)
    → fold pre n i v proof ≡ fold_up pre way (sha256 (pre 0 ∷ v)) proof

-- value i folds with its path to the root
abbrev pub FoldPath : Type 0
FoldPath =
    (pre : Rule) (vs : List (List ℕ)) (i : ℕ) → 1 ≤ i → i ≤ length vs → length vs ≤ 2 ^ max_height
    → fold pre (length vs) i (get_or vs (i - 1) []) (path pre vs i) ≡ root pre vs

-- ---- a proof over part of a tree

-- a digest of 32 bytes for each subtree cut off
abbrev pub CutDigestsLength : Type 0
CutDigestsLength =
    (pre : Rule) (l : Layout) (vs : List (List ℕ)) (x h : ℕ) → length (cut_digests pre l vs x h) ≡ 32 * cuts l x h

-- a subtree cut off is one digest, its own, and in a proof the next 32 bytes stand for it
abbrev pub CutOff : Type 0
CutOff =
    (pre : Rule) (l : Layout) (x h : ℕ) → l.cut x h ≡ true
    → (cuts l x h ≡ 1)
    × ((vs : List (List ℕ)) → cut_digests pre l vs x h ≡ top pre vs x h)
    × ((val : ℕ → List ℕ) (ds : List ℕ) → rebuilt pre l val x h ds ≡ take 32 ds)

-- of a node that is not cut off the digests stand in the order of the layout
abbrev pub CutDigestsOrder : Type 0
CutDigestsOrder =
    (pre : Rule) (l : Layout) (vs : List (List ℕ)) (x p : ℕ) → l.cut x (suc p) ≡ false → digit x p ≡ 1
    → (l.right_first x p ≡ true → cut_digests pre l vs x (suc p) ≡ cut_digests pre l vs x p ++ cut_digests pre l vs (left x p) p)
    × (l.right_first x p ≡ false → cut_digests pre l vs x (suc p) ≡ cut_digests pre l vs (left x p) p ++ cut_digests pre l vs x p)

-- and in that order any bytes are taken for them
abbrev pub RebuiltOrder : Type 0
RebuiltOrder =
    (pre : Rule) (l : Layout) (val : ℕ → List ℕ) (x p : ℕ) (a b : List ℕ) → l.cut x (suc p) ≡ false → digit x p ≡ 1
    → (l.right_first x p ≡ true → length a ≡ 32 * cuts l x p
    → rebuilt pre l val x (suc p) (a ++ b)
    ≡ sha256 (node_input pre (suc p) (rebuilt pre l val (left x p) p b) (rebuilt pre l val x p (a ++ b))))
    × (l.right_first x p ≡ false → length a ≡ 32 * cuts l (left x p) p
    → rebuilt pre l val x (suc p) (a ++ b)
    ≡ sha256 (node_input pre (suc p) (rebuilt pre l val (left x p) p (a ++ b)) (rebuilt pre l val x p b)))

-- a proof that begins with the digests of the tree, with its values where it is not cut off, gives its digest
abbrev pub RebuiltComplete : Type 0
RebuiltComplete =
    (pre : Rule) (l : Layout) (vs : List (List ℕ)) (val : ℕ → List ℕ) (x h : ℕ) (r : List ℕ)
    → ((y : ℕ) → base x h ≤ y → y ≤ x → l.cut y 0 ≡ false → val y ≡ get_or vs y [])
    → rebuilt pre l val x h (cut_digests pre l vs x h ++ r) ≡ top pre vs x h

-- the path to a leaf and the fold with any proof are those of the layout `single`
abbrev pub SinglePath : Type 0
SinglePath =
    (pre : Rule) (t x h : ℕ) → base x h ≤ t → t ≤ x
    → (cuts (single t) x h ≡ hops_from x h t)
    × ((vs : List (List ℕ)) → cut_digests pre (single t) vs x h ≡ path_from pre vs x h t)
    × ((v proof : List ℕ) → rebuilt pre (single t) (λ y. v) x h proof ≡ fold_from pre x h t (sha256 (leaf_input pre v)) proof)

-- what lies outside a run of positions from a up to, not including, e: a subtree that ends before a, or begins at e or behind it
abbrev pub OutsideExactly : Type 0
OutsideExactly =
    (a e x h : ℕ)
    → (outside a e x h ≡ true → (x < a) ⊎ (e ≤ base x h)) × ((x < a) ⊎ (e ≤ base x h) → outside a e x h ≡ true)

-- ---- the comparison names the first place of difference, or the verdict by the two lengths

abbrev pub ComparedDiffer : Type 0
ComparedDiffer =
    (vs ws : List (List ℕ)) (k : ℕ) → k < length vs → k < length ws → Same 0 k vs ws → (get_or vs k [] ≡ get_or ws k [] → ⊥)
    → compared vs ws ≡ record { common = k; verdict = differ_at (suc k) }

abbrev pub ComparedEqual : Type 0
ComparedEqual =
    (vs ws : List (List ℕ)) → Same 0 (min (length vs) (length ws)) vs ws
    → ((compared vs ws).common ≡ min (length vs) (length ws))
    × (length vs ≡ length ws → (compared vs ws).verdict ≡ equal)
    × (length vs < length ws → (compared vs ws).verdict ≡ first_shorter)
    × (length ws < length vs → (compared vs ws).verdict ≡ second_shorter)
