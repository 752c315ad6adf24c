-- What is claimed of this edition, in the RFC's terms and document 02's: each claim is a type, and proofs/ has its proof. What holds for any
-- prefix rule is claimed for any.
use Rattle.std.specs.Prelude.{true, List, [], ◌∷◌, ◌++◌, ◌⊎◌, ◌≡◌, ℕ, suc, ◌+◌, ◌*◌, ◌-◌, ◌^◌, ◌≤◌, ◌<◌, length, get_or, take, drop, replicate}
use Rattle.std.specs.Int.Count.{ones, count_trailing_zeros}
use Rattle.sha256.specs.Fips180.{sha256}
use Rattle.sha256.specs.Pick.{pick}
use Rattle.sha256.specs.Reasons.{Decided}
use Rattle.slate.specs.Bytes.{Bytes}
use Rattle.slate.specs.Clash.{Clash}
use Rattle.slate.specs.Digits.{max_height}
use Rattle.slate.specs.Hashed.{ClashAmong}
use Rattle.slate.specs.Moves.{hops}
use Rattle.slate.specs.PartialTree.{cut_digests, single}
use Rattle.slate.specs.Path as slate
use Rattle.slate.specs.Tree.{Rule, rfc6962, root}
use Rattle.entry.specs.Log.{Values, WellFormed, log}
use Rattle.ringlog.specs.Answer.{after, answer, counted}
use Rattle.ringlog.specs.Reasons.{refuses}
use Rattle.inclusion.specs.Check.{proof_holds}
use Rattle.rfc6962.specs.Consistency.{consistency_holds, digest_count, first_digest, new_root, old_root, omitted}
use Rattle.rfc6962.specs.Hashed.{Hashing, new_inputs}
use Rattle.rfc6962.specs.Layouts.{apart, toward}
use Rattle.rfc6962.specs.Prove.{consistency_of, path_of}
use Rattle.rfc6962.specs.Rfc6962.{k, mth, path, proof}
use Rattle.rfc6962.specs.Root.{root_answer}

-- ---- the RFC's definitions

-- k is the largest power of two smaller than n: twice as much is not smaller
abbrev pub SplitLargest : Type 0
SplitLargest = (n : ℕ) → 2 ≤ n → (k n < n) × (n ≤ 2 * k n)

-- the hash of a leaf, and of a node
abbrev pub leaf_hash : List ℕ → List ℕ
leaf_hash d = sha256 (0x00 ∷ d)

abbrev pub node_hash : List ℕ → List ℕ → List ℕ
node_hash l r = sha256 (0x01 ∷ (l ++ r))

-- the RFC's example of section 2.1.3, for any seven values: the root, which nodes stand in the paths of d0, d3, d4 and d6, and which in the
-- proofs from 3, 4 and 6 values to all seven
abbrev pub ExampleHolds : Type 0
ExampleHolds =
    (d0 d1 d2 d3 d4 d5 d6 : List ℕ)
    → let ds = d0 ∷ d1 ∷ d2 ∷ d3 ∷ d4 ∷ d5 ∷ d6 ∷ [] in
    let a = leaf_hash d0 in
    let b = leaf_hash d1 in
    let c = leaf_hash d2 in
    let d = leaf_hash d3 in
    let e = leaf_hash d4 in
    let f = leaf_hash d5 in
    let g = node_hash a b in
    let h = node_hash c d in
    let i = node_hash e f in
    let j = leaf_hash d6 in
    let k = node_hash g h in
    let l = node_hash i j in
    (mth rfc6962 ds ≡ node_hash k l)
    × (path rfc6962 0 ds ≡ (b ++ h) ++ l)
    × (path rfc6962 3 ds ≡ (c ++ g) ++ l)
    × (path rfc6962 4 ds ≡ (f ++ j) ++ k)
    × (path rfc6962 6 ds ≡ i ++ k)
    × (proof rfc6962 3 ds ≡ ((c ++ d) ++ g) ++ l)
    × (proof rfc6962 4 ds ≡ l)
    × (proof rfc6962 6 ds ≡ (i ++ j) ++ k)

-- from 6 to 8 values the flag is false in the right subtree: three digests, D[4:6], D[6:8] and D[0:4]
abbrev pub SixToEight : Type 0
SixToEight =
    (d0 d1 d2 d3 d4 d5 d6 d7 : List ℕ)
    → proof rfc6962 6 (d0 ∷ d1 ∷ d2 ∷ d3 ∷ d4 ∷ d5 ∷ d6 ∷ d7 ∷ [])
    ≡ (node_hash (leaf_hash d4) (leaf_hash d5) ++ node_hash (leaf_hash d6) (leaf_hash d7))
    ++ node_hash (node_hash (leaf_hash d0) (leaf_hash d1)) (node_hash (leaf_hash d2) (leaf_hash d3))

-- ---- both editions have one tree: the split of n values is the same, for any prefix rule

-- MTH is SHA-256 of no bytes for n = 0
abbrev pub MthOfNone : Type 0
MthOfNone = (pre : Rule) → mth pre [] ≡ sha256 []

-- and the root of document 01's tree for any n ≤ 4,096
abbrev pub MthIsRoot : Type 0
MthIsRoot = (pre : Rule) (vs : List (List ℕ)) → length vs ≤ 2 ^ max_height → mth pre vs ≡ root pre vs

-- PATH is document 01's path, whose index is from 1
abbrev pub PathIsPath : Type 0
PathIsPath =
    (pre : Rule) (vs : List (List ℕ)) (i : ℕ) → 1 ≤ i → i ≤ length vs → length vs ≤ 2 ^ max_height
    → path pre (i - 1) vs ≡ slate.path pre vs i

-- its digests are those of the subtrees outside one position, on the side of which they come first
abbrev pub PathLayout : Type 0
PathLayout = (t : ℕ) → toward t t ≡ single t

-- PROOF(m, D[n]) is the digests of the subtrees on the way to the end of the first m values, without that of D[m] where it is omitted
abbrev pub ProofIsCut : Type 0
ProofIsCut =
    (pre : Rule) (vs : List (List ℕ)) (m : ℕ) → 1 ≤ m → m ≤ length vs → length vs ≤ 2 ^ max_height
    → let digests = cut_digests pre (apart (m - 1)) vs (length vs - 1) max_height in
    proof pre m vs ≡ pick (omitted m (length vs)) (drop 32 digests) digests

-- it has as many digests as the checker asks for
abbrev pub ProofLength : Type 0
ProofLength =
    (pre : Rule) (vs : List (List ℕ)) (m : ℕ) → 1 ≤ m → m ≤ length vs → length vs ≤ 2 ^ max_height
    → length (proof pre m vs) ≡ 32 * digest_count m (length vs)

-- for m < n these are hops(n,m) − trailing zeros of m, and one more where m is no power of two
abbrev pub DigestFormula : Type 0
DigestFormula =
    (m n : ℕ) → 1 ≤ m → m < n → n ≤ 2 ^ max_height
    → (ones m ≡ 1 → digest_count m n + count_trailing_zeros 32 m ≡ hops n m)
    × ((ones m ≡ 1 → ⊥) → digest_count m n + count_trailing_zeros 32 m ≡ suc (hops n m))

-- ---- the consistency check

-- what a yes says, and nothing more is asked
pub record Consistent (pre : Rule) (m n : ℕ) (ds old new : List ℕ) : Type 0 where
  pub first : 1 ≤ m
  pub last : m ≤ n
  pub few : n ≤ 2 ^ max_height
  pub old_digest : length old ≡ 32
  pub new_digest : length new ≡ 32
  pub whole : length ds ≡ 32 * digest_count m n
  pub old_folds : old_root pre m n ds old ≡ old
  pub new_folds : new_root pre m n ds old ≡ new

abbrev pub ConsistencySound : Type 0
ConsistencySound =
    (pre : Rule) (m n : ℕ) (ds old new : List ℕ) → consistency_holds pre m n ds old new ≡ true → Consistent pre m n ds old new

abbrev pub ConsistencyComplete : Type 0
ConsistencyComplete =
    (pre : Rule) (m n : ℕ) (ds old new : List ℕ) → Consistent pre m n ds old new → consistency_holds pre m n ds old new ≡ true

-- for m = n the proof is empty, and yes means equal roots
abbrev pub SameSize : Type 0
SameSize =
    (pre : Rule) (n : ℕ) (ds old new : List ℕ)
    → (consistency_holds pre n n ds old new ≡ true → (ds ≡ []) × (old ≡ new))
    × (1 ≤ n → n ≤ 2 ^ max_height → length old ≡ 32 → consistency_holds pre n n [] old old ≡ true)

-- the checker accepts PROOF(m, D[n]) with the roots of the first m and of all n values
abbrev pub ProofConsistent : Type 0
ProofConsistent =
    (pre : Rule) (vs : List (List ℕ)) (m : ℕ) → 1 ≤ m → m ≤ length vs → length vs ≤ 2 ^ max_height
    → consistency_holds pre m (length vs) (proof pre m vs) (mth pre (take m vs)) (mth pre vs) ≡ true

-- what the check hashes for the new root makes it, of the digest of D[m]
abbrev pub NewRootHashed : Type 0
NewRootHashed =
    (pre : Rule) (m n : ℕ) (ds old : List ℕ)
    → Hashing pre (new_root pre m n ds old) (new_inputs pre m n ds old) (first_digest m n ds old)

-- what a yes is worth: where the old root is that of m values ws, and the new root that of n values vs, ws are the first m of vs; or an
-- address of both trees has two inputs with one digest; or an address of the tree of vs has, in it and in what the check hashes for the new
-- root, two inputs with one digest
abbrev pub ConsistencyWorth : Type 0
ConsistencyWorth =
    (pre : Rule) (vs ws : List (List ℕ)) (ds : List ℕ)
    → consistency_holds pre (length ws) (length vs) ds (mth pre ws) (mth pre vs) ≡ true
    → (take (length ws) vs ≡ ws)
    ⊎ (Clash pre ws vs ⊎ ClashAmong pre vs (new_inputs pre (length ws) (length vs) ds (mth pre ws)))

-- ---- the calls, on any bytes

-- 6 and 32 zero bytes where the log is not well formed; else number 0 and MTH of its values
abbrev pub RootDecided : Type 0
RootDecided =
    (b : List ℕ) → Bytes b
    → Decided (record { answer = record { number = 6; digest = replicate 32 0 }; when = WellFormed b → ⊥ } ∷ [])
    (λ a. (w : WellFormed b) × (a ≡ record { number = 0; digest = mth rfc6962 w.values }))
    (root_answer b)

-- 6 where the log is not well formed; 2 where the index is 0 or above n; 8 where 32·hops(n,i) bytes do not fit the lent output; else number
-- 0 and 32·hops(n,i)
abbrev pub PathDecided : Type 0
PathDecided =
    (b : List ℕ) (i room : ℕ) → Bytes b
    → Decided (
    refuses 6 (WellFormed b → ⊥)
    ∷ refuses 2 ((w : WellFormed b) × ((i ≡ 0) ⊎ (length w.values < i)))
    ∷ refuses 8 ((w : WellFormed b) × (room < 32 * hops (length w.values) i))
    ∷ [])
    (λ a. (w : WellFormed b) × (a ≡ record { number = 0; value = 32 * hops (length w.values) i }))
    (answer 0 (path_of b i room))

-- 6 where the log is not well formed; 2 where m is 0 or above n; 8 where the digests do not fit the lent output; else number 0 and their
-- bytes
abbrev pub ConsistencyDecided : Type 0
ConsistencyDecided =
    (b : List ℕ) (m room : ℕ) → Bytes b
    → Decided (
    refuses 6 (WellFormed b → ⊥)
    ∷ refuses 2 ((w : WellFormed b) × ((m ≡ 0) ⊎ (length w.values < m)))
    ∷ refuses 8 ((w : WellFormed b) × (room < 32 * digest_count m (length w.values)))
    ∷ [])
    (λ a. (w : WellFormed b) × (a ≡ record { number = 0; value = 32 * digest_count m (length w.values) }))
    (answer 0 (consistency_of b m room))

-- a refused maker answers 0, and leaves the output byte for byte
abbrev pub MakerRefused : Type 0
MakerRefused =
    (b out : List ℕ) (i : ℕ)
    → (((answer 0 (path_of b i (length out))).number ≡ 0 → ⊥)
    → ((answer 0 (path_of b i (length out))).value ≡ 0) × (after out 0 (path_of b i (length out)) ≡ out))
    × (((answer 0 (consistency_of b i (length out))).number ≡ 0 → ⊥)
    → ((answer 0 (consistency_of b i (length out))).value ≡ 0) × (after out 0 (consistency_of b i (length out)) ≡ out))

-- ---- the calls, on the log of vs

abbrev pub RootOfLog : Type 0
RootOfLog = (vs : List (List ℕ)) → Values vs → root_answer (log vs) ≡ record { number = 0; digest = mth rfc6962 vs }

-- with room, PATH(i - 1, D[n]) is written and the rest of the output stays
abbrev pub PathOfLog : Type 0
PathOfLog =
    (vs : List (List ℕ)) (i : ℕ) (out : List ℕ) → Values vs → 1 ≤ i → i ≤ length vs → 32 * hops (length vs) i ≤ length out
    → (answer 0 (path_of (log vs) i (length out)) ≡ counted (32 * hops (length vs) i))
    × (after out 0 (path_of (log vs) i (length out)) ≡ path rfc6962 (i - 1) vs ++ drop (32 * hops (length vs) i) out)

-- and the checker accepts it with that value and root
abbrev pub PathIncluded : Type 0
PathIncluded =
    (vs : List (List ℕ)) (i : ℕ) → Values vs → 1 ≤ i → i ≤ length vs
    → proof_holds rfc6962 (length vs) i (get_or vs (i - 1) []) (path rfc6962 (i - 1) vs) (mth rfc6962 vs) ≡ true

-- with room, PROOF(m, D[n]) is written and the rest of the output stays
abbrev pub ConsistencyOfLog : Type 0
ConsistencyOfLog =
    (vs : List (List ℕ)) (m : ℕ) (out : List ℕ) → Values vs → 1 ≤ m → m ≤ length vs → 32 * digest_count m (length vs) ≤ length out
    → (answer 0 (consistency_of (log vs) m (length out)) ≡ counted (32 * digest_count m (length vs)))
    × (after out 0 (consistency_of (log vs) m (length out)) ≡ proof rfc6962 m vs ++ drop (32 * digest_count m (length vs)) out)
