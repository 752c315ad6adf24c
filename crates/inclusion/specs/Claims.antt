-- What is claimed of the calls of this crate, in document 01's terms: each claim is a type, and proofs/ has its proof.
use Rattle.std.specs.Prelude.{true, List, [], ◌∷◌, ◌++◌, ◌⊎◌, ◌≡◌, ℕ, ◌+◌, ◌*◌, ◌-◌, ◌^◌, ◌≤◌, ◌<◌, Result, Ok, length, get_or, drop}
use Rattle.sha256.specs.Reasons.{Decided, Reason}
use Rattle.slate.specs.Digits.{max_height}
use Rattle.slate.specs.Length.{offset}
use Rattle.slate.specs.Moves.{hops}
use Rattle.slate.specs.Path.{fold, path}
use Rattle.slate.specs.Tree.{Rule, root, slate}
use Rattle.entry.specs.Kind.{is_item}
use Rattle.entry.specs.Log.{Values, log}
use Rattle.entry.specs.Read.{payload_at, payload_len_at}
use Rattle.entry.specs.Reasons.{Opens, Unopened}
use Rattle.entry.specs.Shape.{opened_log}
use Rattle.entry.specs.Siblings.{siblings}
use Rattle.entry.specs.declared.Cause.{Cause}
use Rattle.entry.specs.declared.Cause.TheVariants as cause
use Rattle.entry.specs.Opening.{opening_at}
use Rattle.ringlog.specs.Answer.{after, answer, counted, written}
use Rattle.ringlog.specs.Reasons.{Fails, Reaches, refuses}
use Rattle.inclusion.specs.Check.{proof_holds}
use Rattle.inclusion.specs.Prove.{proof_of}
use Rattle.inclusion.specs.Value.{PartAnswer, checked_value, item_part, no_part, part_answer_of, part_of}
use Rattle.inclusion.specs.declared.Part.{Part}

-- ---- proof check

-- what a yes says, and nothing more is asked, for any prefix rule
pub record Included (pre : Rule) (n i : ℕ) (v proof r : List ℕ) : Type 0 where
  pub first : 1 ≤ i
  pub last : i ≤ n
  pub few : n ≤ 2 ^ max_height
  pub item : is_item v ≡ true
  pub whole : length proof ≡ 32 * hops n i
  pub digest : length r ≡ 32
  pub folds : fold pre n i v proof ≡ r

abbrev pub CheckSound : Type 0
CheckSound = (pre : Rule) (n i : ℕ) (v proof r : List ℕ) → proof_holds pre n i v proof r ≡ true → Included pre n i v proof r

abbrev pub CheckComplete : Type 0
CheckComplete = (pre : Rule) (n i : ℕ) (v proof r : List ℕ) → Included pre n i v proof r → proof_holds pre n i v proof r ≡ true

-- ---- on a well-formed log, for 1 ≤ i ≤ n

-- the checked value against the log's own root is the i-th value
abbrev pub ValueOfLog : Type 0
ValueOfLog =
    (vs : List (List ℕ)) (i : ℕ) → Values vs → 1 ≤ i → i ≤ length vs
    → (checked_value (log vs) (root slate vs) i ≡ item_part (log vs) (offset vs (i - 1)))
    × (part_of (log vs) (checked_value (log vs) (root slate vs) i) ≡ get_or vs (i - 1) [])

-- with room, the proof answers 32·hops and writes the path of the tree of its values; the rest of the output stays
abbrev pub ProofOfLog : Type 0
ProofOfLog =
    (vs : List (List ℕ)) (i : ℕ) (out : List ℕ) → Values vs → 1 ≤ i → i ≤ length vs → 32 * hops (length vs) i ≤ length out
    → (answer 0 (proof_of (log vs) i (length out)) ≡ counted (32 * hops (length vs) i))
    × (after out 0 (proof_of (log vs) i (length out)) ≡ path slate vs i ++ drop (32 * hops (length vs) i) out)

-- and by any rule the checker accepts the path of a value with that value and the root
abbrev pub ProofAccepted : Type 0
ProofAccepted =
    (pre : Rule) (vs : List (List ℕ)) (i : ℕ) → Values vs → 1 ≤ i → i ≤ length vs
    → proof_holds pre (length vs) i (get_or vs (i - 1) []) (path pre vs i) (root pre vs) ≡ true

-- ---- on any bytes

-- what is read out is what the root binds: a checked value that answers is included under the lent root, as value i of as many values
-- as the log has, and the siblings that the log stores on its path are the proof
abbrev pub ValueBound : Type 0
ValueBound =
    (b r : List ℕ) (i : ℕ) → (checked_value b r i).number ≡ 0
    → (o : ℕ) × (n : ℕ) × (opened_log b ≡ opening_at o n)
    × Included slate n i (part_of b (checked_value b r i)) (siblings b o (n - 1) max_height (i - 1)) r

-- where P holds, a checked value answers this number and an empty part
abbrev pub no_value : ℕ → Type 0 → Reason PartAnswer
no_value k P = record { answer = record { number = k; offset = 0; length = 0 }; when = P }

-- 1 where the root is not 32 bytes; 6 where opening fails; 2 where the index is 0 or above n; then the steps to entry i: 6 where an entry
-- met is not shaped with the index wanted, 7 where a link digest disagrees; then 7 where the value folded with the siblings on the path
-- does not give the lent root; else number 0 and where the value item stands in the entry reached
abbrev pub ValueDecided : Type 0
ValueDecided =
    (b r : List ℕ) (i : ℕ)
    → Decided (
    no_value 1 (length r ≡ 32 → ⊥)
    ∷ no_value 6 (Unopened b)
    ∷ no_value 2 (Opens b (λ o n. (i ≡ 0) ⊎ (n < i)))
    ∷ no_value 6 (Fails b i cause.Shape)
    ∷ no_value 7 (Fails b i cause.Link)
    ∷ no_value 7 (Reaches b i (λ o n l. fold slate n i (payload_at b l) (siblings b o (n - 1) max_height (i - 1)) ≡ r → ⊥))
    ∷ [])
    (λ a. Reaches b i (λ o n l. a ≡ record { number = 0; offset = l + 5; length = payload_len_at b l }))
    (checked_value b r i)

-- number 0 stands beside the offset and the length of the code's part
abbrev pub PartNumbered : Type 0
PartNumbered = (o l : ℕ) → part_answer_of (Ok (record { offset = o; length = l })) ≡ record { number = 0; offset = o; length = l }

-- a value's number and part tell its case, so that the promise decides the answer
abbrev pub OnePart : Type 0
OnePart = (r s : Result Part Cause) → part_answer_of r ≡ part_answer_of s → r ≡ s

-- a refused value is the empty part
abbrev pub ValueRefused : Type 0
ValueRefused =
    (b r : List ℕ) (i : ℕ) → ((checked_value b r i).number ≡ 0 → ⊥)
    → (checked_value b r i ≡ no_part (checked_value b r i).number) × (part_of b (checked_value b r i) ≡ [])

-- a proof that is written has 32·hops bytes, which fit
abbrev pub ProofWritten : Type 0
ProofWritten =
    (b s : List ℕ) (i room : ℕ) → proof_of b i room ≡ written s
    → (o : ℕ) × (n : ℕ) × (opened_log b ≡ opening_at o n) × (length s ≡ 32 * hops n i) × (length s ≤ room)

-- 6 where opening fails; 2 where the index is 0 or above n; 8 where 32·hops bytes do not fit the lent output; then the steps to entry i: 6
-- where an entry met is not shaped with the index wanted, 7 where a link digest disagrees; else number 0 and 32·hops
abbrev pub ProofDecided : Type 0
ProofDecided =
    (b : List ℕ) (i room : ℕ)
    → Decided (
    refuses 6 (Unopened b)
    ∷ refuses 2 (Opens b (λ o n. (i ≡ 0) ⊎ (n < i)))
    ∷ refuses 8 (Opens b (λ o n. room < 32 * hops n i))
    ∷ refuses 6 (Fails b i cause.Shape)
    ∷ refuses 7 (Fails b i cause.Link)
    ∷ [])
    (λ a. Opens b (λ o n. a ≡ record { number = 0; value = 32 * hops n i }))
    (answer 0 (proof_of b i room))

-- a refused proof answers 0, and leaves the output byte for byte
abbrev pub ProofRefused : Type 0
ProofRefused =
    (b out : List ℕ) (i : ℕ) → ((answer 0 (proof_of b i (length out))).number ≡ 0 → ⊥)
    → ((answer 0 (proof_of b i (length out))).value ≡ 0) × (after out 0 (proof_of b i (length out)) ≡ out)
