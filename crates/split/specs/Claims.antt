-- Demand 3, and the repair piece: each claim is a type, and proofs/ has its proof.
-- The search of b and c answers with f, the count in common and the verdict, and with each log as it leaves it: a and d.
use Rattle.std.specs.Prelude.{Err, List, None, Ok, Option, Result, Some, [], ◌∷◌, ◌++◌, ◌⊎◌, ◌≡◌, ℕ, suc, ◌+◌, ◌-◌, ◌≤◌, ◌<◌, min, length, get_or, take, replicate}
use Rattle.sha256.specs.Reasons.{Decided, Reason}
use Rattle.slate.specs.Address.{highest, left_child, right_height}
use Rattle.slate.specs.Bytes.{part}
use Rattle.slate.specs.Clash.{Clash}
use Rattle.slate.specs.Comparison.{Compared, Verdict, by_length, compared, differ_at, equal, first_shorter, second_shorter}
use Rattle.slate.specs.Digits.{digit, max_height}
use Rattle.slate.specs.Tree.{slate}
use Rattle.entry.specs.Log.{Begins, Values, log}
use Rattle.entry.specs.Read.{digest_at, entry_len_at, left_digest_at}
use Rattle.entry.specs.Reasons.{Opens, StepFails, Unopened}
use Rattle.entry.specs.Refusal.{cause_number}
use Rattle.entry.specs.Shape.{opened_log}
use Rattle.entry.specs.Walk.{Kept, Place, arrived, descend, left_step}
use Rattle.entry.specs.Write.{write_at}
use Rattle.entry.specs.declared.Cause.{Cause}
use Rattle.entry.specs.declared.Cause.TheVariants as cause
use Rattle.entry.specs.Opening.{opening_at}
use Rattle.ringlog.specs.Answer.{counted}
use Rattle.ringlog.specs.Cut.{after_cut, cut_to}
use Rattle.split.specs.Answer.{Split, answer_of, split_of}
use Rattle.split.specs.Below.{blocked, down, leaf}
use Rattle.split.specs.Reads.{reads_formula}
use Rattle.split.specs.Repair.{Piece, numbered, piece_of, place_of}
use Rattle.split.specs.Search.{Trace, answered, refused, searched}
use Rattle.split.specs.declared.Donor.TheVariants as donor
use Rattle.split.specs.declared.Piece as code
use Rattle.split.specs.declared.SearchAnswer.{SearchAnswer}
use Rattle.split.specs.declared.SearchRefusal.{SearchRefusal}
use Rattle.split.specs.declared.Side.{Side}
use Rattle.split.specs.declared.Side.TheVariants as side
use Rattle.split.specs.declared.Verdict.{Verdict as Code}
use Rattle.split.specs.declared.Verdict.TheVariants as verdict

-- ---- two well-formed logs, which are the logs of the values vs and ws

-- the search never refuses
abbrev pub SearchAnswers : Type 0
SearchAnswers =
    (vs ws : List (List ℕ)) → Values vs → Values ws
    → (f : Compared) × (a : Trace) × (d : Trace) × (searched (log vs) (log ws) ≡ answered f a d)

-- count and verdict are those of the value by value comparison, or there is a clash: an address present in both of these logs that has two
-- different hash inputs with one digest
abbrev pub SearchAgrees : Type 0
SearchAgrees =
    (vs ws : List (List ℕ)) (f : Compared) (a d : Trace) → Values vs → Values ws → searched (log vs) (log ws) ≡ answered f a d
    → (f ≡ compared vs ws) ⊎ Clash slate vs ws

-- whatever digests agree, at a place of difference that it names the values differ
abbrev pub NamedDiffers : Type 0
NamedDiffers =
    (vs ws : List (List ℕ)) (f : Compared) (a d : Trace) (i : ℕ) → Values vs → Values ws
    → searched (log vs) (log ws) ≡ answered f a d → f.verdict ≡ differ_at i
    → (1 ≤ i) × (i ≤ length vs) × (i ≤ length ws) × (get_or vs (i - 1) [] ≡ get_or ws (i - 1) [] → ⊥)

-- what a cut to k leaves of the log in the first `used` bytes of the buffer b, and then the piece s, are the log c. Written there, where
-- the buffer has room, it makes the buffer this log and 0xFF behind it
abbrev pub Heals : List ℕ → ℕ → ℕ → List ℕ → List ℕ → Type 0
Heals b used k s c =
    (end : ℕ)
    × (cut_to b used k ≡ counted end)
    × (take end (after_cut b used k) ++ s ≡ c)
    × (length c ≤ length b → write_at (after_cut b used k) end s ≡ c ++ replicate (length b - length c) 0xFF)

-- where the search agrees with the comparison: the other log, in any buffer, cut to the common count, and then the piece are the donor
-- byte for byte. The donor has more entries; it is the first if equal
abbrev pub RepairHeals : Type 0
RepairHeals =
    (vs ws : List (List ℕ)) (a d : Trace) → Values vs → Values ws → searched (log vs) (log ws) ≡ answered (compared vs ws) a d
    → (s : List ℕ) → s ≡ piece_of (log vs) (log ws) (searched (log vs) (log ws))
    → (b : List ℕ)
    → (length vs < length ws → Begins (log vs) b → Heals b (length (log vs)) (compared vs ws).common s (log ws))
    × (length ws ≤ length vs → Begins (log ws) b → Heals b (length (log ws)) (compared vs ws).common s (log vs))

-- ---- a well-formed log and any bytes

-- a refusal never names a well-formed log alone, whatever the other log is
abbrev pub BlameFair : Type 0
BlameFair =
    (vs : List (List ℕ)) (c : List ℕ) → Values vs
    → ((split_of (searched (log vs) c)).side ≡ 1 → ⊥) × ((split_of (searched c (log vs))).side ≡ 2 → ⊥)

-- ---- any bytes

-- an answer in numbers: the count in common, the verdict's number, the i where they differ, and reads per log
abbrev pub numbers : ℕ → ℕ → ℕ → ℕ → ℕ → Split
numbers n v i r s = record { number = 0; side = 0; common = n; verdict = v; place = i; first_reads = r; second_reads = s }

-- a refusal in numbers: why, which log, and zero for all else
abbrev pub zeros : ℕ → ℕ → Split
zeros k s = record { number = k; side = s; common = 0; verdict = 0; place = 0; first_reads = 0; second_reads = 0 }

-- an answer and a refusal of the code
abbrev pub answer : ℕ → Code → ℕ → ℕ → Result SearchAnswer SearchRefusal
answer n v r s = Ok (record { common = n; verdict = v; first_reads = r; second_reads = s })

abbrev pub no_answer : Side → Cause → Result SearchAnswer SearchRefusal
no_answer s k = Err (record { side = s; cause = k })

-- the cases of an answer: 0 same, 1 first shorter, 2 second shorter, 3 differ at i. Of a refusal: 1 the first log, 2 the second, 3 both
abbrev pub CasesNumbered : Type 0
CasesNumbered =
    ((n r s : ℕ)
    → (answer_of (answer n verdict.Same r s) ≡ numbers n 0 0 r s)
    × (answer_of (answer n verdict.FirstShorter r s) ≡ numbers n 1 0 r s)
    × (answer_of (answer n verdict.SecondShorter r s) ≡ numbers n 2 0 r s)
    × ((i : ℕ) → answer_of (answer n (verdict.DifferAt i) r s) ≡ numbers n 3 i r s))
    × ((k : Cause)
    → (answer_of (no_answer side.First k) ≡ zeros (cause_number k) 1)
    × (answer_of (no_answer side.Second k) ≡ zeros (cause_number k) 2)
    × (answer_of (no_answer side.Both k) ≡ zeros (cause_number k) 3))

-- an answer's numbers tell its case, so that the promise decides the answer
abbrev pub OneAnswer : Type 0
OneAnswer = (r s : Result SearchAnswer SearchRefusal) → answer_of r ≡ answer_of s → r ≡ s

-- entry n of the log b, as the descent from its last entry reaches it, begins at l
abbrev pub Reaches : List ℕ → ℕ → ℕ → Type 0
Reaches b n l = Opens b (λ o m. (qs : List Place) × (descend b o (m - 1) max_height (n - 1) ≡ arrived l qs))

-- entry i, as the descent from entry n at l reaches it, begins at e
abbrev pub Leads : List ℕ → ℕ → ℕ → ℕ → ℕ → Type 0
Leads b n l i e = (qs : List Place) × (descend b l (n - 1) max_height (i - 1) ≡ arrived e qs)

-- ---- any bytes: refusals

-- a step of the descent from the last entry of the log b to entry n fails with this cause
abbrev pub Stops : List ℕ → ℕ → Cause → Type 0
Stops b n k = Opens b (λ o m. StepFails b o m n k)

-- both logs open, and n, the smaller length, is not 0
abbrev pub Least : List ℕ → List ℕ → ℕ → Type 0
Least b c n = Opens b (λ o m. Opens c (λ q k. (n ≡ min m k) × (1 ≤ n)))

-- both logs are brought to entry n, the top digests there differ, and going down is refused
abbrev pub Blocked : List ℕ → List ℕ → Side → Cause → Type 0
Blocked b c s k =
    (n : ℕ) × (l : ℕ) × (r : ℕ) × Least b c n × Reaches b n l × Reaches c n r
    × (digest_at b l (n - 1) max_height ≡ digest_at c r (n - 1) max_height → ⊥) × (down b c l r (n - 1) max_height ≡ blocked s k)

-- the reasons to refuse below unequal tops: a left step fails in the first log, or in the second, or left and right are both equal
abbrev pub reasons_below : List ℕ → List ℕ → List (Reason Split)
reasons_below b c =
    record { answer = zeros 6 1; when = Blocked b c side.First cause.Shape }
    ∷ record { answer = zeros 7 1; when = Blocked b c side.First cause.Link }
    ∷ record { answer = zeros 6 2; when = Blocked b c side.Second cause.Shape }
    ∷ record { answer = zeros 7 2; when = Blocked b c side.Second cause.Link }
    ∷ record { answer = zeros 7 3; when = Blocked b c side.Both cause.Link }
    ∷ []

-- those of bringing both to entry n, the first before the second
abbrev pub reasons_bringing : List ℕ → List ℕ → List (Reason Split)
reasons_bringing b c =
    record { answer = zeros 6 1; when = (n : ℕ) × Least b c n × Stops b n cause.Shape }
    ∷ record { answer = zeros 7 1; when = (n : ℕ) × Least b c n × Stops b n cause.Link }
    ∷ record { answer = zeros 6 2; when = (n : ℕ) × Least b c n × Stops c n cause.Shape }
    ∷ record { answer = zeros 7 2; when = (n : ℕ) × Least b c n × Stops c n cause.Link }
    ∷ reasons_below b c

-- those of a search, in the order of its checks: the first log does not open, or the second does not
abbrev pub reasons : List ℕ → List ℕ → List (Reason Split)
reasons b c =
    record { answer = zeros 6 1; when = Unopened b } ∷ record { answer = zeros 6 2; when = Unopened c } ∷ reasons_bringing b c

-- a verdict as numbers: 0 same, 1 first shorter, 2 second shorter, 3 differ; and the i where they differ, else 0
abbrev pub Told : Verdict → ℕ → ℕ → Type 0
Told v k p =
    (v ≡ equal → (k ≡ 0) × (p ≡ 0)) × (v ≡ first_shorter → (k ≡ 1) × (p ≡ 0)) × (v ≡ second_shorter → (k ≡ 2) × (p ≡ 0))
    × ((i : ℕ) → v ≡ differ_at i → (k ≡ 3) × (p ≡ i))

-- the search answers, and s is its answer in numbers: the reads of a log are as many as the entries read in it
abbrev pub Answers : List ℕ → List ℕ → Split → Type 0
Answers b c s =
    (f : Compared) × (a : Trace) × (d : Trace) × (searched b c ≡ answered f a d) × (k : ℕ) × (p : ℕ) × Told f.verdict k p
    × (s ≡ numbers f.common k p (length a.reads) (length d.reads))

-- a search refuses for the first of the reasons that holds; where none holds, it answers
abbrev pub SearchDecided : Type 0
SearchDecided = (b c : List ℕ) → Decided (reasons b c) (Answers b c) (split_of (searched b c))

-- ---- any bytes: going down

-- from the highest nodes of two entries i, which begin at o and q. At a leaf the difference is at i. At a node, left digests differ: a left
-- step in each log, and the entries where they lead are read; left digests equal: the right child, whose digests must differ
abbrev pub DownTurns : Type 0
DownTurns =
    (b c : List ℕ) (o q i : ℕ)
    → ((h : ℕ) → down b c o q (i - 1) h ≡ down b c o q (i - 1) (highest (i - 1) h))
    × (down b c o q (i - 1) 0 ≡ leaf (i - 1) o q [] [])
    × ((p : ℕ) → digit (i - 1) p ≡ 1 → (left_digest_at b o (i - 1) p ≡ left_digest_at c q (i - 1) p → ⊥)
    → (l r : ℕ) → left_step b o (i - 1) p ≡ Ok l → left_step c q (i - 1) p ≡ Ok r
    → (t e g : ℕ) (qs rs : List Place) → down b c l r (left_child i p - 1) p ≡ leaf t e g qs rs
    → down b c o q (i - 1) (suc p)
    ≡ leaf t e g (record { begins = l; position = left_child i p - 1 } ∷ qs) (record { begins = r; position = left_child i p - 1 } ∷ rs))
    × ((p : ℕ) → digit (i - 1) p ≡ 1 → left_digest_at b o (i - 1) p ≡ left_digest_at c q (i - 1) p
    → (digest_at b o (i - 1) p ≡ digest_at c q (i - 1) p → ⊥)
    → down b c o q (i - 1) (suc p) ≡ down b c o q (i - 1) (right_height i p))

-- why going down stops at the nodes of height p + 1 of two entries j, which begin at l and r. Left digests differ: the left step of the
-- first log is refused, or it lands and the second's is refused; left digests equal: the right child's are equal too, 7 for both
abbrev pub Blocks : List ℕ → List ℕ → ℕ → ℕ → ℕ → ℕ → Side → Cause → Type 0
Blocks b c l r j p s k =
    ((left_digest_at b l (j - 1) p ≡ left_digest_at c r (j - 1) p → ⊥)
    × (((left_step b l (j - 1) p ≡ Err k) × (s ≡ side.First))
    ⊎ ((e : ℕ) × (left_step b l (j - 1) p ≡ Ok e) × (left_step c r (j - 1) p ≡ Err k) × (s ≡ side.Second))))
    ⊎ ((left_digest_at b l (j - 1) p ≡ left_digest_at c r (j - 1) p) × (digest_at b l (j - 1) p ≡ digest_at c r (j - 1) p)
    × (s ≡ side.Both) × (k ≡ cause.Link))

-- going down from unequal nodes, the highest of height at most h in two entries i, is refused at unequal nodes that it reached
abbrev pub DownRefused : Type 0
DownRefused =
    (b c : List ℕ) (o q i h : ℕ) (s : Side) (k : Cause) → (digest_at b o (i - 1) h ≡ digest_at c q (i - 1) h → ⊥)
    → down b c o q (i - 1) h ≡ blocked s k
    → (j : ℕ) × (p : ℕ) × (l : ℕ) × (r : ℕ) × (qs : List Place) × (rs : List Place)
    × (p < h) × (digit (j - 1) p ≡ 1)
    × (descend b o (i - 1) h (j - 1) ≡ arrived l qs) × (descend c q (i - 1) h (j - 1) ≡ arrived r rs)
    × (digest_at b l (j - 1) (suc p) ≡ digest_at c r (j - 1) (suc p) → ⊥) × Blocks b c l r j p s k

-- ---- any bytes: what an answer says

-- an answer, where n is the smaller length. n = 0 or equal top digests of the entries n: n in common, and the verdict by the two lengths.
-- Else they differ at i, 1 ≤ i ≤ n, with i − 1 in common: the leaf digests stored there, as the search reached them, differ
abbrev pub AnswerSays : Type 0
AnswerSays =
    (b c : List ℕ) (f : Compared) (a d : Trace) (n : ℕ) → searched b c ≡ answered f a d → n ≡ min a.count d.count
    → ((f ≡ record { common = n; verdict = by_length a.count d.count })
    × ((n ≡ 0)
    ⊎ ((l : ℕ) × (r : ℕ) × Reaches b n l × Reaches c n r × (digest_at b l (n - 1) max_height ≡ digest_at c r (n - 1) max_height))))
    ⊎ ((i : ℕ) × (1 ≤ i) × (i ≤ n) × (f ≡ record { common = i - 1; verdict = differ_at i })
    × (l : ℕ) × (r : ℕ) × Reaches b n l × Reaches c n r × (digest_at b l (n - 1) max_height ≡ digest_at c r (n - 1) max_height → ⊥)
    × (e : ℕ) × (g : ℕ) × Leads b n l i e × Leads c n r i g × (digest_at b e (i - 1) 0 ≡ digest_at c g (i - 1) 0 → ⊥))

-- each log has as many entries as its opening says, and its entries read are as many as document 01's formula says for that answer
abbrev pub ReadsCounted : Type 0
ReadsCounted =
    (b c : List ℕ) (f : Compared) (a d : Trace) → searched b c ≡ answered f a d
    → (o : ℕ) × (q : ℕ) × (opened_log b ≡ opening_at o a.count) × (opened_log c ≡ opening_at q d.count)
    × (length a.reads ≡ reads_formula a.count (min a.count d.count) f.verdict)
    × (length d.reads ≡ reads_formula d.count (min a.count d.count) f.verdict)

-- what was not read does not matter: any other pair of logs of the same two lengths, with the same bytes at the places of all entries read,
-- gets the same answer and reads
abbrev pub UnreadFree : Type 0
UnreadFree =
    (b c b' c' : List ℕ) (f : Compared) (a d : Trace) → length b ≡ length b' → length c ≡ length c'
    → searched b c ≡ answered f a d → Kept b b' a.reads → Kept c c' d.reads → searched b' c' ≡ answered f a d

-- ---- any bytes: the piece

-- the piece lies where `place_of` says: it is that part of the first log, or of the second, up to its end; or it is empty, in neither
abbrev pub PiecePlaced : Type 0
PiecePlaced =
    (b c : List ℕ) (p : Piece) → p ≡ place_of b c (searched b c)
    → ((p.donor ≡ 1) × (p.offset + p.length ≡ length b) × (part b p.offset p.length ≡ piece_of b c (searched b c)))
    ⊎ (((p.donor ≡ 2) × (p.offset + p.length ≡ length c) × (part c p.offset p.length ≡ piece_of b c (searched b c)))
    ⊎ ((p.donor ≡ 0) × (p.offset ≡ 0) × (p.length ≡ 0) × ([] ≡ piece_of b c (searched b c))))

-- the donor of the code's piece is 1 for the first log and 2 for the second; no piece is zeros
abbrev pub PiecesNumbered : Type 0
PiecesNumbered =
    ((o l : ℕ) → numbered (Some (record { donor = donor.First; offset = o; length = l })) ≡ record { donor = 1; offset = o; length = l })
    × ((o l : ℕ) → numbered (Some (record { donor = donor.Second; offset = o; length = l })) ≡ record { donor = 2; offset = o; length = l })
    × (numbered None ≡ record { donor = 0; offset = 0; length = 0 })

-- a piece's numbers tell the piece, so that the promise decides the answer
abbrev pub OnePiece : Type 0
OnePiece = (p q : Option code.Piece) → numbered p ≡ numbered q → p ≡ q

-- where the piece starts in the log b, as the search reached it there: where entry i begins, if they differ at i; else at the end of
-- entry n; at 0 if n = 0
abbrev pub Starts : List ℕ → ℕ → Verdict → ℕ → Type 0
Starts b n v e =
    (n ≡ 0 → e ≡ 0)
    × ((i : ℕ) → v ≡ differ_at i → (l : ℕ) × Reaches b n l × Leads b n l i e)
    × (1 ≤ n → ((i : ℕ) → v ≡ differ_at i → ⊥) → (l : ℕ) × Reaches b n l × (e ≡ l + entry_len_at b l (n - 1)))

-- the donor has more entries, the first if equal, and the piece starts there in the donor
abbrev pub PieceStarts : Type 0
PieceStarts =
    (b c : List ℕ) (f : Compared) (a d : Trace) (p : Piece) (n : ℕ) → searched b c ≡ answered f a d
    → p ≡ place_of b c (searched b c) → n ≡ min a.count d.count
    → (d.count ≤ a.count → (p.donor ≡ 1) × Starts b n f.verdict p.offset)
    × (a.count < d.count → (p.donor ≡ 2) × Starts c n f.verdict p.offset)

-- if the search refuses, the piece is empty, and its place is all zeros
abbrev pub RepairRefused : Type 0
RepairRefused =
    (b c : List ℕ) (s : Side) (k : Cause) → searched b c ≡ refused s k
    → (piece_of b c (searched b c) ≡ []) × (place_of b c (searched b c) ≡ record { donor = 0; offset = 0; length = 0 })
