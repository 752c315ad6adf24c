-- The standard's examples, computed from the definition. W_t is defined by the words before it, so to compute all 64 of them one by one
-- is to compute most of them many times over: the rounds are run over the list of words instead, which is made once.
-- Assumes nothing.
use Rattle.std.proofs.Common.{◌≡◌, ℕ, zero, suc, ◌/◌, ◌≤◌, List, [], ◌∷◌, ◌++◌, length, take, sym, refl, ap, ◌∙◌, arith, length-take-le, take_all, take-suc}
use Rattle.sha256.specs.Claims as claims
use Rattle.sha256.specs.Fips180.{T1, T2, H, K, W, block, bytes_of, compressed, constants, extend, hash_words, initial, next, padded, plus, round, rounds, schedule, sha256, word_at, words_at, zero_bytes}
use Rattle.sha256.specs.declared.State.{State}
use Rattle.sha256.proofs.MessageSchedule.{schedule_length}

-- a round for each word, with the constant that stands beside it
run : List ℕ → List ℕ → State → State
run [] ks s = s
run (w ∷ ws) [] s = s
run (w ∷ ws) (k ∷ ks) s = run ws ks (round s k w)

run_more : (ws ks : List ℕ) (w k : ℕ) (s : State) → length ws ≡ length ks → run (ws ++ (w ∷ [])) (ks ++ (k ∷ [])) s ≡ round (run ws ks s) k w
unfolding run
run_more [] [] w k s e = refl
run_more [] (l ∷ ks) w k s e = absurd (omega arith)
run_more (v ∷ ws) [] w k s e = absurd (omega arith)
run_more (v ∷ ws) (l ∷ ks) w k s e = run_more ws ks w k (round s l v) (omega arith)

count : length constants ≡ 64
unfolding constants
count = refl

rounds_run : (M : List ℕ) (s : State) (t : ℕ) → t ≤ 64 → rounds M s t ≡ run (schedule M t) (take t constants) s
unfolding rounds schedule run W K
rounds_run M s zero h = refl
rounds_run M s (suc t) h =
    rw (take-suc constants t 0 (omega (arith, count)))
    (ap (λ (v : State). round v (K t) (W M t)) (rounds_run M s t (omega arith))
    ∙ sym (run_more (schedule M t) (take t constants) (W M t) (K t) s (schedule_length M t ∙ sym (length-take-le t constants (omega (arith, count))))))

-- the hash value after i blocks, by such runs
hash : List ℕ → ℕ → State
hash p zero = initial
hash p (suc i) = plus (hash p i) (run (schedule (block p i) 64) constants (hash p i))

hash_is : (p : List ℕ) (i : ℕ) → H p i ≡ hash p i
unfolding H hash compressed
hash_is p zero = refl
hash_is p (suc i) =
    rw (hash_is p i, rounds_run (block p i) (hash p i) 64 (omega arith), take_all 64 constants (omega (arith, count)))

hashed_by : (m : List ℕ) → sha256 m ≡ bytes_of (hash_words (hash (padded m) (length (padded m) / 64)))
unfolding sha256
hashed_by m = ap (λ (s : State). bytes_of (hash_words s)) (hash_is (padded m) (length (padded m) / 64))

pub vectors : claims.Vectors
unfolding T1 T2 W block constants extend hash next padded plus round run schedule word_at words_at zero_bytes
vectors = (hashed_by _, hashed_by _, hashed_by _)
