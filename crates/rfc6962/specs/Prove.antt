-- The path and the consistency proof, on any bytes: the checks 6, 2, 8 in this order, and nothing is written before the last of them.
use Rattle.std.specs.Prelude.{List, ℕ, ◌-◌, ltb, length}
use Rattle.sha256.specs.Pick.{pick}
use Rattle.slate.specs.Tree.{rfc6962}
use Rattle.slate.specs.Index.{is_index}
use Rattle.ringlog.specs.Answer.{Outcome, refused, written}
use Rattle.ringlog.specs.Values.{is_log, values_of}
use Rattle.rfc6962.specs.Rfc6962.{path, proof}

-- 8 where the digests do not fit into the room
abbrev pub fitted : ℕ → List ℕ → Outcome
fitted room digests = pick (ltb room (length digests)) (refused 8) (written digests)

-- 6 where the log is not well formed; 2 where i is 0 or above n
unfoldable pub made : List ℕ → ℕ → ℕ → (List (List ℕ) → List ℕ) → Outcome
made b i room digests_of =
    pick (is_log b)
    (pick (is_index i (length (values_of b))) (fitted room (digests_of (values_of b))) (refused 2))
    (refused 6)

-- PATH(i - 1, D[n]), for value i of the log, from 1
abbrev pub path_of : List ℕ → ℕ → ℕ → Outcome
path_of b i room = made b i room (path rfc6962 (i - 1))

-- PROOF(m, D[n]), from the first m values to those of the log
abbrev pub consistency_of : List ℕ → ℕ → ℕ → Outcome
consistency_of b m room = made b m room (proof rfc6962 m)
