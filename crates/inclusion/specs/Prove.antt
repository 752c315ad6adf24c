-- Proof, on any bytes: the checks 6, 2, 8 in this order, then the steps to entry i. The siblings are written once every step has held.
use Rattle.std.specs.Prelude.{List, ℕ, ◌*◌, ◌-◌, ltb, Option, Some, None}
use Rattle.sha256.specs.Pick.{pick}
use Rattle.slate.specs.Digits.{max_height}
use Rattle.slate.specs.Index.{is_index}
use Rattle.slate.specs.Moves.{hops}
use Rattle.entry.specs.Refusal.{cause_number, opened_number}
use Rattle.entry.specs.Shape.{opened_log}
use Rattle.entry.specs.Siblings.{siblings}
use Rattle.entry.specs.Walk.{Descent, arrived, descend, stopped}
use Rattle.entry.specs.declared.Opened.{Opened}
use Rattle.ringlog.specs.Answer.{Outcome, refused, written}

-- the siblings on the path of value i of n, the one next to the leaf first; the last entry begins at o
abbrev pub proof_reached : List ℕ → ℕ → ℕ → ℕ → Descent → Outcome
proof_reached b o n i (arrived l qs) = written (siblings b o (n - 1) max_height (i - 1))
proof_reached b o n i (stopped c) = refused (cause_number c)

-- 6 where the log does not open; 2 where i is 0 or above n; 8 where the proof does not fit into the room
abbrev pub proof_opened : List ℕ → ℕ → ℕ → Option Opened → Outcome
proof_opened b i room (Some l) =
    pick (is_index i l.count)
    (pick (ltb room (32 * hops l.count i)) (refused 8)
    (proof_reached b l.start l.count i (descend b l.start (l.count - 1) max_height (i - 1))))
    (refused 2)
proof_opened b i room None = refused (opened_number None)

unfoldable pub proof_of : List ℕ → ℕ → ℕ → Outcome
proof_of b i room = proof_opened b i room (opened_log b)
