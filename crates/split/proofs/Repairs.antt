-- The repair piece: behind the other log, cut to the common count, it gives the donor; where the search refuses it is empty.
-- Assumes nothing.
use mathlib.Core.List.{List, ◌++◌}
use mathlib.Core.Path.{◌≡◌, refl, sym, ap, ◌∙◌}
use Prim.Native.Nat.{ℕ, ◌+◌, ◌-◌, ◌≤◌}
use native.Mathlib.Omega.{arith}
use borrow.Author.Tests.{le-ltb, lt-ltb}
use lib.ListN.{length, take, drop, replicate, length-append, take-append-drop}
use lib.Seq.{take-append_seam}
use Rattle.slate.specs.Comparison.{compared}
use Rattle.slate.specs.Length.{offset}
use Rattle.entry.specs.Log.{Begins, Values, log}
use Rattle.entry.specs.Shape.{opened_log}
use Rattle.entry.specs.Opening.{opening_at}
use Rattle.split.specs.Claims as claims
use Rattle.split.specs.Claims.{Heals}
use Rattle.slate.proofs.Comparisons.{common_first, common_second, common_taken}
use Rattle.entry.proofs.Cases.{opening_same}
use Rattle.entry.proofs.Claimed.{opening_counts}
use Rattle.entry.proofs.FirstValues.{cut_log}
use Rattle.ringlog.proofs.Blanked.{write_blank}
use Rattle.ringlog.proofs.CutClaims.{cut_first}
use Rattle.split.proofs.AnyBytes.{reads_counted}
use Rattle.split.proofs.LogSearch.{answer_sound}

-- the log of vs, cut to k values that ws begins with, and then the log of ws from there on
heals : (vs ws : List (List ℕ)) (k : ℕ) (b : List ℕ) → Values vs → k ≤ length vs → k ≤ length ws → take k vs ≡ take k ws
    → Begins (log vs) b → Heals b (length (log vs)) k (drop (offset ws k) (log ws)) (log ws)
heals vs ws k b ok lv lw e begins =
    let c = cut_first vs b k ok begins lv in
    let first : List ℕ = log (take k vs) in
    let s : List ℕ = drop (offset ws k) (log ws) in
    let m : ℕ = length b - length first in
    let whole : first ++ s ≡ log ws =
    ap (λ (l : List ℕ). l ++ s) (ap log e ∙ sym (cut_log ws k lw)) ∙ take-append-drop (offset ws k) (log ws) in
    let size : length first + length s ≡ length (log ws) = sym (length-append first s) ∙ ap length whole in (
      length first,
      c.0,
      rw (c.1, take-append_seam first (replicate m 0xFF)) whole,
      λ room.
          let rest : m - length s ≡ length b - length (log ws) = omega arith in
          rw c.1 (write_blank first s (length s) m refl (omega arith) ∙ rw (whole, rest)),
    )

-- a log of the values vs has as many entries
log_count : (vs : List (List ℕ)) (o n : ℕ) → Values vs → opened_log (log vs) ≡ opening_at o n → n ≡ length vs
log_count vs o n ok h = (opening_same o n _ _ (sym h ∙ opening_counts vs ok)).1

pub repair_heals : claims.RepairHeals
repair_heals vs ws a d okv okw h s e b =
    let k : ℕ = (compared vs ws).common in
    let r = answer_sound vs ws (compared vs ws) a d okv okw h in
    let n = reads_counted (log vs) (log ws) (compared vs ws) a d h in
    rw (e, h, r.1, r.2, log_count vs n.0 a.count okv n.2, log_count ws n.1 d.count okw n.3) (
      λ lt. rw (lt-ltb (length vs) (length ws) lt)
          (heals vs ws k b okv (common_first vs ws) (common_second vs ws) (common_taken vs ws)),
      λ le. rw (le-ltb (length vs) (length ws) le)
          (heals ws vs k b okw (common_second vs ws) (common_first vs ws) (sym (common_taken vs ws))),
    )

pub repair_refused : claims.RepairRefused
repair_refused b c s k h = rw h (refl, refl)
