-- A text written piece by piece.
-- Assumes nothing.
use Rattle.std.proofs.Common.{◌≡◌, ℕ, ◌+◌, ◌≤◌, List, ◌∷◌, ◌++◌, length, take, drop, sym, ◌∙◌, arith, append_assoc, length-take-le}
use lib.ListN.{length-append}
use lib.Seq.{take_at}
use Rattle.input.specs.Counts.{IsPrefixLen}
use Rattle.entry.specs.Write.{write_at}
use Rattle.entry.proofs.Writes.{write_both}
use Rattle.audit_report.specs.Claims as claims
use Rattle.audit_report.specs.Put.{Put}
use Rattle.audit_report.specs.Report.{line}

-- a piece right behind another one
pub put_both : {d e f s t : List ℕ} {at n r : ℕ} → Put d at s e n → Put e n t f r → r ≤ length d → Put d at (s ++ t) f r
put_both {d} {e} {f} {s} {t} {at} {n} p q h = record {
  written = write_both d e f at n s t p.written q.written p.ends (omega (arith, q.ends));
  ends = simp length-append (omega (arith, p.ends, q.ends));
}

-- at the start of a buffer
pub put_first : claims.PutFirst
unfolding write_at
put_first d s e r p =
    let size : r ≡ length s = omega (arith, p.ends) in
    let same : 0 + length s ≡ r = omega (arith, p.ends) in
    (size, p.written ∙ rw same)

-- bytes written at the start of a buffer are counted there
pub put_counts : {d s e : List ℕ} {r : ℕ} → Put d 0 s e r → IsPrefixLen r e
unfolding write_at
put_counts {d} {s} {e} {r} p =
    let h : r ≤ length e = rw p.written (simp length-append (omega (arith, p.ends))) in
    (h, sym (length-take-le r e h))

-- three lines written in four pieces, the second in two of them
pub three_lines : {d f₁ f₂ f₃ f s t u v : List ℕ} {i j k r : ℕ} → Put d 0 s f₁ i → Put f₁ i (10 ∷ t) f₂ j → Put f₂ j u f₃ k → Put f₃ k (10 ∷ v) f r
    → r ≤ length d → Put d 0 (line s ++ (line (t ++ u) ++ v)) f r
three_lines a b c e h =
    let all = put_both (put_both (put_both a b (omega arith)) c (omega arith)) e h in
    simp append_assoc (simp append_assoc at all)

-- and what is counted there is the text
pub put_taken : {d s e : List ℕ} {r : ℕ} → Put d 0 s e r → take r e ≡ s
put_taken {d} {s} {e} {r} p =
    let first = put_first d s e r p in
    rw first.1 (take_at s (drop r d) r (sym first.0))
