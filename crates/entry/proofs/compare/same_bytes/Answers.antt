-- The bytes before the pairs that are left were the same, or the answer is no.
-- Assumes nothing.
use Rattle.std.proofs.Common.{sym, ap, ap₂, ◌∙◌, false, pred, length}
use Rattle.std.proofs.lemmas.Slice.Zip.{either_empty_from_Zip}
use Rattle.sha256.specs.Pick.{pick}
use Rattle.slate.specs.Bytes.{same}
use Rattle.entry.proofs.Equality.{same_end, same_lengths, same_more}
use Rattle.entry.proofs.compare.same_bytes.Goals as goal

pub returns-then-a-b : goal.returns-then-a-b
returns-then-a-b c = sym (same_lengths _ _ c.if-a-b.true)

pub loop-x-preserved : goal.loop-x-preserved
loop-x-preserved c =
    let l = c.loop-x in
    let s = c.in-Some.ensures.steps in (
      ap pred (sym (ap length s.0) ∙ l.invariant.0 ∙ ap length s.1),
      l.invariant.1
          ∙ ap₂ (λ a b. pick l.equal (same a b) false) s.0 s.1
          ∙ same_more l.equal c.in-Some.x.now c.in-Some.y.now _ _,
    )

pub returns : goal.returns
returns c =
    let l = c.loop-x in
    sym (l.invariant.1 ∙ same_end l.equal _ _ l.invariant.0 (either_empty_from_Zip l.x-iterator c.next.new.self _ c.in-None.is c.next.ensures.steps))
