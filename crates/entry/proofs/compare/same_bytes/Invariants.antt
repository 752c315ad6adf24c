-- The bytes before the pairs that are left were the same, or the answer is no.
-- Assumes nothing.
use Rattle.std.proofs.Common.{◌≡◌, false, length}
use Rattle.sha256.specs.Pick.{pick}
use Rattle.slate.specs.Bytes.{same}
use Rattle.entry.proofs.compare.same_bytes.Given as goal

abbrev pub invariant-loop-x : goal.invariant-loop-x
invariant-loop-x l =
    let a = l.x-iterator.a.rest.now in
    let b = l.x-iterator.b.rest.now in
    (length a ≡ length b) × (same l.a l.b ≡ pick l.equal (same a b) false)
