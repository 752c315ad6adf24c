-- What the checked value and the proof answer on any bytes: the first reason that holds, by the laws of their tests.
-- Assumes nothing.
use mathlib.Core.Path.{refl, ap, ◌∙◌}
use Prim.Native.Nat.{◌*◌}
use native.Mathlib.Omega.{arith}
use lib.ListN.{length}
use Rattle.slate.specs.Moves.{hops}
use Rattle.ringlog.specs.Answer.{answer, counted, refusal}
use Rattle.inclusion.specs.Claims as claims
use Rattle.inclusion.specs.Prove.{proof_of}
use Rattle.inclusion.specs.Value.{checked_value, fold_at, no_part}
use Rattle.slate.proofs.Lists.{same_ne, same_refl}
use Rattle.entry.proofs.Claimed.{siblings_length}
use Rattle.entry.proofs.Reached.{Indexed, reached, reached_arrives}
use Rattle.ringlog.proofs.Reasoned.{by_below, by_opened, by_other, by_reached, by_steps, by_unequal, by_unopened}
use Rattle.inclusion.proofs.Indexes.{by_index}
use Rattle.inclusion.proofs.ProveForms as prove
use Rattle.inclusion.proofs.ValueForms as value

pub value_decided : claims.ValueDecided
value_decided b r i =
    by_other (length r) 32 (λ f. value.no_root b r i f)
    (λ size. by_unopened b (λ e. value.no_log b r i size e)
    (λ o n e. by_opened b e
    (by_index i n (λ out. value.no_index b r i size o n e out)
    (λ first high.
    let there : Indexed b o n i = record { opens = e; first = first; high = high } in
    by_steps there no_part (checked_value b r i)
    (λ c f. value.value_stopped there r size c f)
    (λ l qs f.
    let found = value.value_reached_lem there r size l (reached there l qs f) in
    by_reached there l qs f
    (by_unequal (fold_at b o n i l) r (λ g. found ∙ rw (same_ne _ _ g))
    (λ g. (o, n, e, (l, qs, f, found ∙ rw (g, same_refl r))))))))))

pub proof_decided : claims.ProofDecided
proof_decided b i room =
    by_unopened b (λ e. ap (answer 0) (prove.no_log b i room e))
    (λ o n e. by_opened b e
    (by_index i n (λ out. ap (answer 0) (prove.no_index b i room o n e out))
    (λ first high.
    let there : Indexed b o n i = record { opens = e; first = first; high = high } in
    by_opened b e
    (by_below room (32 * hops n i) (λ lt. ap (answer 0) (prove.no_room there room _ refl lt))
    (λ fits.
    by_steps there refusal (answer 0 (proof_of b i room))
    (λ c f. ap (answer 0) (prove.proof_stopped there room _ refl fits c f))
    (λ l qs f.
    let w = reached there l qs f in
    let size = siblings_length b o n i first high w.last (reached_arrives w) in
    (o, n, e, ap (answer 0) (prove.proof_reached_lem there room _ refl fits l w) ∙ ap counted (omega (arith, size)))))))))
