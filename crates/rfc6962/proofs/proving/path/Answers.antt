-- Test by test, by the laws of MakerForms.antt.
-- Assumes nothing.
use Rattle.std.proofs.Common.{ℕ, ◌*◌, length, refl, sym, ap, ◌∙◌, arith}
use Rattle.slate.specs.Digits.{max_height}
use Rattle.slate.proofs.Cases.{true_false}
use Rattle.rfc6962.proofs.MakerForms.{There, few, first, high, made_2, made_6, made_8, made_done, path_digests, path_size, there}
use Rattle.rfc6962.proofs.proving.path.Goals as goal
use Rattle.rfc6962.proofs.proving.path.Goals.{Else-not-is_index}

pub returns-in_default : goal.returns-in_default
returns-in_default c =
    let it = made_6 _ _ _ _ (sym c.in_default.ensures) in
    record { result_value = it.0; output_after = it.1 }

pub returns-then-not-is_index : goal.returns-then-not-is_index
returns-then-not-is_index c =
    let it = made_2 _ _ _ _ _ _ (sym c.in-Some.ensures) (sym c.is_index.ensures ∙ c.if-not-is_index.true) in
    record { result_value = it.0; output_after = it.1 }

here : (c : Else-not-is_index) → There c.args.log.now c.in-Some.opened.start c.in-Some.opened.count c.args.index
here c = there (λ k. omega (arith, c.type_inv.log k)) c.in-Some.ensures c.is_index.ensures c.if-not-is_index.false

pub overflow_cast-i : goal.overflow_cast-i
overflow_cast-i c =
    let w = here (goal.at.overflow_cast-i c).Else-not-is_index in
    omega (arith, high w, few w)

pub hops-requires : goal.hops-requires
hops-requires c = first (here (goal.at.hops-requires c).Else-not-is_index)

pub returns-then-output-hops : goal.returns-then-output-hops
returns-then-output-hops c =
    let w = here (goal.at.returns-then-output-hops c).Else-not-is_index in
    let it = made_8 _ _ _ _ _ _ w _ (path_size w ∙ ap (λ (m : ℕ). 32 * m) (sym c.hops.ensures)) c.if-output-hops.true in
    record { result_value = it.0; output_after = it.1 }

pub last-last-requires-clause-some : goal.last-last-requires-clause-some
last-last-requires-clause-some c =
    let w = here (goal.at.last-last-requires-clause-some c).Else-not-is_index in
    omega (arith, first w, high w)

pub overflow_sub-leaf : goal.overflow_sub-leaf
overflow_sub-leaf c = first (here (goal.at.overflow_sub-leaf c).Else-not-is_index)

pub overflow_sub-leaf-2 : goal.overflow_sub-leaf-2
overflow_sub-leaf-2 c = first (here (goal.at.overflow_sub-leaf-2 c).Else-not-is_index)

pub put_digests-requires : goal.put_digests-requires
unfolding max_height
put_digests-requires c =
    let w = here (goal.at.put_digests-requires c).Else-not-is_index in
    let l = c.last-last.ensures in
    record {
      height_le_max_height = omega arith;
      first_value = λ f. true_false f refl;
      height_in_bounds =
          rw (l.log, l.position) (omega (arith, ap length (path_digests w), path_size w, c.hops.ensures, c.if-output-hops.false));
    }

pub returns : goal.returns
unfolding max_height
returns c =
    let w = here (goal.at.returns c).Else-not-is_index in
    let l = c.last-last.ensures in
    let p = c.put_digests.ensures in
    let it =
    made_done _ _ _ _ _ _ w _ (path_size w ∙ ap (λ (m : ℕ). 32 * m) (sym c.hops.ensures)) c.if-output-hops.false
    _ (path_digests w) _ (rw (l.log, l.position) at p.value) _ (rw (l.log, l.position) at p.out_after) in
    record { result_value = it.0; output_after = it.1 }
