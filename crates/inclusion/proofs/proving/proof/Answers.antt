-- Test by test, by the laws of ProveForms.antt.
-- Assumes nothing.
use Rattle.std.proofs.Common.{◌≡◌, ◌-◌, Err, rules, refl, sym, ◌∙◌, arith}
use Rattle.slate.specs.Digits.{max_height}
use Rattle.entry.proofs.Reached.{Indexed, Reached, indexed, walk_reached, walk_stopped}
use Rattle.inclusion.proofs.ProveForms.{no_index, no_log, no_room, proof_stopped, proof_written, siblings_room}
use Rattle.inclusion.proofs.proving.proof.Goals as goal
use Rattle.inclusion.proofs.proving.proof.Goals.{Else-not-is_index, In_ok-descend}

-- the log has an entry of this index
there : (c : Else-not-is_index) → Indexed c.args.log.now c.in-Some.opened.start c.in-Some.opened.count c.args.index
there c = indexed c.in-Some.ensures.value c.is_index.ensures c.if-not-is_index.false

-- and the steps reach it
found : (c : In_ok-descend)
    → Reached c.args.log.now c.in-Some.opened.start c.in-Some.opened.count (c.args.index - 1) c.in_ok-descend.field-0.start
unfolding max_height
found c =
    let l = c.last_entry-last.ensures in
    walk_reached (indexed c.in-Some.ensures.value c.is_index.ensures c.if-not-is_index.false) _
    (rw (l.log, l.start, l.position) at c.descend.ensures) _ _ c.in_ok-descend.was

pub returns-in_default : goal.returns-in_default
returns-in_default c = rw (no_log _ _ _ (sym c.in_default.ensures.value)) (record { result_value = refl; output_after = refl })

pub returns-then-not-is_index : goal.returns-then-not-is_index
returns-then-not-is_index c =
    rw (no_index _ _ _ _ _ (sym c.in-Some.ensures.value) (sym c.is_index.ensures ∙ c.if-not-is_index.true))
    (record { result_value = refl; output_after = refl })

pub overflow_cast-i : goal.overflow_cast-i
overflow_cast-i c = omega (arith, (there (goal.at.overflow_cast-i c).Else-not-is_index).high)

pub hops-requires : goal.hops-requires
hops-requires c = (there (goal.at.hops-requires c).Else-not-is_index).first

pub returns-then-output-hops : goal.returns-then-output-hops
returns-then-output-hops c =
    rw (no_room (there (goal.at.returns-then-output-hops c).Else-not-is_index) _ _ c.hops.ensures c.if-output-hops.true)
    (record { result_value = refl; output_after = refl })

pub last_entry-last-requires-clause-some : goal.last_entry-last-requires-clause-some
last_entry-last-requires-clause-some c =
    let a = there (goal.at.last_entry-last-requires-clause-some c).Else-not-is_index in
    omega (arith, a.first, a.high)

pub overflow_sub-i : goal.overflow_sub-i
overflow_sub-i c = (there (goal.at.overflow_sub-i c).Else-not-is_index).first

pub returns-in_err-descend : goal.returns-in_err-descend
unfolding max_height
returns-in_err-descend c =
    let a = there (goal.at.returns-in_err-descend c).Else-not-is_index in
    let l = c.last_entry-last.ensures in
    let d = walk_stopped a _ (rw (l.log, l.start, l.position) at c.descend.ensures) _ c.in_err-descend.was in
    let r : c.from_residual.result ≡ Err c.in_err-descend.field-0.0 = search rules in
    rw (r, proof_stopped a _ _ c.hops.ensures c.if-output-hops.false _ d) (record { result_value = refl; output_after = refl })

pub overflow_sub-i-2 : goal.overflow_sub-i-2
overflow_sub-i-2 c = (there (goal.at.overflow_sub-i-2 c).Else-not-is_index).first

pub put_siblings-requires-clause-target_in_bounds : goal.put_siblings-requires-clause-target_in_bounds
unfolding max_height
put_siblings-requires-clause-target_in_bounds c =
    rw c.last_entry-last.ensures.position
    (siblings_room (there (goal.at.put_siblings-requires-clause-target_in_bounds c).Else-not-is_index) _ _ c.hops.ensures
    c.if-output-hops.false _ (found (goal.at.put_siblings-requires-clause-target_in_bounds c).In_ok-descend))

pub returns : goal.returns
unfolding max_height
returns c =
    let l = c.last_entry-last.ensures in
    let it =
    proof_written (there (goal.at.returns c).Else-not-is_index) _ _ c.hops.ensures c.if-output-hops.false _
    (found (goal.at.returns c).In_ok-descend) _ _ (rw l.position at c.put_siblings.ensures.value) _
    (rw (l.log, l.start, l.position) at c.put_siblings.ensures.out_after) in
    record { result_value = it.0; output_after = it.1 }
