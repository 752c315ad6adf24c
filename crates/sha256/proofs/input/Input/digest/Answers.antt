-- The loop's invariant: the state is the hash value after i blocks of the padded input.
-- Assumes nothing.
use Rattle.std.proofs.Common.{◌∙◌, arith, rules}
use Rattle.sha256.specs.Fips180.{H}
use Rattle.sha256.proofs.Inputs.{input_short}
use Rattle.sha256.proofs.RoundRuns.{hash_step, hash_ends}
use Rattle.sha256.proofs.input.Input.digest.Goals as goal

pub loop-i-init : goal.loop-i-init
unfolding H
loop-i-init c = search rules

pub loop-i-preserved : goal.loop-i-preserved
loop-i-preserved c =
    let l = c.loop-i in
    (omega arith, hash_step _ l.i l.state _ _ l.invariant.1 c.block-w.ensures c.compress-state.ensures.value)

pub block_count-i-end-requires : goal.block_count-i-end-requires
block_count-i-end-requires c = omega (arith, c.len.ensures, input_short _ c.requires)

pub returns : goal.returns
returns c =
    let l = c.loop-i in
    c.digest_of.ensures ∙ hash_ends _ l.i l.state (omega (arith, c.block_count-i-end.ensures, c.len.ensures)) l.invariant.1
