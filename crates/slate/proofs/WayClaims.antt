-- The claims on the siblings, and on the fold, along the way from a leaf up. They stand apart from the laws of the way, which an edit in
-- must-fail/ changes: what rests on a law that is refused would read there as text that cannot be read.
-- Assumes nothing.
use mathlib.Core.List.{◌∷◌}
use mathlib.Core.Path.{sym}
use Prim.Native.Nat.{◌-◌}
use native.Mathlib.Omega.{arith}
use lib.ListN.{length}
use Rattle.sha256.specs.Fips180.{sha256}
use Rattle.slate.specs.Claims as claims
use Rattle.slate.specs.Moves.{hops_from}
use Rattle.slate.specs.Path.{fold_from, path_from}
use Rattle.slate.proofs.Bits.{base_zero}
use Rattle.slate.proofs.Ways.{way_fold, way_path}

pub path_siblings : claims.PathSiblings
unfolding path_from
path_siblings pre vs i l s way = sym (way_path pre vs (length vs) (i - 1) way (omega (arith, base_zero (i - 1))) (omega arith))

pub fold_steps : claims.FoldSteps
unfolding fold_from hops_from
fold_steps pre n i l s way v proof =
    way_fold pre n (i - 1) (sha256 (pre 0 ∷ v)) proof way (omega (arith, base_zero (i - 1))) (omega arith)
