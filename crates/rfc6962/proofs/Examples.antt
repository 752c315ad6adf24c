-- The RFC's example, and the way from six values to eight, by computation.
-- Assumes nothing.
use mathlib.Core.Path.{refl}
use Rattle.slate.specs.Tree.{empty_root}
use Rattle.rfc6962.specs.Claims as claims
use Rattle.rfc6962.specs.Rfc6962.{mth, mth_from, path_from, power_below, split_height, subproof_from}

pub example_holds : claims.ExampleHolds
unfolding mth mth_from path_from power_below split_height subproof_from
example_holds d0 d1 d2 d3 d4 d5 d6 = (refl, refl, refl, refl, refl, refl, refl, refl)

pub six_to_eight : claims.SixToEight
unfolding mth mth_from power_below split_height subproof_from
six_to_eight d0 d1 d2 d3 d4 d5 d6 d7 = refl

pub mth_of_none : claims.MthOfNone
unfolding mth empty_root
mth_of_none pre = refl
