-- The claim on a way down that is refused. It stands apart from the laws of Stops.antt, which an edit in must-fail/ changes: what rests on
-- a law that is refused would read there as text that cannot be read.
-- Assumes nothing.
use mathlib.Core.Path.{◌≡◌}
use Prim.Native.Nat.{suc, ◌-◌}
use native.Mathlib.Omega.{arith}
use Rattle.split.specs.Claims as claims
use Rattle.split.proofs.Stops.{down_stops}

pub down_refused : claims.DownRefused
down_refused b c o q i h s k n e =
    let z = down_stops b c o q (i - 1) h s k n e in
    let y : suc z.place - 1 ≡ z.place = omega arith in (
      suc z.place,
      z.height,
      z.first,
      z.second,
      z.first_reads,
      z.second_reads,
      z.under,
      rw y z.set,
      rw y z.first_run,
      rw y z.second_run,
      rw y z.differ,
      rw y z.why,
    )
