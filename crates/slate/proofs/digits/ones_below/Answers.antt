-- The digits below h are those of the remainder by 2 ^ h.
-- Assumes nothing.
use Rattle.slate.proofs.Bits.{ones_below_le, ones_below_mod}
use Rattle.slate.proofs.CodeForms.{shifted_one}
use Rattle.slate.proofs.digits.ones_below.Goals as goal

pub returns-clause-upper_bound : goal.returns-clause-upper_bound
returns-clause-upper_bound c = rw (shifted_one _ c.requires, ← ones_below_mod) (ones_below_le _ _)
