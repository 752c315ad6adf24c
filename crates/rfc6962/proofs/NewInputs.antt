-- What is hashed for the new root: each input makes a digest of the one before it.
-- Assumes nothing.
use mathlib.Core.List.{List}
use mathlib.Core.Logic.{inl, inr}
use mathlib.Core.Path.{refl}
use Prim.Native.Nat.{ℕ, zero, suc, ◌+◌, ◌-◌}
use lib.Dec.{eqb, leb}
use Rattle.slate.specs.Digits.{max_height}
use Rattle.slate.specs.Path.{sibling}
use Rattle.slate.specs.Tree.{Rule}
use Rattle.slate.proofs.Cases.{by_bool}
use Rattle.rfc6962.specs.Claims as claims
use Rattle.rfc6962.specs.Consistency.{new_from, new_root, sibling_count}
use Rattle.rfc6962.specs.Hashed.{Hashing, inputs_from, new_inputs}
use Rattle.rfc6962.specs.Rfc6962.{k}

hashed_from : (pre : Rule) (f a m n : ℕ) (d s : List ℕ) → Hashing pre (new_from pre f m n d s) (inputs_from pre f a m n d s) d
unfolding new_from inputs_from
hashed_from pre zero a m n d s = refl
hashed_from pre (suc f) a m n d s =
    by_bool (eqb m n)
    (λ e. rw e refl)
    (λ e. by_bool (leb m (k n))
    (λ o. rw (e, o)
    (refl, (new_from pre f m (k n) d s, sibling s (sibling_count f m (k n)), refl, inl (hashed_from pre f a m (k n) d s))))
    (λ o. rw (e, o) (
      refl,
      (
        sibling s (sibling_count f (m - k n) (n - k n)),
        new_from pre f (m - k n) (n - k n) d s,
        refl,
        inr (hashed_from pre f (a + k n) (m - k n) (n - k n) d s),
      ),
    )))

pub new_root_hashed : claims.NewRootHashed
unfolding new_root new_inputs
new_root_hashed pre m n ds old = hashed_from pre max_height 0 m n _ _
