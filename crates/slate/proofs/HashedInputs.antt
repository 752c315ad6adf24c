-- The inputs that a fold hashes, as a list: being one of them, and a clash of one of them with a tree.
-- Assumes nothing.
use mathlib.Core.List.{List, [], ◌∷◌}
use mathlib.Core.Logic.{◌⊎◌, inl, inr}
use mathlib.Core.Path.{◌≡◌, refl}
use Rattle.slate.specs.Claims as claims
use Rattle.slate.specs.Hashed.{Hashed, In, here, there}

none_in : (a : Hashed) → In a [] → ⊥
none_in a = elim [ ]

first_or_rest : (a b : Hashed) (hs : List Hashed) → In a (b ∷ hs) → (a ≡ b) ⊎ In a hs
first_or_rest a b hs here = inl refl
first_or_rest a b hs (there i) = inr i

pub in_when : claims.InWhen
in_when = (none_in, λ a b hs. (λ e. rw e here, there, first_or_rest a b hs))

pub clash_among_when : claims.ClashAmongWhen
clash_among_when pre vs hs = (
  λ i h a m at n e. record { hashed = record { index = i; height = h; input = a }; among = m; present = at; inputs = n; digests = e },
  λ c. (c.hashed.index, c.hashed.height, c.hashed.input, c.among, c.present, c.inputs, c.digests),
)
