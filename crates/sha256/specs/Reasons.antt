-- Refusals, in the order of a call's checks: "The first applicable in the call's order counts."
use Rattle.std.specs.Prelude.{◌≡◌, ◌⊎◌, List, [], ◌∷◌}

-- a reason to refuse: what is answered then, and when it holds
pub record Reason (A : Type 0) : Type 1 where
  pub answer : A
  pub when : Type 0

-- a is what the first reason that holds answers: none of the earlier ones holds, and this one does. Where none holds, a is as P says
abbrev pub Decided : {A : Type 0} → List (Reason A) → (A → Type 0) → A → Type 0
Decided [] P a = P a
Decided (r ∷ rs) P a = (r.when × (a ≡ r.answer)) ⊎ ((r.when → ⊥) × Decided rs P a)
