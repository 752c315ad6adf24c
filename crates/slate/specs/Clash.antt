-- Two lists of payloads against each other: where they are the same, and where two inputs have one digest.
use Rattle.std.specs.Prelude.{List, [], ◌≡◌, ℕ, ◌≤◌, ◌<◌, length, get_or}
use Rattle.slate.specs.Address.{Present, digest_of, hash_input}
use Rattle.slate.specs.Tree.{Rule}

-- the values at the positions from a up to, not including, e are the same
abbrev pub Same : ℕ → ℕ → List (List ℕ) → List (List ℕ) → Type 0
Same a e vs ws = (k : ℕ) → a ≤ k → k < e → get_or vs k [] ≡ get_or ws k []

-- an address present in both whose hash inputs differ and whose digests are equal
pub record Clash (pre : Rule) (vs ws : List (List ℕ)) : Type 0 where
  pub index : ℕ
  pub height : ℕ
  pub first : Present (length vs) index height
  pub second : Present (length ws) index height
  pub inputs : hash_input pre vs index height ≡ hash_input pre ws index height → ⊥
  pub digests : digest_of pre vs index height ≡ digest_of pre ws index height
