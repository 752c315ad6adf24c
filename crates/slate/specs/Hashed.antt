-- What a fold hashes, as a list: each input with its address; and a clash of that with a tree.
use Rattle.std.specs.Prelude.{List, ◌∷◌, ◌≡◌, ℕ, length}
use Rattle.sha256.specs.Fips180.{sha256}
use Rattle.slate.specs.Address.{Present, digest_of, hash_input}
use Rattle.slate.specs.Tree.{Rule}

-- an input hashed at the address (index, height)
pub record Hashed : Type 0 where
  pub index : ℕ
  pub height : ℕ
  pub input : List ℕ

-- it is one of these
pub data In (a : Hashed) : List Hashed → Type 0 where
  here : {bs : List Hashed} → In a (a ∷ bs)
  there : {b : Hashed} {bs : List Hashed} → In a bs → In a (b ∷ bs)

-- an address present in the tree of vs at which an input of the list, other than the tree's own, has the tree's digest
pub record ClashAmong (pre : Rule) (vs : List (List ℕ)) (hs : List Hashed) : Type 0 where
  pub hashed : Hashed
  pub among : In hashed hs
  pub present : Present (length vs) hashed.index hashed.height
  pub inputs : hash_input pre vs hashed.index hashed.height ≡ hashed.input → ⊥
  pub digests : digest_of pre vs hashed.index hashed.height ≡ sha256 hashed.input
