-- What the code hashes in one loop: a message, or a node's input.
use Rattle.std.specs.Prelude.{◌≡◌, ℕ, ◌≤◌, List, ◌∷◌, ◌++◌, length}
use Rattle.sha256.specs.declared.input.Input.{Input}
use Rattle.sha256.specs.declared.input.Input.TheVariants.{Message, Node}

-- a message itself, and of a node the tag and both digests
abbrev pub input : Input → List ℕ
input (Message m) = m.now
input (Node tag left right) = tag ∷ (left.now ++ right.now)

-- a message is not too long, and a digest has 32 bytes
abbrev pub InputFits : Input → Type 0
InputFits (Message m) = length m.now ≤ 65535
InputFits (Node tag left right) = (length left.now ≡ 32) × (length right.now ≡ 32)
