-- Proof check: no log, and no refusal number.
use Rattle.std.specs.Prelude.{Bool, List, [], ◌∷◌, ℕ, ◌*◌, ◌^◌, eqb, leb, length}
use Rattle.slate.specs.Bytes.{same}
use Rattle.slate.specs.Digits.{max_height}
use Rattle.slate.specs.Index.{is_index}
use Rattle.slate.specs.Moves.{hops}
use Rattle.slate.specs.Path.{fold}
use Rattle.slate.specs.Tree.{Rule}
use Rattle.entry.specs.Kind.{is_item}
use Rattle.entry.specs.Shape.{all}

-- v as value i of n with a proof and a root, by a prefix rule: 1 ≤ i ≤ n ≤ 4,096; the item is valid; the proof has 32·hops(n,i) bytes; the
-- root has 32; the fold gives the root
unfoldable pub proof_tests : Rule → ℕ → ℕ → List ℕ → List ℕ → List ℕ → List Bool
proof_tests pre n i v proof root =
    is_index i n
    ∷ leb n (2 ^ max_height)
    ∷ is_item v
    ∷ eqb (length proof) (32 * hops n i)
    ∷ eqb (length root) 32
    ∷ same (fold pre n i v proof) root
    ∷ []

unfoldable pub proof_holds : Rule → ℕ → ℕ → List ℕ → List ℕ → List ℕ → Bool
proof_holds pre n i v proof root = all (proof_tests pre n i v proof root)
