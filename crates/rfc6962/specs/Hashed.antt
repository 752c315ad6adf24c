-- What the check of a consistency proof hashes for the new root, each input with the address of its node.
use Rattle.std.specs.Prelude.{List, [], ◌∷◌, ◌⊎◌, ◌≡◌, ℕ, zero, suc, ◌+◌, ◌-◌, eqb, leb}
use Rattle.sha256.specs.Fips180.{sha256}
use Rattle.sha256.specs.Pick.{pick}
use Rattle.slate.specs.Digits.{max_height}
use Rattle.slate.specs.Hashed.{Hashed}
use Rattle.slate.specs.Path.{sibling}
use Rattle.slate.specs.Tree.{Rule, node_input}
use Rattle.rfc6962.specs.Consistency.{first_digest, new_from, sibling_count, siblings_in}
use Rattle.rfc6962.specs.Rfc6962.{k, split_height}

-- for the n values behind the first a: their node has the index of the last of them
unfoldable pub inputs_from : Rule → ℕ → ℕ → ℕ → ℕ → List ℕ → List ℕ → List Hashed
inputs_from pre zero a m n d siblings = []
inputs_from pre (suc f) a m n d siblings =
    pick (eqb m n)
    []
    (pick (leb m (k n))
    (record {
      index = a + n;
      height = suc (split_height n);
      input = node_input pre (suc (split_height n)) (new_from pre f m (k n) d siblings) (sibling siblings (sibling_count f m (k n)));
    } ∷ inputs_from pre f a m (k n) d siblings)
    (record {
      index = a + n;
      height = suc (split_height n);
      input = node_input pre (suc (split_height n)) (sibling siblings (sibling_count f (m - k n) (n - k n))) (new_from pre f (m - k n) (n - k n) d siblings);
    } ∷ inputs_from pre f (a + k n) (m - k n) (n - k n) d siblings))

unfoldable pub new_inputs : Rule → ℕ → ℕ → List ℕ → List ℕ → List Hashed
new_inputs pre m n proof old = inputs_from pre max_height 0 m n (first_digest m n proof old) (siblings_in m n proof)

-- to make the digest d of the digest e these inputs are hashed, from d down: each is a node's, over the digest that the next one makes and
-- another
abbrev pub Hashing : Rule → List ℕ → List Hashed → List ℕ → Type 0
Hashing pre d [] e = d ≡ e
Hashing pre d (a ∷ hs) e =
    (sha256 a.input ≡ d)
    × ((l : List ℕ) × (r : List ℕ) × (a.input ≡ node_input pre a.height l r) × (Hashing pre l hs e ⊎ Hashing pre r hs e))
