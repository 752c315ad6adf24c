-- Down from two unequal tops to the leftmost difference, on any bytes, with the entries read in each log.
use Rattle.std.specs.Prelude.{Err, List, Ok, Result, [], ◌∷◌, ℕ, zero, suc, length}
use Rattle.sha256.specs.Pick.{pick}
use Rattle.slate.specs.Bytes.{same}
use Rattle.slate.specs.Digits.{digit, if_set, left}
use Rattle.entry.specs.Read.{digest_at, left_digest_at}
use Rattle.entry.specs.Walk.{Place, Step, left_step}
use Rattle.entry.specs.declared.Cause.{Cause}
use Rattle.entry.specs.declared.Cause.TheVariants as cause
use Rattle.split.specs.declared.Leaf.{Leaf}
use Rattle.split.specs.declared.SearchRefusal.{SearchRefusal}
use Rattle.split.specs.declared.Side.{Side}
use Rattle.split.specs.declared.Side.TheVariants as side
use Rattle.split.specs.declared.pair.Pair.{Pair}

-- the leaf of the difference: its position, where its entries begin, and the entries read on the way; or a refusal
pub data Below : Type 0 where
  leaf : ℕ → ℕ → ℕ → List Place → List Place → Below
  blocked : Side → Cause → Below

-- with one entry read in each log before
abbrev pub reading_both : Place → Place → Below → Below
reading_both q r (leaf t l m qs rs) = leaf t l m (q ∷ qs) (r ∷ rs)
reading_both q r (blocked s k) = blocked s k

-- the first log's step before the second's
abbrev pub after_both : Step → Step → (ℕ → ℕ → Below) → Below
after_both (Err k) s f = blocked side.First k
after_both (Ok l) (Err k) f = blocked side.Second k
after_both (Ok l) (Ok m) f = f l m

-- from the highest nodes of height at most h in the entries at position x, which begin at o in b and at q in c. At a leaf the difference is
-- there. At a node whose left digests differ: left by a left step in each log; left equal: the right child, whose digests must differ, else 7
unfoldable pub down : List ℕ → List ℕ → ℕ → ℕ → ℕ → ℕ → Below
down b c o q x zero = leaf x o q [] []
down b c o q x (suc p) =
    if_set (digit x p)
    (pick (same (left_digest_at b o x p) (left_digest_at c q x p))
    (pick (same (digest_at b o x p) (digest_at c q x p)) (blocked side.Both cause.Link) (down b c o q x p))
    (after_both (left_step b o x p) (left_step c q x p)
    (λ l m.
    reading_both (record { begins = l; position = left x p }) (record { begins = m; position = left x p }) (down b c l m (left x p) p))))
    (down b c o q x p)

-- what the code answers: the entries read are counted
abbrev pub down_of : Below → Result Leaf SearchRefusal
down_of (leaf t l m qs rs) = Ok (record { position = t; first = l; second = m; first_reads = length qs; second_reads = length rs })
down_of (blocked s k) = Err (record { side = s; cause = k })

-- and of the left steps alone: the entries to which they lead
abbrev pub steps_of : Result Pair SearchRefusal → Below
steps_of (Ok a) = leaf a.first.position a.first.start a.second.start [] []
steps_of (Err r) = blocked r.side r.cause
