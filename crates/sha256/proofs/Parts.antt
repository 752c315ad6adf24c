-- A buffer of a tag byte into which two parts are copied, one behind the other.
-- Assumes nothing.
use Rattle.std.proofs.Common.{◌≡◌, ℕ, ◌+◌, List, ◌∷◌, ◌++◌, length, take, refl, ap, ◌∙◌, arith, length-append, take_at}
use Rattle.std.proofs.lemmas.Slice.{take-put_mid}
use borrow.Rule.Slice.PartMut.{put_mid}

-- the buffer begins with t and the first part x, has r behind them, and then y from behind x on: it begins with t, x and y
pub both_front : (t : ℕ) (x y p q r : List ℕ) (k : ℕ) → p ≡ x → q ≡ y
    → take (1 + length x + length y) (put_mid (1 + length x) k (t ∷ (p ++ r)) q) ≡ t ∷ (x ++ y)
both_front t x y p q r k first second =
    rw (first, second)
    (take-put_mid (1 + length x) k (t ∷ (x ++ r)) y (1 + length x + length y) refl (simp length-append (omega arith))
    ∙ ap (λ (l : List ℕ). l ++ y) (take_at (t ∷ x) r (1 + length x) (omega arith)))
