-- `of_digest` meets its contract. The loop's invariant: the first 2 * i digits are those of the digest's first i bytes.
-- Assumes nothing.
use mathlib.Core.List.{List, [], ◌∷◌, ◌++◌}
use mathlib.Core.Path.{◌≡◌, refl, sym, ◌∙◌, ap}
use Prim.Native.Nat.{ℕ, zero, suc, ◌+◌, ◌*◌, ◌/◌, ◌%◌, ◌<◌}
use native.Mathlib.Numerals.{add-one}
use native.Mathlib.Omega.{arith}
use borrow.Author.Rules.{rules}
use lib.ListN.{length, take, set, get_or, length-set}
use lib.Seq.{take-suc-set, append_snoc, take_all}
use Rattle.digest_text.specs.Hex.{hex_digit_ascii, hex_of}
use Rattle.digest_text.proofs.of_digest.Goals as goal

-- one more byte is two more digits at the end
hex-more : (d : List ℕ) (i : ℕ) → i < length d → hex_of (take (suc i) d) ≡ hex_of (take i d) ++ (hex_digit_ascii (get_or d i 0 / 16) ∷ hex_digit_ascii (get_or d i 0 % 16) ∷ [])
unfolding hex_of
hex-more [] i h = absurd (omega arith)
hex-more (b ∷ bs) zero h = refl
hex-more (b ∷ bs) (suc i) h = rw (hex-more bs i (omega arith))

-- two stores after the first n elements are two more elements
two-more : (t : List ℕ) (n a b : ℕ) → n + 1 < length t → take (suc (suc n)) (set (set t n a) (suc n) b) ≡ take n t ++ (a ∷ b ∷ [])
two-more t n a b h =
    take-suc-set (set t n a) (suc n) b (simp length-set (omega arith))
    ∙ rw (take-suc-set t n a (omega arith)) (append_snoc (take n t) a (b ∷ []))

-- a turn of the loop
turn : (d t : List ℕ) (i a b : ℕ) → i < length d → 2 * i + 1 < length t → take (2 * i) t ≡ hex_of (take i d) → a ≡ hex_digit_ascii (get_or d i 0 / 16) → b ≡ hex_digit_ascii (get_or d i 0 % 16)
    → take (2 * (i + 1)) (set (set t (2 * i) a) (2 * i + 1) b) ≡ hex_of (take (i + 1) d)
turn d t i a b hi ht h ea eb =
    let e : 2 * (i + 1) ≡ suc (suc (2 * i)) = omega arith in
    rw (e, add-one (2 * i), add-one i) (rw (two-more t (2 * i) a b ht, hex-more d i hi, h, ea, eb))

pub loop-i-init : goal.loop-i-init
unfolding hex_of
loop-i-init c = search rules

pub loop-i-preserved : goal.loop-i-preserved
loop-i-preserved c =
    let at = c.loop-i in
    let d = c.args.digest in
    let n : length d ≡ 32 = search rules in
    (omega arith, simp length-set at.invariant.1, turn d at.text at.i _ _ (omega arith) (omega arith) at.invariant.2 c.high_digit.ensures c.low_digit.ensures)

pub returns : goal.returns
returns c =
    let at = c.loop-i in
    let d = c.args.digest in
    let n : length d ≡ 32 = search rules in
    let e : at.i ≡ 32 = omega arith in
    sym (take_all (2 * at.i) at.text (omega arith)) ∙ at.invariant.2 ∙ ap hex_of (take_all at.i d (omega arith))
