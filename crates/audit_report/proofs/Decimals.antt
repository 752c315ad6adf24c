-- The text of a number in decimal, digit by digit, how long it is, and that it is what std writes.
-- Assumes nothing.
use Rattle.std.proofs.Common.{◌≡◌, ℕ, zero, suc, ◌+◌, ◌*◌, ◌/◌, ◌%◌, ◌^◌, ◌≤◌, ◌<◌, [], ◌∷◌, ◌++◌, length, arith}
use Rattle.std.specs.Fmt as std
use Rattle.std.proofs.lemmas.Fmt.{decimal_from_appends, length-decimal-le_succ}
use borrow.Author.Tests.{le-ltb, lt-ltb}
use lib.ListN.{length-append}
use Rattle.audit_report.specs.Claims as claims
use Rattle.audit_report.specs.Decimal.{decimal, decimal_in}
use Rattle.slate.proofs.Cases.{by_order}

-- ---- digit by digit

-- as many steps as there may be, or more
steps_enough : (f g n : ℕ) → n < f → n < g → decimal_in f n ≡ decimal_in g n
unfolding decimal_in
steps_enough zero g n a b = absurd (omega arith)
steps_enough (suc f) zero n a b = absurd (omega arith)
steps_enough (suc f) (suc g) n a b =
    by_order n 10
    (λ few. rw (lt-ltb n 10 few))
    (λ more. rw (le-ltb n 10 more, steps_enough f g (n / 10) (omega arith) (omega arith)))

pub one_digit : claims.OneDigit
unfolding decimal decimal_in
one_digit n few = rw (lt-ltb n 10 few)

pub more_digits : claims.MoreDigits
unfolding decimal decimal_in
more_digits q r some low =
    let e : (10 * q + r) / 10 ≡ q = omega arith in
    let f : (10 * q + r) % 10 ≡ r = omega arith in
    rw (le-ltb (10 * q + r) 10 (omega arith), e, f, steps_enough (10 * q + r) (suc q) q (omega arith) (omega arith))

-- of a number that is given whole
pub last_digit : (n : ℕ) → 10 ≤ n → decimal n ≡ decimal (n / 10) ++ ((48 + n % 10) ∷ [])
last_digit n more =
    let e : 10 * (n / 10) + n % 10 ≡ n = omega arith in
    rw e at (more_digits (n / 10) (n % 10) (omega arith) (omega arith))

-- ---- how many digits

-- at most as many as a power of ten above the number has zeros
digits_few : (k n : ℕ) → n < 10 ^ suc k → length (decimal n) ≤ suc k
digits_few zero n low = rw (one_digit n (omega arith)) (omega arith)
digits_few (suc k) n low =
    let shorter : n / 10 < 10 ^ suc k → length (decimal (n / 10)) ≤ suc k = digits_few k (n / 10) in
    by_order n 10
    (λ few. rw (one_digit n few) (omega arith))
    (λ more. rw (last_digit n more) (simp length-append (omega (arith, shorter (omega arith)))))

-- a number of 64 bits has at most 20 digits
pub decimal_short : (n : ℕ) → n < 2 ^ 64 → length (decimal n) ≤ 20
decimal_short n h = digits_few 19 n (omega arith)

-- ---- what std writes

-- of a number of 64 bits
pub decimal_std : (n : ℕ) → n < 2 ^ 64 → decimal n ≡ std.decimal n
unfolding decimal decimal_in
decimal_std n low =
    decimal_from_appends decimal_in (record {
      one = λ k m few. rw (lt-ltb m 10 few);
      more = λ k m many. rw (le-ltb m 10 many);
    }) (suc n) n low (omega (arith, length-decimal-le_succ n low))
