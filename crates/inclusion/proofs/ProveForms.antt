-- Proof, test by test as the code makes them.
-- Assumes nothing.
use Rattle.std.proofs.Common.{None}
use mathlib.Core.Bool.{false}
use mathlib.Core.List.{List}
use mathlib.Core.Path.{◌≡◌, ap}
use Prim.Native.Nat.{ℕ, ◌*◌, ◌-◌, ◌≤◌, ◌<◌}
use native.Mathlib.Omega.{arith}
use borrow.Author.Tests.{le-ltb, lt-ltb}
use Rattle.slate.specs.Digits.{max_height}
use Rattle.slate.specs.Index.{is_index}
use Rattle.slate.specs.Moves.{hops, hops_from}
use Rattle.entry.specs.Refusal.{cause_number}
use Rattle.entry.specs.Shape.{opened_log}
use Rattle.entry.specs.Siblings.{siblings}
use Rattle.entry.specs.Walk.{descend, stopped}
use Rattle.entry.specs.Write.{write_at}
use Rattle.entry.specs.declared.Cause.{Cause}
use Rattle.entry.specs.Opening.{opening_at}
use Rattle.ringlog.specs.Answer.{counted, refused, written}
use Rattle.inclusion.specs.Prove.{proof_of, proof_reached}
use Rattle.slate.proofs.Formulas.{hops_formula}
use Rattle.slate.proofs.Indexes.{to_index}
use Rattle.entry.proofs.PathSiblings.{siblings_length}
use Rattle.entry.proofs.Reached.{Indexed, Reached, reached_arrives}
use Rattle.ringlog.proofs.Outcomes.{Answers}

module _ (b : List ℕ) (i room : ℕ) where
  pub no_log : opened_log b ≡ None → proof_of b i room ≡ refused 6
  unfolding proof_of
  no_log e = rw e

  pub no_index : (o n : ℕ) → opened_log b ≡ opening_at o n → is_index i n ≡ false → proof_of b i room ≡ refused 2
  unfolding proof_of
  no_index o n opens f = rw (opens, f)

-- k is how many moves there are to value i
module _ {b : List ℕ} {o n i : ℕ} (a : Indexed b o n i) (room k : ℕ) (moves : k ≡ hops n i) where
  pub no_room : room < 32 * k → proof_of b i room ≡ refused 8
  unfolding proof_of
  no_room h = rw (a.opens, to_index i n a.first a.high, ← moves, lt-ltb room (32 * k) h)

  module _ (fits : 32 * k ≤ room) where
    walks : proof_of b i room ≡ proof_reached b o n i (descend b o (n - 1) max_height (i - 1))
    unfolding proof_of
    walks = rw (a.opens, to_index i n a.first a.high, ← moves, le-ltb room (32 * k) fits)

    pub proof_stopped : (c : Cause) → descend b o (n - 1) max_height (i - 1) ≡ stopped c → proof_of b i room ≡ refused (cause_number c)
    proof_stopped c e = rw (walks, e)

    module _ (l : ℕ) (w : Reached b o n (i - 1) l) where
      pub proof_reached_lem : proof_of b i room ≡ written (siblings b o (n - 1) max_height (i - 1))
      proof_reached_lem = rw (walks, w.run)

      -- the siblings fit
      pub siblings_room : 32 * hops_from (n - 1) max_height (i - 1) ≤ room
      siblings_room = omega (arith, hops_formula n i a.first a.high (omega (arith, w.last.few)))

      -- the output e has them at its start
      pub proof_written : (out : List ℕ) (r : ℕ) → r ≡ 32 * hops_from (n - 1) max_height (i - 1) → (e : List ℕ)
          → e ≡ write_at out 0 (siblings b o (n - 1) max_height (i - 1)) → Answers 0 out (proof_of b i room) (counted r) e
      proof_written out r long e laid =
          rw proof_reached_lem
          (ap counted (omega (arith, siblings_length b o (n - 1) max_height (i - 1) (omega arith) w.last (reached_arrives w))), laid)
