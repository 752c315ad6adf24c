-- On a well-formed log: the checked value is the value, and the proof is the path, which the checker accepts.
-- Assumes nothing.
use mathlib.Core.List.{List, [], ◌++◌}
use mathlib.Core.Path.{◌≡◌, refl, ap, ◌∙◌}
use Prim.Native.Nat.{ℕ, ◌+◌, ◌*◌, ◌-◌, ◌≤◌}
use native.Mathlib.Omega.{arith}
use lib.ListN.{length, get_or, drop}
use Rattle.slate.specs.Length.{offset}
use Rattle.slate.specs.Moves.{hops}
use Rattle.slate.specs.Path.{path}
use Rattle.slate.specs.Tree.{root, slate}
use Rattle.entry.specs.Log.{Values, log}
use Rattle.entry.specs.Read.{payload_at}
use Rattle.entry.specs.Write.{write_at}
use Rattle.ringlog.specs.Answer.{counted, written}
use Rattle.inclusion.specs.Claims as claims
use Rattle.inclusion.specs.Value.{checked_value, fold_at, item_part, part_of}
use Rattle.slate.proofs.Inclusion.{inclusion_complete, inclusion_length}
use Rattle.slate.proofs.Lists.{same_refl}
use Rattle.slate.proofs.Tops.{root_length}
use Rattle.entry.proofs.Claimed.{opening_counts, siblings_read}
use Rattle.entry.proofs.Reached.{Indexed, Reached, log_reached, reached}
use Rattle.entry.proofs.WholeLog.{holds_self, log_payload}
use Rattle.inclusion.proofs.CheckClaims.{check_complete}
use Rattle.inclusion.proofs.ProveForms.{proof_reached_lem}
use Rattle.inclusion.proofs.ValueForms.{value_reached_lem}

module _ (vs : List (List ℕ)) (i : ℕ) (ok : Values vs) (first : 1 ≤ i) (high : i ≤ length vs) where
  there : Indexed (log vs) (offset vs (length vs - 1)) (length vs) i
  there = record { opens = opening_counts vs ok; first = first; high = high }

  -- its entry is reached where the log has it
  found : Reached (log vs) (offset vs (length vs - 1)) (length vs) (i - 1) (offset vs (i - 1))
  found = reached there (offset vs (i - 1)) _ (log_reached vs ok (i - 1) (omega arith))

  value_there : payload_at (log vs) (offset vs (i - 1)) ≡ get_or vs (i - 1) []
  value_there = log_payload (holds_self vs ok) (i - 1) (omega arith)

  folds_there : fold_at (log vs) (offset vs (length vs - 1)) (length vs) i (offset vs (i - 1)) ≡ root slate vs
  folds_there =
      rw (value_there, siblings_read vs (log vs) (holds_self vs ok) i first high) (inclusion_complete slate vs i first high ok.few)

  answered : checked_value (log vs) (root slate vs) i ≡ item_part (log vs) (offset vs (i - 1))
  answered =
      value_reached_lem there (root slate vs) (root_length slate vs) _ found
      ∙ rw (folds_there, same_refl (root slate vs))

pub value_of_log : claims.ValueOfLog
unfolding payload_at
value_of_log vs i ok first high =
    (answered vs i ok first high, ap (part_of (log vs)) (answered vs i ok first high) ∙ value_there vs i ok first high)

pub proof_of_log : claims.ProofOfLog
unfolding write_at
proof_of_log vs i out ok first high fits =
    let e = proof_reached_lem (there vs i ok first high) (length out) _ refl fits _ (found vs i ok first high)
    ∙ ap written (siblings_read vs (log vs) (holds_self vs ok) i first high) in
    let size : 0 + length (path slate vs i) ≡ 32 * hops (length vs) i = omega (arith, inclusion_length slate vs i first high ok.few) in
    rw e (ap counted size, ap (λ (n : ℕ). path slate vs i ++ drop n out) size)

pub proof_accepted : claims.ProofAccepted
proof_accepted pre vs i ok first high =
    check_complete pre (length vs) i (get_or vs (i - 1) []) (path pre vs i) (root pre vs)
    (record {
      first = first;
      last = high;
      few = ok.few;
      item = (ok.items (i - 1) (omega arith)).valid;
      whole = inclusion_length pre vs i first high ok.few;
      digest = root_length pre vs;
      folds = inclusion_complete pre vs i first high ok.few;
    })
