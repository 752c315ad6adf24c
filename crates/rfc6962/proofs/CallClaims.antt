-- What the root, the path and the consistency proof of a log are: the claims on the calls.
-- Assumes nothing.
use mathlib.Core.List.{List}
use mathlib.Core.Path.{◌≡◌, refl, ap, ◌∙◌}
use Prim.Native.Nat.{ℕ, ◌*◌, ◌-◌, ◌≤◌}
use lib.ListN.{length}
use Rattle.slate.specs.Moves.{hops}
use Rattle.slate.specs.Tree.{rfc6962}
use Rattle.entry.specs.Log.{Values, log}
use Rattle.rfc6962.specs.Claims as claims
use Rattle.rfc6962.specs.Consistency.{digest_count}
use Rattle.rfc6962.specs.Prove.{consistency_of, path_of}
use Rattle.rfc6962.specs.Rfc6962.{path, proof}
use Rattle.rfc6962.specs.Root.{root_answer}
use Rattle.slate.proofs.Inclusion.{inclusion_length}
use Rattle.ringlog.proofs.LogValues.{log_exactly, log_values}
use Rattle.ringlog.proofs.Outcomes.{refused_stays}
use Rattle.inclusion.proofs.LogClaims.{proof_accepted}
use Rattle.entry.proofs.LogBytes.{log_bytes}
use Rattle.rfc6962.proofs.Makers.{by_unformed, formed, made_decided, made_of_log}
use Rattle.rfc6962.proofs.MthRoots.{mth_root}
use Rattle.rfc6962.proofs.Paths.{path_is}
use Rattle.rfc6962.proofs.Subproofs.{proof_length}

pub root_decided : claims.RootDecided
unfolding root_answer
root_decided b bytes = by_unformed b bytes (λ f. rw f) (λ t. (formed b bytes t, rw t))

pub root_of_log : claims.RootOfLog
unfolding root_answer
root_of_log vs ok =
    rw ((log_exactly (log vs) (log_bytes vs ok)).1 (record { values = vs; ok = ok; written = refl }), log_values vs ok)

path_length : (vs : List (List ℕ)) (i : ℕ) → Values vs → 1 ≤ i → i ≤ length vs → length (path rfc6962 (i - 1) vs) ≡ 32 * hops (length vs) i
path_length vs i ok first high =
    ap length (path_is rfc6962 vs i first high ok.few) ∙ inclusion_length rfc6962 vs i first high ok.few

pub path_decided : claims.PathDecided
path_decided b i room bytes =
    made_decided (path rfc6962 (i - 1)) (λ n. 32 * hops n i) b i room bytes (λ vs ok first high. path_length vs i ok first high)

pub path_of_log : claims.PathOfLog
path_of_log vs i out ok first high fits =
    made_of_log (path rfc6962 (i - 1)) vs i out (32 * hops (length vs) i) ok first high (path_length vs i ok first high) fits

pub path_included : claims.PathIncluded
path_included vs i ok first high =
    rw (path_is rfc6962 vs i first high ok.few, mth_root rfc6962 vs ok.few) (proof_accepted rfc6962 vs i ok first high)

pub consistency_decided : claims.ConsistencyDecided
consistency_decided b m room bytes =
    made_decided (proof rfc6962 m) (λ n. 32 * digest_count m n) b m room bytes
    (λ vs ok first high. proof_length rfc6962 vs m first high ok.few)

pub consistency_of_log : claims.ConsistencyOfLog
consistency_of_log vs m out ok first high fits =
    made_of_log (proof rfc6962 m) vs m out (32 * digest_count m (length vs)) ok first high (proof_length rfc6962 vs m first high ok.few) fits

pub maker_refused : claims.MakerRefused
maker_refused b out i = (refused_stays 0 out (path_of b i (length out)), refused_stays 0 out (consistency_of b i (length out)))
