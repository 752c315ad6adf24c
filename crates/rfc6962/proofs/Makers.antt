-- What a call that writes digests comes to, test by test, and on a well-formed log.
-- Assumes nothing.
use mathlib.Core.Bool.{true, false}
use mathlib.Core.List.{List, [], ◌∷◌, ◌++◌}
use mathlib.Core.Logic.{◌⊎◌, inl, inr, ⊎_elim}
use mathlib.Core.Path.{◌≡◌, refl, ap, ◌∙◌}
use Prim.Native.Nat.{ℕ, ◌+◌, ◌≤◌, ◌<◌}
use native.Mathlib.Omega.{arith}
use borrow.Author.Tests.{le-ltb, lt-ltb}
use lib.ListN.{length, drop}
use Rattle.sha256.specs.Reasons.{Decided}
use Rattle.slate.specs.Bytes.{Bytes}
use Rattle.entry.specs.Log.{Values, WellFormed, log}
use Rattle.entry.specs.Write.{write_at}
use Rattle.ringlog.specs.Answer.{after, answer, counted, refused, written}
use Rattle.ringlog.specs.Reasons.{refuses}
use Rattle.ringlog.specs.Values.{is_log, values_of}
use Rattle.slate.specs.Index.{is_index}
use Rattle.rfc6962.specs.Prove.{made}
use Rattle.entry.proofs.LogBytes.{log_bytes}
use Rattle.ringlog.proofs.LogValues.{log_exactly, log_values, values_written}
use Rattle.ringlog.proofs.Reasoned.{Reasoned, by_below, by_failed}
use Rattle.inclusion.proofs.Indexes.{by_index}
use Rattle.slate.proofs.Indexes.{to_index}

-- ---- a well-formed log has one list of values

formed_values : {b : List ℕ} (w : WellFormed b) → values_of b ≡ w.values
formed_values w = ap values_of w.written ∙ log_values w.values w.ok

module _ (b : List ℕ) (bytes : Bytes b) where
  abbrev pub formed : is_log b ≡ true → WellFormed b
  formed t = let v = values_written b bytes t in record { values = values_of b; ok = v.0; written = v.1 }

  -- not being well formed as a reason to refuse
  pub by_unformed : {E R : Type 0} → (is_log b ≡ false → E) → (is_log b ≡ true → R) → Reasoned (WellFormed b → ⊥) E R
  by_unformed f g =
      ⊎_elim
      (λ w. inl (λ v. w.0 ((log_exactly b bytes).1 v), w.1))
      (λ w. inr (λ n. w.0 (λ t. n (formed t)), w.1))
      (by_failed (is_log b) f g)

  -- and a reason that speaks of its values
  by_formed : {E R : Type 0} (P : List (List ℕ) → Type 0) → is_log b ≡ true → Reasoned (P (values_of b)) E R
      → Reasoned ((w : WellFormed b) × P w.values) E R
  by_formed P t =
      ⊎_elim
      (λ r. inl ((formed t, r.0), r.1))
      (λ r. inr (λ v. r.0 (rw (formed_values v.0) v.1), r.1))

-- ---- the checks 6, 2, 8

module _ (b : List ℕ) (i room : ℕ) (digests_of : List (List ℕ) → List ℕ) where
  pub made_unformed : is_log b ≡ false → made b i room digests_of ≡ refused 6
  unfolding made
  made_unformed f = rw f

  module _ (t : is_log b ≡ true) where
    pub made_out : is_index i (length (values_of b)) ≡ false → made b i room digests_of ≡ refused 2
    unfolding made
    made_out f = rw (t, f)

    module _ (within : is_index i (length (values_of b)) ≡ true) where
      pub made_room : room < length (digests_of (values_of b)) → made b i room digests_of ≡ refused 8
      unfolding made
      made_room lt = rw (t, within, lt-ltb room (length (digests_of (values_of b))) lt)

      pub made_written : length (digests_of (values_of b)) ≤ room → made b i room digests_of ≡ written (digests_of (values_of b))
      unfolding made
      made_written le = rw (t, within, le-ltb room (length (digests_of (values_of b))) le)

-- the first of the three that holds decides, where the digests of n values take `size n` bytes
pub made_decided : (digests_of : List (List ℕ) → List ℕ) (size : ℕ → ℕ) (b : List ℕ) (i room : ℕ) → Bytes b
    → ((vs : List (List ℕ)) → Values vs → 1 ≤ i → i ≤ length vs → length (digests_of vs) ≡ size (length vs))
    → Decided (
    refuses 6 (WellFormed b → ⊥)
    ∷ refuses 2 ((w : WellFormed b) × ((i ≡ 0) ⊎ (length w.values < i)))
    ∷ refuses 8 ((w : WellFormed b) × (room < size (length w.values)))
    ∷ [])
    (λ a. (w : WellFormed b) × (a ≡ record { number = 0; value = size (length w.values) }))
    (answer 0 (made b i room digests_of))
made_decided digests_of size b i room bytes sized =
    by_unformed b bytes (λ f. ap (answer 0) (made_unformed b i room digests_of f))
    (λ t. by_formed b bytes (λ vs. (i ≡ 0) ⊎ (length vs < i)) t
    (by_index i (length (values_of b)) (λ out. ap (answer 0) (made_out b i room digests_of t out))
    (λ first high.
    let within = to_index i (length (values_of b)) first high in
    let z : length (digests_of (values_of b)) ≡ size (length (values_of b)) = sized (values_of b) (values_written b bytes t).0 first high in
    by_formed b bytes (λ vs. room < size (length vs)) t
    (by_below room (size (length (values_of b)))
    (λ lt. ap (answer 0) (made_room b i room digests_of t within (omega arith)))
    (λ le. (formed b bytes t, ap (answer 0) (made_written b i room digests_of t within (omega arith)) ∙ ap counted (omega arith)))))))

-- ---- on the log of vs

pub made_of_log : (digests_of : List (List ℕ) → List ℕ) (vs : List (List ℕ)) (i : ℕ) (out : List ℕ) (size : ℕ) → Values vs → 1 ≤ i
    → i ≤ length vs → length (digests_of vs) ≡ size → size ≤ length out
    → (answer 0 (made (log vs) i (length out) digests_of) ≡ counted size)
    × (after out 0 (made (log vs) i (length out) digests_of) ≡ digests_of vs ++ drop size out)
unfolding write_at
made_of_log digests_of vs i out size ok first high sized fits =
    let v : values_of (log vs) ≡ vs = log_values vs ok in
    let t : is_log (log vs) ≡ true = (log_exactly (log vs) (log_bytes vs ok)).1 (record { values = vs; ok = ok; written = refl }) in
    let e : made (log vs) i (length out) digests_of ≡ written (digests_of vs) =
    made_written (log vs) i (length out) digests_of t (rw v (to_index i (length vs) first high)) (rw v (omega arith)) ∙ rw v in
    let z : 0 + length (digests_of vs) ≡ size = omega arith in
    rw e (ap counted z, ap (λ (n : ℕ). digests_of vs ++ drop n out) z)
