-- On any bytes: what an answered value and a written proof are worth, and what a refusal leaves.
-- Assumes nothing.
use Rattle.std.proofs.Common.{Option, Some, None}
use mathlib.Core.Bool.{true}
use mathlib.Core.List.{List, []}
use mathlib.Core.Path.{◌≡◌, refl}
use Prim.Native.Nat.{ℕ, ◌+◌, ◌*◌, ◌-◌, ◌≤◌}
use native.Mathlib.Omega.{arith}
use borrow.Author.Tests.{le-ltb, lt-ltb}
use lib.ListN.{length}
use Rattle.slate.specs.Bytes.{part}
use Rattle.slate.specs.Digits.{max_height}
use Rattle.slate.specs.Index.{is_index}
use Rattle.slate.specs.Moves.{hops}
use Rattle.slate.specs.Tree.{slate}
use Rattle.entry.specs.Read.{payload_at, payload_len_at}
use Rattle.entry.specs.Refusal.{cause_number}
use Rattle.entry.specs.Shape.{opened_log}
use Rattle.entry.specs.Siblings.{siblings}
use Rattle.entry.specs.Walk.{Descent, arrived, descend, stopped}
use Rattle.entry.specs.declared.Opened.{Opened}
use Rattle.entry.specs.Opening.{opening_at}
use Rattle.ringlog.specs.Answer.{refused, written}
use Rattle.inclusion.specs.Claims as claims
use Rattle.inclusion.specs.Claims.{Included}
use Rattle.inclusion.specs.Prove.{proof_of, proof_opened, proof_reached}
use Rattle.inclusion.specs.Value.{no_part, part_of}
use Rattle.slate.proofs.Cases.{by_bool, by_order}
use Rattle.slate.proofs.Indexes.{index_range}
use Rattle.slate.proofs.Lists.{part_length}
use Rattle.entry.proofs.Claimed.{siblings_length}
use Rattle.entry.proofs.Items.{payload_item}
use Rattle.entry.proofs.Reached.{reached, reached_arrives}
use Rattle.ringlog.proofs.Outcomes.{refused_stays}
use Rattle.inclusion.proofs.ValueCases.{Held, by_value}
use Rattle.inclusion.proofs.ValueForms.{item_within}

-- ---- a value

-- the siblings on the path are the proof
held_included : (b r : List ℕ) (i l : ℕ) (h : Held b r i l)
    → Included slate h.count i (payload_at b l) (siblings b h.start (h.count - 1) max_height (i - 1)) r
unfolding payload_at
held_included b r i l h =
    let w = h.found in
    record {
      first = h.there.first;
      last = h.there.high;
      few = omega (arith, w.last.few);
      item = payload_item b l w.inside.known (part_length b (l + 5) (payload_len_at b l) (item_within b l (i - 1) w.inside _ refl));
      whole = siblings_length b h.start h.count i h.there.first h.there.high w.last (reached_arrives w);
      digest = h.size;
      folds = h.folds;
    }

pub value_bound : claims.ValueBound
unfolding payload_at
value_bound b r i =
    by_value b r i
    (λ p.
    p.number ≡ 0
    → (o : ℕ) × (n : ℕ) × (opened_log b ≡ opening_at o n) × Included slate n i (part_of b p) (siblings b o (n - 1) max_height (i - 1)) r)
    (λ k f z. absurd (f z))
    (λ l h z. (h.start, h.count, h.there.opens, held_included b r i l h))

pub value_refused : claims.ValueRefused
unfolding part
value_refused b r i =
    by_value b r i
    (λ p. (p.number ≡ 0 → ⊥) → (p ≡ no_part p.number) × (part_of b p ≡ []))
    (λ k f n. (refl, refl))
    (λ l h n. absurd (n refl))

-- ---- a proof

pub proof_refused : claims.ProofRefused
proof_refused b out i h = refused_stays 0 out (proof_of b i (length out)) h

module _ (b s : List ℕ) (i room : ℕ) where
  abbrev Written : Type 0
  Written = (o : ℕ) × (n : ℕ) × (opened_log b ≡ opening_at o n) × (length s ≡ 32 * hops n i) × (length s ≤ room)

  -- a refusal writes nothing
  no_proof : (k : ℕ) → refused k ≡ written s → Written
  no_proof k e = let z : ◌≡◌ {A = ℕ} 0 1 = cc in absurd (omega arith)

  by_walk : (o n : ℕ) → opened_log b ≡ opening_at o n → is_index i n ≡ true → 32 * hops n i ≤ room
      → (d : Descent) → descend b o (n - 1) max_height (i - 1) ≡ d → proof_reached b o n i d ≡ written s → Written
  by_walk o n opens index fits (arrived l qs) run e =
      let r = index_range i n index in
      let w = reached (record { opens = opens; first = r.0; high = r.1 }) l qs run in
      let f : s ≡ siblings b o (n - 1) max_height (i - 1) = cc in
      let size : length s ≡ 32 * hops n i = rw f (siblings_length b o n i r.0 r.1 w.last (reached_arrives w)) in
      (o, n, opens, size, omega arith)
  by_walk o n opens index fits (stopped c) run e = no_proof (cause_number c) e

  by_open : (r : Option Opened) → opened_log b ≡ r → proof_opened b i room r ≡ written s → Written
  by_open (Some l) opens e =
      let o = l.start in
      let n = l.count in
      by_bool (is_index i n)
      (λ t. by_order room (32 * hops n i)
      (λ lt. no_proof 8 (rw (t, lt-ltb room (32 * hops n i) lt) at e))
      (λ le. by_walk o n opens t le (descend b o (n - 1) max_height (i - 1)) refl (rw (t, le-ltb room (32 * hops n i) le) at e)))
      (λ t. no_proof 2 (rw t at e))
  by_open None opens e = no_proof 6 e

pub proof_written : claims.ProofWritten
unfolding proof_of
proof_written b s i room e = by_open b s i room (opened_log b) refl e
