-- Rounds, one after the other.
-- Assumes nothing.
use Rattle.std.proofs.Common.{◌≡◌, ℕ, suc, ◌+◌, ◌/◌, ◌<◌, List, length, take, drop, slice_index, ap, ◌∙◌, ap₂, add-one, arith}
use Rattle.std.proofs.lemmas.List.{get_or-drop, get_or-take}
use Rattle.sha256.specs.Fips180.{W, K, constants, H, block, bytes_of, compressed, hash_words, padded, round, rounds, sha256}
use Rattle.sha256.specs.Rounds.{Ran}
use Rattle.sha256.specs.Window.{rolled_by}
use Rattle.sha256.specs.declared.State.{State}
use Rattle.sha256.proofs.Padding.{padded_length}

rounds_more : (M : List ℕ) (i : State) (t : ℕ) → rounds M i (t + 1) ≡ round (rounds M i t) (K t) (W M t)
unfolding rounds
rounds_more M i t = rw add-one

-- one round more, with the word and the constant of round t
pub round_step : (M : List ℕ) (i s r : State) (t k w : ℕ) → k ≡ K t → s ≡ rounds M i t → w ≡ W M t → r ≡ round s k w
    → r ≡ rounds M i (t + 1)
round_step M i s r t k w ek es ew er = cc (rounds_more M i t)

-- of sixteen constants in their order from K_t on, number i is that of round t + i
pub constant_of : (k : List ℕ) (t : ℕ) → k ≡ take 16 (drop t constants) → (i u : ℕ) → i < 16 → u ≡ t + i → slice_index k i ≡ K u
unfolding K
constant_of k t e i u b eu = rw (e, eu) (get_or-take 16 (drop t constants) i 0 b ∙ get_or-drop t constants i 0)

-- n rounds from round t on
pub record Rounds (t n : ℕ) (s : State) (w : List ℕ) (r : State) (v : List ℕ) : Type 0 where
  pub all : Ran t (t + n) s w r v

pub one : {t : ℕ} {s r : State} {w v : List ℕ} → Ran t (t + 1) s w r v → Rounds t 1 s w r v
one f = record { all = f }

infixl 20 ◌next◌
-- and one round more
pub ◌next◌ : {t n : ℕ} {s r q : State} {w v y : List ℕ} → Rounds t n s w r v → Ran (t + n) (t + n + 1) r v q y → Rounds t (suc n) s w q y
f next g = record {
  all = record {
    ran = λ M i block k e.
        let a = f.all.ran M i block k e in
        let b = g.ran M i block a.1 a.0 in
        (b.0 ∙ ap (rounds M i) (omega arith), b.1 ∙ ap (rolled_by M) (omega arith));
  };
}

infixr 20 ◌then◌
-- a run of rounds, and the run behind it
pub ◌then◌ : {t u x : ℕ} {s r q : State} {w v y : List ℕ} → Ran t u s w r v → Ran u x r v q y → Ran t x s w q y
f then g = record { ran = λ M i block k e. let a = f.ran M i block k e in g.ran M i block a.1 a.0 }

-- one block more
pub hash_step : (p : List ℕ) (i : ℕ) (s r : State) (b : List ℕ) → s ≡ H p i → b ≡ block p i → r ≡ compressed s b → r ≡ H p (i + 1)
unfolding H
hash_step p i s r b es eb er = rw add-one (er ∙ ap₂ compressed es eb)

-- the hash value behind the last block has the digest
pub hash_ends : (m : List ℕ) (i : ℕ) (s : State) → i ≡ (length m + 72) / 64 → s ≡ H (padded m) i → bytes_of (hash_words s) ≡ sha256 m
unfolding sha256
hash_ends m i s ei es =
    let count : i ≡ length (padded m) / 64 = omega (arith, padded_length m) in
    ap (λ (h : State). bytes_of (hash_words h)) (es ∙ ap (H (padded m)) count)
