-- The public answers, from what the search has found.
-- Assumes nothing.
use mathlib.Core.List.{List, []}
use mathlib.Core.Logic.{inl, inr}
use mathlib.Core.Path.{◌≡◌, refl, sym, ap, ◌∙◌}
use Prim.Native.Nat.{ℕ, ◌-◌, ◌≤◌, ◌<◌}
use native.Mathlib.Omega.{arith}
use borrow.Author.Tests.{le-ltb, lt-ltb}
use lib.Dec.{eqb, ltb}
use lib.ListN.{length, drop, take}
use Rattle.std.specs.Prelude.{None, Ok, Option, Result, Some}
use Rattle.sha256.specs.Pick.{pick}
use Rattle.slate.specs.Bytes.{part}
use Rattle.slate.specs.Comparison as comparison
use Rattle.split.specs.Answer.{found, split_of, verdict_of}
use Rattle.split.specs.Claims as claims
use Rattle.split.specs.Located.{located_of, to_verdict}
use Rattle.split.specs.Repair.{Piece, numbered, piece_of, place_of, rest}
use Rattle.split.specs.Search.{Search, answered, refused, searched}
use Rattle.split.specs.declared.Donor.{Donor}
use Rattle.split.specs.declared.Donor.TheVariants as log
use Rattle.split.specs.declared.Located.{Located}
use Rattle.split.specs.declared.Piece as code
use Rattle.split.specs.declared.SearchRefusal.{SearchRefusal}
use Rattle.slate.proofs.Cases.{by_bool}
use Rattle.slate.proofs.Lists.{rest_slice}
use Rattle.split.proofs.LocateForms.{by_found, ends_inside}

verdict_back : (v : comparison.Verdict) → verdict_of (to_verdict v) ≡ v
verdict_back comparison.equal = refl
verdict_back comparison.first_shorter = refl
verdict_back comparison.second_shorter = refl
verdict_back (comparison.differ_at i) = refl

-- w is what the search answers: it has found this
module _ (b c : List ℕ) (w : Result Located SearchRefusal) (ew : w ≡ located_of (searched b c)) where
  pub found_split : (x : Located) → w ≡ Ok x
      → found x.common (verdict_of x.verdict) x.first.reads x.second.reads ≡ split_of (searched b c)
  found_split = by_found b c w ew _ (λ f r s run. rw (run, verdict_back f.verdict))

  -- the entries in common end inside each log
  pub found_ends : (x : Located) → w ≡ Ok x → (x.first.at ≤ length b) × (x.second.at ≤ length c)
  found_ends = by_found b c w ew _ (λ f r s run. ends_inside b c f r s run)

  pub in_second : (x : Located) → w ≡ Ok x → x.first.count < x.second.count → rest 2 c x.second.at ≡ place_of b c (searched b c)
  in_second = by_found b c w ew _ (λ f r s run lt. rw (run, lt-ltb r.count s.count lt))

  pub in_first : (x : Located) → w ≡ Ok x → x.second.count ≤ x.first.count → rest 1 b x.first.at ≡ place_of b c (searched b c)
  in_first = by_found b c w ew _ (λ f r s run le. rw (run, le-ltb r.count s.count le))

-- ---- the piece, from where it lies

-- p lies in the second log, in the first, or nowhere
by_place {ℓ} : {P : Type ℓ} (b c : List ℕ) (p : Piece) → p ≡ place_of b c (searched b c)
    → (p.donor ≡ 2 → p.offset ≤ length c → p.length ≡ length c - p.offset → drop p.offset c ≡ piece_of b c (searched b c) → P)
    → (p.donor ≡ 1 → p.offset ≤ length b → p.length ≡ length b - p.offset → drop p.offset b ≡ piece_of b c (searched b c) → P)
    → (p.donor ≡ 0 → p.offset ≡ 0 → p.length ≡ 0 → [] ≡ piece_of b c (searched b c) → P) → P
by_place {P = P} b c p e second first none = go (searched b c) refl e
  where
    go : (x : Search) → searched b c ≡ x → p ≡ place_of b c x → P
    go (answered f r s) run h =
        by_bool (ltb r.count s.count)
        (λ t. let q : p ≡ rest 2 c s.at = rw t at h in rw (q, run, t) at second refl (ends_inside b c f r s run).1 refl refl)
        (λ t. let q : p ≡ rest 1 b r.at = rw t at h in rw (q, run, t) at first refl (ends_inside b c f r s run).0 refl refl)
    go (refused z k) run h = rw (h, run) at none refl refl refl refl

module _ (b c : List ℕ) (p : Piece) (e : p ≡ place_of b c (searched b c)) where
  pub of_second : p.donor ≡ 2
      → (p.offset ≤ length c) × (take (length c - p.offset) (drop p.offset c) ≡ piece_of b c (searched b c))
  of_second h =
      by_place b c p e (λ d le n q. (le, rest_slice c p.offset ∙ q)) (λ d le n q. absurd (omega arith)) (λ d o l q. absurd (omega arith))

  pub of_first : p.donor ≡ 1
      → (p.offset ≤ length b) × (take (length b - p.offset) (drop p.offset b) ≡ piece_of b c (searched b c))
  of_first h =
      by_place b c p e (λ d le n q. absurd (omega arith)) (λ d le n q. (le, rest_slice b p.offset ∙ q)) (λ d o l q. absurd (omega arith))

  pub in_neither : (p.donor ≡ 2 → ⊥) → (p.donor ≡ 1 → ⊥) → [] ≡ piece_of b c (searched b c)
  in_neither f g = by_place b c p e (λ d le n q. absurd (f d)) (λ d le n q. absurd (g d)) (λ d o l q. q)

-- the code's answer, from the donor that it names
module _ (b c : List ℕ) (r : Option code.Piece) (e : numbered r ≡ place_of b c (searched b c)) where
  module _ (p : code.Piece) (is : r ≡ Some p) where
    pub second_part : p.donor ≡ log.Second
        → (p.offset ≤ length c) × (take (length c - p.offset) (drop p.offset c) ≡ piece_of b c (searched b c))
    second_part h = of_second b c (numbered (Some p)) (rw is at e) (rw h refl)

    pub first_part : p.donor ≡ log.First
        → (p.offset ≤ length b) × (take (length b - p.offset) (drop p.offset b) ≡ piece_of b c (searched b c))
    first_part h = of_first b c (numbered (Some p)) (rw is at e) (rw h refl)

  pub no_part : r ≡ None → [] ≡ piece_of b c (searched b c)
  no_part is = in_neither b c (numbered None) (rw is at e) (λ d. omega (arith, d)) (λ d. omega (arith, d))

pub piece_placed : claims.PiecePlaced
unfolding part
piece_placed b c p e =
    by_place b c p e
    (λ d le n q. inr (inl (d, omega arith, rw n (rest_slice c p.offset ∙ q))))
    (λ d le n q. inl (d, omega arith, rw n (rest_slice b p.offset ∙ q)))
    (λ d o l q. inr (inr (d, o, l, q)))

-- ---- the piece, from its numbers

told_piece : Piece → Option code.Piece
told_piece p =
    pick (eqb p.donor 0) None (Some (record { donor = pick (eqb p.donor 1) log.First log.Second; offset = p.offset; length = p.length }))

told_piece_lem : (p : Option code.Piece) → told_piece (numbered p) ≡ p
unfolding told_piece
told_piece_lem None = refl
told_piece_lem (Some p) = by_donor p.donor refl
  where
    by_donor : (d : Donor) → d ≡ p.donor → told_piece (numbered (Some p)) ≡ Some p
    by_donor log.First e = rw (← e) refl
    by_donor log.Second e = rw (← e) refl

pub pieces_numbered : claims.PiecesNumbered
pieces_numbered = (λ o l. refl, λ o l. refl, refl)

pub one_piece : claims.OnePiece
one_piece p q e = sym (told_piece_lem p) ∙ ap told_piece e ∙ told_piece_lem q
