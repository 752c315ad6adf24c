-- The digests of a path or of a consistency proof, as the code lays them: h is p + 1.
-- Assumes nothing.
use mathlib.Core.Bool.{Bool, true, false}
use mathlib.Core.List.{List, [], ◌++◌}
use mathlib.Core.Path.{◌≡◌, refl, sym, ap, ◌∙◌}
use Prim.Native.Nat.{ℕ, suc, ◌+◌, ◌≤◌, ◌<◌}
use native.Mathlib.Nat.{add-zero}
use native.Mathlib.Omega.{arith}
use lib.ListN.{length, length-append, take-append-drop}
use Rattle.slate.specs.Digits.{base, digit, left, max_height}
use Rattle.slate.specs.PartialTree.{outside}
use Rattle.slate.specs.Tree.{rfc6962, top}
use Rattle.slate.proofs.Cases.{true_false}
use Rattle.slate.proofs.Tops.{top_length}
use Rattle.entry.specs.Write.{write_at}
use Rattle.entry.proofs.Writes.{write_both}
use Rattle.ringlog.specs.Values.{values_of}
use Rattle.rfc6962.specs.Layouts.{digests_under}
use Rattle.rfc6962.proofs.LayoutDigests.{under_cut, under_leaf, under_left, under_none, under_omitted, under_right}

-- ---- what is written

-- the buffer e is `out` with the digests ds from `at` on, which end at r
abbrev pub Put : List ℕ → ℕ → List ℕ → ℕ → List ℕ → Type 0
Put out at ds r e = (r ≡ at + length ds) × (e ≡ write_at out at ds)

put_none : (out : List ℕ) (at : ℕ) (ds : List ℕ) → ds ≡ [] → Put out at ds at out
unfolding write_at
put_none out at ds e = rw (e, add-zero at) (refl, sym (take-append-drop at out))

put_both : (out : List ℕ) (at : ℕ) (ds es fs : List ℕ) → ds ≡ es ++ fs → at + length ds ≤ length out
    → (r s : ℕ) (e f : List ℕ) → Put out at es r e → Put e r fs s f → Put out at ds s f
put_both out at ds es fs q room r s e f first second =
    let l : length ds ≡ length es + length fs = ap length q ∙ length-append es fs in (
      omega (arith, first.0, second.0),
      write_both out e f at r es fs first.1 second.1 first.0 (omega (arith, first.0)) ∙ ap (write_at out at) (sym q),
    )

-- what is asked: a first digest where it is to be omitted, and room for the digests in n bytes
abbrev pub Ready : List ℕ → ℕ → ℕ → ℕ → ℕ → Bool → ℕ → ℕ → Type 0
Ready b x h a t omit at n =
    (h ≤ max_height) × ((omit ≡ true → a ≡ suc t) × (at + length (digests_under omit a t (values_of b) x h) ≤ n))

-- what is answered
abbrev pub Laid : List ℕ → ℕ → ℕ → ℕ → ℕ → Bool → List ℕ → ℕ → ℕ → List ℕ → Type 0
Laid b x h a t omit out at r e = Put out at (digests_under omit a t (values_of b) x h) r e

module _ (b : List ℕ) (x h a t : ℕ) (omit : Bool) (out : List ℕ) (at : ℕ) where
  pub laid_cut : outside a (suc t) x h ≡ true → omit ≡ false → (d e : List ℕ) → d ≡ top rfc6962 (values_of b) x h → e ≡ write_at out at d
      → Laid b x h a t omit out at (at + 32) e
  laid_cut c f d e ed ee =
      rw (under_cut omit a t (values_of b) x h c f) (omega (arith, top_length rfc6962 (values_of b) x h), ee ∙ ap (write_at out at) ed)

  pub laid_omitted : outside a (suc t) x h ≡ true → omit ≡ true → Laid b x h a t omit out at at out
  laid_omitted c f = put_none out at _ (under_omitted omit a t (values_of b) x h c f)

  pub laid_leaf : outside a (suc t) x h ≡ false → h ≡ 0 → Laid b x h a t omit out at at out
  laid_leaf c z = put_none out at _ (rw z (under_leaf omit a t (values_of b) x (rw z at c)))

-- room for the digest of a subtree that is cut off
pub room_cut : (b : List ℕ) (x h a t : ℕ) (omit : Bool) (at n : ℕ) → outside a (suc t) x h ≡ true → omit ≡ false
    → at + length (digests_under omit a t (values_of b) x h) ≤ n → at + 32 ≤ n
room_cut b x h a t omit at n c f room =
    omega (arith, ap length (under_cut omit a t (values_of b) x h c f), top_length rfc6962 (values_of b) x h)

-- below the height h there is the height p
pub record Within (b : List ℕ) (x p h a t : ℕ) (omit : Bool) (at n : ℕ) : Type 0 where
  pub next : h ≡ suc p
  pub ready : Ready b x h a t omit at n
  pub within : outside a (suc t) x h ≡ false

module _ {b : List ℕ} {x p h a t : ℕ} {omit : Bool} {at n : ℕ} (w : Within b x p h a t omit at n) where
  here : outside a (suc t) x (suc p) ≡ false
  here = rw w.next at w.within

  whole : omit ≡ true → a ≡ suc t
  whole = w.ready.1.0

  room : at + length (digests_under omit a t (values_of b) x (suc p)) ≤ n
  room = rw w.next at w.ready.1.1

  low : p < max_height
  low = omega (arith, w.next, w.ready.0)

  -- no node of the height h
  module _ (d : digit x p ≡ 0) where
    none : digests_under omit a t (values_of b) x (suc p) ≡ digests_under omit a t (values_of b) x p
    none = under_none omit a t (values_of b) whole x p here d

    pub ready_none : Ready b x p a t omit at n
    ready_none = (omega (arith, low), (whole, rw none at room))

    pub laid_none : (out : List ℕ) (r : ℕ) (e : List ℕ) → Laid b x p a t omit out at r e → Laid b x h a t omit out at r e
    laid_none out r e l = rw (w.next, none) l

  -- such a node, whose left child is the entry at position y of the same log
  module _ (d : digit x p ≡ 1) (c : List ℕ) (y : ℕ) (ec : c ≡ b) (ey : y ≡ left x p) where
    -- the digests under the right child first
    module _ (q : base x p ≤ t) where
      two_right : digests_under omit a t (values_of b) x (suc p) ≡ digests_under omit a t (values_of b) x p ++ digests_under false a t (values_of c) y p
      two_right = under_right omit a t (values_of b) whole x p here d q ∙ rw (ec, ey)

      room_right : at + (length (digests_under omit a t (values_of b) x p) + length (digests_under false a t (values_of c) y p)) ≤ n
      room_right = rw (two_right, length-append) at room

      pub right_first_lem : Ready b x p a t omit at n
      right_first_lem = (omega (arith, low), (whole, omega (arith, room_right)))

      pub left_second : (r : ℕ) → r ≡ at + length (digests_under omit a t (values_of b) x p) → Ready c y p a t false r n
      left_second r e = (omega (arith, low), (λ f. true_false f refl, omega (arith, room_right)))

      pub laid_right : (out : List ℕ) → length out ≡ n → (r s : ℕ) (e f : List ℕ) → Laid b x p a t omit out at r e → Laid c y p a t false e r s f
          → Laid b x h a t omit out at s f
      laid_right out size r s e f first second =
          rw w.next (put_both out at _ _ _ two_right (omega (arith, room)) r s e f first second)

    -- those under the left child first
    module _ (q : t < base x p) where
      two_left : digests_under omit a t (values_of b) x (suc p) ≡ digests_under omit a t (values_of c) y p ++ digests_under false a t (values_of b) x p
      two_left = under_left omit a t (values_of b) whole x p here d q ∙ rw (ec, ey)

      room_left : at + (length (digests_under omit a t (values_of c) y p) + length (digests_under false a t (values_of b) x p)) ≤ n
      room_left = rw (two_left, length-append) at room

      pub left_first : Ready c y p a t omit at n
      left_first = (omega (arith, low), (whole, omega (arith, room_left)))

      pub right_second : (r : ℕ) → r ≡ at + length (digests_under omit a t (values_of c) y p) → Ready b x p a t false r n
      right_second r e = (omega (arith, low), (λ f. true_false f refl, omega (arith, room_left)))

      pub laid_left : (out : List ℕ) → length out ≡ n → (r s : ℕ) (e f : List ℕ) → Laid c y p a t omit out at r e → Laid b x p a t false e r s f
          → Laid b x h a t omit out at s f
      laid_left out size r s e f first second =
          rw w.next (put_both out at _ _ _ two_left (omega (arith, room)) r s e f first second)
