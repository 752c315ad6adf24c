-- A proof over part of a tree: its length, that it gives the digest of the tree, and what it is worth where that digest comes out. The path
-- of one value is the case that Inclusion.antt takes.
-- Assumes nothing.
use mathlib.Core.Bool.{true, false}
use mathlib.Core.List.{List, [], ◌++◌, append_assoc}
use mathlib.Core.Logic.{◌⊎◌, inl, inr}
use mathlib.Core.Path.{◌≡◌, sym, ap}
use Prim.Native.Nat.{ℕ, zero, suc, ◌+◌, ◌*◌, ◌≤◌}
use native.Mathlib.Omega.{arith}
use lib.ListN.{get_or, length, take, length-append, length-drop}
use lib.Seq.{drop_at, length-take-le, take_at}
use Rattle.sha256.specs.Fips180.{sha256}
use Rattle.sha256.proofs.DigestBytes.{digest_length}
use Rattle.slate.specs.Address.{HasNode, input}
use Rattle.slate.specs.Claims as claims
use Rattle.slate.specs.Digits.{base, digit, left}
use Rattle.slate.specs.PartialTree.{Layout, cut_digests, cuts, from_left, from_right, rebuilt, rebuilt_input}
use Rattle.slate.specs.Tree.{Rule, leaf_input, top}
use Rattle.slate.proofs.Bits.{base_le, base_zero, left_base, left_end, left_lt, left_pred, no_left}
use Rattle.slate.proofs.Cases.{by_bool, by_digit, by_equal, by_order, true_false}
use Rattle.slate.proofs.Lists.{append_inj}
use Rattle.slate.proofs.Tops.{top_length}

module _ (l : Layout) where
  -- what is cut off is cut off down to its leaves
  abbrev pub Steady : Type 0
  Steady = (x h y : ℕ) → l.cut x h ≡ true → base x h ≤ y → y ≤ x → l.cut y 0 ≡ true

  by_node {ℓ} : {P : Type ℓ} (x p : ℕ) → (l.cut x (suc p) ≡ true → P) → (l.cut x (suc p) ≡ false → digit x p ≡ 0 → P)
      → (l.cut x (suc p) ≡ false → digit x p ≡ 1 → P) → P
  by_node x p f g k = by_bool (l.cut x (suc p)) f (λ t. by_digit x p (g t) (k t))

module _ (pre : Rule) (l : Layout) (val : ℕ → List ℕ) where
  -- Hashes x h ds y q i: to make rebuilt x h ds, the input i is hashed at the address of position y and height q
  pub data Hashes : ℕ → ℕ → List ℕ → ℕ → ℕ → List ℕ → Type 0 where
    leaf : {x : ℕ} {ds : List ℕ} → l.cut x 0 ≡ false → Hashes x 0 ds x 0 (leaf_input pre (val x))
    node : {x p : ℕ} {ds : List ℕ} → l.cut x (suc p) ≡ false → digit x p ≡ 1 → Hashes x (suc p) ds x (suc p) (rebuilt_input pre l val x p ds)
    lower : {x p y q : ℕ} {ds i : List ℕ} → l.cut x (suc p) ≡ false → digit x p ≡ 0 → Hashes x p ds y q i → Hashes x (suc p) ds y q i
    in_left : {x p y q : ℕ} {ds i : List ℕ} → l.cut x (suc p) ≡ false → digit x p ≡ 1
        → Hashes (left x p) p (from_left l x p ds) y q i → Hashes x (suc p) ds y q i
    in_right : {x p y q : ℕ} {ds i : List ℕ} → l.cut x (suc p) ≡ false → digit x p ≡ 1
        → Hashes x p (from_right l x p ds) y q i → Hashes x (suc p) ds y q i

  -- only addresses of the tree at x that are not cut off are hashed
  pub hashes_at : {x h y q : ℕ} {ds i : List ℕ} → Hashes x h ds y q i → (y ≤ x) × (l.cut y q ≡ false) × HasNode y q
  hashes_at (leaf t) = (omega arith, t, tt)
  hashes_at (node t d) = (omega arith, t, d)
  hashes_at (lower t d k) = hashes_at k
  hashes_at {x} (in_left {p = p} t d k) = (omega (arith, left_lt x p d, (hashes_at k).0), (hashes_at k).1, (hashes_at k).2)
  hashes_at (in_right t d k) = hashes_at k

-- at an address hashed to make rebuilt x h ds, that and the tree of vs have two inputs with one digest
pub record Forged (pre : Rule) (l : Layout) (val : ℕ → List ℕ) (ds : List ℕ) (vs : List (List ℕ)) (x h : ℕ) : Type 0 where
  pub position : ℕ
  pub height : ℕ
  pub hashed : List ℕ
  pub on : Hashes pre l val x h ds position height hashed
  pub inputs : input pre vs position height ≡ hashed → ⊥
  pub digests : sha256 (input pre vs position height) ≡ sha256 hashed

-- the values handed in under this node, where it is not cut off, are those of the list
abbrev pub Genuine : Layout → (ℕ → List ℕ) → List (List ℕ) → ℕ → ℕ → Type 0
Genuine l val vs x h = (y : ℕ) → base x h ≤ y → y ≤ x → l.cut y 0 ≡ false → val y ≡ get_or vs y []

-- ---- a subtree that is cut off

pub cuts_one : (l : Layout) (x h : ℕ) → l.cut x h ≡ true → cuts l x h ≡ 1
unfolding cuts
cuts_one l x zero t = rw t
cuts_one l x (suc p) t = rw t

pub digests_one : (pre : Rule) (l : Layout) (vs : List (List ℕ)) (x h : ℕ) → l.cut x h ≡ true → cut_digests pre l vs x h ≡ top pre vs x h
unfolding cut_digests
digests_one pre l vs x zero t = rw t
digests_one pre l vs x (suc p) t = rw t

pub rebuilt_one : (pre : Rule) (l : Layout) (val : ℕ → List ℕ) (x h : ℕ) (ds : List ℕ) → l.cut x h ≡ true
    → rebuilt pre l val x h ds ≡ take 32 ds
unfolding rebuilt
rebuilt_one pre l val x zero ds t = rw t
rebuilt_one pre l val x (suc p) ds t = rw t

pub cut_off : claims.CutOff
cut_off pre l x h t =
    (cuts_one l x h t, λ vs. digests_one pre l vs x h t, λ val ds. rebuilt_one pre l val x h ds t)

-- ---- the order of the digests at a node that is not cut off

pub digests_order : claims.CutDigestsOrder
unfolding cut_digests
digests_order pre l vs x p t d = (λ o. rw (t, d, o), λ o. rw (t, d, o))

pub rebuilt_order : claims.RebuiltOrder
unfolding rebuilt
rebuilt_order pre l val x p a b t d =
    (λ o n. rw (t, d, o, drop_at a b _ n), λ o n. rw (t, d, o, drop_at a b _ n))

-- ---- length and completeness

pub digests_length : claims.CutDigestsLength
unfolding cuts cut_digests
digests_length pre l vs x zero = by_bool (l.cut x 0) (λ t. rw t (top_length pre vs x 0)) (λ t. rw t)
digests_length pre l vs x (suc p) =
    by_node l x p
    (λ t. rw t (top_length pre vs x (suc p)))
    (λ t d. rw (t, d) (digests_length pre l vs x p))
    (λ t d. rw (t, d)
    (by_bool (l.right_first x p)
    (λ o. rw (o, length-append, digests_length pre l vs x p, digests_length pre l vs (left x p) p) (omega arith))
    (λ o. rw (o, length-append, digests_length pre l vs x p, digests_length pre l vs (left x p) p) (omega arith))))

module _ (pre : Rule) (l : Layout) (vs : List (List ℕ)) (val : ℕ → List ℕ) where
  genuine_left : (x p : ℕ) → digit x p ≡ 1 → Genuine l val vs x (suc p) → Genuine l val vs (left x p) p
  genuine_left x p d g y a b = g y (omega (arith, left_base x p d)) (omega (arith, left_lt x p d))

  genuine_right : (x p : ℕ) → digit x p ≡ 1 → Genuine l val vs x (suc p) → Genuine l val vs x p
  genuine_right x p d g y a b = g y (omega (arith, left_end x p d)) b

  -- the digests of the tree, with its values, give its digest
  rebuilds : (x h : ℕ) (r : List ℕ) → Genuine l val vs x h
      → rebuilt pre l val x h (cut_digests pre l vs x h ++ r) ≡ top pre vs x h
  unfolding rebuilt cut_digests top
  rebuilds x zero r g =
      by_bool (l.cut x 0)
      (λ t. rw t (take_at (top pre vs x 0) r 32 (top_length pre vs x 0)))
      (λ t. rw t (ap (λ (v : List ℕ). sha256 (leaf_input pre v)) (g x (base_le x 0) (omega arith) t)))
  rebuilds x (suc p) r g =
      by_node l x p
      (λ t. rw t (take_at (top pre vs x (suc p)) r 32 (top_length pre vs x (suc p))))
      (λ t d. rw (t, d) (rebuilds x p r (λ y a b. g y (omega (arith, no_left x p d)) b)))
      (λ t d. by_bool (l.right_first x p)
      (λ o. rw (t, d, o, append_assoc, drop_at _ (cut_digests pre l vs (left x p) p ++ r) _ (digests_length pre l vs x p))
      (rw (rebuilds (left x p) p r (genuine_left x p d g), rebuilds x p (cut_digests pre l vs (left x p) p ++ r) (genuine_right x p d g))))
      (λ o. rw (t, d, o, append_assoc, drop_at _ (cut_digests pre l vs x p ++ r) _ (digests_length pre l vs (left x p) p))
      (rw (rebuilds (left x p) p (cut_digests pre l vs x p ++ r) (genuine_left x p d g), rebuilds x p r (genuine_right x p d g)))))

pub rebuilt_complete : claims.RebuiltComplete
rebuilt_complete = rebuilds

-- ---- soundness

module _ (pre : Rule) (l : Layout) (vs : List (List ℕ)) (val : ℕ → List ℕ) where
  rebuilt_length : (x h : ℕ) (ds : List ℕ) → 32 * cuts l x h ≤ length ds → length (rebuilt pre l val x h ds) ≡ 32
  unfolding rebuilt cuts
  rebuilt_length x zero ds f =
      by_bool (l.cut x 0)
      (λ t. rw t (length-take-le 32 ds (rw t at f)))
      (λ t. rw t (digest_length (leaf_input pre (val x))))
  rebuilt_length x (suc p) ds f =
      by_node l x p
      (λ t. rw t (length-take-le 32 ds (rw t at f)))
      (λ t d. rw (t, d) (rebuilt_length x p ds (rw (t, d) at f)))
      (λ t d. rw (t, d) (digest_length (rebuilt_input pre l val x p ds)))

  fits : (x p : ℕ) (ds : List ℕ) → 32 * (cuts l (left x p) p + cuts l x p) ≤ length ds
      → (32 * cuts l (left x p) p ≤ length (from_left l x p ds)) × (32 * cuts l x p ≤ length (from_right l x p ds))
  fits x p ds f =
      by_bool (l.right_first x p)
      (λ o. rw (o, length-drop) (omega arith, omega arith))
      (λ o. rw (o, length-drop) (omega arith, omega arith))

  abbrev Sound : ℕ → ℕ → List ℕ → Type 0
  Sound x h ds = Genuine l val vs x h ⊎ Forged pre l val ds vs x h

  -- what is forged under a part is forged under the whole
  under : {x h z q : ℕ} {ds es : List ℕ} → ((y k : ℕ) (i : List ℕ) → Hashes pre l val z q es y k i → Hashes pre l val x h ds y k i)
      → (Genuine l val vs z q → Sound x h ds) → Sound z q es → Sound x h ds
  under up f (inl g) = f g
  under up f (inr g) =
      inr (record { position = g.position; height = g.height; hashed = g.hashed; on = up _ _ _ g.on; inputs = g.inputs; digests = g.digests })

  -- where the digest of the tree comes out, the values where it is not cut off are its own, or an input is forged
  pub rebuilt_sound : Steady l → (x h : ℕ) (ds : List ℕ) → 32 * cuts l x h ≤ length ds → rebuilt pre l val x h ds ≡ top pre vs x h
      → Genuine l val vs x h ⊎ Forged pre l val ds vs x h
  unfolding rebuilt cuts top input
  rebuilt_sound steady x zero ds f e =
      by_bool (l.cut x 0)
      (λ t. inl (λ y a b u. true_false (steady x 0 y t a b) u))
      (λ t. by_equal (input pre vs x 0) (leaf_input pre (val x))
      (λ q. inl (λ y a b u. let z : y ≡ x = omega (arith, base_zero x) in cc))
      (λ q. inr (record { position = x; height = 0; hashed = _; on = leaf t; inputs = q; digests = sym (rw t at e) })))
  rebuilt_sound steady x (suc p) ds f e =
      by_node l x p
      (λ t. inl (λ y a b u. true_false (steady x (suc p) y t a b) u))
      (λ t d. under (λ y k i. lower t d) (λ g. inl (λ y a b. g y (omega (arith, no_left x p d)) b))
      (rebuilt_sound steady x p ds (rw (t, d) at f) (rw (t, d) at e)))
      (λ t d. by_equal (input pre vs x (suc p)) (rebuilt_input pre l val x p ds)
      (λ q.
      let w = fits x p ds (rw (t, d) at f) in
      let i = append_inj 32 _ _ _ _ (top_length pre vs (left x p) p) (rebuilt_length (left x p) p (from_left l x p ds) w.0) (cc) in
      under (λ y k j. in_left t d)
      (λ a. under (λ y k j. in_right t d)
      (λ b. inl (λ y m n. by_order y (base x p) (λ o. a y (omega (arith, left_base x p d)) (omega (arith, left_pred x p d))) (λ o. b y o n)))
      (rebuilt_sound steady x p (from_right l x p ds) w.1 (sym i.1)))
      (rebuilt_sound steady (left x p) p (from_left l x p ds) w.0 (sym i.0)))
      (λ q. inr (record { position = x; height = suc p; hashed = _; on = node t d; inputs = q; digests = sym (rw (t, d) at e) })))
