-- The siblings on the way to a leaf, as the code lays them: h is p + 1.
-- Assumes nothing.
use mathlib.Core.List.{List, ◌++◌}
use mathlib.Core.Path.{◌≡◌, refl, sym, ap, ◌∙◌}
use Prim.Native.Nat.{ℕ, suc, ◌+◌, ◌*◌, ◌≤◌, ◌<◌}
use native.Mathlib.Omega.{arith}
use lib.ListN.{length}
use Rattle.slate.specs.Digits.{base, digit, left, max_height}
use Rattle.slate.specs.Moves.{hops_from}
use Rattle.entry.specs.Read.{digest_at, left_digest_at, left_offset_at}
use Rattle.entry.specs.Shape.{Inside}
use Rattle.entry.specs.Siblings.{Arrives, siblings}
use Rattle.entry.specs.Write.{write_at}
use Rattle.slate.proofs.Descent.{moves_left, moves_none, moves_right}
use Rattle.entry.proofs.PathSiblings.{arrives_left, arrives_none, arrives_right, left_inside, siblings_left, siblings_length, siblings_none, siblings_right}
use Rattle.entry.proofs.Windows.{digest_size, left_digest_size}
use Rattle.entry.proofs.Writes.{write_both}

-- what is asked: the entry lies inside b, every step to the leaf at t holds, and n bytes are room for the siblings
abbrev pub Ready : List ℕ → ℕ → ℕ → ℕ → ℕ → ℕ → Type 0
Ready b o x h t n = Inside b o x × ((h ≤ max_height) × (Arrives b o x h t × (32 * hops_from x h t ≤ n)))

-- what is answered: the buffer e is `out` with the siblings, r bytes, at its start
abbrev pub Laid : List ℕ → ℕ → ℕ → ℕ → ℕ → List ℕ → ℕ → List ℕ → Type 0
Laid b o x h t out r e = (r ≡ 32 * hops_from x h t) × (e ≡ write_at out 0 (siblings b o x h t))

pub laid_leaf : (b : List ℕ) (o x h t : ℕ) (out : List ℕ) → h ≡ 0 → Laid b o x h t out 0 out
unfolding hops_from siblings write_at
laid_leaf b o x h t out z = rw z (refl, refl)

-- below the height h there is the height p
module _ (b : List ℕ) (o x p h t n : ℕ) (next : h ≡ suc p) (w : Ready b o x h t n) where
  arrives : Arrives b o x (suc p) t
  arrives = rw next at w.1.1.0

  room : 32 * hops_from x (suc p) t ≤ n
  room = rw next at w.1.1.1

  pub ready_none : digit x p ≡ 0 → Ready b o x p t n
  ready_none d = (w.0, (omega (arith, w.1.0), (arrives_none b o x p t arrives d, omega (arith, room, moves_none x p t d))))

  pub laid_none : digit x p ≡ 0 → (out : List ℕ) (r : ℕ) (e : List ℕ) → Laid b o x p t out r e → Laid b o x h t out r e
  laid_none d out r e l = rw (next, moves_none x p t d, siblings_none b o x p t d) l

-- there is a node of the height h
pub record Node (b : List ℕ) (o x p h t n : ℕ) : Type 0 where
  pub next : h ≡ suc p
  pub ready : Ready b o x h t n
  pub set : digit x p ≡ 1

module _ {b : List ℕ} {o x p h t n : ℕ} (w : Node b o x p h t n) where
  node_arrives : Arrives b o x (suc p) t
  node_arrives = arrives b o x p h t n w.next w.ready

  node_room : 32 * hops_from x (suc p) t ≤ n
  node_room = room b o x p h t n w.next w.ready

  -- either sibling has 32 bytes
  pub right_sibling_size : (s : List ℕ) → s ≡ digest_at b o x p → length s ≡ 32
  right_sibling_size s es = ap length es ∙ digest_size b o x p (omega (arith, w.next, w.ready.1.0)) w.ready.0

  pub left_sibling_size : (s : List ℕ) → s ≡ left_digest_at b o x p → length s ≡ 32
  left_sibling_size s es =
      ap length es ∙ left_digest_size b o x p (omega (arith, w.next, w.ready.1.0)) w.set w.ready.0

  -- a sibling behind those of the entry at position y that begins at l
  more : (l y : ℕ) → Ready b l y p t n → hops_from x (suc p) t ≡ suc (hops_from y p t)
      → (s : List ℕ) → length s ≡ 32 → siblings b o x (suc p) t ≡ siblings b l y p t ++ s
      → (out : List ℕ) → length out ≡ n → (r : ℕ) (e f : List ℕ) → Laid b l y p t out r e → f ≡ write_at e r s
      → Laid b o x h t out (r + 32) f
  more l y k moves s size added out long r e f below written =
      rw w.next (
        omega (arith, below.0, moves),
        write_both out e f 0 r (siblings b l y p t) s below.1 written
            (omega (arith, below.0, siblings_length b l y p t k.1.0 k.0 k.1.1.0))
            (omega (arith, below.0, moves, node_room))
            ∙ ap (write_at out 0) (sym added),
      )

  -- the leaf is under the right child
  module _ (q : base x p ≤ t) where
    pub ready_right : Ready b o x p t n
    ready_right = (
      w.ready.0,
      (
        omega (arith, w.next, w.ready.1.0),
        (arrives_right b o x p t node_arrives w.set q, omega (arith, node_room, moves_right x p t w.set q)),
      ),
    )

    pub room_right : (r : ℕ) → r ≡ 32 * hops_from x p t → r + 32 ≤ n
    room_right r e = omega (arith, node_room, moves_right x p t w.set q)

    pub laid_right : (s out : List ℕ) → s ≡ left_digest_at b o x p → length out ≡ n → (r : ℕ) (e f : List ℕ)
        → Laid b o x p t out r e → f ≡ write_at e r s → Laid b o x h t out (r + 32) f
    laid_right s out es long r e f below written =
        more o x ready_right (moves_right x p t w.set q) s (left_sibling_size s es)
        (siblings_right b o x p t w.set q ∙ ap (λ (m : List ℕ). siblings b o x p t ++ m) (sym es))
        out long r e f below written

  -- it is under the left child, whose entry begins at l and stands at position y
  module _ (q : t < base x p) (l y : ℕ) (el : l ≡ left_offset_at b o x p) (ey : y ≡ left x p) where
    left_moves : hops_from x (suc p) t ≡ suc (hops_from y p t)
    left_moves = moves_left x p t w.set q ∙ rw ey

    pub ready_left : Ready b l y p t n
    ready_left =
        rw (el, ey) (
          left_inside b o x p t node_arrives w.set q,
          (
            omega (arith, w.next, w.ready.1.0),
            (arrives_left b o x p t node_arrives w.set q, omega (arith, node_room, moves_left x p t w.set q)),
          ),
        )

    pub room_left : (r : ℕ) → r ≡ 32 * hops_from y p t → r + 32 ≤ n
    room_left r e = omega (arith, node_room, left_moves)

    pub laid_left : (s out : List ℕ) → s ≡ digest_at b o x p → length out ≡ n → (r : ℕ) (e f : List ℕ)
        → Laid b l y p t out r e → f ≡ write_at e r s → Laid b o x h t out (r + 32) f
    laid_left s out es long r e f below written =
        more l y ready_left left_moves s (right_sibling_size s es)
        (siblings_left b o x p t w.set q ∙ rw (el, ey, es))
        out long r e f below written
