-- A log brought to an entry: it opens, and a descent from its last entry arrives there. What it reads, and that it depends on that alone.
-- Assumes nothing.
use mathlib.Core.List.{List, [], ◌∷◌, ◌++◌}
use mathlib.Core.Path.{◌≡◌, sym, ap, ◌∙◌}
use Prim.Native.Nat.{ℕ, zero, suc, ◌-◌, ◌^◌, ◌≤◌, ◌<◌}
use native.Mathlib.Omega.{arith}
use lib.ListN.{length}
use lib.Seq.{take_all}
use Rattle.slate.specs.Digits.{base, max_height}
use Rattle.slate.specs.Moves.{lefts}
use Rattle.entry.specs.Read.{digest_at, entry_len_at}
use Rattle.entry.specs.Shape.{Inside, opened_log}
use Rattle.entry.specs.Walk.{Kept, Place, SameEntry, arrived, descend}
use Rattle.entry.specs.Opening.{opening_at}
use Rattle.split.specs.Search.{opening}
use Rattle.slate.proofs.Bits.{whole_base}
use Rattle.slate.proofs.Descent.{to_leaf}
use Rattle.entry.proofs.Claimed.{descent_reads}
use Rattle.entry.proofs.Descents.{Stepped, descend_inside, descend_local, descend_none, descend_right, descend_stepped}
use Rattle.entry.proofs.Shaped.{opened_empty, opened_local, opened_shaped, same_window, shaped_inside}
use Rattle.entry.proofs.Windows.{Window, digest_window, entry_len_window}
use Rattle.split.proofs.Downs.{left_entry}

-- ---- the entries read

-- two lists of them end to end
pub kept_split : (b c : List ℕ) (qs rs : List Place) → Kept b c (qs ++ rs) → Kept b c qs × Kept b c rs
kept_split b c [] rs k = (tt, k)
kept_split b c (q ∷ qs) rs k = let s = kept_split b c qs rs k.1 in ((k.0, s.0), s.1)

-- where a descent arrives is the entry begun with or one of those read
descend_same : (b c : List ℕ) (t l x h : ℕ) → base x h ≤ t → t ≤ x → (o : ℕ) (qs : List Place)
    → SameEntry b c (record { begins = o; position = x }) → descend b o x h t ≡ arrived l qs → Kept b c qs
    → SameEntry b c (record { begins = l; position = t })
unfolding descend
descend_same b c t l =
    to_leaf t
    (λ o qs e h k. let g : o ≡ l = cc in rw g at e)
    (λ x p low high d f o qs e h k. f o qs e (sym (descend_none b o x p t d) ∙ h) k)
    (λ x p low high d a f o qs e h k.
    let s : Stepped b o x p t l qs = descend_stepped b o x p t d a l qs h in
    let g : Kept b c (left_entry x p s.to ∷ s.rest) = rw s.reads at k in
    f s.to s.rest g.0 s.below g.1)
    (λ x p low high d a f o qs e h k. f o qs e (sym (descend_right b o x p t d a) ∙ h) k)

-- the left moves of a whole descent, in document 01's terms
pub descend_lefts : (b : List ℕ) (o x t l : ℕ) (qs : List Place) → t ≤ x → x < 2 ^ max_height → descend b o x max_height t ≡ arrived l qs
    → length qs ≡ lefts (suc x) (suc t)
descend_lefts b o x t l qs high few h =
    let ex : suc x - 1 ≡ x = omega arith in
    let et : suc t - 1 ≡ t = omega arith in
    descent_reads b o (suc x) (suc t) l qs (omega arith) (omega arith) (omega arith) (rw (ex, et) h)

-- ---- opening

-- any log of the same length with the same last entry opens there too
pub opening_local : (b c : List ℕ) (o n : ℕ) → length b ≡ length c → opened_log b ≡ opening_at o n → Kept b c (opening o n).reads
    → opened_log c ≡ opening_at o n
opening_local b c o zero len h k =
    let e : b ≡ [] = (opened_empty b o h).0 in
    let f : c ≡ [] = sym (take_all 0 c (omega (arith, len, ap length e))) in
    ap opened_log (f ∙ sym e) ∙ h
opening_local b c o (suc x) len h k = opened_local b c o x len h k.0

-- ---- brought to the entry at position t

-- of x + 1 entries the last begins at o, the one at position t lies at l, and qs are read on the way
pub record Brought (b : List ℕ) (o x t l : ℕ) (qs : List Place) : Type 0 where
  pub opens : opened_log b ≡ opening_at o (suc x)
  pub high : t ≤ x
  pub run : descend b o x max_height t ≡ arrived l qs

module _ {b : List ℕ} {o x t l : ℕ} {qs : List Place} (a : Brought b o x t l qs) where
  last_inside : Inside b o x
  last_inside = shaped_inside b o x (opened_shaped b o x a.opens).0

  whole : base x max_height ≤ t
  whole = omega (arith, whole_base x max_height last_inside.few)

  pub brought_inside : Inside b l t
  brought_inside = descend_inside b t l x max_height whole a.high o qs last_inside a.run

  pub brought_reads : length qs ≡ lefts (suc x) (suc t)
  brought_reads = descend_lefts b o x t l qs a.high last_inside.few a.run

  -- any log of the same length with the same bytes at the entries read
  module _ (c : List ℕ) (len : length b ≡ length c) (k : Kept b c (record { begins = o; position = x } ∷ qs)) where
    pub brought_local : Brought c o x t l qs
    brought_local = record {
      opens = opened_local b c o x len a.opens k.0;
      high = a.high;
      run = descend_local b c len o x max_height t l qs (omega arith) k.0 a.run k.1;
    }

    pub brought_same : SameEntry b c (record { begins = l; position = t })
    brought_same = descend_same b c t l x max_height whole a.high o qs k.0 a.run k.1

    window : Window b l c l (entry_len_at b l t)
    window = same_window b c l t brought_same

    pub brought_top : digest_at b l t max_height ≡ digest_at c l t max_height
    brought_top = digest_window t window max_height (omega arith)

    pub brought_length : entry_len_at b l t ≡ entry_len_at c l t
    brought_length = entry_len_window t window
