-- Document 01's bench sheet: the nine lines marked P, as one list under a single claim.
use Rattle.std.specs.Prelude.{List, [], ◌∷◌, ◌++◌, ◌≡◌, ℕ, zero, suc, ◌<◌, length, get_or}
use Rattle.slate.specs.Address.{Node, nodes}
use Rattle.slate.specs.Length.{offset}
use Rattle.slate.specs.Moves.{hops, lefts}

-- the node of height h with left (l,k)
abbrev pub node : ℕ → ℕ → ℕ → Node
node h l k = record { height = h; left_index = l; left_height = k }

-- where the first m entries begin
abbrev pub offsets : List (List ℕ) → ℕ → List ℕ
offsets vs zero = []
offsets vs (suc m) = offsets vs m ++ (offset vs m ∷ [])

-- a line: entry i has the nodes ns; hops(n,i) = h, lefts l; hops(n,i) = h; m taps begin at these offsets and end at this one
pub data Line : Type 0 where
  entry_has : (i : ℕ) (ns : List Node) → Line
  hops_and_lefts : (n i h l : ℕ) → Line
  hops_are : (n i h : ℕ) → Line
  taps_begin : (m : ℕ) (begins : List ℕ) (end : ℕ) → Line

-- for any values of which `Tap` says that they are taps
abbrev pub LineHolds : (List ℕ → Type 0) → Line → Type 0
LineHolds Tap (entry_has i ns) = nodes i ≡ ns
LineHolds Tap (hops_and_lefts n i h l) = (hops n i ≡ h) × (lefts n i ≡ l)
LineHolds Tap (hops_are n i h) = hops n i ≡ h
LineHolds Tap (taps_begin m begins end) =
    (vs : List (List ℕ)) → length vs ≡ m → ((k : ℕ) → k < m → Tap (get_or vs k [])) → (offsets vs m ≡ begins) × (offset vs m ≡ end)

abbrev pub sheet : List Line
sheet =
    entry_has 7 (node 2 6 1 ∷ node 3 4 2 ∷ [])
    ∷ entry_has 22 (node 1 21 0 ∷ node 3 20 2 ∷ node 5 16 4 ∷ [])
    ∷ hops_and_lefts 22 18 4 2
    ∷ hops_and_lefts 7 1 3 3
    ∷ hops_and_lefts 7 7 2 0
    ∷ hops_and_lefts 7 5 3 2
    ∷ hops_are 1 1 0
    ∷ hops_are 4096 1 12
    ∷ taps_begin 8 (0 ∷ 52 ∷ 174 ∷ 296 ∷ 488 ∷ 610 ∷ 802 ∷ 994 ∷ []) 1256
    ∷ []

abbrev pub Each : (Line → Type 0) → List Line → Type 0
Each P [] = Unit {0}
Each P (l ∷ ls) = P l × Each P ls

-- every line of the sheet holds for the written rules
abbrev pub SheetHolds : (List ℕ → Type 0) → Type 0
SheetHolds Tap = Each (LineHolds Tap) sheet

-- with payloads of 9 bytes for taps; crates/entry has it for value items of kind 0x10
abbrev pub BenchSheet : Type 0
BenchSheet = SheetHolds (λ v. length v ≡ 9)
