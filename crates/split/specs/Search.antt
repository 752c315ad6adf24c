-- The search, on any two byte strings, with the entries that it reads in each.
use Rattle.std.specs.Prelude.{List, None, Option, Some, [], ◌∷◌, ◌++◌, ℕ, zero, suc, ◌+◌, ◌-◌, min}
use Rattle.sha256.specs.Pick.{pick}
use Rattle.slate.specs.Bytes.{same}
use Rattle.slate.specs.Comparison.{Compared, by_length, differ_at}
use Rattle.slate.specs.Digits.{max_height}
use Rattle.entry.specs.Read.{digest_at, entry_len_at}
use Rattle.entry.specs.Refusal.{unopened}
use Rattle.entry.specs.Shape.{opened_log}
use Rattle.entry.specs.Walk.{Descent, Place, arrived, descend, stopped}
use Rattle.entry.specs.declared.Cause.{Cause}
use Rattle.entry.specs.declared.Opened.{Opened}
use Rattle.split.specs.Below.{Below, blocked, down, leaf}
use Rattle.split.specs.declared.Side.{Side}
use Rattle.split.specs.declared.Side.TheVariants as side

-- a log of `count` entries as the search has it: the entries read so far, and where it stands
pub record Trace : Type 0 where
  pub count : ℕ
  pub reads : List Place
  pub at : ℕ

-- the count in common and the verdict, and each log as the search leaves it: it stands where the entries in common end, as it reached
-- them. Or a refusal: which log, and why
pub data Search : Type 0 where
  answered : Compared → Trace → Trace → Search
  refused : Side → Cause → Search

-- opening a log that is not empty is one read: of n entries the last begins at o
abbrev pub opening : ℕ → ℕ → Trace
opening o zero = record { count = 0; reads = []; at = 0 }
opening o (suc x) = record { count = suc x; reads = record { begins = o; position = x } ∷ []; at = o }

-- left steps take the search to o, by these entries
abbrev pub moved : Trace → ℕ → List Place → Trace
moved a o qs = record { count = a.count; reads = a.reads ++ qs; at = o }

-- nothing is read
abbrev pub standing : Trace → ℕ → Trace
standing a o = record { count = a.count; reads = a.reads; at = o }

-- behind the entry at position t, at which it stands
abbrev pub behind : List ℕ → Trace → ℕ → Trace
behind b a t = standing a (a.at + entry_len_at b a.at t)

-- below unequal tops: at a leaf i the difference is at i, and i − 1 values are in common
abbrev pub search_below : Trace → Trace → Below → Search
search_below a d (leaf t l m qs rs) = answered (record { common = t; verdict = differ_at (suc t) }) (moved a l qs) (moved d m rs)
search_below a d (blocked s k) = refused s k

-- both stand at entry n = t + 1: equal top digests: n in common; otherwise go down
abbrev pub search_at : List ℕ → List ℕ → ℕ → Trace → Trace → Search
search_at b c t a d =
    pick (same (digest_at b a.at t max_height) (digest_at c d.at t max_height))
    (answered (record { common = suc t; verdict = by_length a.count d.count }) (behind b a t) (behind c d t))
    (search_below a d (down b c a.at d.at t max_height))

-- the first log is brought to that entry by steps, then the second
abbrev pub search_brought : List ℕ → List ℕ → ℕ → Trace → Trace → Descent → Descent → Search
search_brought b c t a d (stopped k) w = refused side.First k
search_brought b c t a d (arrived l qs) (stopped k) = refused side.Second k
search_brought b c t a d (arrived l qs) (arrived m rs) = search_at b c t (moved a l qs) (moved d m rs)

-- n is the smaller length: if n = 0, stop, 0 in common
abbrev pub search_from : List ℕ → List ℕ → ℕ → Trace → Trace → Search
search_from b c zero a d = answered (record { common = 0; verdict = by_length a.count d.count }) (standing a 0) (standing d 0)
search_from b c (suc t) a d =
    search_brought b c t a d (descend b a.at (a.count - 1) max_height t) (descend c d.at (d.count - 1) max_height t)

-- the first is opened, then the second: 6 for the one that does not open
abbrev pub search_opened : List ℕ → List ℕ → Option Opened → Option Opened → Search
search_opened b c None w = refused side.First unopened
search_opened b c (Some l) None = refused side.Second unopened
search_opened b c (Some l) (Some r) = search_from b c (min l.count r.count) (opening l.start l.count) (opening r.start r.count)

unfoldable pub searched : List ℕ → List ℕ → Search
searched b c = search_opened b c (opened_log b) (opened_log c)
