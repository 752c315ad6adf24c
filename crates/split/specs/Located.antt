-- What the internal types of the code hold of a search: the entries read are counted.
use Rattle.std.specs.Prelude.{Err, List, Ok, Result, ℕ, suc, ◌+◌, length}
use Rattle.sha256.specs.Pick.{pick}
use Rattle.slate.specs.Bytes.{same}
use Rattle.slate.specs.Comparison as comparison
use Rattle.slate.specs.Digits.{max_height}
use Rattle.entry.specs.Read.{digest_at, entry_len_at}
use Rattle.split.specs.Below.{Below, blocked, down, leaf}
use Rattle.split.specs.Search.{Search, Trace, answered, refused}
use Rattle.split.specs.declared.Located.{Located}
use Rattle.split.specs.declared.SearchRefusal.{SearchRefusal}
use Rattle.split.specs.declared.Tally.{Tally}
use Rattle.split.specs.declared.Verdict.{Verdict}
use Rattle.split.specs.declared.Verdict.TheVariants as verdict

abbrev pub to_verdict : comparison.Verdict → Verdict
to_verdict comparison.equal = verdict.Same
to_verdict comparison.first_shorter = verdict.FirstShorter
to_verdict comparison.second_shorter = verdict.SecondShorter
to_verdict (comparison.differ_at i) = verdict.DifferAt i

abbrev pub tally : Trace → Tally
tally a = record { count = a.count; reads = length a.reads; at = a.at }

abbrev pub located_of : Search → Result Located SearchRefusal
located_of (answered f a d) = Ok (record { common = f.common; verdict = to_verdict f.verdict; first = tally a; second = tally d })
located_of (refused s k) = Err (record { side = s; cause = k })

-- ---- the search from entry n on, with the entries read before it counted

-- so many entries more are read
abbrev pub further : Tally → ℕ → ℕ → Tally
further a o n = record { count = a.count; reads = a.reads + n; at = o }

abbrev pub past : List ℕ → Tally → ℕ → Tally
past b a t = record { count = a.count; reads = a.reads; at = a.at + entry_len_at b a.at t }

abbrev pub located_below : Tally → Tally → Below → Result Located SearchRefusal
located_below a d (leaf t l m qs rs) =
    Ok (record { common = t; verdict = verdict.DifferAt (suc t); first = further a l (length qs); second = further d m (length rs) })
located_below a d (blocked s k) = Err (record { side = s; cause = k })

abbrev pub located_at : List ℕ → List ℕ → ℕ → Tally → Tally → Result Located SearchRefusal
located_at b c t a d =
    pick (same (digest_at b a.at t max_height) (digest_at c d.at t max_height))
    (Ok (record {
      common = suc t;
      verdict = to_verdict (comparison.by_length a.count d.count);
      first = past b a t;
      second = past c d t;
    }))
    (located_below a d (down b c a.at d.at t max_height))
