-- A walk in each log that arrives or is refused, by the laws of LocateForms.antt.
-- Assumes nothing.
use Rattle.std.proofs.Common.{Ok, Some, rules, ◌≡◌, ℕ, ◌<◌, min, List, arith}
use Rattle.slate.specs.Digits.{max_height}
use Rattle.entry.specs.Shape.{opened_log}
use Rattle.entry.specs.declared.Opened.{Opened}
use Rattle.entry.proofs.Reached.{Indexed, walk_reached}
use Rattle.entry.proofs.StepForms.{reads_le}
use Rattle.split.proofs.LocateForms.{both_arrived, second_stopped}
use Rattle.split.proofs.locate.locate_from.Goals as goal

-- each log has an entry of the smaller index
both_indexed : (b d : List ℕ) (o q : Opened) (n : ℕ) → opened_log b ≡ Some o → opened_log d ≡ Some q → 0 < min o.count q.count
    → n ≡ min o.count q.count → Indexed b o.start o.count n × Indexed d q.start q.count n
both_indexed b d o q n first second some is = (
  record { opens = first; first = omega arith; high = omega arith },
  record { opens = second; first = omega arith; high = omega arith },
)

pub returns-in_err-to_second : goal.returns-in_err-to_second
returns-in_err-to_second c =
    let e : c.bring.result ≡ Ok c.in_ok-to_first.to_first = search rules in
    let i = both_indexed _ _ _ _ _ c.requires.first_opens c.requires.second_opens c.requires.some c.min-n.ensures in
    let s =
    second_stopped _ _ _ _ _ _ _ i.0 i.1 c.min-n.ensures _ c.bring.ensures _ _ e _ c.bring-2.ensures in
    search rules

-- one read before, and at most one for each height
pub overflow_add-to_first : goal.overflow_add-to_first
unfolding max_height
overflow_add-to_first c =
    let e : c.bring.result ≡ Ok c.in_ok-to_first.to_first = search rules in
    omega (arith, reads_le _ _ _ _ _ _ _ _ c.bring.ensures e)

pub overflow_add-to_second : goal.overflow_add-to_second
unfolding max_height
overflow_add-to_second c =
    let e : c.bring-2.result ≡ Ok c.in_ok-to_second.to_second = search rules in
    omega (arith, reads_le _ _ _ _ _ _ _ _ c.bring-2.ensures e)

pub locate_at-requires-clause-inside : goal.locate_at-requires-clause-inside
locate_at-requires-clause-inside c =
    let e : c.bring.result ≡ Ok c.in_ok-to_first.to_first = search rules in
    let i = both_indexed _ _ _ _ _ c.requires.first_opens c.requires.second_opens c.requires.some c.min-n.ensures in
    (walk_reached i.0 _ c.bring.ensures _ _ e).inside

pub locate_at-requires-clause-inside_2 : goal.locate_at-requires-clause-inside_2
locate_at-requires-clause-inside_2 c =
    let e : c.bring-2.result ≡ Ok c.in_ok-to_second.to_second = search rules in
    let i = both_indexed _ _ _ _ _ c.requires.first_opens c.requires.second_opens c.requires.some c.min-n.ensures in
    (walk_reached i.1 _ c.bring-2.ensures _ _ e).inside

pub locate_at-requires-clause-reads_bound : goal.locate_at-requires-clause-reads_bound
locate_at-requires-clause-reads_bound c =
    let e : c.bring.result ≡ Ok c.in_ok-to_first.to_first = search rules in
    let f : c.bring-2.result ≡ Ok c.in_ok-to_second.to_second = search rules in
    (omega (arith, reads_le _ _ _ _ _ _ _ _ c.bring.ensures e), omega (arith, reads_le _ _ _ _ _ _ _ _ c.bring-2.ensures f))

pub returns : goal.returns
returns c =
    let e : c.bring.result ≡ Ok c.in_ok-to_first.to_first = search rules in
    let f : c.bring-2.result ≡ Ok c.in_ok-to_second.to_second = search rules in
    let i = both_indexed _ _ _ _ _ c.requires.first_opens c.requires.second_opens c.requires.some c.min-n.ensures in
    both_arrived _ _ _ _ _ _ _ i.0 i.1 c.min-n.ensures _ c.bring.ensures _ _ e _ c.bring-2.ensures _ _ f _ c.locate_at.ensures
