-- The loop keeps the fold up to height p, by the laws of FoldForms.antt.
-- Assumes nothing.
use Rattle.slate.specs.Rules.{rule_of}
use Rattle.slate.proofs.FoldForms.{Folded}
use Rattle.slate.proofs.fold.fold.Given as goal

abbrev pub invariant-loop-p : goal.invariant-loop-p
invariant-loop-p l = Folded (rule_of l.rule) l.last l.target l.initial.own l.proof l.p l.own l.rest
