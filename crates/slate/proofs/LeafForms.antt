-- The input of a leaf is one by both rules.
-- Assumes nothing.
use mathlib.Core.List.{List}
use mathlib.Core.Path.{◌≡◌, refl}
use Prim.Native.Nat.{ℕ}
use Rattle.slate.specs.Rules.{rule_of}
use Rattle.slate.specs.Tree.{leaf_input, slate}
use Rattle.slate.specs.declared.rule.Rule as code
use Rattle.slate.specs.declared.rule.Rule.TheVariants as rules

-- both rules of the code hash one input for a leaf
pub leaf_either : (rule : code.Rule) (v : List ℕ) → leaf_input slate v ≡ leaf_input (rule_of rule) v
leaf_either rules.Slate v = refl
leaf_either rules.Rfc6962 v = refl
