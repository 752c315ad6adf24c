-- What the code's two prefix rules stand for.
use Rattle.slate.specs.Tree as tree
use Rattle.slate.specs.declared.rule.Rule.{Rule}
use Rattle.slate.specs.declared.rule.Rule.TheVariants as rules

abbrev pub rule_of : Rule → tree.Rule
rule_of rules.Slate = tree.slate
rule_of rules.Rfc6962 = tree.rfc6962
