-- The second block, by Nodes.antt.
-- Assumes nothing.
use Rattle.std.proofs.Common.{rules}
use Rattle.sha256.proofs.Nodes.{node_last}
use Rattle.sha256.proofs.node.second_block.Goals as goal

pub returns : goal.returns
returns c = λ t x ex. rw c.join.ensures (node_last t x _ ex (search rules))
