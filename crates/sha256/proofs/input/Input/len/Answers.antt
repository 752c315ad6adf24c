-- A tag byte and two digests.
-- Assumes nothing.
use Rattle.sha256.proofs.Inputs.{node_size}
use Rattle.sha256.proofs.input.Input.len.Goals as goal

pub returns-in-Node : goal.returns-in-Node
returns-in-Node c = node_size _ _ _ _ c.in-Node.is c.requires
