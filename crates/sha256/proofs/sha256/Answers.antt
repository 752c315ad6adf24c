-- The two answers of `hashed`, by the length of the message.
-- Assumes nothing.
use Rattle.std.proofs.Common.{le-ltb, lt-ltb}
use Rattle.sha256.specs.Answer.{hashed}
use Rattle.sha256.proofs.sha256.Goals as goal

pub returns-then-message-gt65535 : goal.returns-then-message-gt65535
unfolding hashed
returns-then-message-gt65535 c = rw (lt-ltb _ _ c.if-message-gt65535.true)

pub returns : goal.returns
unfolding hashed
returns c = rw (le-ltb _ _ c.if-message-gt65535.false, c.digest.ensures)
