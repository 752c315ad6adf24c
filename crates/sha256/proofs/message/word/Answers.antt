-- Four bytes of the message.
-- Assumes nothing.
use Rattle.sha256.specs.Fips180.{word_at}
use Rattle.sha256.proofs.message.word.Goals as goal

pub returns : goal.returns
unfolding word_at
returns c = c.join.ensures
