-- Four bytes of the message with 0x80 and zeros behind it.
-- Assumes nothing.
use Rattle.sha256.specs.Fips180.{word_at}
use Rattle.sha256.proofs.message.ended_word.Goals as goal

pub returns : goal.returns
unfolding word_at
returns c = cc
