-- Two digests are an input as they stand; else the two copies leave the tag and the parts at the start of the buffer, by the laws of
-- Parts.antt.
-- Assumes nothing.
use Rattle.std.proofs.Common.{ap, ◌∙◌, rules}
use Rattle.sha256.specs.Answer.{tagged}
use Rattle.sha256.specs.Fips180.{sha256}
use Rattle.sha256.proofs.Parts.{both_front}
use Rattle.sha256.proofs.tagged.hash_tagged.Goals as goal

pub returns-in-Ok-Ok : goal.returns-in-Ok-Ok
unfolding tagged
returns-in-Ok-Ok c = search rules

pub returns : goal.returns
unfolding tagged
returns c =
    let a = c.args in
    c.digest-2.ensures
    ∙ ap sha256 (both_front a.tag a.first.now a.second.now _ _ _ _ c.copy_from_slice.ensures.after c.copy_from_slice-2.ensures.after)
