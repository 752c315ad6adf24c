-- The value item found is a leaf's, by the laws of TopForms.antt.
-- Assumes nothing.
use Rattle.std.proofs.Common.{◌≡◌, sym, ap, ◌∙◌}
use Rattle.ringlog.specs.Values.{found_at, found_of}
use Rattle.rfc6962.proofs.TopForms.{item_length, leaf_top, stands_found}
use Rattle.rfc6962.proofs.whole.WholeEntry.leaf_digest.Goals as goal
use Rattle.rfc6962.proofs.whole.WholeEntry.leaf_digest.Goals.{After-unwrap-found}

pub unwrap-found-requires : goal.unwrap-found-requires
unwrap-found-requires c = stands_found _ _ _ c.args.self.now.stands _ c.find_entry.ensures.value

found : (c : After-unwrap-found)
    → c.unwrap-found.result ≡ found_at c.args.self.now.log.now c.args.self.now.start c.args.self.now.position
found c = ap found_of (sym c.unwrap-found.ensures) ∙ c.find_entry.ensures.value

pub leaf_digest-requires : goal.leaf_digest-requires
leaf_digest-requires c =
    item_length _ _ _ c.args.self.now.stands _ (found (goal.at.leaf_digest-requires c).After-unwrap-found)

pub returns : goal.returns
returns c =
    leaf_top _ _ _ c.args.self.now.stands _ (found (goal.at.returns c).After-unwrap-found) _
    c.leaf_digest.ensures
