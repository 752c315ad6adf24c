-- What is claimed of the structs of include/ringlog.h: each field has what the answer's field of that name has. Each claim is a type, and
-- proofs/ has its proof.
use Rattle.std.specs.Prelude.{◌≡◌}
use Rattle.sha256.specs.Answer.{Hashed}
use Rattle.ringlog.specs.Answer.{Count, RootAnswer}
use Rattle.ringlog.specs.declared.Audited.{Audited}
use Rattle.inclusion.specs.Value.{PartAnswer}
use Rattle.split.specs.Answer.{Split}
use Rattle.split.specs.Repair.{Piece}
use Rattle.ringlog_c.specs.Wire.{count_wire, digest_wire, extent_wire, part_wire, piece_wire, root_wire, split_wire}

-- of append, cut and proof, and of the path and the consistency proof of the RFC 6962 edition
abbrev pub CountFields : Type 0
CountFields = (a : Count) → ((count_wire a).number ≡ a.number) × ((count_wire a).value ≡ a.value)

-- of audit
abbrev pub ExtentFields : Type 0
ExtentFields = (a : Audited) → ((extent_wire a).entries ≡ a.entries) × ((extent_wire a).bytes ≡ a.bytes)

-- of SHA-256
abbrev pub DigestFields : Type 0
DigestFields = (a : Hashed) → ((digest_wire a).number ≡ a.number) × ((digest_wire a).digest ≡ a.digest)

-- of both editions' root
abbrev pub RootFields : Type 0
RootFields = (a : RootAnswer) → ((root_wire a).number ≡ a.number) × ((root_wire a).digest ≡ a.digest)

-- of checked value
abbrev pub PartFields : Type 0
PartFields =
    (a : PartAnswer) → ((part_wire a).number ≡ a.number) × ((part_wire a).offset ≡ a.offset) × ((part_wire a).length ≡ a.length)

-- of search
abbrev pub SplitFields : Type 0
SplitFields =
    (a : Split)
    → ((split_wire a).number ≡ a.number)
    × ((split_wire a).side ≡ a.side)
    × ((split_wire a).common ≡ a.common)
    × ((split_wire a).verdict ≡ a.verdict)
    × ((split_wire a).place ≡ a.place)
    × ((split_wire a).first_reads ≡ a.first_reads)
    × ((split_wire a).second_reads ≡ a.second_reads)

-- of the repair piece
abbrev pub PieceFields : Type 0
PieceFields =
    (a : Piece) → ((piece_wire a).donor ≡ a.donor) × ((piece_wire a).offset ≡ a.offset) × ((piece_wire a).length ≡ a.length)
