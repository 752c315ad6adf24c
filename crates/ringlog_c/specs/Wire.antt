-- What each struct of include/ringlog.h holds.
use Rattle.sha256.specs.Answer.{Hashed}
use Rattle.ringlog.specs.Answer.{Count, RootAnswer}
use Rattle.ringlog.specs.declared.Audited.{Audited}
use Rattle.inclusion.specs.Value.{PartAnswer}
use Rattle.split.specs.Answer.{Split}
use Rattle.split.specs.Repair.{Piece}
use Rattle.ringlog_c.specs.declared.CountWire.{CountWire}
use Rattle.ringlog_c.specs.declared.DigestWire.{DigestWire}
use Rattle.ringlog_c.specs.declared.ExtentWire.{ExtentWire}
use Rattle.ringlog_c.specs.declared.PartWire.{PartWire}
use Rattle.ringlog_c.specs.declared.PieceWire.{PieceWire}
use Rattle.ringlog_c.specs.declared.SplitWire.{SplitWire}

-- struct ringlog_count: the number and the count of the call's answer
abbrev pub count_wire : Count → CountWire
count_wire c = record { number = c.number; value = c.value }

-- struct ringlog_extent: the entries and the bytes of a beginning
abbrev pub extent_wire : Audited → ExtentWire
extent_wire a = record { entries = a.entries; bytes = a.bytes }

-- struct ringlog_digest: the number and the digest of the call's answer
abbrev pub digest_wire : Hashed → DigestWire
digest_wire answer = record { number = answer.number; digest = answer.digest }

abbrev pub root_wire : RootAnswer → DigestWire
root_wire answer = record { number = answer.number; digest = answer.digest }

-- struct ringlog_part: the number, and where the part lies in the lent log
abbrev pub part_wire : PartAnswer → PartWire
part_wire p = record { number = p.number; offset = p.offset; length = p.length }

-- struct ringlog_split: the numbers of the search's answer, or of its refusal
abbrev pub split_wire : Split → SplitWire
split_wire s =
    record {
      number = s.number;
      side = s.side;
      common = s.common;
      verdict = s.verdict;
      place = s.place;
      first_reads = s.first_reads;
      second_reads = s.second_reads;
    }

-- struct ringlog_piece: the donor, and where the piece lies in it
abbrev pub piece_wire : Piece → PieceWire
piece_wire p = record { donor = p.donor; offset = p.offset; length = p.length }
