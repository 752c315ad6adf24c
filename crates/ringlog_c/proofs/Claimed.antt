-- The fields of the structs, as the definitions give them.
-- Assumes nothing.
use mathlib.Core.Path.{refl}
use Rattle.ringlog_c.specs.Claims as claims

pub count_fields : claims.CountFields
count_fields a = (refl, refl)

pub extent_fields : claims.ExtentFields
extent_fields a = (refl, refl)

pub digest_fields : claims.DigestFields
digest_fields a = (refl, refl)

pub root_fields : claims.RootFields
root_fields a = (refl, refl)

pub part_fields : claims.PartFields
part_fields a = (refl, refl, refl)

pub split_fields : claims.SplitFields
split_fields a = (refl, refl, refl, refl, refl, refl, refl)

pub piece_fields : claims.PieceFields
piece_fields a = (refl, refl, refl)
