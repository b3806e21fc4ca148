-- Shedding dead shapes (request 2026-11): the compacted sheet, and the number that compacting is refused with. Assumes nothing.
use Rattle.std.specs.Prelude.{ℕ, List, map, take}
use Rattle.geom.specs.Refusals.{and_then}
use Rattle.sheet.specs.Check.{sheet_check}
use Rattle.encode.specs.Encode.{encoded, fit_number}
use Rattle.redraw.specs.Shed.{shed_of}
use Rattle.items.specs.Format.{kind, bytes_of, sheet_of}

-- the items that stay, each by its bytes, in their order
unfoldable pub kept_in : List ℕ → List (List ℕ)
kept_in s = map bytes_of (shed_of kind (sheet_of s)).items

-- bytes 0 to 7 of the header stay; the count and the pairs of offset and length are worked out anew
unfoldable pub compacted : List ℕ → List ℕ
compacted s = encoded (take 8 s) (kept_in s)

-- the number of the sheet's own checks, then 19 for a buffer of `room` bytes in which the result does not fit
unfoldable pub compact_number : List ℕ → ℕ → ℕ
compact_number s room = and_then (sheet_check s).number (fit_number (compacted s) room)
