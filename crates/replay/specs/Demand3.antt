-- DEMAND 3, whole, at the sheet of document 01, for patches of a set (document 02, 2026-01) that count (2026-05), within a wider
-- frame (2026-07), with boxes by what clips leave of reaches (2026-09). Proved in proofs/Theorem.
--
-- `Painted` and `Patched` are the contracts of `paint` and `patch`, word for word. `Right.answers`, `.steps` and `.grounds`
-- restate them; all else is said here alone: `Began`, `Shown`, `Confined`, the other fields of `Right`, and that it holds along a
-- whole list. The sentences in quotes are those of the mission, of document 01 and of document 02.
use Rattle.std.specs.Prelude.{List, ◌≡◌, ℕ, eqb, Float, length}
use Rattle.redraw.specs.declared.Reply.{Reply}
use Rattle.redraw.specs.Sheet.{painting, accepted}
use Rattle.redraw.specs.Calls.{Painted, Call, Follow, Began, Always}
use Rattle.items.specs.Format.{format, zero_word}

abbrev pub Demand3 : Type 0
Demand3 =
    -- any bytes, pitch, px and scratch, painted
    (sheet : List ℕ) (pitch : ℕ) (px : List ℕ) (scratch : List Float) (a : Reply) (px' : List ℕ) (scratch' : List Float)
    → Painted zero_word format sheet pitch px scratch a px' scratch'
    -- "A call is accepted where none of the conditions in its order below holds, else refused." The number is 0 exactly there.
    → (accepted (painting format sheet pitch (length px) (length scratch)) ≡ eqb a.answer.number 0)
    -- "Start with any accepted painting, and let any list of patch calls follow, refused ones included. Each patch finds the
    -- pixels as the call before left them and has the sheet accepted last as its old one. Its new sheet is any bytes at all, its
    -- scratch whatever is lent, and nothing else writes those pixels meanwhile." "A list of demand 3 keeps its lent px"; its
    -- patches may have any pitch.
    × (a.answer.number ≡ 0 → (calls : List (Call Float)) → Follow zero_word format sheet px' calls
    -- "Accepted painting returns 0, 0 and the whole canvas"
    → Began format sheet a
    -- "For every such list, after the painting and after each patch, every pixel equals that of the sheet accepted last, painted
    -- from nothing on its ground, as demand 2 defines it." (`Shown`, "worked from the kept sheet's bytes alone"): "the painting's
    -- pitch tells where its pixels are", and "Words of a row past w are never altered by any call" (`Shown.margin`).
    -- "Every patch returns the number, item and box that document 01 gives for its two sheets and the memory lent." (`answers` of
    -- `Right`, by "a model that is fed only each call's arguments, as its sheets, and of px and scratch the lengths alone"; the
    -- number is 0 exactly where it accepts: `numbered`). "a patch with another pitch is refused" (`same_pitch`). Its counts are
    -- those of the definition on px as the call found it (`steps`, `grounds`).
    -- "An accepted patch alters no pixel outside that box, the smallest around the old and the new shape's reach on the canvas"
    -- (`Confined`), of "up to 32 differing shapes" "the smallest around all their reaches on the canvas", each "cut by the clip
    -- in force at that item when its sheet is painted from nothing"; "a refused one alters none", nor a word of scratch
    -- (`unaltered`).
    × Always format pitch px sheet px' calls)
