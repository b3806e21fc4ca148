-- What painting a sheet takes, as definitions over any kind of shape and any reading of bytes: its scratch words, the most clips
-- that it has saved at once, and the pixels in reach and clip together, summed over its shapes.
use Rattle.std.specs.Prelude.{List, [], ◌∷◌, true, ◌≡◌, ℕ, ◌+◌, ◌*◌, ◌%◌, ◌/◌, ◌≤◌, ◌<◌, max, length}
use Rattle.draw.specs.Frame.{pitch_ok}
use Rattle.redraw.specs.declared.Room.{Room}
use Rattle.redraw.specs.Sums.{count_to}
use Rattle.redraw.specs.Drawing.{Item, Clips, after, Step, steps, Kind, meets, only}
use Rattle.redraw.specs.Sheet.{Format, Sheet, Reading, refused, read, refuses, canvas, painting, patching}

-- the most clips saved at once, from the clips c on
unfoldable pub deepest : {Shape : Type 0} → List (Item Shape) → Clips → ℕ
deepest [] c = length c.saved
deepest (i ∷ r) c = max (length c.saved) (deepest r (after i c))

module _ (K : Kind) (w h : ℕ) where
  -- the pixels of a canvas of w columns and h rows that a step meets, and those of all steps, summed
  unfoldable pub met : Step K.Shape → ℕ
  met s = count_to (λ i. meets K s (i % w) (i / w)) (w * h)

  unfoldable pub met_all : List (Step K.Shape) → ℕ
  met_all [] = 0
  met_all (s ∷ r) = met s + met_all r

abbrev pub room : ℕ → ℕ → ℕ → ℕ → ℕ → Room
room number item words saved pixels = record { number = number; item = item; words = words; saved = saved; pixels = pixels }

module _ (F : Format) where
  unfoldable pub room_of : Reading F.kind.Shape → Room
  room_of (refused n k) = room n k 0 0 0
  room_of (read s) =
      room 0 0 (F.need s.items) (deepest s.items (only (canvas s)))
      (met_all F.kind s.w s.h (steps s.items (only (canvas s))))

  unfoldable pub measuring : List ℕ → Room
  measuring sheet = room_of (F.reading sheet)

  -- So many words are the least with which painting some bytes is not refused by 9: with as many it is not, whatever pitch and px
  -- are; with fewer it is, where px is h rows of a pitch that is in its range. With as many no patch to them is refused by 9
  -- either.
  pub record Least (sheet : List ℕ) (words : ℕ) : Type 0 where
    pub enough : (pitch pl sl k : ℕ) → words ≤ sl → painting F sheet pitch pl sl ≡ refuses 9 k → ⊥
    pub fewer : (s : Sheet F.kind.Shape) → F.reading sheet ≡ read s → (pitch : ℕ) → pitch_ok s.w pitch ≡ true → (sl : ℕ)
        → sl < words
        → painting F sheet pitch (pitch * s.h) sl ≡ refuses 9 0
    pub patched : (old : List ℕ) (pitch pl sl k : ℕ) → words ≤ sl → patching F old sheet pitch pl sl ≡ refuses 9 k → ⊥
