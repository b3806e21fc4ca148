-- A canvas within a wider frame (document 02, 2026-07): px is h rows of `pitch` words, and a canvas of w columns has the first w
-- words of each.
use Rattle.std.specs.Prelude.{Bool, ◌&&◌, List, ℕ, ◌*◌, ◌%◌, leb, ltb, eqb}
use Rattle.geom.specs.Refusals.{unless, and_then}
use Rattle.draw.specs.Draw.{onto}

-- "a pitch, in words, from w to 4,096"
unfoldable pub pitch_ok : ℕ → ℕ → Bool
pitch_ok w pitch = leb w pitch && leb pitch 4096

-- "15 for a pitch outside its range"
unfoldable pub pitch_number : ℕ → ℕ → ℕ
pitch_number w pitch = unless (pitch_ok w pitch) 15 0

-- "px must be pitch × h words long. Refusal 8 now tests that", and 15 "comes directly before 8": n is the length of px
unfoldable pub frame_number : ℕ → ℕ → ℕ → ℕ → ℕ
frame_number w h pitch n = and_then (pitch_number w pitch) (unless (eqb n (pitch * h)) 8 0)

-- px with the first w words of each row set to v
unfoldable pub framed : ℕ → ℕ → ℕ → List ℕ → List ℕ
framed pitch w v px = onto (λ i. ltb (i % pitch) w) (λ i p. v) px
