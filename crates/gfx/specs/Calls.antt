-- The canvas calls (document 01, "Number and item returned"): for each its number, 0 where it is accepted, and by that number the
-- state that it returns and the pixels that it leaves. The tests stand in the document's order, 12, 2, 15, 8, 13, 6, 7, 9
-- (15: document 02, 2026-07).
use Rattle.std.specs.Prelude.{Bool, cond, ◌&&◌, List, ◌≡◌, ℕ, ◌+◌, ◌*◌, ◌-◌, max, ltb, eqb, ℤ, pos, get_or, Ok, Err}
use Rattle.geom.specs.Int.{up, max_z, eq_z}
use Rattle.geom.specs.Box.{no_box}
use Rattle.geom.specs.Plane.{rect_ok}
pub use Rattle.geom.specs.Refusals.{unless, and_then}
use Rattle.std.specs.declared.result.Result.{Result}
use Rattle.geom.specs.Refusals.{code}
use Rattle.geom.specs.declared.checks.Refusal.{Refusal}
use Rattle.geom.specs.declared.IRect.{IRect}
use Rattle.geom.specs.declared.Rect.{Rect}
use Rattle.color.specs.declared.Pixel.{Pixel}
use Rattle.gfx.specs.State.{side_ok, valid_of, fresh_of}
use Rattle.gfx.specs.declared.Canvas.{Canvas}
use Rattle.gfx.specs.declared.Done.{Done}
use Rattle.gfx.specs.declared.Boxed.{Boxed}
use Rattle.gfx.specs.declared.Counted.{Counted}
use Rattle.draw.specs.Draw.{differ}
use Rattle.draw.specs.Frame.{pitch_number, frame_number, framed}

-- ---- answers

-- the number n and the state: the next one where the call is accepted, the given one where it is refused
unfoldable pub answer : ℕ → Canvas → Canvas → Done
answer n given next = record { number = n; canvas = cond (eqb n 0) next given }

-- the pixels that a call leaves: unaltered where it is refused
unfoldable pub left : ℕ → List ℕ → List ℕ → List ℕ
left n px drawn = cond (eqb n 0) drawn px

-- a box, four zeros beside a refusal; and a pixel, 0 beside a refusal
unfoldable pub box_answer : ℕ → IRect → Boxed
box_answer n b = record { number = n; area = cond (eqb n 0) b no_box }

unfoldable pub pixel_answer : ℕ → ℕ → Pixel
pixel_answer n v = record { number = n; value = cond (eqb n 0) v 0 }

-- the same of a result: what was accepted, beside 0, or what is left beside the number of the refusal
abbrev pub done_of : Canvas → Result Canvas Refusal → Done
done_of given (Ok next) = record { number = 0; canvas = next }
done_of given (Err r) = record { number = code r; canvas = given }

abbrev pub counted_of : Canvas → Result ℕ Refusal → Counted
counted_of c (Ok k) = record { number = 0; canvas = c; steps = k }
counted_of c (Err r) = record { number = code r; canvas = c; steps = 0 }

abbrev pub boxed_of : Result IRect Refusal → Boxed
boxed_of (Ok b) = record { number = 0; area = b }
boxed_of (Err r) = record { number = code r; area = no_box }

abbrev pub pixel_of : Result ℕ Refusal → Pixel
pixel_of (Ok v) = record { number = 0; value = v }
pixel_of (Err r) = record { number = code r; value = 0 }

-- what a call that is lent px promises: of its number, the given state, the next one, px as it came and as it is drawn
pub record Called (n : ℕ) (given next : Canvas) (px drawn : List ℕ) (r : Done) (px' : List ℕ) : Type 0 where
  pub answers : r ≡ answer n given next
  pub paints : px' ≡ left n px drawn

-- what a shape call promises: besides, the count of its steps that altered a pixel's value, 0 where it is refused
pub record CalledCounted (n : ℕ) (c : Canvas) (px drawn : List ℕ) (count : ℕ) (r : Counted) (px' : List ℕ) : Type 0 where
  pub called : Called n c c px drawn (record { number = r.number; canvas = r.canvas }) px'
  pub counts : r.steps ≡ cond (eqb n 0) count 0

-- a shape that takes one step at each pixel
abbrev pub ShapeCalled : ℕ → Canvas → List ℕ → List ℕ → Counted → List ℕ → Type 0
ShapeCalled n c px drawn = CalledCounted n c px drawn (differ px drawn)

-- ---- sizes

-- a side below 1 is raised to 1
abbrev pub raised : ℤ → ℤ
raised n = max_z n (pos 1)

-- 2 for a side outside 1 to 2,048, then 15 and 8, by the least pitch that is in range
unfoldable pub size_number : ℕ → ℤ → ℤ → ℕ → ℕ → ℕ
size_number least w h pitch n = unless (side_ok w && side_ok h) 2 (frame_number least (up h) pitch n)

-- `new`: the sides raised; the first w words of each row zeros
abbrev pub new_number : ℤ → ℤ → ℕ → ℕ → ℕ
new_number w h pitch n = size_number (up (raised w)) (raised w) (raised h) pitch n

-- `resize`: 12 first, then as `new`, with the state's pitch, which must be neither below the width that the state has nor below
-- the one wanted; to the same size it alters nothing
unfoldable pub resize_number : Canvas → ℤ → ℤ → ℕ → ℕ
resize_number c w h n = unless (valid_of c) 12 (size_number (max (up c.w) (up (raised w))) (raised w) (raised h) c.pitch n)

unfoldable pub same_size : Canvas → ℤ → ℤ → Bool
same_size c w h = eq_z c.w (raised w) && eq_z c.h (raised h)

unfoldable pub resized : Canvas → ℤ → ℤ → Canvas
resized c w h = cond (same_size c w h) c (fresh_of (raised w) (raised h) c.pitch)

unfoldable pub resized_px : Canvas → ℤ → ℤ → List ℕ → List ℕ
resized_px c w h px = cond (same_size c w h) px (framed c.pitch (up (raised w)) 0 px)

-- ---- clips

-- every call that is given a state: 12, then 15
unfoldable pub state_number : Canvas → ℕ
state_number c = unless (valid_of c) 12 (pitch_number (up c.w) c.pitch)

-- `push_clip_i` takes any box: 12, 15, then 7 with 16 saved
unfoldable pub push_box_number : Canvas → ℕ
push_box_number c = and_then (state_number c) (unless (ltb c.depth 16) 7 0)

-- `push_clip`: 12, 15, 6 for a float that is not finite or past 8,192, then 7
unfoldable pub push_number : Canvas → Rect → ℕ
push_number c r = and_then (state_number c) (unless (rect_ok r) 6 (unless (ltb c.depth 16) 7 0))

-- ---- pixels

-- a call on n lent words: 12, 15, then 8
unfoldable pub px_number : Canvas → ℕ → ℕ
px_number c n = unless (valid_of c) 12 (frame_number (up c.w) (up c.h) c.pitch n)

-- `clear` sets the first w words of each row to a value, whatever the clip
abbrev pub cleared_to : Canvas → ℕ → List ℕ → List ℕ
cleared_to c v px = framed c.pitch (up c.w) v px

-- the number of 0 to n - 1 that is nearest to x
unfoldable pub nearest_in : ℤ → ℤ → ℕ
nearest_in n x = cond (ltb (up x) (up n)) (up x) (up n - 1)

-- `get`: the pixel at x and y, each brought to the nearest inside
unfoldable pub pixel_at : Canvas → List ℕ → ℤ → ℤ → ℕ
pixel_at c px x y = get_or px (nearest_in c.h y * c.pitch + nearest_in c.w x) 0

-- a shape call on n lent words, by whether the floats given are finite and within 8,192 of 0: 12, 15, 8, then 6
unfoldable pub shape_number : Canvas → ℕ → Bool → ℕ
shape_number c n floats_ok = and_then (px_number c n) (unless floats_ok 6 0)
