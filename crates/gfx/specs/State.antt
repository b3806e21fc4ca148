-- The state of a canvas (document 01, "Canvas"): w and h 1 to 2,048, a clip, up to 16 saved clips. Refusal 12 is given for any
-- other state. Its pitch (document 02, 2026-07) is refused by 15 (draw specs/Frame).
use Rattle.std.specs.Prelude.{Bool, true, cond, ◌&&◌, ◌||◌, ℕ, zero, suc, ◌+◌, ◌-◌, leb, ltb, eqb, ℤ, pos, get_or, set, replicate}
use Rattle.std.specs.Int.Signed.{le_z}
use Rattle.geom.specs.declared.IRect.{IRect}
use Rattle.geom.specs.Int.{eq_z}
use Rattle.geom.specs.Box.{box_of, meet, empty, no_box}
use Rattle.gfx.specs.declared.Canvas.{Canvas}

-- a side is 1 to 2,048
unfoldable pub side_ok : ℤ → Bool
side_ok n = le_z (pos 1) n && le_z n (pos 2048)

-- a range lies in 0 to n, and a box in a canvas of w columns and h rows
unfoldable pub range_in : ℤ → ℤ → ℤ → Bool
range_in a b n = le_z (pos 0) a && le_z b n

unfoldable pub in_canvas : ℤ → ℤ → IRect → Bool
in_canvas w h b = range_in b.x0 b.x1 w && range_in b.y0 b.y1 h

-- every clip is empty or inside the canvas
unfoldable pub clip_ok : ℤ → ℤ → IRect → Bool
clip_ok w h b = empty b || in_canvas w h b

unfoldable pub both_zero : ℤ → ℤ → Bool
both_zero a b = eq_z a (pos 0) && eq_z b (pos 0)

-- four zeros
unfoldable pub four_zeros : IRect → Bool
four_zeros b = both_zero b.x0 b.y0 && both_zero b.x1 b.y1

-- the saved clip at a place
abbrev pub saved_at : Canvas → ℕ → IRect
saved_at c i = get_or c.saved i no_box

-- a place in use holds a clip, an unused one four zeros
unfoldable pub place_ok : Canvas → ℕ → Bool
place_ok c i = cond (ltb i c.depth) (clip_ok c.w c.h (saved_at c i)) (four_zeros (saved_at c i))

-- the first n places are all right
unfoldable pub places_ok : Canvas → ℕ → Bool
places_ok c zero = true
places_ok c (suc n) = places_ok c n && place_ok c n

unfoldable pub frame_ok : Canvas → Bool
frame_ok c = side_ok c.w && side_ok c.h && leb c.depth 16 && clip_ok c.w c.h c.clip

unfoldable pub valid_of : Canvas → Bool
valid_of c = frame_ok c && places_ok c 16

-- all of the canvas as clip, nothing saved; with three zeros it is the state of zeros
unfoldable pub fresh_of : ℤ → ℤ → ℕ → Canvas
fresh_of w h pitch =
    record { w = w; h = h; pitch = pitch; clip = box_of (pos 0) (pos 0) w h; saved = replicate 16 no_box; depth = 0 }

-- `push_clip_i`: the clip is saved, and cut to b
unfoldable pub pushed : Canvas → IRect → Canvas
pushed c b =
    record {
      w = c.w;
      h = c.h;
      pitch = c.pitch;
      clip = meet c.clip b;
      saved = set c.saved c.depth c.clip;
      depth = c.depth + 1;
    }

-- `pop_clip` with something saved: back to the clip saved last, whose place holds zeros again
unfoldable pub unsaved : Canvas → Canvas
unsaved c =
    record {
      w = c.w;
      h = c.h;
      pitch = c.pitch;
      clip = saved_at c (c.depth - 1);
      saved = set c.saved (c.depth - 1) no_box;
      depth = c.depth - 1;
    }

-- `pop_clip`: with nothing saved it does nothing
unfoldable pub popped : Canvas → Canvas
popped c = cond (eqb c.depth 0) c (unsaved c)
