-- The clips of a state as redraw has them: the clip, and the saved clips as a list, the last saved first. Assumes nothing.
use Prim.Native.Nat.{ℕ, zero, suc, ◌-◌, ◌<◌, ◌≤◌}
use mathlib.Core.Path.{◌≡◌, refl, ap}
use mathlib.Core.List.{List, [], ◌∷◌}
use native.Mathlib.Numerals.{add-one}
use native.Mathlib.Omega.{arith}
use borrow.Author.Tests.{ne_eqb}
use lib.ListN.{length, get_or, set}
use lib.Seq.{get_or-set_same, get_or-set_other}
use Rattle.geom.specs.declared.IRect.{IRect}
use Rattle.geom.specs.Box.{no_box}
use Rattle.gfx.specs.State.{pushed, unsaved, popped}
use Rattle.gfx.specs.declared.Canvas.{Canvas}
use Rattle.redraw.specs.Drawing as drawing
use Rattle.redraw.specs.Drawing.{Clips}

unfoldable pub saved_of : List IRect → ℕ → List IRect
saved_of saved zero = []
saved_of saved (suc d) = get_or saved d no_box ∷ saved_of saved d

abbrev pub clips_of : Canvas → Clips
clips_of c = record { clip = c.clip; saved = saved_of c.saved c.depth }

pub saved_length : (saved : List IRect) (d : ℕ) → length (saved_of saved d) ≡ d
unfolding saved_of
saved_length saved zero = refl
saved_length saved (suc d) = ap suc (saved_length saved d)

-- a place above does not matter
saved_below : (saved : List IRect) (d n : ℕ) (b : IRect) → n ≤ d → saved_of (set saved d b) n ≡ saved_of saved n
unfolding saved_of
saved_below saved d zero b h = refl
saved_below saved d (suc n) b h =
    rw (get_or-set_other saved d n b no_box (λ e. omega arith), saved_below saved d n b (omega arith))

pub clips_pushed : (c : Canvas) (s : List ℕ) (b : IRect) → c.depth < length c.saved
    → clips_of (pushed c b) ≡ drawing.after {Shape = List ℕ} (drawing.push s b) (clips_of c)
unfolding pushed drawing.after saved_of
clips_pushed c s b h =
    rw (add-one c.depth, get_or-set_same c.saved c.depth c.clip no_box h, saved_below c.saved c.depth c.depth c.clip (omega arith))

-- by how many are saved
popped_at : (c : Canvas) (d : ℕ) → c.depth ≡ d → clips_of (popped c) ≡ drawing.popped c.clip (saved_of c.saved d)
unfolding popped unsaved drawing.popped saved_of
popped_at c zero e = rw (e)
popped_at c (suc d) e =
    let l : c.depth - 1 ≡ d = omega arith in
    rw (ne_eqb c.depth 0 (λ z. omega arith), l, saved_below c.saved d d no_box (omega arith))

pub clips_popped : (c : Canvas) (s : List ℕ) → clips_of (popped c) ≡ drawing.after {Shape = List ℕ} (drawing.pop s) (clips_of c)
unfolding drawing.after
clips_popped c s = popped_at c c.depth refl
