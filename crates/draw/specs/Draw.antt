-- What a shape leaves in px: a function of one pixel, put to the pixels of its reach that the clip lets through.
use Rattle.std.specs.Prelude.{Bool, cond, ◌&&◌, List, [], ◌∷◌, ℕ, suc, ◌+◌, ◌/◌, ◌%◌, eqb, ℤ, pos}
use Rattle.std.specs.Int.Signed.{le_z, lt_z}
use Rattle.geom.specs.declared.IRect.{IRect}
use Rattle.geom.specs.Box.{inside}

-- each word of a list, whose first place is i, altered by its place
unfoldable pub each_at : (ℕ → ℕ → ℕ) → ℕ → List ℕ → List ℕ
each_at f i [] = []
each_at f i (p ∷ ps) = f i p ∷ each_at f (suc i) ps

-- f put to the words at the places of a set, the others left as they are
unfoldable pub onto : (ℕ → Bool) → (ℕ → ℕ → ℕ) → List ℕ → List ℕ
onto s f px = each_at (λ i p. cond (s i) (f i p) p) 0 px

-- whether the pixel in column x and row y lies in the clip and in the reach
unfoldable pub meets : IRect → IRect → ℕ → ℕ → Bool
meets clip reach x y = inside clip (pos x) (pos y) && inside reach (pos x) (pos y)

-- px, in rows of `pitch` words, after a shape is drawn under a clip. Of a shape its reach is asked, its box before the clip, and
-- its ink, the new value of a pixel by column, row and old value. A clip lies within the canvas, so words of a row past it are
-- left.
unfoldable pub drawn : ℕ → IRect → IRect → (ℕ → ℕ → ℕ → ℕ) → List ℕ → List ℕ
drawn pitch clip reach ink px = onto (λ i. meets clip reach (i % pitch) (i / pitch)) (λ i p. ink (i % pitch) (i / pitch) p) px

-- at how many places px and qx differ: of px before and after a shape, how many of its steps altered a pixel's value
unfoldable pub differ : List ℕ → List ℕ → ℕ
differ [] qs = 0
differ (p ∷ ps) [] = 0
differ (p ∷ ps) (q ∷ qs) = cond (eqb q p) 0 1 + differ ps qs

-- whether column x is one from a up to b, signed as the Rust has them
unfoldable pub in_columns : ℤ → ℤ → ℕ → Bool
in_columns a b x = le_z a (pos x) && lt_z (pos x) b
