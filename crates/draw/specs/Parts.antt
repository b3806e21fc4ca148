-- A shape that is drawn in parts, one after the other, as a polyline is in its lines. Each part has a reach and an ink, and so
-- has the whole.
use Rattle.std.specs.Prelude.{cond, List, [], ◌∷◌, ℕ, ◌+◌, pos}
use Rattle.geom.specs.declared.IRect.{IRect}
use Rattle.geom.specs.Box.{inside, join_all}
use Rattle.draw.specs.Draw.{drawn, differ}

pub record Part : Type 0 where
  pub reach : IRect
  pub ink : ℕ → ℕ → ℕ → ℕ

abbrev pub part : IRect → (ℕ → ℕ → ℕ → ℕ) → Part
part reach ink = record { reach = reach; ink = ink }

-- the smallest box around the reaches of the parts, an empty one counting for nothing; four zeros where there is no other
abbrev pub reach_all : List Part → IRect
reach_all l = join_all (λ (a : Part). a.reach) l

-- a pixel's value after the parts, from its value p: each alters it inside its own reach alone
unfoldable pub ink_all : List Part → ℕ → ℕ → ℕ → ℕ
ink_all [] x y p = p
ink_all (a ∷ l) x y p = ink_all l x y (cond (inside a.reach (pos x) (pos y)) (a.ink x y p) p)

-- px after the parts, each drawn under the clip on what the one before left
unfoldable pub drawn_all : ℕ → IRect → List Part → List ℕ → List ℕ
drawn_all pitch clip [] px = px
drawn_all pitch clip (a ∷ l) px = drawn_all pitch clip l (drawn pitch clip a.reach a.ink px)

-- how many of their steps, one a part at each pixel, alter its value
unfoldable pub alters_all : ℕ → IRect → List Part → List ℕ → ℕ
alters_all pitch clip [] px = 0
alters_all pitch clip (a ∷ l) px =
    let next = drawn pitch clip a.reach a.ink px in
    differ px next + alters_all pitch clip l next
