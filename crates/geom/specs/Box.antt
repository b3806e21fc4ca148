-- Boxes of pixels, half-open: which pixels lie inside, the cut of two boxes, and the smallest box around several. Assumes
-- nothing.
use Rattle.std.specs.Prelude.{Bool, true, false, cond, ◌&&◌, ◌||◌, List, [], ◌∷◌, ◌≡◌, ℤ, pos}
use Rattle.std.specs.Int.Signed.{le_z, lt_z}
use Rattle.geom.specs.declared.IRect.{IRect}
use Rattle.geom.specs.Int.{max_z, min_z}

abbrev pub box_of : ℤ → ℤ → ℤ → ℤ → IRect
box_of x0 y0 x1 y1 = record { x0 = x0; y0 = y0; x1 = x1; y1 = y1 }

-- whether the pixel at column x and row y lies in the box
unfoldable pub inside : IRect → ℤ → ℤ → Bool
inside b x y = (le_z b.x0 x && lt_z x b.x1) && (le_z b.y0 y && lt_z y b.y1)

-- `IRect::intersect`, which never yields x1 under x0
unfoldable pub meet : IRect → IRect → IRect
meet a b =
    let x0 = max_z a.x0 b.x0 in
    let y0 = max_z a.y0 b.y0 in
    box_of x0 y0 (max_z (min_z a.x1 b.x1) x0) (max_z (min_z a.y1 b.y1) y0)

-- `IRect::is_empty`
unfoldable pub empty : IRect → Bool
empty b = le_z b.x1 b.x0 || le_z b.y1 b.y0

-- four zeros, as an empty box is reported
unfoldable pub no_box : IRect
no_box = box_of (pos 0) (pos 0) (pos 0) (pos 0)

-- the smallest box around two that are not empty
unfoldable pub around : IRect → IRect → IRect
around a b = box_of (min_z a.x0 b.x0) (min_z a.y0 b.y0) (max_z a.x1 b.x1) (max_z a.y1 b.y1)

-- the smallest box around two, an empty one counting for nothing
unfoldable pub join : IRect → IRect → IRect
join a b = cond (empty a) b (cond (empty b) a (around a b))

-- the smallest box around those that f gives of a list, an empty one counting for nothing; four zeros where there is no other
unfoldable pub join_all : {A : Type 0} → (A → IRect) → List A → IRect
join_all f [] = no_box
join_all f (a ∷ l) = join (f a) (join_all f l)

-- the smallest box around those of a list, each first cut to `frame`; four zeros where nothing is left of them
abbrev pub hull : IRect → List IRect → IRect
hull frame bs = join_all (meet frame) bs

-- every pixel of `small` is a pixel of `big`
pub record Holds (big small : IRect) : Type 0 where
  pub holds : (x y : ℤ) → inside small x y ≡ true → inside big x y ≡ true

-- whether the pixel lies in one of the boxes
unfoldable pub in_any : List IRect → ℤ → ℤ → Bool
in_any [] x y = false
in_any (b ∷ bs) x y = inside b x y || in_any bs x y

-- `big` holds each box that f gives of a list
unfoldable pub HoldsAll : {A : Type 0} → IRect → (A → IRect) → List A → Type 0
HoldsAll big f [] = Unit {0}
HoldsAll big f (a ∷ l) = Holds big (f a) × HoldsAll big f l

-- `box` is the smallest around the boxes that f gives of a list: it holds them, every box that holds them holds it, and an empty
-- one is four zeros
pub record SmallestAll {A : Type 0} (f : A → IRect) (l : List A) (box : IRect) : Type 0 where
  pub around : HoldsAll box f l
  pub least : (big : IRect) → HoldsAll big f l → Holds big box
  pub none : empty box ≡ true → box ≡ no_box

-- the same of the boxes of a list, each first cut to `frame`
abbrev pub HoldsEach : IRect → IRect → List IRect → Type 0
HoldsEach big frame bs = HoldsAll big (meet frame) bs

abbrev pub Smallest : IRect → List IRect → IRect → Type 0
Smallest frame bs box = SmallestAll (meet frame) bs box
