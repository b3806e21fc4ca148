-- Which items are shapes, by their kind; a shape leaves the state. Assumes nothing.
use Prim.Native.Nat.{ℕ}
use mathlib.Core.Path.{◌≡◌, refl}
use mathlib.Core.Bool.{Bool, true, false, cond, false≢true}
use mathlib.Core.List.{List}
use lib.Dec.{eqb}
use borrow.Author.Tests.{ne_eqb}
use Rattle.gfx.specs.declared.Canvas.{Canvas}
use Rattle.sheet.specs.Kinds.{kind_at}
use Rattle.redraw.specs.Drawing.{shape}
use Rattle.items.specs.Items.{read_fill, read_stroke, read_line, read_poly, read_shadow, read_chain, read_item}
use Rattle.items.specs.Format.{drawn_as, item_in}
use Rattle.items.specs.declared.Item.{Item}
use Rattle.items.specs.declared.Item.TheVariants.{Push, Pop, Fill, Stroke, Line, Poly, Shadow, Chain, Unknown}
use Rattle.clips.specs.States.{state_after, is_shape}

pub no_push : (b : List ℕ) → kind_at b 0 ≡ 1 → false ≡ is_shape (item_in b)
unfolding read_item drawn_as is_shape
no_push b k = simp k

pub no_pop : (b : List ℕ) → kind_at b 0 ≡ 2 → false ≡ is_shape (item_in b)
unfolding read_item drawn_as is_shape
no_pop b k = simp k

pub a_shape : (b : List ℕ) → (kind_at b 0 ≡ 1 → ⊥) → (kind_at b 0 ≡ 2 → ⊥) → true ≡ is_shape (item_in b)
unfolding read_item drawn_as is_shape
a_shape b p q =
    let is : ℕ → Bool = λ n. eqb (kind_at b 0) n in
    rw (ne_eqb (kind_at b 0) 1 p, ne_eqb (kind_at b 0) 2 q) (go (is 3) (is 4) (is 5) (is 6) (is 7) (is 8))
  where
    go : (r s t u v w : Bool) → true ≡ is_shape (drawn_as b (cond r (read_fill b 0) (cond s (read_stroke b 0) (cond t (read_line b 0) (cond u (read_poly b 0) (cond v (read_shadow b 0) (cond w (read_chain b 0) Unknown)))))))
    go true s t u v w = refl
    go false true t u v w = refl
    go false false true u v w = refl
    go false false false true v w = refl
    go false false false false true w = refl
    go false false false false false true = refl
    go false false false false false false = refl

pub shape_own : (b : List ℕ) (i : Item) → is_shape (drawn_as b i) ≡ true → drawn_as b i ≡ shape b
unfolding drawn_as is_shape
shape_own b (Push rect) e = absurd (false≢true e)
shape_own b Pop e = absurd (false≢true e)
shape_own b (Fill rect r paint) e = refl
shape_own b (Stroke rect r width color) e = refl
shape_own b (Line p q width color) e = refl
shape_own b (Poly paint count) e = refl
shape_own b (Shadow rect r blur color skip) e = refl
shape_own b (Chain width color count) e = refl
shape_own b Unknown e = refl

pub shape_leaves : (b : List ℕ) (i : Item) (c : Canvas) → is_shape (drawn_as b i) ≡ true → state_after i c ≡ c
unfolding drawn_as is_shape state_after
shape_leaves b (Push rect) c e = absurd (false≢true e)
shape_leaves b Pop c e = absurd (false≢true e)
shape_leaves b (Fill rect r paint) c e = refl
shape_leaves b (Stroke rect r width color) c e = refl
shape_leaves b (Line p q width color) c e = refl
shape_leaves b (Poly paint count) c e = refl
shape_leaves b (Shadow rect r blur color skip) c e = refl
shape_leaves b (Chain width color count) c e = refl
shape_leaves b Unknown c e = refl
