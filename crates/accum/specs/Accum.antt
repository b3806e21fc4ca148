-- The signed-area accumulator of `fill_poly`, bit for bit: what `accum_line` adds for one row of one edge. Columns are signed, as
-- the Rust has them, and every sum is stored before the next is read. Assumes nothing.
use Rattle.std.specs.Prelude.{cond, List, ℕ, zero, suc, ◌+◌, ℤ, pos, ◌+ℤ◌, ◌-ℤ◌, get_or, set, Float}
use Rattle.std.specs.Int.Signed.{le_z}
use Rattle.std.specs.Float.{nan}
use Rattle.mathf.specs.F32.{◌+ᶠ◌, ◌-ᶠ◌, ◌*ᶠ◌, ◌/ᶠ◌, of_zᶠ, f½, f1, f1½}
use Rattle.geom.specs.Int.{up, eq_z}

-- `a[i] += v`
abbrev pub bump_at : List Float → ℕ → Float → List Float
bump_at a i v = set a i (get_or a i nan +ᶠ v)

-- v added to each of the n words from i, one after the other
unfoldable pub bump_run : List Float → ℕ → ℕ → Float → List Float
bump_run a i zero v = a
bump_run a i (suc n) v = bump_at (bump_run a i n v) (i + n) v

-- the word of a column, in the row that starts at ls
abbrev pub cell : ℕ → ℤ → ℕ
cell ls x = ls + up x

-- the edge stays within the column x0i
unfoldable pub short_row : List Float → ℕ → ℤ → Float → Float → List Float
short_row a ls x0i d xmf = bump_at (bump_at a (cell ls x0i) (d -ᶠ d *ᶠ xmf)) (cell ls (x0i +ℤ pos 1)) (d *ᶠ xmf)

-- the columns between the first, x0i, and the last, x1i, where there is more than one
unfoldable pub mid_row : List Float → ℕ → ℤ → ℤ → Float → Float → Float → Float → Float → List Float
mid_row a ls x0i x1i d s x0fr a0 am =
    let a1 = s *ᶠ (f1½ -ᶠ x0fr) in
    let a2 = a1 +ᶠ of_zᶠ (x1i -ℤ x0i -ℤ pos 3) *ᶠ s in
    let after1 = bump_at a (cell ls (x0i +ℤ pos 1)) (d *ᶠ (a1 -ᶠ a0)) in
    let after2 = bump_run after1 (cell ls (x0i +ℤ pos 2)) (up (x1i -ℤ pos 1 -ℤ (x0i +ℤ pos 2))) (d *ᶠ s) in
    bump_at after2 (cell ls (x1i -ℤ pos 1)) (d *ᶠ (f1 -ᶠ a2 -ᶠ am))

-- the columns between the first and the last
unfoldable pub inner_row : List Float → ℕ → ℤ → ℤ → Float → Float → Float → Float → Float → List Float
inner_row a ls x0i x1i d s x0fr a0 am =
    cond (eq_z x1i (x0i +ℤ pos 2)) (bump_at a (cell ls (x0i +ℤ pos 1)) (d *ᶠ (f1 -ᶠ a0 -ᶠ am))) (mid_row a ls x0i x1i d s x0fr a0 am)

-- the edge crosses the columns from x0i to x1i. s is one over its width, x0fr and x1fr how far it reaches into the first and the
-- last
unfoldable pub wide_row : List Float → ℕ → ℤ → ℤ → Float → Float → Float → Float → List Float
wide_row a ls x0i x1i d s x0fr x1fr =
    let a0 = f½ *ᶠ s *ᶠ (f1 -ᶠ x0fr) *ᶠ (f1 -ᶠ x0fr) in
    let am = f½ *ᶠ s *ᶠ x1fr *ᶠ x1fr in
    bump_at (inner_row (bump_at a (cell ls x0i) (d *ᶠ a0)) ls x0i x1i d s x0fr a0 am) (cell ls x1i) (d *ᶠ am)

-- One row of one edge, from xa to xb. The row starts at ls and d is its signed height; x0f and x1c are xa's floor and xb's
-- ceiling, and x0i and x1i those as columns.
unfoldable pub row_accum : List Float → ℕ → Float → Float → Float → Float → Float → ℤ → ℤ → List Float
row_accum a ls d xa xb x0f x1c x0i x1i =
    cond (le_z x1i (x0i +ℤ pos 1))
    (short_row a ls x0i d (f½ *ᶠ (xa +ᶠ xb) -ᶠ x0f))
    (wide_row a ls x0i x1i d (f1 /ᶠ (xb -ᶠ xa)) (xa -ᶠ x0f) (xb -ᶠ x1c +ᶠ f1))
