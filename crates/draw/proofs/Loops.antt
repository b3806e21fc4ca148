-- The invariants of the two loops that draw a box, and what each turn asks. `InRow` is for the loop through the columns of row y, and `InRows` for the loop through the rows.
-- f is the shape's pixel function, px₀ the pixels as the loop began, px as they are, and n how many of them were altered.
--     row_start_lem, rows_start  the loop begins
--     row_next                  the turn stores what f gives of the pixel, and counts it where that differs
--     row_pass                  the turn stores nothing, since f leaves the pixel
--     row_span                  a call drew a part of the row
--     row_three, row_clamped    a row whose parts three calls drew
--     clamped_order, three_fit  the parts stand in order, and their counts can be added
--     rows_next                 a call drew row y
--     row_end, rows_end         the loop is left
--     drew_as                   what is drawn, told otherwise
--     drew_none, drew_kept      nothing is drawn, and so nothing is counted
--     bit_most                  a turn counts 1 at most
-- Assumes nothing.
use mathlib.Core.Path.{◌≡◌, refl, sym, ap, ◌∙◌}
use mathlib.Core.List.{List}
use mathlib.Core.Bool.{Bool, true, false, cond, not}
use Prim.Native.Nat.{ℕ, ◌+◌, ◌-◌, ◌*◌, ◌<◌, ◌≤◌, min, max}
use native.Mathlib.Nat.{add-zero, zero-add}
use native.Mathlib.Omega.{arith}
use lib.Dec.{eqb, lit≤}
use lib.ListN.{length, get_or, set}
use lib.Seq.{set-get_or}
use mir.Syntax.{w32}
use mir.Val.{bool_byte, Fits}
use Rattle.color.specs.declared.Inked.{Inked}
use Rattle.color.specs.Inks.{inked_of}
use Rattle.draw.specs.declared.Area.{Area}
use Rattle.draw.specs.Draw.{differ}
use Rattle.draw.specs.Areas.{drawn_in, area, within, RowFits, AreaFits, Drew, DrewRow, DrewIn}
use Rattle.draw.proofs.Counts.{differ_same, differ_one}
use Rattle.draw.proofs.Rows.{within_in, within_below, within_above, length_drawn, none_across, none_down, row_join, rows_join, row_count, rows_count, cell, row_same, room_of}

pub record InRow (pitch : ℕ) (f : ℕ → ℕ → ℕ → ℕ) (y x0 x1 : ℕ) (px₀ px : List ℕ) (n x : ℕ) : Type 0 where
  pub done : px ≡ drawn_in pitch (area x0 y x (y + 1)) f px₀
  pub counts : n ≡ differ px₀ px
  pub few : n ≤ x - x0
  pub long : length px ≡ length px₀
  pub from : x0 ≤ x
  pub to : x ≤ x1

pub record InRows (pitch : ℕ) (f : ℕ → ℕ → ℕ → ℕ) (x0 x1 y0 y1 : ℕ) (px₀ px : List ℕ) (n y : ℕ) : Type 0 where
  pub done : px ≡ drawn_in pitch (area x0 y0 x1 y) f px₀
  pub counts : n ≡ differ px₀ px
  pub few : n ≤ 2048 * (y - y0)
  pub long : length px ≡ length px₀
  pub from : y0 ≤ y
  pub to : y ≤ y1

-- what is drawn, told otherwise
pub drew_as : {most : ℕ} {px drawn drawn' px' : List ℕ} {n : ℕ} → Drew most px drawn n px' → drawn ≡ drawn' → Drew most px drawn' n px'
drew_as d e = record { paints = d.paints ∙ e; counts = d.counts; few = d.few }

-- nothing is drawn
pub drew_none : {most : ℕ} {px drawn : List ℕ} → px ≡ drawn → Drew most px drawn 0 px
drew_none {px = px} e = record { paints = e; counts = sym (differ_same px); few = omega arith }

pub drew_kept : {most n : ℕ} {px px' : List ℕ} → Drew most px px n px' → n ≡ 0
drew_kept {px = px} d = d.counts ∙ ap (differ px) d.paints ∙ differ_same px

pub row_start_lem : (pitch : ℕ) (f : ℕ → ℕ → ℕ → ℕ) (y x0 x1 : ℕ) (px : List ℕ) → x0 ≤ x1 → InRow pitch f y x0 x1 px px 0 x0
row_start_lem pitch f y x0 x1 px h =
    record {
      done = none_across pitch f px (area x0 y x0 (y + 1)) (omega arith);
      counts = sym (differ_same px);
      few = omega arith;
      long = refl;
      from = omega arith;
      to = h;
    }

-- a call drew the columns from x up to x', by a function that agrees with f there
pub row_span : {pitch : ℕ} {f : ℕ → ℕ → ℕ → ℕ} {y x0 x1 : ℕ} {px₀ px : List ℕ} {n x m : ℕ} (g : ℕ → ℕ → ℕ → ℕ) (x' : ℕ) (qx : List ℕ)
    → InRow pitch f y x0 x1 px₀ px n x → x ≤ x' → x' ≤ x1 → DrewRow pitch y x x' g px m qx → ((j p : ℕ) → x ≤ j → j < x' → g j y p ≡ f j y p)
    → InRow pitch f y x0 x1 px₀ qx (n + m) x'
row_span {pitch} {f} {y} {x0} {x1} {px₀} {px} {n} {x} {m} g x' qx i h u d same =
    record {
      done = now ∙ rw i.done (row_join pitch f px₀ x0 x x' y (y + 1) i.from h);
      counts = both;
      few = omega (arith, d.few);
      long = ap length now ∙ length_drawn pitch f px (area x y x' (y + 1)) ∙ i.long;
      from = omega arith;
      to = u;
    }
  where
    now : qx ≡ drawn_in pitch (area x y x' (y + 1)) f px
    now = d.paints ∙ row_same pitch g f px x x' y same

    sums : differ px₀ qx ≡ differ px₀ px + differ px qx
    sums = rw (now, i.done) (row_count pitch f px₀ x0 x x' y (y + 1) i.from h)

    both : n + m ≡ differ px₀ qx
    both = omega (arith, sums, i.counts, d.counts)

-- what is counted of one pixel
pub bit_most : (t : Bool) → bool_byte t ≤ 1
bit_most true = lit≤ tt
bit_most false = lit≤ tt

-- the store of one pixel, drawn as a part of the row
stored : (pitch : ℕ) (f : ℕ → ℕ → ℕ → ℕ) (y : ℕ) (px : List ℕ) (x : ℕ) (r : Inked)
    → x < pitch → y * pitch + x < length px → let old = get_or px (y * pitch + x) 0 in r ≡ inked_of old (f x y old)
    → DrewRow pitch y x (x + 1) f px (bool_byte r.altered) (set px (y * pitch + x) r.value)
stored pitch f y px x r h l e =
    record {
      paints = rw e (cell pitch f px x y h l);
      counts = rw e (bit (eqb (f x y old) old) ∙ sym (differ_one px (y * pitch + x) (f x y old) l));
      few = omega (arith, bit_most r.altered);
    }
  where
    old : ℕ
    old = get_or px (y * pitch + x) 0

    bit : (t : Bool) → bool_byte (not t) ≡ cond t 0 1
    bit true = refl
    bit false = refl

pub row_next : {pitch : ℕ} {f : ℕ → ℕ → ℕ → ℕ} {y x0 x1 : ℕ} {px₀ px : List ℕ} {n x : ℕ} {r : Inked}
    → RowFits pitch y x0 x1 (length px₀) → InRow pitch f y x0 x1 px₀ px n x → x < x1
    → let old = get_or px (y * pitch + x) 0 in r ≡ inked_of old (f x y old)
    → InRow pitch f y x0 x1 px₀ (set px (y * pitch + x) r.value) (n + bool_byte r.altered) (x + 1)
row_next {pitch} {f} {y} {px = px} {x = x} {r = r} q i h e =
    row_span f (x + 1) _ i (omega arith) (omega arith) (stored pitch f y px x r (omega arith) (omega arith) e) (λ j p _ _. refl)

pub row_pass : {pitch : ℕ} {f : ℕ → ℕ → ℕ → ℕ} {y x0 x1 : ℕ} {px₀ px : List ℕ} {n x : ℕ}
    → RowFits pitch y x0 x1 (length px₀) → InRow pitch f y x0 x1 px₀ px n x → x < x1 → get_or px (y * pitch + x) 0 ≡ f x y (get_or px (y * pitch + x) 0)
    → InRow pitch f y x0 x1 px₀ px n (x + 1)
row_pass {pitch} {f} {y} {x0} {x1} {px₀} {px} {n} {x} q i h e =
    let k = y * pitch + x in
    let same : px ≡ drawn_in pitch (area x y (x + 1) (y + 1)) f px =
    sym (set-get_or px k 0) ∙ ap (λ (v : ℕ). set px k v) e ∙ cell pitch f px x y (omega arith) (omega arith) in
    rw add-zero at (row_span f (x + 1) px i (omega arith) (omega arith) (drew_none same) (λ j p _ _. refl))

pub row_end : {pitch : ℕ} {f : ℕ → ℕ → ℕ → ℕ} {y x0 x1 : ℕ} {px₀ px : List ℕ} {n x : ℕ}
    → InRow pitch f y x0 x1 px₀ px n x → x1 ≤ x → DrewRow pitch y x0 x1 f px₀ n px
row_end {x1 = x1} {x = x} i h = let e : x ≡ x1 = omega arith in record { paints = rw e at i.done; counts = i.counts; few = omega arith }

-- a row in three parts, from x0 to a, to b and to x1, drawn by three functions that agree with f there
pub row_three : (pitch : ℕ) (f g m h : ℕ → ℕ → ℕ → ℕ) (y x0 a b x1 : ℕ) (px px₁ px₂ px₃ : List ℕ) {n₁ n₂ n₃ : ℕ} → x0 ≤ a → a ≤ b → b ≤ x1
    → DrewRow pitch y x0 a g px n₁ px₁ → DrewRow pitch y a b m px₁ n₂ px₂ → DrewRow pitch y b x1 h px₂ n₃ px₃
    → ((x p : ℕ) → x0 ≤ x → x < a → g x y p ≡ f x y p)
    → ((x p : ℕ) → a ≤ x → x < b → m x y p ≡ f x y p)
    → ((x p : ℕ) → b ≤ x → x < x1 → h x y p ≡ f x y p)
    → DrewRow pitch y x0 x1 f px (n₁ + n₂ + n₃) px₃
row_three pitch f g m h y x0 a b x1 px px₁ px₂ px₃ {n₁} {n₂} {n₃} l₁ l₂ l₃ d₁ d₂ d₃ s₁ s₂ s₃ =
    let i₀ = row_start_lem pitch f y x0 x1 px (omega arith) in
    let i₁ = row_span g a px₁ i₀ l₁ (omega arith) d₁ s₁ in
    let i₂ = row_span m b px₂ i₁ l₂ l₃ d₂ s₂ in
    rw zero-add at (row_end (row_span h x1 px₃ i₂ l₃ (omega arith) d₃ s₃) (omega arith))

-- the same where the middle part is what lies from le up to rs, each brought between x0 and x1: g draws on both sides of it
pub row_clamped : (pitch : ℕ) (f g m : ℕ → ℕ → ℕ → ℕ) (y x0 x1 le rs a b : ℕ) (px px₁ px₂ px₃ : List ℕ) {n₁ n₂ n₃ : ℕ} → x0 ≤ x1
    → a ≡ max x0 (min le x1) → b ≡ max a (min rs x1)
    → DrewRow pitch y x0 a g px n₁ px₁ → DrewRow pitch y a b m px₁ n₂ px₂ → DrewRow pitch y b x1 g px₂ n₃ px₃
    → ((x p : ℕ) → within le rs x ≡ false → g x y p ≡ f x y p)
    → ((x p : ℕ) → within le rs x ≡ true → m x y p ≡ f x y p)
    → DrewRow pitch y x0 x1 f px (n₁ + n₂ + n₃) px₃
row_clamped pitch f g m y x0 x1 le rs a b px px₁ px₂ px₃ o ea eb d₁ d₂ d₃ out in' =
    row_three pitch f g m g y x0 a b x1 px px₁ px₂ px₃ (omega arith) (omega arith) (omega arith) d₁ d₂ d₃
    (λ x p l h. out x p (within_below le rs x (omega arith)))
    (λ x p l h. in' x p (within_in le rs x (omega arith) (omega arith)))
    (λ x p l h. out x p (within_above le rs x (omega arith)))

-- the ends of the middle part stand in order
pub clamped_order : {x0 x1 a b : ℕ} (le rs : ℕ) → x0 ≤ x1 → a ≡ max x0 (min le x1) → b ≡ max a (min rs x1) → (x0 ≤ a) × (a ≤ b) × (b ≤ x1)
clamped_order le rs o ea eb = (omega arith, omega arith, omega arith)

-- the counts of three parts of a row can be added
pub three_fit : {x0 a b x1 n₁ n₂ n₃ : ℕ} → x1 ≤ 2048 → (x0 ≤ a) × (a ≤ b) × (b ≤ x1) → n₁ ≤ a - x0 → n₂ ≤ b - a → n₃ ≤ x1 - b
    → Fits w32 (n₁ + n₂) × Fits w32 (n₁ + n₂ + n₃)
three_fit w o f₁ f₂ f₃ = (record { fits = omega arith }, record { fits = omega arith })

pub rows_start : (pitch : ℕ) (f : ℕ → ℕ → ℕ → ℕ) (x0 x1 y0 y1 : ℕ) (px : List ℕ) → y0 ≤ y1 → InRows pitch f x0 x1 y0 y1 px px 0 y0
rows_start pitch f x0 x1 y0 y1 px h =
    record {
      done = none_down pitch f px (area x0 y0 x1 y0) (omega arith);
      counts = sym (differ_same px);
      few = omega arith;
      long = refl;
      from = omega arith;
      to = h;
    }

-- the row that a turn draws lies within the canvas
pub row_fits : {pitch : ℕ} {f : ℕ → ℕ → ℕ → ℕ} {b : Area} {px₀ px : List ℕ} {n y : ℕ}
    → AreaFits pitch b (length px₀) → InRows pitch f b.x0 b.x1 b.y0 b.y1 px₀ px n y → y < b.y1 → RowFits pitch y b.x0 b.x1 (length px)
row_fits {pitch} {b = b} {px = px} {y = y} r i h =
    record { order = r.across; right = r.right; room = room_of pitch y b.y1 (length px) h (omega arith); wide = r.wide; high = omega arith }

pub rows_next : {pitch : ℕ} {f : ℕ → ℕ → ℕ → ℕ} {x0 x1 y0 y1 : ℕ} {px₀ px qx : List ℕ} {n m y : ℕ}
    → x1 ≤ 2048 → InRows pitch f x0 x1 y0 y1 px₀ px n y → y < y1 → DrewRow pitch y x0 x1 f px m qx → InRows pitch f x0 x1 y0 y1 px₀ qx (n + m) (y + 1)
rows_next {pitch} {f} {x0} {x1} {y0} {y1} {px₀} {px} {qx} {n} {m} {y} w i h d =
    record {
      done = d.paints ∙ rw i.done (rows_join pitch f px₀ x0 x1 y0 y (y + 1) i.from (omega arith));
      counts = omega (arith, sums, i.counts, d.counts);
      few = omega (arith, d.few);
      long = ap length d.paints ∙ length_drawn pitch f px (area x0 y x1 (y + 1)) ∙ i.long;
      from = omega arith;
      to = omega arith;
    }
  where
    sums : differ px₀ qx ≡ differ px₀ px + differ px qx
    sums = rw (d.paints, i.done) (rows_count pitch f px₀ x0 x1 y0 y (y + 1) i.from (omega arith))

pub rows_end : {pitch : ℕ} {f : ℕ → ℕ → ℕ → ℕ} {x0 x1 y0 y1 : ℕ} {px₀ px : List ℕ} {n y : ℕ}
    → y1 ≤ 2048 → InRows pitch f x0 x1 y0 y1 px₀ px n y → y1 ≤ y → DrewIn pitch (area x0 y0 x1 y1) f px₀ n px
rows_end {y1 = y1} {y = y} w i h = let e : y ≡ y1 = omega arith in record { paints = rw e at i.done; counts = i.counts; few = omega arith }
