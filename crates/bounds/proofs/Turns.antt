-- One more turn of the loop over the points. Assumes nothing.
use Rattle.std.proofs.Common.{◌≡◌, ℕ, ◌+◌, ◌*◌, ◌≤◌, List, ◌++◌, length, get_or, drop, sym, ap, ◌∙◌, arith, add-one}
use lib.ListN.{get_or-append}
use lib.Ieee.{Float, nan}
use native.Mathlib.Nat.{add-zero}
use lib.Seq.{drop-drop, drop-append_seam}
use Rattle.std.proofs.lemmas.List.{get_or-drop}
use Rattle.geom.specs.declared.Pt.{Pt}
use Rattle.bounds.specs.declared.Extent.{Extent}
use Rattle.bounds.specs.Bounds.{point_at, widened, extent_of}

module _ (pts : List Float) (n : ℕ) where
  pub extent_more : extent_of pts (n + 1) ≡ widened (extent_of pts n) (point_at pts n)
  unfolding extent_of
  extent_more = ap (λ (k : ℕ). extent_of pts k) (add-one n)

  -- p is the next pair of what is left after n points
  module _ (rest p next : List Float) (e : rest ≡ drop (n * 2) pts) (q : rest ≡ p ++ next) (two : length p ≡ 2) where
    coordinate : (i : ℕ) → i + 1 ≤ 2 → get_or p i nan ≡ get_or pts (n * 2 + i) nan
    coordinate i h = sym (get_or-append p next nan i (omega arith)) ∙ ap (λ (l : List Float). get_or l i nan) (sym q ∙ e) ∙ get_or-drop (n * 2) pts i nan

    pair_at : record { x = get_or p 0 nan; y = get_or p 1 nan } ≡ point_at pts n
    pair_at = rw (coordinate 0 (omega arith), coordinate 1 (omega arith), add-zero)

    pub extent_next : (t : Extent) → t ≡ extent_of pts n → widened t (record { x = get_or p 0 nan; y = get_or p 1 nan }) ≡ extent_of pts (n + 1)
    extent_next t h = ap (λ (a : Pt). widened t a) pair_at ∙ ap (λ (b : Extent). widened b (point_at pts n)) h ∙ sym extent_more

    pub rest_next : next ≡ drop ((n + 1) * 2) pts
    rest_next =
        let m : n * 2 + 2 ≡ (n + 1) * 2 = omega arith in
        let from : drop (length p) rest ≡ next = rw q (drop-append_seam p next) in
        sym from ∙ rw (two, e) (drop-drop 2 (n * 2) pts ∙ rw m)
