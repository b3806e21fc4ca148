-- The laws of boxes: a pixel is in a cut where it is in both boxes, a cut that is not empty lies within both, and `hull` is the smallest box
-- around its list (`join_smallest`, of any list that has boxes). Assumes nothing.
use mathlib.Core.Bool.{Bool, true, false, cond, ◌&&◌, ◌||◌}
use mathlib.Core.List.{List, [], ◌∷◌}
use mathlib.Core.Logic.{◌⊎◌, inl, inr}
use Prim.Native.Nat.{ℕ, ◌<◌, ◌≤◌}
use lib.Dec.{leb, ltb}
use mathlib.Core.Path.{◌≡◌, refl, sym, ◌∙◌}
use lib.IntN.{ℤ, pos, pred_ℤ}
use lib.Signed.{le_z, lt_z}
use Rattle.geom.specs.declared.IRect.{IRect}
use Rattle.geom.specs.Int.{up, max_z, min_z}
use Rattle.geom.proofs.Int.{order_z, pred_down, down_none, le_up, lt_up, max_left, max_right, max_by, max_twice, max_assoc, min_left, min_right, min_by, min_twice, min_assoc}
use Rattle.geom.proofs.Bools.{and_left, and_right, and_both, or_false, same_test, split}
use Rattle.geom.specs.Box.{box_of, inside, meet, empty, no_box, around, join, join_all, hull, Holds, in_any, HoldsAll, SmallestAll, HoldsEach, Smallest}

-- ---- a pixel inside

pub record In (b : IRect) (x y : ℤ) : Type 0 where
  pub left : le_z b.x0 x ≡ true
  pub right : lt_z x b.x1 ≡ true
  pub top : le_z b.y0 y ≡ true
  pub bottom : lt_z y b.y1 ≡ true

pub in_of : (b : IRect) (x y : ℤ) → inside b x y ≡ true → In b x y
unfolding inside
in_of b x y e =
    let l = le_z b.x0 x in
    let r = lt_z x b.x1 in
    let t = le_z b.y0 y in
    let d = lt_z y b.y1 in
    let h = and_left (l && r) (t && d) e in
    let v = and_right (l && r) (t && d) e in
    record { left = and_left l r h; right = and_right l r h; top = and_left t d v; bottom = and_right t d v }

pub inside_of : (b : IRect) (x y : ℤ) → In b x y → inside b x y ≡ true
unfolding inside
inside_of b x y i = and_both (and_both i.left i.right) (and_both i.top i.bottom)

-- the pixel in column x and row y, by tests of naturals
pub in_pixel : (b : IRect) (x y : ℕ) →
    inside b (pos x) (pos y) ≡ (leb (up b.x0) x && ltb x (up b.x1)) && (leb (up b.y0) y && ltb y (up b.y1))
unfolding inside
in_pixel b x y = rw (le_up b.x0 x, lt_up x b.x1, le_up b.y0 y, lt_up y b.y1)

-- an empty box has no pixel
pub in_empty : (b : IRect) (x y : ℤ) → empty b ≡ true → inside b x y ≡ false
unfolding empty
in_empty b x y e = same_test (inside b x y) false there (λ z. cc)
  where
    there : inside b x y ≡ true → false ≡ true
    there k =
        let i = in_of b x y k in
        let f : le_z b.x1 b.x0 ≡ false = omega order_z in
        let g : le_z b.y1 b.y0 ≡ false = omega order_z in
        rw (f, g) at e

pub in_no_box : (x y : ℤ) → inside no_box x y ≡ false
unfolding no_box empty
in_no_box x y = in_empty no_box x y refl

-- ---- the cut of two boxes

below_max : (x m k : ℤ) → le_z k x ≡ true → lt_z x (max_z m k) ≡ true → lt_z x m ≡ true
below_max x m k h = max_by (λ (z : ℤ). lt_z x z ≡ true → lt_z x m ≡ true) m k (λ t. t) (λ t. omega order_z)

-- a half-open range cut by another, as `meet` has it on each axis
range_both : (x a b c d : ℤ) → le_z (max_z a b) x ≡ true → lt_z x (max_z (min_z c d) (max_z a b)) ≡ true
    → (le_z a x ≡ true) × (le_z b x ≡ true) × (lt_z x c ≡ true) × (lt_z x d ≡ true)
range_both x a b c d h k =
    let m = below_max x (min_z c d) (max_z a b) h k in
    omega (order_z, max_left a b, max_right a b, min_left c d, min_right c d)

range_cut : (x a b c d : ℤ) → le_z a x ≡ true → le_z b x ≡ true → lt_z x c ≡ true → lt_z x d ≡ true
    → (le_z (max_z a b) x ≡ true) × (lt_z x (max_z (min_z c d) (max_z a b)) ≡ true)
range_cut x a b c d p q r s =
    let l = max_by (λ (z : ℤ). le_z z x ≡ true) a b p q in
    let m = min_by (λ (z : ℤ). lt_z x z ≡ true) c d r s in
    (l, omega (order_z, max_left (min_z c d) (max_z a b)))

pub in_meet : (a b : IRect) (x y : ℤ) → inside (meet a b) x y ≡ inside a x y && inside b x y
unfolding meet
in_meet a b x y = same_test (inside (meet a b) x y) (inside a x y && inside b x y) there back
  where
    there : inside (meet a b) x y ≡ true → inside a x y && inside b x y ≡ true
    there e =
        let i = in_of (meet a b) x y e in
        let h = range_both x a.x0 b.x0 a.x1 b.x1 i.left i.right in
        let v = range_both y a.y0 b.y0 a.y1 b.y1 i.top i.bottom in
        and_both (inside_of a x y (omega order_z)) (inside_of b x y (omega order_z))

    back : inside a x y && inside b x y ≡ true → inside (meet a b) x y ≡ true
    back e =
        let i = in_of a x y (and_left (inside a x y) (inside b x y) e) in
        let j = in_of b x y (and_right (inside a x y) (inside b x y) e) in
        let h = range_cut x a.x0 b.x0 a.x1 b.x1 i.left j.left i.right j.right in
        let v = range_cut y a.y0 b.y0 a.y1 b.y1 i.top j.top i.bottom j.bottom in
        inside_of (meet a b) x y (omega order_z)

-- ---- a box that is not empty

-- a box that is not empty, and lies in `big` with all its edges
pub record Within (big small : IRect) : Type 0 where
  pub left : le_z big.x0 small.x0 ≡ true
  pub wide : lt_z small.x0 small.x1 ≡ true
  pub right : le_z small.x1 big.x1 ≡ true
  pub top : le_z big.y0 small.y0 ≡ true
  pub tall : lt_z small.y0 small.y1 ≡ true
  pub bottom : le_z small.y1 big.y1 ≡ true

-- a box that is not empty has its corners: the first pixel, and the last
module _ (b : IRect) (full : empty b ≡ false) where
  wide : (lt_z b.x0 b.x1 ≡ true) × (lt_z b.y0 b.y1 ≡ true)
  unfolding empty
  wide =
      let p = or_false (le_z b.x1 b.x0) (le_z b.y1 b.y0) full in
      let l = p.0 in
      let r = p.1 in
      omega order_z

  pub first_in : inside b b.x0 b.y0 ≡ true
  first_in = let w = wide in inside_of b b.x0 b.y0 (omega order_z)

  pub last_in : inside b (pred_ℤ b.x1) (pred_ℤ b.y1) ≡ true
  last_in =
      let w = wide in
      inside_of b (pred_ℤ b.x1) (pred_ℤ b.y1) (omega (order_z, pred_down b.x1, pred_down b.y1))

  -- a box that holds this one has its edges
  pub edges : (big : IRect) → Holds big b → Within big b
  edges big h =
      let w = wide in
      let i = in_of big b.x0 b.y0 (h.holds b.x0 b.y0 first_in) in
      let j = in_of big (pred_ℤ b.x1) (pred_ℤ b.y1) (h.holds (pred_ℤ b.x1) (pred_ℤ b.y1) last_in) in
      omega (order_z, pred_down b.x1, pred_down b.y1)

-- a box that holds one that is not empty is not empty
pub holds_full : (big small : IRect) → Holds big small → empty small ≡ false → empty big ≡ false
holds_full big small h e = split (empty big) (λ t. t ≡ false) there (λ f. refl)
  where
    there : empty big ≡ true → true ≡ false
    there f = sym (h.holds small.x0 small.y0 (first_in small e)) ∙ in_empty big small.x0 small.y0 f

-- ---- what a cut leaves

pub meet_left : (a b : IRect) → Holds a (meet a b)
meet_left a b = record { holds = λ x y e. and_left (inside a x y) (inside b x y) (sym (in_meet a b x y) ∙ e) }

pub meet_right : (a b : IRect) → Holds b (meet a b)
meet_right a b = record { holds = λ x y e. and_right (inside a x y) (inside b x y) (sym (in_meet a b x y) ∙ e) }

-- where it is not empty, it lies within both
pub cut_in : (a b : IRect) → empty (meet a b) ≡ false → Within a (meet a b) × Within b (meet a b)
cut_in a b e = (edges (meet a b) e a (meet_left a b), edges (meet a b) e b (meet_right a b))

-- a cut by the same box again leaves what it was
range_twice : (c d k : ℤ) → max_z (min_z c (max_z (min_z c d) k)) k ≡ max_z (min_z c d) k
unfolding max_z
range_twice c d k =
    split (le_z (min_z c d) k) (λ t. max_z (min_z c (cond t k (min_z c d))) k ≡ cond t k (min_z c d)) (λ e. rw (min_right c k)) (λ e. rw (min_twice c d, e))

pub meet_twice : (a b : IRect) → meet a (meet a b) ≡ meet a b
unfolding meet
meet_twice a b =
    rw (max_twice a.x0 b.x0, max_twice a.y0 b.y0, range_twice a.x1 b.x1 (max_z a.x0 b.x0), range_twice a.y1 b.y1 (max_z a.y0 b.y0))

pub meet_empty : (a b : IRect) → empty a ≡ true → empty (meet a b) ≡ true
meet_empty a b e =
    split (empty (meet a b)) (λ t. t ≡ true) (λ f. refl) (λ f. sym (holds_full a (meet a b) (meet_left a b) f) ∙ e)

-- a box that is empty or lies within `frame` is so when it is cut
pub meet_within : (frame a b : IRect) → (empty a ≡ true) ⊎ Within frame a → (empty (meet a b) ≡ true) ⊎ Within frame (meet a b)
meet_within frame a b (inl e) = inl (meet_empty a b e)
meet_within frame a b (inr w) =
    split (empty (meet a b)) (λ t. (t ≡ true) ⊎ Within frame (meet a b)) (λ e. inl refl)
    (λ e. let l = (cut_in a b e).0 in inr (omega order_z))

-- a box within the first w columns and h rows, by naturals
pub within_nat : (w h : ℕ) (b : IRect) → Within (box_of (pos 0) (pos 0) (pos w) (pos h)) b
    → (up b.x0 < up b.x1) × (up b.x1 ≤ w) × (up b.y0 < up b.y1) × (up b.y1 ≤ h)
within_nat w h b i =
    let p = down_none b.x0 i.left in
    let q = down_none b.y0 i.top in
    let r = down_none b.x1 (omega order_z) in
    let s = down_none b.y1 (omega order_z) in
    omega order_z

-- ---- the smallest box

holds_self : (b : IRect) → Holds b b
holds_self b = record { holds = λ x y e. e }

pub holds_trans : {a b c : IRect} → Holds a b → Holds b c → Holds a c
holds_trans h k = record { holds = λ x y e. h.holds x y (k.holds x y e) }

pub holds_empty : (big small : IRect) → empty small ≡ true → Holds big small
holds_empty big small e = record { holds = λ x y i. let o = in_empty small x y e in cc }

around_left : (a b : IRect) → Holds (around a b) a
unfolding around
around_left a b = record { holds = within }
  where
    within : (x y : ℤ) → inside a x y ≡ true → inside (around a b) x y ≡ true
    within x y e =
        let i = in_of a x y e in
        inside_of (around a b) x y
        (omega (order_z, min_left a.x0 b.x0, min_left a.y0 b.y0, max_left a.x1 b.x1, max_left a.y1 b.y1))

around_right : (a b : IRect) → Holds (around a b) b
unfolding around
around_right a b = record { holds = within }
  where
    within : (x y : ℤ) → inside b x y ≡ true → inside (around a b) x y ≡ true
    within x y e =
        let i = in_of b x y e in
        inside_of (around a b) x y
        (omega (order_z, min_right a.x0 b.x0, min_right a.y0 b.y0, max_right a.x1 b.x1, max_right a.y1 b.y1))

pub join_left : (a b : IRect) → Holds (join a b) a
unfolding join
join_left a b = go (empty a) (empty b) refl
  where
    go : (s t : Bool) → empty a ≡ s → Holds (cond s b (cond t a (around a b))) a
    go true t p = holds_empty b a p
    go false true p = holds_self a
    go false false p = around_left a b

pub join_right : (a b : IRect) → Holds (join a b) b
unfolding join
join_right a b = go (empty a) (empty b) refl
  where
    go : (s t : Bool) → empty b ≡ t → Holds (cond s b (cond t a (around a b))) b
    go true t p = holds_self b
    go false true p = holds_empty a b p
    go false false p = around_right a b

-- a box that holds two that are not empty holds the box around them
holds_around : (big a b : IRect) → empty a ≡ false → empty b ≡ false → Holds big a → Holds big b → Holds big (around a b)
unfolding around
holds_around big a b p q h k = record { holds = within }
  where
    e : Within big a
    e = edges a p big h

    f : Within big b
    f = edges b q big k

    l : le_z big.x0 (min_z a.x0 b.x0) ≡ true
    l = min_by (λ (z : ℤ). le_z big.x0 z ≡ true) a.x0 b.x0 e.left f.left

    t : le_z big.y0 (min_z a.y0 b.y0) ≡ true
    t = min_by (λ (z : ℤ). le_z big.y0 z ≡ true) a.y0 b.y0 e.top f.top

    r : le_z (max_z a.x1 b.x1) big.x1 ≡ true
    r = max_by (λ (z : ℤ). le_z z big.x1 ≡ true) a.x1 b.x1 e.right f.right

    d : le_z (max_z a.y1 b.y1) big.y1 ≡ true
    d = max_by (λ (z : ℤ). le_z z big.y1 ≡ true) a.y1 b.y1 e.bottom f.bottom

    within : (x y : ℤ) → inside (around a b) x y ≡ true → inside big x y ≡ true
    within x y i = let j = in_of (around a b) x y i in inside_of big x y (omega (order_z, l, t, r, d))

pub holds_join : (big a b : IRect) → Holds big a → Holds big b → Holds big (join a b)
unfolding join
holds_join big a b h k = go (empty a) (empty b) refl refl
  where
    go : (s t : Bool) → empty a ≡ s → empty b ≡ t → Holds big (cond s b (cond t a (around a b)))
    go true t p q = k
    go false true p q = h
    go false false p q = holds_around big a b p q h k

pub empty_join : (a b : IRect) → empty (join a b) ≡ true → join a b ≡ b
unfolding join
empty_join a b = go (empty a) (empty b) refl refl
  where
    go : (s t : Bool) → empty a ≡ s → empty b ≡ t → empty (cond s b (cond t a (around a b))) ≡ true → cond s b (cond t a (around a b)) ≡ b
    go true t p q e = refl
    go false true p q e = let z : true ≡ false = cc in cc
    go false false p q e = let f = holds_full (around a b) a (around_left a b) p in let z : true ≡ false = cc in cc

-- the smallest box around three, whichever two are joined first
around_assoc : (a b c : IRect) → around (around a b) c ≡ around a (around b c)
unfolding around
around_assoc a b c =
    rw (min_assoc a.x0 b.x0 c.x0, min_assoc a.y0 b.y0 c.y0, max_assoc a.x1 b.x1 c.x1, max_assoc a.y1 b.y1 c.y1)

pub join_assoc : (a b c : IRect) → join (join a b) c ≡ join a (join b c)
unfolding join
join_assoc a b c = go (empty a) (empty b) (empty c) refl refl refl
  where
    full : (a b : IRect) → empty a ≡ false → empty (around a b) ≡ false
    full a b p = holds_full (around a b) a (around_left a b) p

    go : (s t u : Bool) → empty a ≡ s → empty b ≡ t → empty c ≡ u
        → cond (empty (cond s b (cond t a (around a b)))) c (cond u (cond s b (cond t a (around a b))) (around (cond s b (cond t a (around a b))) c))
        ≡ cond s (cond t c (cond u b (around b c))) (cond (empty (cond t c (cond u b (around b c)))) a (around a (cond t c (cond u b (around b c)))))
    go true t u p q r = rw q
    go false true u p q r = rw (p, r)
    go false false true p q r = rw (full a b p, q)
    go false false false p q r = rw (full a b p, full b c q) (around_assoc a b c)

pub join_none : (b : IRect) → join no_box b ≡ b
unfolding join no_box empty
join_none b = refl

-- the smallest box around those that f gives of a list
module _ {A : Type 0} (f : A → IRect) where
  all_wider : (large small : IRect) (l : List A) → Holds large small → HoldsAll small f l → HoldsAll large f l
  unfolding HoldsAll
  all_wider large small [] h e = tt
  all_wider large small (a ∷ l) h e = (holds_trans h e.0, all_wider large small l h e.1)

  join_around : (l : List A) → HoldsAll (join_all f l) f l
  unfolding join_all HoldsAll
  join_around [] = tt
  join_around (a ∷ l) = (join_left (f a) (join_all f l), all_wider _ _ l (join_right (f a) (join_all f l)) (join_around l))

  join_least : (l : List A) (big : IRect) → HoldsAll big f l → Holds big (join_all f l)
  unfolding join_all HoldsAll no_box empty
  join_least [] big h = holds_empty big no_box refl
  join_least (a ∷ l) big h = holds_join big (f a) (join_all f l) h.0 (join_least l big h.1)

  join_empty : (l : List A) → empty (join_all f l) ≡ true → join_all f l ≡ no_box
  unfolding join_all
  join_empty [] e = refl
  join_empty (a ∷ l) e = let j = empty_join (f a) (join_all f l) e in j ∙ join_empty l (rw j at e)

  pub join_smallest : (l : List A) → SmallestAll f l (join_all f l)
  join_smallest l = record { around = join_around l; least = join_least l; none = join_empty l }

pub hull_smallest : (frame : IRect) (bs : List IRect) → Smallest frame bs (hull frame bs)
hull_smallest frame bs = join_smallest (meet frame) bs

-- a pixel of the frame that lies in one of the boxes lies in a box that holds them
pub held_any : (big frame : IRect) (bs : List IRect) → HoldsEach big frame bs
    → (x y : ℤ) → inside frame x y ≡ true → in_any bs x y ≡ true → inside big x y ≡ true
unfolding in_any HoldsAll
held_any big frame [] h x y f e = let z : true ≡ false = cc in cc
held_any big frame (b ∷ bs) h x y f e = go (inside b x y) refl e (held_any big frame bs h.1 x y f)
  where
    go : (t : Bool) → inside b x y ≡ t → t || in_any bs x y ≡ true
        → (in_any bs x y ≡ true → inside big x y ≡ true) → inside big x y ≡ true
    go true p k rest = h.0.holds x y (in_meet frame b x y ∙ and_both f p)
    go false p k rest = rest k

-- the smallest box lies in the frame
each_in_frame : (frame : IRect) (bs : List IRect) → HoldsEach frame frame bs
unfolding HoldsAll
each_in_frame frame [] = tt
each_in_frame frame (b ∷ bs) = (meet_left frame b, each_in_frame frame bs)

pub hull_in_frame : (frame : IRect) (bs : List IRect) → Holds frame (hull frame bs)
hull_in_frame frame bs = (hull_smallest frame bs).least frame (each_in_frame frame bs)

pub out_of_hull : (frame : IRect) (bs : List IRect) (x y : ℤ) → inside frame x y ≡ false → inside (hull frame bs) x y ≡ false
out_of_hull frame bs x y o = same_test _ false (λ e. let h = (hull_in_frame frame bs).holds x y e in cc) (λ z. cc)
