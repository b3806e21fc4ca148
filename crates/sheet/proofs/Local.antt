-- The checks of an item read its own bytes alone: what they say of the sheet at its offset they say of those bytes. Assumes nothing.
use Prim.Native.Nat.{ℕ, zero, suc, ◌+◌, ◌*◌, ◌<◌, ◌≤◌}
use mathlib.Core.Path.{◌≡◌, refl, sym, ap, subst, ◌∙◌}
use mathlib.Core.Bool.{Bool, true, not, ◌&&◌, ◌||◌}
use mathlib.Core.List.{List}
use mathlib.Core.Logic.{⊎_elim}
use native.Mathlib.Nat.{mul-suc, zero-add, eq-or-lt_of_le}
use native.Mathlib.Omega.{arith}
use lib.Dec.{eqb}
use lib.ListN.{length, take, drop, length-drop}
use lib.Seq.{length-take-le, get_or-take, get_or-drop}
use borrow.Author.Tests.{eqb-true, eqb-false, ne_eqb}
use Rattle.geom.proofs.Refusals.{passed}
use Rattle.geom.proofs.Bools.{split}
use Rattle.sheet.specs.Bytes.{byte_at, zero_at, float_ok_at, all_at, zeros, floats}
use Rattle.sheet.specs.Kinds.{kind_at, points_at, layout_of, layout_at, paint_layout, length_ok, points_ok, paint_bytes_ok, bytes_ok, paint_floats_ok, width_ok, floats_ok, saved_ok, item_number}
use Rattle.sheet.specs.Check.{offset_of, length_of, bytes_at}
use Rattle.sheet.specs.declared.kinds.Layout.{Layout}
use Rattle.sheet.proofs.Accepted.{AcceptedItem, depth_before, Sized, sized}

-- tests at n places from p on, and from q on, that say the same: at each place x from p on within len, and at x + at
module _ (f g : ℕ → Bool) (at step len : ℕ) (same : (x : ℕ) → x + step ≤ len → f x ≡ g (at + x)) where
  all_shift : (n p q : ℕ) → at + p ≡ q → p + step * n ≤ len → all_at f step p n ≡ all_at g step q n
  unfolding all_at
  all_shift zero p q e h = refl
  all_shift (suc n) p q e h =
      let room : p + step + step * n ≤ len = omega (arith, mul-suc step n) in
      let here : f p ≡ g q = same p (omega arith) ∙ ap g e in
      rw here (ap (λ (t : Bool). g q && t) (all_shift n (p + step) (q + step) (omega arith) room))

-- the fields of an item of a known kind, and its paint, lie within its length
record Room (f : Layout) : Type 0 where
  zero : f.zero + f.zeros ≤ f.length
  float : f.float + 4 * f.floats ≤ f.length
  paint : 1 ≤ f.paint → f.paint + 28 ≤ f.length

-- a number that is m or more, by whether it is m
pub least : {A : Type 0} (m n : ℕ) → m ≤ n → (n ≡ m → A) → (m < n → A) → A
least m n h f g = ⊎_elim (λ q. f (sym q)) g (eq-or-lt_of_le h)

module _ (m : ℕ) where
  room_1 : Room (layout_of 1 m)
  room_1 = record { zero = omega arith; float = omega arith; paint = λ h. omega arith }

  room_2 : Room (layout_of 2 m)
  room_2 = record { zero = omega arith; float = omega arith; paint = λ h. omega arith }

  room_3 : Room (layout_of 3 m)
  room_3 = record { zero = omega arith; float = omega arith; paint = λ h. omega arith }

  room_4 : Room (layout_of 4 m)
  room_4 = record { zero = omega arith; float = omega arith; paint = λ h. omega arith }

  room_5 : Room (layout_of 5 m)
  room_5 = record { zero = omega arith; float = omega arith; paint = λ h. omega arith }

  room_6 : Room (layout_of 6 m)
  room_6 = record { zero = omega arith; float = omega arith; paint = λ h. omega arith }

  room_7 : Room (layout_of 7 m)
  room_7 = record { zero = omega arith; float = omega arith; paint = λ h. omega arith }

  room_8 : Room (layout_of 8 m)
  room_8 = record { zero = omega arith; float = omega arith; paint = λ h. omega arith }

  layout_room : (kind : ℕ) → 1 ≤ kind → kind ≤ 8 → Room (layout_of kind m)
  layout_room kind low high =
      least 1 kind low (λ e. rw e room_1)
      (λ h1. least 2 kind h1 (λ e. rw e room_2)
      (λ h2. least 3 kind h2 (λ e. rw e room_3)
      (λ h3. least 4 kind h3 (λ e. rw e room_4)
      (λ h4. least 5 kind h4 (λ e. rw e room_5)
      (λ h5. least 6 kind h5 (λ e. rw e room_6)
      (λ h6. least 7 kind h6 (λ e. rw e room_7)
      (λ h7. let e : kind ≡ 8 = omega arith in rw e room_8)))))))

-- the zeros and the floats of a paint lie within its 28 bytes
record PaintRoom (f : Layout) : Type 0 where
  zero : f.zero + f.zeros ≤ 28
  float : 12 + 4 * f.floats ≤ 28

paint_room_is : (n : ℕ) → PaintRoom (paint_layout n) → (kind : ℕ) → kind ≡ n → PaintRoom (paint_layout kind)
paint_room_is n r kind e = subst (λ (k : ℕ). PaintRoom (paint_layout k)) (sym e) r

paint_room : (kind : ℕ) → PaintRoom (paint_layout kind)
paint_room kind =
    least 0 kind (omega arith) (paint_room_is 0 (record { zero = omega arith; float = omega arith }) kind)
    (λ h0. least 1 kind h0 (paint_room_is 1 (record { zero = omega arith; float = omega arith }) kind)
    (λ h1. least 2 kind h1 (paint_room_is 2 (record { zero = omega arith; float = omega arith }) kind)
    (λ h2. least 3 kind h2 (paint_room_is 3 (record { zero = omega arith; float = omega arith }) kind)
    (λ h3. rw (ne_eqb kind 0 (λ e. omega arith), ne_eqb kind 1 (λ e. omega arith), ne_eqb kind 2 (λ e. omega arith), ne_eqb kind 3 (λ e. omega arith))
    (record { zero = omega arith; float = omega arith })))))

module _ (s : List ℕ) (at len : ℕ) where
  abbrev own : List ℕ
  own = take len (drop at s)

  byte : (p q : ℕ) → at + p ≡ q → p < len → byte_at own p ≡ byte_at s q
  byte p q e h = get_or-take len (drop at s) p 0 h ∙ get_or-drop at s p 0 ∙ ap (byte_at s) e

  zero_same : (p : ℕ) → p + 1 ≤ len → zero_at own p ≡ zero_at s (at + p)
  zero_same p h = ap (λ (v : ℕ). eqb v 0) (byte p (at + p) refl (omega arith))

  float_same : (p : ℕ) → p + 4 ≤ len → float_ok_at own p ≡ float_ok_at s (at + p)
  float_same p h =
      rw (
        byte p (at + p) refl (omega arith),
        byte (p + 1) (at + p + 1) (omega arith) (omega arith),
        byte (p + 2) (at + p + 2) (omega arith) (omega arith),
        byte (p + 2 + 1) (at + p + 2 + 1) (omega arith) (omega arith),
      )

  zeros_same : (p q n : ℕ) → at + p ≡ q → p + n ≤ len → zeros own p n ≡ zeros s q n
  zeros_same p q n e h = all_shift (zero_at own) (zero_at s) at 1 len zero_same n p q e (omega arith)

  floats_same : (p q n : ℕ) → at + p ≡ q → p + 4 * n ≤ len → floats own p n ≡ floats s q n
  floats_same p q n e h = all_shift (float_ok_at own) (float_ok_at s) at 4 len float_same n p q e h

  -- a paint whose 28 bytes are among them
  paint_bytes : (p q : ℕ) → at + p ≡ q → p + 28 ≤ len → paint_bytes_ok own p ≡ paint_bytes_ok s q
  unfolding paint_bytes_ok
  paint_bytes p q e h =
      let r = paint_room (byte_at s q) in
      rw (
        byte p q e (omega arith),
        zeros_same (p + 1) (q + 1) 3 (omega arith) (omega arith),
        zeros_same (p + (paint_layout (byte_at s q)).zero) (q + (paint_layout (byte_at s q)).zero) (paint_layout (byte_at s q)).zeros (omega arith) (omega (arith, r.zero)),
      )

  paint_floats : (p q : ℕ) → at + p ≡ q → p + 28 ≤ len → paint_floats_ok own p ≡ paint_floats_ok s q
  unfolding paint_floats_ok
  paint_floats p q e h =
      let r = paint_room (byte_at s q) in
      rw (byte p q e (omega arith), floats_same (p + 12) (q + 12) (paint_layout (byte_at s q)).floats (omega arith) (omega (arith, r.float)))

-- ---- an item of four bytes or more

module _ (s : List ℕ) (at len : ℕ) (four : 4 ≤ len) where
  pub kind_own : kind_at (own s at len) 0 ≡ kind_at s at
  kind_own = byte s at len 0 at (omega arith) (omega arith)

  points_own : points_at (own s at len) 0 ≡ points_at s at
  points_own = rw (byte s at len 2 (at + 2) (omega arith) (omega arith), byte s at len 3 (at + 2 + 1) (omega arith) (omega arith))

  layout_own : layout_at (own s at len) 0 ≡ layout_at s at
  unfolding layout_at
  layout_own = rw (kind_own, points_own)

  long_own : length_ok (own s at len) 0 len ≡ length_ok s at len
  unfolding length_ok
  long_own = rw (layout_own, kind_own)

  points_ok_own : points_ok (own s at len) 0 ≡ points_ok s at
  unfolding points_ok
  points_ok_own = rw (kind_own, points_own)

  saved_own : (depth : ℕ) → saved_ok (own s at len) 0 depth ≡ saved_ok s at depth
  unfolding saved_ok
  saved_own depth = rw kind_own

-- ---- an item of its kind's length

module _ (s : List ℕ) (at len : ℕ) (long : length_ok s at len ≡ true) where
  abbrev f : Layout
  f = layout_at s at

  fits : Sized s at len
  fits = sized s at len long

  room : Room f
  unfolding layout_at
  room = layout_room (points_at s at) (kind_at s at) fits.low fits.high

  -- its paint, where it has one
  with_paint : (test : List ℕ → ℕ → Bool) → ((p q : ℕ) → at + p ≡ q → p + 28 ≤ len → test (own s at len) p ≡ test s q)
      → (eqb f.paint 0 || test (own s at len) f.paint) ≡ (eqb f.paint 0 || test s (at + f.paint))
  with_paint test same =
      split (eqb f.paint 0) (λ t. (t || test (own s at len) f.paint) ≡ (t || test s (at + f.paint))) (λ e. refl)
      (λ e. same f.paint (at + f.paint) refl (omega (arith, room.paint (omega (arith, eqb-false f.paint 0 e)), fits.exact)))

  bytes_own : bytes_ok (own s at len) 0 ≡ bytes_ok s at
  unfolding bytes_ok
  bytes_own =
      rw (
        layout_own s at len fits.four,
        kind_own s at len fits.four,
        zero-add f.zero,
        zero-add f.paint,
        zeros_same s at len f.zero (at + f.zero) f.zeros refl (omega (arith, room.zero, fits.exact)),
        byte s at len 1 (at + 1) refl (omega (arith, fits.four)),
        with_paint paint_bytes_ok (paint_bytes s at len),
      )

  -- the width of a chain
  width_own : (not (eqb (kind_at s at) 8) || float_ok_at (own s at len) 4) ≡ width_ok s at
  unfolding layout_at
  width_own =
      split (eqb (kind_at s at) 8) (λ t. (not t || float_ok_at (own s at len) 4) ≡ (not t || float_ok_at s (at + 4)))
      (λ e. let l : len ≡ 12 + 8 * points_at s at = fits.exact ∙ rw (eqb-true (kind_at s at) 8 e) in float_same s at len 4 (omega arith))
      (λ e. refl)

  floats_own : floats_ok (own s at len) 0 ≡ floats_ok s at
  unfolding floats_ok
  floats_own =
      rw (
        layout_own s at len fits.four,
        kind_own s at len fits.four,
        zero-add f.float,
        zero-add f.paint,
        width_own,
        floats_same s at len f.float (at + f.float) f.floats refl (omega (arith, room.float, fits.exact)),
        with_paint paint_floats_ok (paint_floats s at len),
      )

-- ---- an item of an accepted sheet

module _ (s : List ℕ) (k : ℕ) (a : AcceptedItem s k) where
  abbrev at : ℕ
  at = offset_of s k

  abbrev len : ℕ
  len = length_of s k

  pub kind_same : kind_at (bytes_at s k) 0 ≡ kind_at s at
  kind_same = kind_own s at len (fits s at len a.long).four

  pub points_same : points_at (bytes_at s k) 0 ≡ points_at s at
  points_same = points_own s at len (fits s at len a.long).four

  pub bytes_same : bytes_ok (bytes_at s k) 0 ≡ bytes_ok s at
  bytes_same = bytes_own s at len a.long

  pub floats_same_item : floats_ok (bytes_at s k) 0 ≡ floats_ok s at
  floats_same_item = floats_own s at len a.long

  pub length_same : length (bytes_at s k) ≡ len
  length_same = length-take-le len (drop at s) (omega (arith, length-drop at s, a.inside))

  pub four_bytes : 4 ≤ len
  four_bytes = (fits s at len a.long).four

  -- it has no number by its own bytes either
  pub number_same : item_number (bytes_at s k) 0 len (depth_before s k) ≡ 0
  unfolding item_number
  number_same =
      rw (
        long_own s at len four_bytes,
        points_ok_own s at len four_bytes,
        bytes_same,
        floats_same_item,
        saved_own s at len four_bytes (depth_before s k),
        a.long,
        a.points,
        a.bytes,
        a.floats,
        a.saved,
      )

-- ---- an item that has no number by its own bytes has none in the sheet

pub number_own : (s : List ℕ) (at len depth : ℕ) → item_number (own s at len) 0 len depth ≡ 0 → item_number s at len depth ≡ 0
unfolding item_number
number_own s at len depth e =
    let x = own s at len in
    let alone = (passed (length_ok x 0 len) 3 _ e).0 in
    let four = (sized x 0 len alone).four in
    let long : length_ok s at len ≡ true = sym (long_own s at len four) ∙ alone in
    rw (
      ← long_own s at len four,
      ← points_ok_own s at len four,
      ← bytes_own s at len long,
      ← floats_own s at len long,
      ← saved_own s at len four depth,
    ) e
