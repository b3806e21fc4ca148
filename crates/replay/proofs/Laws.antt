-- From the contracts of `paint` and `patch` to the fold that `replay` is, and what px shows along it. Assumes nothing.
use mathlib.Core.Bool.{true, false, cond}
use mathlib.Core.List.{List, [], ◌∷◌}
use mathlib.Core.Path.{◌≡◌, refl, sym, ap, ◌∙◌}
use Prim.Native.Nat.{ℕ, ◌+◌, ◌-◌, ◌≤◌, ◌<◌, min}
use native.Mathlib.Omega.{arith}
use native.Mathlib.Nat.{sub-zero}
use native.Mathlib.Numerals.{add-one}
use lib.Ieee.{Float}
use lib.ListN.{length, get_or, take, drop, length-drop, drop_of_length-le}
use lib.Seq.{drop-cons, drop-drop, take_all}
use lib.Dec.{leb}
use borrow.Author.Tests.{leb-true, leb-false}
use Rattle.geom.proofs.Bools.{split}
use Rattle.redraw.specs.declared.Answer.{Answer}
use Rattle.redraw.specs.declared.Reply.{Reply}
use Rattle.redraw.specs.Sheet.{Outcome, painting, accepted}
use Rattle.redraw.specs.Calls.{Shown, Call, Does, Painted, Patched, kept_after}
use Rattle.redraw.proofs.Lists.{Numbered, zero_accepted, other_refused, patch_numbered, paint_numbered, length_pixels, length_cleared, patch_enough, shown_first, shown_after}
use Rattle.items.specs.Format.{kind, format, zero_word}
use Rattle.items.proofs.Lawful.{lawful}
use Rattle.replay.specs.declared.Replayed.{Replayed}
use Rattle.replay.specs.Ran.{part, cut, Stand, stands, begun, next, run, replayed, Shows, standing, Ran}

-- ---- a sheet of n bytes that begins at a place, or what there is of it

module _ (sheets : List ℕ) (at n end : ℕ) (e : end ≡ at + min n (length sheets - at)) (h : at ≤ length sheets) where
  pub there : part at end sheets ≡ take n (drop at sheets)
  there = split (leb n (length sheets - at)) (λ t. part at end sheets ≡ take n (drop at sheets)) whole short
    where
      whole : leb n (length sheets - at) ≡ true → part at end sheets ≡ take n (drop at sheets)
      whole t =
          let k = leb-true n (length sheets - at) t in
          let p : end - at ≡ n = omega arith in
          rw p

      short : leb n (length sheets - at) ≡ false → part at end sheets ≡ take n (drop at sheets)
      short t =
          let k = leb-false n (length sheets - at) t in
          take_all (end - at) (drop at sheets) (simp length-drop (omega arith)) ∙ sym (take_all n (drop at sheets) (simp length-drop (omega arith)))

  pub beyond : drop end sheets ≡ drop n (drop at sheets)
  beyond = split (leb n (length sheets - at)) (λ t. drop end sheets ≡ drop n (drop at sheets)) whole short
    where
      whole : leb n (length sheets - at) ≡ true → drop end sheets ≡ drop n (drop at sheets)
      whole t =
          let k = leb-true n (length sheets - at) t in
          let p : end ≡ at + n = omega arith in
          rw (p, drop-drop)

      short : leb n (length sheets - at) ≡ false → drop end sheets ≡ drop n (drop at sheets)
      short t =
          let k = leb-false n (length sheets - at) t in
          let a : length sheets ≤ end = omega arith in
          let b : length (drop at sheets) ≤ n = simp length-drop (omega arith) in
          drop_of_length-le sheets a ∙ sym (drop_of_length-le (drop at sheets) b)

-- ---- a call that meets its contract stands as the fold says

module _ (sheets : List ℕ) (pitch : ℕ) (px : List ℕ) (scratch : List Float) (px' : List ℕ) (scratch' : List Float)
    (o : Outcome kind.Shape) (sheet kept : List ℕ) (from to : ℕ) (a : Reply)
    (did : Does zero_word format pitch o px scratch a px' scratch') where
  abbrev r : Replayed
  r = record { reply = a; from = from; to = to }

  stand_is : part from to sheets ≡ cond (accepted o) sheet kept
      → standing sheets r px' scratch' ≡ stands zero_word format pitch o sheet kept px scratch
  unfolding standing stands
  stand_is e = rw (e, did.answers, did.steps, did.grounds, did.paints, did.clears)

  -- by the number returned: the sheet of an accepted call is kept, after a refused one the sheet of before
  pub stands_new : Numbered o → a.answer.number ≡ 0 → part from to sheets ≡ sheet
      → standing sheets r px' scratch' ≡ stands zero_word format pitch o sheet kept px scratch
  stands_new n z e =
      let yes = zero_accepted o n (ap (λ (b : Answer). b.number) (sym did.answers) ∙ z) in
      stand_is (e ∙ rw yes)

  pub stands_old : (a.answer.number ≡ 0 → ⊥) → part from to sheets ≡ kept
      → standing sheets r px' scratch' ≡ stands zero_word format pitch o sheet kept px scratch
  stands_old z e =
      let no = other_refused o (λ q. z (ap (λ (b : Answer). b.number) did.answers ∙ q)) in
      stand_is (e ∙ rw no)

-- ---- `advance`

module _ (sheets : List ℕ) (kept : Replayed) (at end pitch : ℕ) (px : List ℕ) (scratch : List Float) (a : Reply) (px' : List ℕ) (scratch' : List Float)
    (did : Patched zero_word format (part kept.from kept.to sheets) (part at end sheets) pitch px scratch a px' scratch') where
  abbrev said : Stand Float
  said = next zero_word format pitch (standing sheets kept px scratch) (part at end sheets)

  pub advanced_new : at ≤ end → end ≤ length sheets → a.answer.number ≡ 0 → Ran sheets said (record { reply = a; from = at; to = end }) px' scratch'
  unfolding next standing
  advanced_new h k z = record {
    ordered = h;
    within = k;
    is = stands_new sheets pitch px scratch px' scratch' _ (part at end sheets) (part kept.from kept.to sheets) at end a did
        (patch_numbered format lawful (part kept.from kept.to sheets) (part at end sheets) pitch (length px) (length scratch)) z refl;
  }

  pub advanced_old : kept.from ≤ kept.to → kept.to ≤ length sheets → (a.answer.number ≡ 0 → ⊥)
      → Ran sheets said (record { reply = a; from = kept.from; to = kept.to }) px' scratch'
  unfolding next standing
  advanced_old h k z = record {
    ordered = h;
    within = k;
    is = stands_old sheets pitch px scratch px' scratch' _ (part at end sheets) (part kept.from kept.to sheets) kept.from kept.to a did z refl;
  }

-- px and scratch keep their lengths
module _ (sheets : List ℕ) (pitch : ℕ) (s : Replayed) (at end : ℕ) (px : List ℕ) (scratch : List Float) (r : Replayed) (px' : List ℕ) (scratch' : List Float)
    (a : Ran sheets (next zero_word format pitch (standing sheets s px scratch) (part at end sheets)) r px' scratch') where
  px_stays : length px' ≡ length px
  unfolding standing next stands
  px_stays = ap (λ (t : Stand Float). length t.px) a.is ∙ length_pixels kind pitch _ px

  scratch_stays : length scratch' ≡ length scratch
  unfolding standing next stands
  scratch_stays =
      ap (λ (t : Stand Float). length t.scratch) a.is
      ∙ length_cleared zero_word format _ scratch (patch_enough zero_word format (part s.from s.to sheets) (part at end sheets) pitch (length px) (length scratch))

-- ---- the loop of `patches`

module _ (sheets lens : List ℕ) (s₀ : Replayed) (at₀ pitch : ℕ) (px₀ : List ℕ) (scratch₀ : List Float) where
  abbrev all : Stand Float
  all = run zero_word format pitch (standing sheets s₀ px₀ scratch₀) (cut lens (drop at₀ sheets))

  -- what is left to do, done from here, gives what doing all gives from the start
  pub record Running (s : Replayed) (at k : ℕ) (px : List ℕ) (scratch : List Float) : Type 0 where
    pub k_in : k ≤ length lens
    pub at_in : at ≤ length sheets
    pub ordered : s.from ≤ s.to
    pub within : s.to ≤ length sheets
    pub px_long : length px ≡ length px₀
    pub scratch_long : length scratch ≡ length scratch₀
    pub is : run zero_word format pitch (standing sheets s px scratch) (cut (drop k lens) (drop at sheets)) ≡ all

  pub running_first : s₀.from ≤ s₀.to → s₀.to ≤ length sheets → at₀ ≤ length sheets → Running s₀ at₀ 0 px₀ scratch₀
  running_first h k a = record { k_in = omega arith; at_in = a; ordered = h; within = k; px_long = refl; scratch_long = refl; is = refl }

  pub running_done : (s : Replayed) (at k : ℕ) (px : List ℕ) (scratch : List Float) → Running s at k px scratch → length lens ≤ k
      → Ran sheets all s px scratch
  unfolding run cut
  running_done s at k px scratch i h = record {
    ordered = i.ordered;
    within = i.within;
    is = rw (drop_of_length-le lens h) at i.is;
  }

  pub running_next : (s : Replayed) (at k : ℕ) (px : List ℕ) (scratch : List Float) (end : ℕ) (r : Replayed) (px' : List ℕ) (scratch' : List Float)
      → Running s at k px scratch → k < length lens → end ≡ at + min (get_or lens k 0) (length sheets - at)
      → Ran sheets (next zero_word format pitch (standing sheets s px scratch) (part at end sheets)) r px' scratch'
      → Running r end (k + 1) px' scratch'
  unfolding run cut
  running_next s at k px scratch end r px' scratch' i h e a =
      let n = get_or lens k 0 in
      let c : cut (drop k lens) (drop at sheets) ≡ take n (drop at sheets) ∷ cut (drop (k + 1) lens) (drop n (drop at sheets)) =
      rw (drop-cons lens k 0 h, cut, add-one) in
      record {
        k_in = omega arith;
        at_in = omega (arith, i.at_in, e);
        ordered = a.ordered;
        within = a.within;
        px_long = px_stays sheets pitch s at end px scratch r px' scratch' a ∙ i.px_long;
        scratch_long = scratch_stays sheets pitch s at end px scratch r px' scratch' a ∙ i.scratch_long;
        is = rw (a.is, there sheets at n end e i.at_in, beyond sheets at n end e i.at_in) (rw c at i.is);
      }

-- ---- `replay`: a painting, and where it is accepted the loop

module _ (sheets : List ℕ) (first end : ℕ) (e : end ≡ 0 + min first (length sheets - 0)) (lens : List ℕ) (pitch : ℕ) (px : List ℕ) (scratch : List Float)
    (a : Reply) (px₁ : List ℕ) (scratch₁ : List Float) (painted : Painted zero_word format (take end sheets) pitch px scratch a px₁ scratch₁) where
  abbrev o : Outcome kind.Shape
  o = painting format (take first sheets) pitch (length px) (length scratch)

  abbrev asked : Stand Float
  asked = replayed zero_word format pitch (take first sheets) (cut lens (drop first sheets)) px scratch

  whole : part 0 end sheets ≡ take first sheets
  whole = there sheets 0 first end e (omega arith)

  did : Painted zero_word format (take first sheets) pitch px scratch a px₁ scratch₁
  did = rw (← whole, sub-zero) painted

  numbered : Numbered o
  numbered = paint_numbered format lawful (take first sheets) pitch (length px) (length scratch)

  pub replayed_refused : (a.answer.number ≡ 0 → ⊥) → Ran sheets asked (record { reply = a; from = 0; to = 0 }) px₁ scratch₁
  unfolding replayed begun
  replayed_refused z =
      let no = other_refused o (λ q. z (ap (λ (b : Answer). b.number) did.answers ∙ q)) in
      record {
        ordered = omega arith;
        within = omega arith;
        is = stands_old sheets pitch px scratch px₁ scratch₁ o (take first sheets) [] 0 0 a did z refl ∙ rw no;
      }

  pub replayed_run : a.answer.number ≡ 0 → (r : Replayed) (px₂ : List ℕ) (scratch₂ : List Float)
      → Ran sheets (run zero_word format pitch (standing sheets (record { reply = a; from = 0; to = end }) px₁ scratch₁) (cut lens (drop end sheets))) r px₂ scratch₂
      → Ran sheets asked r px₂ scratch₂
  unfolding replayed begun
  replayed_run z r px₂ scratch₂ ran =
      let yes = zero_accepted o numbered (ap (λ (b : Answer). b.number) (sym did.answers) ∙ z) in
      let s = stands_new sheets pitch px scratch px₁ scratch₁ o (take first sheets) [] 0 end a did numbered z whole in
      let d = beyond sheets 0 first end e (omega arith) in
      record { ordered = ran.ordered; within = ran.within; is = rw (s, d) at ran.is ∙ rw yes }

-- ---- px along the fold

module _ (pitch : ℕ) (before : List ℕ) where
  next_shows : (s : Stand Float) (sheet : List ℕ) → Shown format pitch before s.kept s.px
      → Shown format pitch before (next zero_word format pitch s sheet).kept (next zero_word format pitch s sheet).px
  unfolding next stands kept_after
  next_shows s sheet h =
      let t = next zero_word format pitch s sheet in
      let c : Call Float = record { pitch = pitch; sheet = sheet; scratch = s.scratch; answered = t.reply; px_left = t.px; scratch_left = t.scratch } in
      shown_after zero_word format lawful pitch before s.kept s.px c
      (record { answers = refl; steps = refl; grounds = refl; paints = refl; clears = refl }) h

  run_shows : (s : Stand Float) (others : List (List ℕ)) → Shown format pitch before s.kept s.px
      → Shown format pitch before (run zero_word format pitch s others).kept (run zero_word format pitch s others).px
  unfolding run
  run_shows s [] h = h
  run_shows s (b ∷ bs) h = run_shows (next zero_word format pitch s b) bs (next_shows s b h)

begun_shows : (pitch : ℕ) (first px : List ℕ) (scratch : List Float) → accepted (painting format first pitch (length px) (length scratch)) ≡ true
    → Shown format pitch px (begun zero_word format pitch first px scratch).kept (begun zero_word format pitch first px scratch).px
unfolding begun stands
begun_shows pitch first px scratch accepts =
    let s = begun zero_word format pitch first px scratch in
    let d : Painted zero_word format first pitch px scratch s.reply s.px s.scratch =
    record { answers = refl; steps = refl; grounds = refl; paints = refl; clears = refl } in
    rw accepts (shown_first zero_word format lawful first pitch px scratch s.reply s.px s.scratch d accepts)

pub shows : (pitch : ℕ) → Shows zero_word format pitch
unfolding replayed
shows pitch first others px scratch accepts =
    rw accepts (run_shows pitch px (begun zero_word format pitch first px scratch) others (begun_shows pitch first px scratch accepts))
