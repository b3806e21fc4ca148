-- Demand 3: lists of patch calls that follow an accepted painting.
-- `Painted` and `Patched` are the contracts of `paint` and `patch`; `Follow` says that a list of calls is such a list, each on
-- what the one before left; `Always` says what is claimed of it, after the painting and after each call.
use Rattle.std.specs.Prelude.{true, false, cond, List, [], ◌∷◌, ◌≡◌, ℕ, ◌+◌, ◌*◌, ◌/◌, ◌%◌, ◌≤◌, ◌<◌, eqb, pos, length, get_or}
use Rattle.redraw.specs.declared.Reply.{Reply}
use Rattle.geom.specs.Box.{inside, Smallest}
use Rattle.redraw.specs.Counts.{steps_of, grounds_of, fresh_steps}
use Rattle.redraw.specs.Sheet.{Format, Sheet, read, Pair, shapes, change_in, reaches, Outcome, canvas, painting, patching}
use Rattle.redraw.specs.Sheet.{refusal, answer, pixels, cleared, accepted, fresh}

module _ (F : Format) where
  -- in rows of `pitch` words, the words of px inside the canvas are the fresh painting of the sheet that some bytes hold, and the
  -- others are those of `before`
  pub record Shown (pitch : ℕ) (before sheet px : List ℕ) : Type 0 where
    pub held : Sheet F.kind.Shape
    pub reads : F.reading sheet ≡ read held
    pub room : held.w ≤ pitch
    pub long : length px ≡ pitch * held.h
    pub fresh_words : (i : ℕ) → i < length px → inside (canvas held) (pos (i % pitch)) (pos (i / pitch)) ≡ true
        → get_or px i 0 ≡ get_or (fresh F.kind held) (i / pitch * held.w + i % pitch) 0
    -- "Words of a row past w are never altered by any call"
    pub margin : (i : ℕ) → i < length px → inside (canvas held) (pos (i % pitch)) (pos (i / pitch)) ≡ false
        → get_or px i 0 ≡ get_or before i 0

-- what one call of `patch` was given, its pitch, its new sheet and its scratch, and what it left
pub record Call (Word : Type 0) : Type 0 where
  pub pitch : ℕ
  pub sheet : List ℕ
  pub scratch : List Word
  pub answered : Reply
  pub px_left : List ℕ
  pub scratch_left : List Word

-- "the sheet accepted last", as a caller knows it: a call that returned the number 0 was accepted
unfoldable pub last_of : (number : ℕ) (new kept : List ℕ) → List ℕ
last_of number new kept = cond (eqb number 0) new kept

-- what a refused call returns
abbrev pub refused_by : ℕ → ℕ → Reply
refused_by n k = record { answer = refusal n k; steps = 0; grounded = 0 }

module _ {Word : Type 0} (zero_word : Word) (F : Format) where
  -- what a call with the outcome o returns, and leaves in px, in rows of `pitch` words, and in scratch
  pub record Does (pitch : ℕ) (o : Outcome F.kind.Shape) (px : List ℕ) (scratch : List Word) (a : Reply) (px' : List ℕ)
      (scratch' : List Word) : Type 0 where
    pub answers : a.answer ≡ answer o
    pub steps : a.steps ≡ steps_of F.kind pitch o px
    pub grounds : a.grounded ≡ grounds_of F.kind pitch o px
    pub paints : px' ≡ pixels F.kind pitch o px
    pub clears : scratch' ≡ cleared zero_word F o scratch

  -- the contract of `paint`, and that of `patch`
  abbrev pub Painted : (sheet : List ℕ) (pitch : ℕ) (px : List ℕ) (scratch : List Word) (a : Reply) (px' : List ℕ)
      (scratch' : List Word) → Type 0
  Painted sheet pitch px scratch a px' scratch' =
      Does pitch (painting F sheet pitch (length px) (length scratch)) px scratch a px' scratch'

  abbrev pub Patched : (old new : List ℕ) (pitch : ℕ) (px : List ℕ) (scratch : List Word) (a : Reply) (px' : List ℕ)
      (scratch' : List Word) → Type 0
  Patched old new pitch px scratch a px' scratch' =
      Does pitch (patching F old new pitch (length px) (length scratch)) px scratch a px' scratch'

  -- "Each patch finds the pixels as the call before left them and has the sheet accepted last as its old one."
  unfoldable pub Follow : List ℕ → List ℕ → List (Call Word) → Type 0
  Follow kept px [] = Unit {0}
  Follow kept px (c ∷ cs) =
      Patched kept c.sheet c.pitch px c.scratch c.answered c.px_left c.scratch_left
      × Follow (last_of c.answered.answer.number c.sheet kept) c.px_left cs

module _ (F : Format) where
  -- "a model that is fed only each call's arguments, as its sheets, and of px and scratch the lengths alone": its outcomes are
  -- `painting` and `patching` (specs/Sheet). The sheet that it keeps: "Accepted, it makes its new sheet the kept one; refused, it
  -- leaves the kept one."
  unfoldable pub kept_after : (kept new : List ℕ) (pitch pxLen scratchLen : ℕ) → List ℕ
  kept_after kept new pitch pxLen scratchLen = cond (accepted (patching F kept new pitch pxLen scratchLen)) new kept

  -- "Accepted painting returns 0, 0 and the whole canvas"
  pub record Began (sheet : List ℕ) (a : Reply) : Type 0 where
    pub held : Sheet F.kind.Shape
    pub reads : F.reading sheet ≡ read held
    pub answers : a.answer ≡ record { number = 0; item = 0; area = canvas held }

module _ {Word : Type 0} (F : Format) where
  -- an accepted call: its box is the smallest around the reaches, each cut by its clip and on the canvas, of the shapes that
  -- differ, and it altered no pixel outside that box
  pub record Confined (kept px : List ℕ) (c : Call Word) : Type 0 where
    pub old : Sheet F.kind.Shape
    pub new : Sheet F.kind.Shape
    pub pairs : List (Pair F.kind.Shape)
    pub reads_old : F.reading kept ≡ read old
    pub reads_new : F.reading c.sheet ≡ read new
    pub differ : change_in F (canvas new) old new ≡ shapes pairs
    pub smallest : Smallest (canvas new) (reaches F.kind.reach pairs) c.answered.answer.area
    pub outside : (i : ℕ) → i < length px → inside c.answered.answer.area (pos (i % c.pitch)) (pos (i / c.pitch)) ≡ false
        → get_or c.px_left i 0 ≡ get_or px i 0

  -- what is claimed of one call, where the painting's pitch is `pitch` and the model's outcome is o
  pub record Right (pitch : ℕ) (kept px : List ℕ) (c : Call Word) (o : Outcome F.kind.Shape) : Type 0 where
    -- a number of 0 is returned exactly where the model accepts
    pub numbered : accepted o ≡ eqb c.answered.answer.number 0
    -- "a patch with another pitch is refused"
    pub same_pitch : accepted o ≡ true → c.pitch ≡ pitch
    -- the model's number, item and box, and its counts
    pub answers : c.answered.answer ≡ answer o
    pub steps : c.answered.steps ≡ steps_of F.kind c.pitch o px
    pub grounds : c.answered.grounded ≡ grounds_of F.kind c.pitch o px
    -- "An accepted patch alters no pixel outside that box"; a refused one alters none, and no word of scratch
    pub confined : accepted o ≡ true → Confined kept px c
    pub unaltered : accepted o ≡ false → (c.px_left ≡ px) × (c.scratch_left ≡ c.scratch)

  -- at the start and after each call px shows the kept sheet in rows of `pitch` words, with the words past the canvas as they
  -- were before, and each call is right
  unfoldable pub Always : ℕ → List ℕ → List ℕ → List ℕ → List (Call Word) → Type 0
  Always pitch before kept px [] = Shown F pitch before kept px
  Always pitch before kept px (c ∷ cs) =
      Shown F pitch before kept px
      × Right pitch kept px c (patching F kept c.sheet c.pitch (length px) (length c.scratch))
      × Always pitch before (kept_after F kept c.sheet c.pitch (length px) (length c.scratch)) c.px_left cs

module _ {Word : Type 0} (zero_word : Word) (F : Format) where
  -- What the counts tell. Those of an accepted painting's shapes hang on its sheet alone, whatever px held and whatever its
  -- pitch; and a call whose two counts are 0 left px as it was.
  pub record Busy : Type 0 where
    pub fresh : (s : Sheet F.kind.Shape) (sheet : List ℕ) (pitch : ℕ) (px : List ℕ) (scratch : List Word) (a : Reply)
        (px' : List ℕ) (scratch' : List Word)
        → Painted zero_word F sheet pitch px scratch a px' scratch' → F.reading sheet ≡ read s
        → accepted (painting F sheet pitch (length px) (length scratch)) ≡ true
        → a.steps ≡ fresh_steps F.kind s
    pub quiet : (pitch : ℕ) (o : Outcome F.kind.Shape) (px : List ℕ) (scratch : List Word) (a : Reply) (px' : List ℕ)
        (scratch' : List Word)
        → Does zero_word F pitch o px scratch a px' scratch' → a.steps ≡ 0 → a.grounded ≡ 0 → px' ≡ px
