-- A painting and a list of patches as a fold of redraw's outcomes: the sheet accepted last, what the last call returned, and
-- every word of px and scratch. `replay` is this fold, for any bytes, refused calls included.
use Rattle.std.specs.Prelude.{true, cond, List, [], ◌∷◌, ◌≡◌, ℕ, ◌-◌, ◌≤◌, length, take, drop}
use Rattle.redraw.specs.declared.Reply.{Reply}
use Rattle.redraw.specs.Counts.{steps_of, grounds_of}
use Rattle.redraw.specs.Sheet.{Format, Outcome, painting, patching, answer, pixels, cleared, accepted}
use Rattle.redraw.specs.Calls.{Shown}
use Rattle.replay.specs.declared.Replayed.{Replayed}

-- the bytes from f up to t, as Rattle has `&s[f..t]`
abbrev pub part : ℕ → ℕ → List ℕ → List ℕ
part f t l = take (t - f) (drop f l)

-- the sheets that lie one after the other in some bytes, by their lengths; of one that runs past the end, what there is of it
unfoldable pub cut : List ℕ → List ℕ → List (List ℕ)
cut [] bytes = []
cut (n ∷ ns) bytes = take n bytes ∷ cut ns (drop n bytes)

-- where a list of calls stands: the sheet accepted last, what the last call returned, px and scratch
pub record Stand (Word : Type 0) : Type 0 where
  pub kept : List ℕ
  pub reply : Reply
  pub px : List ℕ
  pub scratch : List Word

module _ {Word : Type 0} (zero_word : Word) (F : Format) (pitch : ℕ) where
  -- after a call to a sheet, where another was kept before it, by the outcome of the call
  unfoldable pub stands : Outcome F.kind.Shape → (sheet kept px : List ℕ) → List Word → Stand Word
  stands o sheet kept px scratch = record {
    kept = cond (accepted o) sheet kept;
    reply = record { answer = answer o; steps = steps_of F.kind pitch o px; grounded = grounds_of F.kind pitch o px };
    px = pixels F.kind pitch o px;
    scratch = cleared zero_word F o scratch;
  }

  -- after the painting, before which no sheet is kept
  unfoldable pub begun : (sheet px : List ℕ) → List Word → Stand Word
  begun sheet px scratch = stands (painting F sheet pitch (length px) (length scratch)) sheet [] px scratch

  -- after a patch from the sheet accepted last
  unfoldable pub next : Stand Word → List ℕ → Stand Word
  next s sheet = stands (patching F s.kept sheet pitch (length s.px) (length s.scratch)) sheet s.kept s.px
      s.scratch

  unfoldable pub run : Stand Word → List (List ℕ) → Stand Word
  run s [] = s
  run s (b ∷ bs) = run (next s b) bs

  -- a painting, and where it is accepted a patch to each of the other sheets
  unfoldable pub replayed : List ℕ → List (List ℕ) → List ℕ → List Word → Stand Word
  replayed first others px scratch =
      cond (accepted (painting F first pitch (length px) (length scratch))) (run (begun first px scratch) others)
      (begun first px scratch)

  -- what is claimed of the fold: after an accepted painting, px shows the sheet accepted last, and the words past the canvas are
  -- as they came
  abbrev pub Shows : Type 0
  Shows =
      (first : List ℕ) (others : List (List ℕ)) (px : List ℕ) (scratch : List Word)
      → accepted (painting F first pitch (length px) (length scratch)) ≡ true
      → Shown F pitch px (replayed first others px scratch).kept (replayed first others px scratch).px

-- ---- the contracts

-- where a list stands by what `replay` returns, whose `from` and `to` bound the kept sheet in the bytes, and by what it leaves
unfoldable pub standing : {Word : Type 0} → List ℕ → Replayed → List ℕ → List Word → Stand Word
standing sheets r px scratch = record { kept = part r.from r.to sheets; reply = r.reply; px = px; scratch = scratch }

-- the contract of `replay`, and of its parts: the bounds lie in the bytes, and the list stands as said
pub record Ran {Word : Type 0} (sheets : List ℕ) (said : Stand Word) (r : Replayed) (px' : List ℕ) (scratch' : List Word) : Type 0
  where
    pub ordered : r.from ≤ r.to
    pub within : r.to ≤ length sheets
    pub is : standing sheets r px' scratch' ≡ said
