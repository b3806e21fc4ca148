-- Bytes put into a buffer. Only the functions that put bytes cite this. Assumes nothing.
use Rattle.std.specs.Prelude.{ℕ, ◌+◌, cond, List, ◌++◌, leb, length, take, drop}

-- bytes put from a place on; a buffer in which they do not fit is left
unfoldable pub placed : ℕ → List ℕ → List ℕ → List ℕ
placed at x buf = cond (leb (at + length x) (length buf)) (take at buf ++ x ++ drop (at + length x) buf) buf
