-- The bytes that a function gives for an item, by what a call of it may return. Only the functions that write a sheet from its
-- items cite this. Assumes nothing.
use Rattle.std.specs.Prelude.{ℕ, ◌≡◌, ◌≤◌, List, length}
use Rattle.std.specs.Borrow.{Bor}

-- it gives those of f
abbrev pub Gives : {T : Type 0} → (T → Bor (List ℕ) → Type 0) → (T → List ℕ) → Type 0
Gives {T} post f = (x : T) (bytes : Bor (List ℕ)) → post x bytes → bytes.now ≡ f x

-- it gives no more than a sheet can have
abbrev pub Short : {T : Type 0} → (T → Bor (List ℕ) → Type 0) → Type 0
Short {T} post = (x : T) (bytes : Bor (List ℕ)) → post x bytes → length bytes.now ≤ 60000
