-- The laws of lists of patches (Laws), demand 3 (Theorem), the words past the canvas (Margins), and a pitch that is the width
-- (OwnWidth). Assumes nothing.
pub mod Laws
pub mod Theorem
pub mod Margins
pub mod OwnWidth
