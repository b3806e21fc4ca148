-- `encode::put_pair` meets its contract. Assumes nothing.
use Rattle.encode.proofs.put_pair.Goals as goal

pub returns : goal.returns
returns c = rw c.two_numbers-bytes.ensures at c.put.ensures
