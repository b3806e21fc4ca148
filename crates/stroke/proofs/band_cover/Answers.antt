-- `stroke::band_cover` meets its contract. Assumes nothing.
use Rattle.stroke.specs.Stroke.{band_cover}
use Rattle.stroke.proofs.band_cover.Goals as goal

pub returns : goal.returns
unfolding band_cover
returns c = rw (c.to_u32.ensures, c.saturate-c_in.ensures, c.saturate-c_out.ensures)
