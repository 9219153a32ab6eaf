use Rattle.stamps.proofs.LowestBit.{low_law}
use Rattle.stamps.proofs.low_bit.Goals as goal

pub returns : goal.returns
returns c = low_law c.args.w c.requires c.ranges.w.fits
