use Rattle.stages.proofs.Closed.{top_is}
use Rattle.stages.proofs.top_bit.Goals as goal

pub returns : goal.returns
returns c = let t = top_is (c).args.w (c).requires (c).ranges.w.fits in (t.1, t.2)
