use Prim.Native.Nat.{◌*◌}
use Rattle.facts.proofs.Laws.{eight}
use Rattle.layout.proofs.put_form.Goals as goal

pub returns : goal.returns
returns c = let f = c.args.f in eight c.args.flat.now (c.args.x * 8) f.kind f.first f.second f.third f.clear f.rank f.formula f.bit
