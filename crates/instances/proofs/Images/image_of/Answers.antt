use Rattle.instances.proofs.Laws.{image_found}
use Rattle.chains.proofs.Chain.{found_ready}
use Rattle.instances.proofs.Images.image_of.Goals as goal

pub returns : goal.returns
returns c =
    let f = c.args.self.now.formulas in
    image_found _ _ _ _ _ _ c.if-y-self.false (rw c.from-2.ensures at c.record_in.ensures) c.record-r.ensures c.pack.ensures c.look_up.ensures
    (found_ready f.index.now.numbers.now f.chains.now.heads f.chains.now.next _ _ f.ready) c.unwrap_or.ensures
