use Rattle.layout.proofs.is_marked.Goals as goal

pub returns : goal.returns
returns c = rw c.byte_of.ensures
