use Rattle.book.proofs.read.Goals as goal

pub returns : goal.returns
returns c = c.fill.ensures.0
