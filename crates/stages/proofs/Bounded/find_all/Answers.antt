use Rattle.stages.proofs.Finding.{whole_given}
use Rattle.engine.specs.Laid.{array_of}
use mathlib.Core.List.{[]}
use Rattle.stages.proofs.Bounded.find_all.Goals as goal

pub close-requires : goal.close-requires
close-requires c = whole_given (array_of c.args.self.now.book.now) [] [] c.args.self.now.book.now.users.now c.args.self.now.given.now.deliveries.now _ 0 _ _ c.args.held.now.log.now _ _ _ c.requires.0 c.assume_all.ensures.state (rw c.assume_all.ensures.log.2 at c.deliver_all.ensures.state)
