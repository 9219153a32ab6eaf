use native.Mathlib.Omega.{arith}
use Rattle.stamps.proofs.Laws.{part_few, record_is}
use borrow.Author.Rules.{rules}
use Rattle.stamps.proofs.Stamped.stamp_record.Goals as goal

pub stamp_part-requires-2 : goal.stamp_part-requires-2
stamp_part-requires-2 c = (omega (arith, c.ranges.x.fits), search rules, omega (arith, part_few _ _ _ _ _ c.stamp_part.ensures.state, c.requires, c.ranges.x.fits))

pub stamp_part-requires-3 : goal.stamp_part-requires-3
stamp_part-requires-3 c = (omega (arith, c.ranges.x.fits), search rules, omega (arith, part_few _ _ _ _ _ c.stamp_part.ensures.state, part_few _ _ _ _ _ c.stamp_part-2.ensures.state, c.requires, c.ranges.x.fits))

pub returns-clause-state : goal.returns-clause-state
returns-clause-state c =
    let a = rw (c.from-i.ensures, c.from.ensures, c.from-ranks.ensures) at c.stamp_part.ensures.state in
    let b = rw (c.from-i.ensures, c.from.ensures, c.from-ranks.ensures) at c.stamp_part-2.ensures.state in
    let d = rw (c.from-i.ensures, c.from.ensures, c.from-ranks.ensures) at c.stamp_part-3.ensures.state in
    record_is _ _ _ _ _ _ a b d
