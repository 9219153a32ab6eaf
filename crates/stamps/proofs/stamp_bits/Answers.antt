use Rattle.stamps.proofs.Laws.{bits_more, bits_end, written_few}
use borrow.Author.Rules.{rules}
use Rattle.stamps.proofs.stamp_bits.Goals as goal

pub stamp_bit-written-requires : goal.stamp_bit-written-requires
stamp_bit-written-requires c = written_few _ _ _ _ _ _ _ _ _ c.requires c.loop-rest.invariant.1

pub loop-rest-preserved : goal.loop-rest-preserved
loop-rest-preserved c = (search rules, bits_more _ _ _ _ _ _ c.low_bit.ensures c.stamp_bit-written.ensures c.loop-rest.invariant.1)

pub returns : goal.returns
returns c = bits_end _ _ _ _ c.loop-rest-test.false c.loop-rest.invariant.1
