use Rattle.std.proofs.Common.{rules, arith}
use Rattle.derive.specs.Steps.{Writes}
use Rattle.derive.proofs.Laws.{progress_start, progress_more, entries_end}
use Rattle.derive.proofs.write_marked.Goals as goal

pub loop-k-init : goal.loop-k-init
loop-k-init c = record { memory = search rules; progress = progress_start _ _ _ _ _ _ _ c.requires }

pub write_entry-requires : goal.write_entry-requires
write_entry-requires c = let v = c.loop-k.invariant.progress in (omega (arith, v.few), omega (arith, v.small))

pub loop-k-preserved : goal.loop-k-preserved
loop-k-preserved c = record { memory = search rules; progress = progress_more _ _ _ _ _ _ _ _ c.entry.ensures c.write_entry.ensures.written c.write_entry.ensures.few c.loop-k.invariant.progress }

pub returns : goal.returns
returns c =
    let v = c.loop-k.invariant.progress in
    let e : Writes _ _ _ _ _ = entries_end _ _ _ _ _ _ _ _ _ c.loop-k.auto.k-end c.loop-k-test.false v.written in
    search rules
