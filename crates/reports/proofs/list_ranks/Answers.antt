use native.Mathlib.Omega.{arith}
use mathlib.Core.Path.{refl}
use Rattle.logic.specs.Count.{of_kind}
use Rattle.logic.specs.Place.{rank as rank_of}
use Rattle.written.specs.Stated.{records_in}
use Rattle.places.proofs.Laws.{rank_step}
use Rattle.reports.proofs.ReportLaws.{ranked_more}
use borrow.Author.Rules.{rules}
use Rattle.reports.proofs.list_ranks.Goals as goal

pub loop-x-init : goal.loop-x-init
unfolding rank_of of_kind
loop-x-init c = (search rules, refl, (λ y l. absurd (omega arith)))

pub loop-x-preserved : goal.loop-x-preserved
loop-x-preserved c =
    let i = c.args.index.now in
    let l = c.loop-x in
    let v = l.invariant in
    (search rules, rank_step i.formulas i.numbers.now l.x v.1 (search rules), ranked_more (records_in i.formulas i.numbers.now) l.x l.ranks v.2 (omega arith) v.1)
