use Rattle.std.proofs.Common.{rules, tests, refl, arith}
use Rattle.std.specs.Prelude.{eqb}
use Rattle.std.proofs.lemmas.Iterator.{YieldsList-from_range}
use Rattle.std.proofs.lemmas.Iterator.Search.{any_from_yields_List}
use Rattle.format.specs.Index.{record_in}
use Rattle.instances.proofs.Laws.{any_delegation}
use Rattle.instances.proofs.has_delegation.Goals as goal

pub returns : goal.returns
returns c =
    let index = c.args.index.now in
    any_delegation index.numbers.now index.formulas
    (any_from_yields_List (λ x. eqb (record_in index.numbers.now x).kind 17) _ _ _ c.any.ensures.ran
    (YieldsList-from_range 0 index.formulas index.formulas refl (omega arith)) (λ x b q k. search (rules, tests)))
