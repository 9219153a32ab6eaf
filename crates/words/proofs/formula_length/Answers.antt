use mathlib.Core.Path.{ap, ◌∙◌}
use lib.ListN.{length}
use Rattle.format.specs.Index.{look_in}
use Rattle.words.specs.Lengths.{length_by}
use Rattle.words.proofs.Laws.{leaf_length_is, list_length_is, front_length_is, pair_length_is}
use Rattle.words.proofs.formula_length.Goals as goal

pub returns-then-is_leaf : goal.returns-then-is_leaf
returns-then-is_leaf c =
    let a = c.args in
    let look = look_in a.index.now.formulas a.index.now.numbers.now in
    let r = c.look-r.result in
    leaf_length_is a.audience look a.lengths.now a.x r c.is_leaf.ensures c.if-is_leaf.true c.leaf_length.ensures
    ∙ ap (length_by a.audience look a.lengths.now a.x) c.look-r.ensures

pub returns-then-goes_on : goal.returns-then-goes_on
returns-then-goes_on c =
    let a = c.args in
    let look = look_in a.index.now.formulas a.index.now.numbers.now in
    let r = c.look-r.result in
    list_length_is a.audience look a.lengths.now a.x r c.is_leaf.ensures c.if-is_leaf.false c.inner_of.ensures c.length_at-inner.ensures c.length_at-second.ensures c.goes_on.ensures c.if-goes_on.true c.add.ensures c.add-then-goes_on.ensures
    ∙ ap (length_by a.audience look a.lengths.now a.x) c.look-r.ensures

pub returns-then-not-is_pair : goal.returns-then-not-is_pair
returns-then-not-is_pair c =
    let a = c.args in
    let look = look_in a.index.now.formulas a.index.now.numbers.now in
    let r = c.look-r.result in
    front_length_is a.audience look a.lengths.now a.x r c.is_leaf.ensures c.if-is_leaf.false c.inner_of.ensures c.length_at-inner.ensures c.length_at-second.ensures c.goes_on.ensures c.if-goes_on.false c.front_length-n.ensures c.is_pair.ensures c.if-not-is_pair.true
    ∙ ap (length_by a.audience look a.lengths.now a.x) c.look-r.ensures

pub returns : goal.returns
returns c =
    let a = c.args in
    let look = look_in a.index.now.formulas a.index.now.numbers.now in
    let r = c.look-r.result in
    pair_length_is a.audience look a.lengths.now a.x r c.is_leaf.ensures c.if-is_leaf.false c.inner_of.ensures c.length_at-inner.ensures c.length_at-second.ensures c.goes_on.ensures c.if-goes_on.false c.front_length-n.ensures c.is_pair.ensures c.if-not-is_pair.false (ap length c.ending.ensures.0) c.add-2.ensures c.add-3.ensures
    ∙ ap (length_by a.audience look a.lengths.now a.x) c.look-r.ensures
