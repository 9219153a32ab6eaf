use Rattle.matching.proofs.InstanceLaws.{one_field, two_fields, three_fields}
use borrow.Author.Rules.{rules}
use Rattle.matching.proofs.match_fields.Goals as goal

pub returns-then-r-eq11 : goal.returns-then-r-eq11
returns-then-r-eq11 c = one_field _ _ _ _ c.match_field-first.ensures c.if-r-eq11.true

pub returns-then-first : goal.returns-then-first
returns-then-first c = two_fields _ _ _ _ c.match_field-first.ensures c.if-r-eq11.false c.match_field-second.ensures c.has_three.ensures c.if-not-has_three.true _ (search rules)

pub returns-else-first : goal.returns-else-first
returns-else-first c = two_fields _ _ _ _ c.match_field-first.ensures c.if-r-eq11.false c.match_field-second.ensures c.has_three.ensures c.if-not-has_three.true _ (search rules)

pub returns-then-second : goal.returns-then-second
returns-then-second c = three_fields _ _ _ _ c.match_field-first.ensures c.if-r-eq11.false c.match_field-second.ensures c.has_three.ensures c.if-not-has_three.false c.match_field-third.ensures _ (search rules)

pub returns-else-second : goal.returns-else-second
returns-else-second c = three_fields _ _ _ _ c.match_field-first.ensures c.if-r-eq11.false c.match_field-second.ensures c.has_three.ensures c.if-not-has_three.false c.match_field-third.ensures _ (search rules)
