use Rattle.matching.proofs.InstanceLaws.{without_image, for_variable, for_itself, another_kind, by_fields}
use Rattle.matching.proofs.match_formula.Goals as goal

pub returns-in_default : goal.returns-in_default
returns-in_default c = without_image _ _ _ _ c.in_default.ensures

pub returns-then-i-v : goal.returns-then-i-v
returns-then-i-v c = for_variable _ _ _ _ c.in-Some.ensures c.look-q.ensures c.if-i-v.true

pub returns-then-is_fixed : goal.returns-then-is_fixed
returns-then-is_fixed c = for_itself _ _ _ _ c.in-Some.ensures c.look-q.ensures c.if-i-v.false c.look-r.ensures c.is_fixed.ensures c.if-is_fixed.true

pub returns-then-r-q : goal.returns-then-r-q
returns-then-r-q c = another_kind _ _ _ _ c.in-Some.ensures c.look-q.ensures c.if-i-v.false c.look-r.ensures c.is_fixed.ensures c.if-is_fixed.false c.if-r-q.true

pub returns : goal.returns
returns c = by_fields _ _ _ _ c.in-Some.ensures c.look-q.ensures c.if-i-v.false c.look-r.ensures c.is_fixed.ensures c.if-is_fixed.false c.if-r-q.false c.match_fields.ensures
