use Rattle.faults.proofs.Laws.{loose_first, loose_each, loose_second, loose_none}
use Rattle.faults.proofs.has_loose.Goals as goal

pub returns-in-32 : goal.returns-in-32
returns-in-32 c = loose_first _ _ c.in-32.is c.is_loose.ensures

pub returns-in-33 : goal.returns-in-33
returns-in-33 c = loose_each _ _ c.in-33.is c.is_any_loose.ensures

pub returns-in-34 : goal.returns-in-34
returns-in-34 c = loose_second _ _ c.in-34.is c.is_loose-in-34.ensures

pub returns-in_default : goal.returns-in_default
returns-in_default c = let r = c.in_default.in_default-own.rest in loose_none _ _ r.0.0.1 r.0.1 r.1
