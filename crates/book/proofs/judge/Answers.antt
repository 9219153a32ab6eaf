use Rattle.book.proofs.Stage.{cause_number}
use Rattle.format.proofs.Laws.{within_whole}
use Rattle.book.proofs.Judgement.{away, enter_empty, enter_unknown, enter_length, enter_present, enter_fault, enter_short, enter_added}
use Rattle.faults.specs.Fault.{told_fault}
use mathlib.Core.Path.{sym, ap, ◌∙◌}
use Rattle.book.proofs.judge.Goals as goal

pub returns-then-bytes-eq0 : goal.returns-then-bytes-eq0
returns-then-bytes-eq0 c = away c.at.ensures c.total-place.ensures ∙ enter_empty _ _ _ _ _ c.if-bytes-eq0.true

pub returns-then-size-eq1 : goal.returns-then-size-eq1
returns-then-size-eq1 c = away c.at-then-size-eq1.ensures c.total-place.ensures ∙ enter_unknown _ _ _ _ _ c.if-bytes-eq0.false _ c.size_of-size.ensures c.if-size-eq1.true

pub returns-then-bytes-size : goal.returns-then-bytes-size
returns-then-bytes-size c = away c.at-then-bytes-size.ensures c.total-place.ensures ∙ enter_length _ _ _ _ _ c.if-bytes-eq0.false _ c.size_of-size.ensures c.if-size-eq1.false c.if-bytes-size.true

pub returns-in-Some : goal.returns-in-Some
returns-in-Some c = enter_present _ _ _ _ _ c.if-bytes-eq0.false _ c.size_of-size.ensures c.if-size-eq1.false c.if-bytes-size.false _ (c.record_at-r.ensures ∙ within_whole _ _ c.size_of-size.ensures) _ c.place_among.ensures c.in-Some.is

pub returns-in-Some-fault_of : goal.returns-in-Some-fault_of
returns-in-Some-fault_of c =
    let e = c.in-Some-fault_of.is in
    let m = cause_number c.in-Some-fault_of.cause in
    away c.at-in-Some-fault_of.ensures c.total-place.ensures
    ∙ enter_fault _ _ _ _ _ c.if-bytes-eq0.false _ c.size_of-size.ensures c.if-size-eq1.false c.if-bytes-size.false _ (c.record_at-r.ensures ∙ within_whole _ _ c.size_of-size.ensures) _ c.place_among.ensures c.in_default.is _ (sym (ap told_fault e) ∙ c.fault_of.ensures) m.0 m.1

pub returns-then-short : goal.returns-then-short
returns-then-short c =
    away c.at-then-short.ensures c.total-place.ensures
    ∙ enter_short _ _ _ _ _ c.if-bytes-eq0.false _ c.size_of-size.ensures c.if-size-eq1.false c.if-bytes-size.false _ (c.record_at-r.ensures ∙ within_whole _ _ c.size_of-size.ensures) _ c.place_among.ensures c.in_default.is _ c.fault_of.ensures (ap told_fault c.in_default-fault_of.is) c.if-short.true

pub returns : goal.returns
returns c = enter_added _ _ _ _ _ c.if-bytes-eq0.false _ c.size_of-size.ensures c.if-size-eq1.false c.if-bytes-size.false _ (c.record_at-r.ensures ∙ within_whole _ _ c.size_of-size.ensures) _ c.place_among.ensures c.in_default.is _ c.fault_of.ensures (ap told_fault c.in_default-fault_of.is) c.if-short.false c.number_in.ensures
