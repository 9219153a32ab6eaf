use Rattle.format.specs.Index.{packed}
use Rattle.format.proofs.Laws.{within_whole}
use Rattle.logic.specs.declared.Record.{Record}
use native.Mathlib.Omega.{arith}
use Rattle.book.proofs.Laws.{unread_kind, unread_length, read_on, read_behind, fault_before, fault_last, sound_zero, untold}
use Rattle.book.proofs.Chain.{among_before}
use Rattle.book.proofs.Stage.{cause_number}
use mathlib.Core.Bool.{cond}
use mathlib.Core.Path.{refl, sym, ap, ◌∙◌}
use Rattle.book.proofs.read_record.Goals as goal

pub returns-then-size-eq1 : goal.returns-then-size-eq1
returns-then-size-eq1 c = let a = c.args in untold a.rest.now a.c c.at.ensures (unread_kind _ _ _ _ c.size_of-size.ensures c.if-size-eq1.true) c.total.ensures

pub returns-then-rest-size : goal.returns-then-rest-size
returns-then-rest-size c = let a = c.args in untold a.rest.now a.c c.at-then-rest-size.ensures (unread_length _ _ _ _ c.size_of-size.ensures c.if-size-eq1.false c.if-rest-size.true) c.total-then-rest-size.ensures

pub returns-then-not-is_sound : goal.returns-then-not-is_sound
returns-then-not-is_sound c =
    let z = c.size_of-size.ensures in
    let r = c.record_at-r.ensures ∙ within_whole c.args.rest.now _ z in
    let on = read_on c.args.n.counts c.args.table.now c.args.rest.now _ z c.if-size-eq1.false c.if-rest-size.false in
    let g = c.cause_at.ensures (sym c.is_sound.ensures ∙ c.if-not-is_sound.true) in
    let m = cause_number c.cause_at.result in
    untold c.args.rest.now c.args.c c.at-then-not-is_sound.ensures (on (fault_before _ _ _ r g m.0 m.1)) c.total-then-not-is_sound.ensures

pub is_repeated-requires : goal.is_repeated-requires
is_repeated-requires c = let p = c.requires in (c.args.n.small.formulas, p.2, p.3, p.4, c.hash-hash.ensures)

pub returns-then-is_repeated : goal.returns-then-is_repeated
returns-then-is_repeated c =
    let z = c.size_of-size.ensures in
    let r = c.record_at-r.ensures ∙ within_whole c.args.rest.now _ z in
    let on = read_on c.args.n.counts c.args.table.now c.args.rest.now _ z c.if-size-eq1.false c.if-rest-size.false in
    let f = sound_zero c.is_sound.ensures c.if-not-is_sound.false in
    let p = c.requires in
    let q = among_before c.args.n.counts c.args.table.now _ (omega (arith, c.args.n.small.formulas, p.2)) refl c.pack-number.ensures c.is_repeated.ensures in
    untold c.args.rest.now c.args.c c.at-then-is_repeated.ensures (on (fault_last _ _ _ r f refl q (ap (λ v. cond v 8 0) (sym c.if-is_repeated.true)))) c.total-then-is_repeated.ensures

pub returns : goal.returns
returns c =
    let z = c.size_of-size.ensures in
    let r = c.record_at-r.ensures ∙ within_whole c.args.rest.now _ z in
    let on = read_on c.args.n.counts c.args.table.now c.args.rest.now _ z c.if-size-eq1.false c.if-rest-size.false in
    let f = sound_zero c.is_sound.ensures c.if-not-is_sound.false in
    let p = c.requires in
    let q = among_before c.args.n.counts c.args.table.now _ (omega (arith, c.args.n.small.formulas, p.2)) refl c.pack-number.ensures c.is_repeated.ensures in (
      sym (on (fault_last _ _ _ r f refl q (ap (λ v. cond v 8 0) (sym c.if-is_repeated.false)))),
      ap (λ (x : Record). x.kind) r,
      c.pack-number.ensures ∙ ap packed r,
      c.hash-hash.ensures,
      c.advance.ensures ∙ read_behind c.args.n.counts c.args.table.now c.args.rest.now _ z c.args.c,
    )
