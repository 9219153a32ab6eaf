use native.Mathlib.Omega.{arith}
use mathlib.Core.Path.{refl, sym, ap, ◌∙◌}
use lib.ListN.{length}
use lib.Seq.{sets}
use Rattle.written.specs.Stated.{records_in}
use Rattle.text.proofs.Lines.{line_front, line_length}
use Rattle.text.proofs.StepLines.{a_cause, no_cause, stepping_starts, kept, few, falls, line_here, stepping_stops, stepping_full, stepping_more, stepping_ends}
use Rattle.text.proofs.ForOwner.put_steps.Goals as goal

pub loop-at-init : goal.loop-at-init
loop-at-init c =
    let a = c.args in
    let s = c.args.self.now.printer in
    let fs = (records_in s.index.formulas s.index.numbers.now) in
    let d = a.derivation.now in
    (refl, stepping_starts fs d a.from a.buffer.now a.start c.requires.start.0 c.requires.start.1)

pub unreadable_at-requires : goal.unreadable_at-requires
unreadable_at-requires c = record { inside = c.loop-at.invariant.1.inside; noted = c.args.self.now.printer.book.noted }

pub shape_of-line-then-is_some : goal.shape_of-line-then-is_some
shape_of-line-then-is_some c = c.loop-at.invariant.0

pub shape_of-buffer-then-is_some : goal.shape_of-buffer-then-is_some
shape_of-buffer-then-is_some c =
    let a = c.args in
    let s = c.args.self.now.printer in
    let fs = (records_in s.index.formulas s.index.numbers.now) in
    let d = a.derivation.now in
    kept fs d a.from a.buffer.now c.loop-at.invariant.1

pub returns-then-is_some : goal.returns-then-is_some
returns-then-is_some c =
    let a = c.args in
    let s = c.args.self.now.printer in
    let fs = (records_in s.index.formulas s.index.numbers.now) in
    let d = a.derivation.now in
    stepping_stops fs d a.from a.buffer.now c.loop-at.invariant.1 c.loop-at-test.true c.unreadable_at.ensures (a_cause _ c.is_some.ensures c.if-is_some.true)

pub put_step_at-k-requires : goal.put_step_at-k-requires
put_step_at-k-requires c =
    let p = c.requires in
    let v = c.loop-at.invariant in
    record { inside = v.1.inside; right = sym c.unreadable_at.ensures ∙ no_cause _ c.is_some.ensures c.if-is_some.false }

pub overflow_sub-buffer : goal.overflow_sub-buffer
overflow_sub-buffer c =
    let a = c.args in
    let s = c.args.self.now.printer in
    let fs = (records_in s.index.formulas s.index.numbers.now) in
    let d = a.derivation.now in
    let v = c.loop-at.invariant.1 in
    omega (arith, v.going.fits, kept fs d a.from a.buffer.now v)

pub shape_of-line-then-buffer-written : goal.shape_of-line-then-buffer-written
shape_of-line-then-buffer-written c = line_length c.put_step_at-k.ensures ∙ c.loop-at.invariant.0

pub shape_of-buffer-then-buffer-written : goal.shape_of-buffer-then-buffer-written
shape_of-buffer-then-buffer-written c =
    let a = c.args in
    let s = c.args.self.now.printer in
    let fs = (records_in s.index.formulas s.index.numbers.now) in
    let d = a.derivation.now in
    kept fs d a.from a.buffer.now c.loop-at.invariant.1

pub returns-then-buffer-written : goal.returns-then-buffer-written
returns-then-buffer-written c =
    let a = c.args in
    let s = c.args.self.now.printer in
    let fs = (records_in s.index.formulas s.index.numbers.now) in
    let d = a.derivation.now in
    let v = c.loop-at.invariant.1 in
    let l = c.loop-at-test.true in
    let f = c.unreadable_at.ensures in
    let z = (no_cause _ c.is_some.ensures c.if-is_some.false) in
    stepping_full fs d a.from a.buffer.now v l f z (c.put_step_at-k.ensures.size ∙ ap length (line_here fs d a.from a.buffer.now v l f z)) c.if-buffer-written.true

pub slice_bounds-put_text-end : goal.slice_bounds-put_text-end
slice_bounds-put_text-end c =
    let u = c.put_step_at-k.ensures in
    let e = c.loop-at.invariant.0 in
    omega (arith, u.room, line_length u, c.requires.room)

pub overflow_add-written : goal.overflow_add-written
overflow_add-written c =
    let a = c.args in
    let s = c.args.self.now.printer in
    let fs = (records_in s.index.formulas s.index.numbers.now) in
    let d = a.derivation.now in
    let v = c.loop-at.invariant.1 in
    omega (arith, v.going.fits, c.put_step_at-k.ensures.room, c.if-buffer-written.false, kept fs d a.from a.buffer.now v)

pub overflow_add-i : goal.overflow_add-i
overflow_add-i c =
    let a = c.args in
    let s = c.args.self.now.printer in
    let fs = (records_in s.index.formulas s.index.numbers.now) in
    let d = a.derivation.now in
    let t = c.loop-at-test.true in
    let l = few fs d a.from a.buffer.now c.loop-at.invariant.1 t in
    omega arith

pub loop-at-smaller : goal.loop-at-smaller
loop-at-smaller c =
    let a = c.args in
    let s = c.args.self.now.printer in
    let fs = (records_in s.index.formulas s.index.numbers.now) in
    let d = a.derivation.now in
    falls d c.loop-at.at c.next-at.result c.loop-at-test.true c.next-at.ensures.0

pub loop-at-preserved : goal.loop-at-preserved
loop-at-preserved c =
    let a = c.args in
    let s = c.args.self.now.printer in
    let fs = (records_in s.index.formulas s.index.numbers.now) in
    let d = a.derivation.now in
    let v = c.loop-at.invariant in
    let l = c.loop-at-test.true in
    let f = c.unreadable_at.ensures in
    let z = (no_cause _ c.is_some.ensures c.if-is_some.false) in
    let u = c.put_step_at-k.ensures in
    let h = line_here fs d a.from a.buffer.now v.1 l f z in
    let e = line_front u (let y = v.0 in omega (arith, c.requires.room)) ∙ h in (
      line_length u ∙ v.0,
      stepping_more fs d a.from a.buffer.now v.1 l f z c.next-at.result (u.size ∙ ap length h) c.if-buffer-written.false
          (c.put_text.ensures ∙ ap (sets c.loop-at.buffer c.loop-at.written) e) c.next-at.ensures.0 c.next-at.ensures.1,
    )

pub shape_of-line : goal.shape_of-line
shape_of-line c = c.loop-at.invariant.0

pub shape_of-buffer : goal.shape_of-buffer
shape_of-buffer c =
    let a = c.args in
    let s = c.args.self.now.printer in
    let fs = (records_in s.index.formulas s.index.numbers.now) in
    let d = a.derivation.now in
    kept fs d a.from a.buffer.now c.loop-at.invariant.1

pub returns : goal.returns
returns c =
    let a = c.args in
    let s = c.args.self.now.printer in
    let fs = (records_in s.index.formulas s.index.numbers.now) in
    let d = a.derivation.now in
    stepping_ends fs d a.from a.buffer.now c.loop-at.invariant.1 c.loop-at-test.false
