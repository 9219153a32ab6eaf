use Prim.Native.Nat.{◌+◌}
use native.Mathlib.Omega.{arith}
use mathlib.Core.Path.{◌≡◌, ap, ◌∙◌}
use lib.Seq.{sets}
use Rattle.logic.specs.Listing.{line_at}
use Rattle.written.specs.Stated.{records_in}
use Rattle.places.specs.Places.{goals_in}
use Rattle.text.proofs.Lines.{line_front, line_length, going_more, going_stops, going_ends}
use Rattle.text.proofs.listing.Listing.put_lines.Goals as goal

pub returns-then-buffer-at : goal.returns-then-buffer-at
returns-then-buffer-at c =
    let l = c.args.self.now in
    let s = l.printer in
    let a = c.args in
    let line = line_at s.audience (records_in s.index.formulas s.index.numbers.now) (goals_in s.counts.goals s.index.numbers.now) l.table.now in
    going_stops line (l.size + 2) a.from a.buffer.now _ _ _ c.loop-i.invariant.1 (omega arith) c.put_line-k.ensures.size c.if-buffer-at.true

pub loop-i-preserved : goal.loop-i-preserved
loop-i-preserved c =
    let l = c.args.self.now in
    let s = l.printer in
    let a = c.args in
    let line = line_at s.audience (records_in s.index.formulas s.index.numbers.now) (goals_in s.counts.goals s.index.numbers.now) l.table.now in
    let v = c.loop-i.invariant in
    let u = c.put_line-k.ensures in
    let e = line_front u (let z = v.0 in omega (arith, c.requires.room)) in (
      line_length u ∙ v.0,
      going_more line (l.size + 2) a.from a.buffer.now c.loop-i.buffer c.loop-i.at c.loop-i.i v.1 (omega arith) u.size c.if-buffer-at.false
          (c.put_text.ensures ∙ ap (sets c.loop-i.buffer c.loop-i.at) e),
    )

pub returns : goal.returns
returns c =
    let l = c.args.self.now in
    let s = l.printer in
    let a = c.args in
    let line = line_at s.audience (records_in s.index.formulas s.index.numbers.now) (goals_in s.counts.goals s.index.numbers.now) l.table.now in
    let v = c.loop-i.invariant.1 in
    let e : c.loop-i.i ≡ l.size + 2 = omega (arith, v.here) in
    rw e at (going_ends line (l.size + 2) a.from a.buffer.now c.loop-i.buffer c.loop-i.at c.loop-i.i v (omega arith))
