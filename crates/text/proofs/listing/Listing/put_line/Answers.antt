use mathlib.Core.Path.{refl}
use Rattle.text.proofs.Lines.{prints_as, prints_by, held_number, goals_number}
use Rattle.text.proofs.listing.Listing.put_line.Goals as goal

-- The line of the facts held, that of the goals.
pub returns-then-i-self-2 : goal.returns-then-i-self-2
returns-then-i-self-2 c =
    let l = c.args.self.now in
    let s = l.printer in
    let f = s.index.formulas in
    let t = s.index.numbers.now in
    let h = s.book in
    prints_as (held_number f t s.counts h l.table.now l.size l.sized s.audience c.args.i c.if-i-self-2.true c.count_held.ensures) (prints_by c.held_line.ensures)

pub returns : goal.returns
returns c =
    let l = c.args.self.now in
    let s = l.printer in
    let f = s.index.formulas in
    let t = s.index.numbers.now in
    let h = s.book in
    prints_as (goals_number f t s.counts h l.table.now l.size l.sized s.audience c.args.i c.if-i-self.false c.if-i-self-2.false c.count_reached-reached.ensures refl) (prints_by c.goals_line.ensures)
