use mathlib.Core.Path.{refl}
use Rattle.written.specs.Stated.{records_in}
use Rattle.text.proofs.Lines.{prints_as, prints_nothing, place_number, empty_line}
use Rattle.text.proofs.listing.Listing.put_place_line.Goals as goal

-- A place that holds 0 has no line.
pub returns-then-v-eq0 : goal.returns-then-v-eq0
returns-then-v-eq0 c =
    let l = c.args.self.now in
    let s = l.printer in
    let f = s.index.formulas in
    let t = s.index.numbers.now in
    let h = s.book in
    prints_as (place_number f t s.counts h l.table.now l.size l.sized s.audience c.args.i _ c.requires.below refl) (prints_nothing c.args.out.now (empty_line s.audience (records_in f t) c.args.i _ c.if-v-eq0.true))

pub returns : goal.returns
returns c =
    let l = c.args.self.now in
    let s = l.printer in
    let f = s.index.formulas in
    let t = s.index.numbers.now in
    let h = s.book in
    prints_as (place_number f t s.counts h l.table.now l.size l.sized s.audience c.args.i _ c.requires.below refl) c.put_place.ensures
