use Rattle.book.proofs.Laws.{place_told, no_place}
use mathlib.Core.Path.{sym, ◌∙◌}
use Rattle.book.proofs.place_among.Goals as goal

pub returns-then-not-is_formula_record : goal.returns-then-not-is_formula_record
returns-then-not-is_formula_record c =
    no_place c.args.n c.args.numbers.now c.args.r c.requires (sym c.is_formula_record.ensures ∙ c.if-not-is_formula_record.true)

pub returns : goal.returns
returns c =
    place_told c.args.n c.args.numbers.now c.args.r c.requires (sym c.is_formula_record.ensures ∙ c.if-not-is_formula_record.false)
    (rw c.pack.ensures at c.place_of.ensures)
