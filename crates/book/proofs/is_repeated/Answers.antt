use Rattle.book.proofs.Chain.{found_some}
use borrow.Author.Rules.{rules}
use mathlib.Core.Path.{sym, ◌∙◌}
use Rattle.book.proofs.is_repeated.Goals as goal

-- What the test of the find says is left to the search, whatever the form of the test: so an edit of it is refused for its meaning.
pub returns-then-is_formula_record : goal.returns-then-is_formula_record
returns-then-is_formula_record c =
    let a = c.args in
    let p = c.requires in
    rw (sym c.is_formula_record.ensures ∙ c.if-is_formula_record.true)
    (found_some a.table.now a.chains.now.heads a.chains.now.next _ a.x (p.0, p.1, p.2, p.3) c.find.ensures p.4 (search rules))
