use Rattle.text.proofs.Lines.{Listed}
use Rattle.text.proofs.Printer.names.Given as goal

-- The principals passed so far have their names listed.
abbrev pub invariant-loop-x : goal.invariant-loop-x
invariant-loop-x l = Listed l.self.index.formulas l.self.index.numbers.now l.names l.x l.r
