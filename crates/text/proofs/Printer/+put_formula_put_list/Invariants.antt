use Rattle.text.proofs.Printer.+put_formula_put_list.Given as goal

-- The formula printer and the list printer. The measure of both is the formula number: each call is for an earlier formula.
abbrev pub decreases-put_formula : goal.decreases-put_formula
decreases-put_formula l = l.x

abbrev pub decreases-put_list : goal.decreases-put_list
decreases-put_list l = l.x
