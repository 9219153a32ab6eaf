use Rattle.flat.proofs.Flat.opened_at.Goals as goal

pub returns : goal.returns
returns c = let e = c.field.ensures in let f = c.field-2.ensures in λ i. record { formula = e i; bit = f i }
