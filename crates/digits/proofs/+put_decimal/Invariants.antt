use Rattle.digits.proofs.+put_decimal.Given as goal

-- The measure is the number, of which the call has a tenth.
abbrev pub decreases-put_decimal : goal.decreases-put_decimal
decreases-put_decimal l = l.n
