use native.Mathlib.Omega.{arith}
use Rattle.rules.proofs.RowWords.{next_word, next_near, next_bit}
use Rattle.rules.proofs.next_in.Goals as goal

pub returns-then-rest-lt-LEAST : goal.returns-then-rest-lt-LEAST
returns-then-rest-lt-LEAST c = rw c.from-at.ensures (next_word _ _ _ c.word_in.ensures c.ranges.x.fits (omega arith))

pub overflow_cast-result : goal.overflow_cast-result
overflow_cast-result c =
    let a = c.args in
    let t = next_near a.rows.now a.y a.x c.word_in.ensures c.ranges.x.fits c.word_in.type_inv (λ e. omega arith) in
    record { fits = omega (arith, t) }

pub overflow_add-result-3 : goal.overflow_add-result-3
overflow_add-result-3 c =
    let a = c.args in
    let t = next_near a.rows.now a.y a.x c.word_in.ensures c.ranges.x.fits c.word_in.type_inv (λ e. omega arith) in
    record { fits = omega (arith, t) }

pub returns : goal.returns
returns c =
    let a = c.args in
    rw c.from-at.ensures (next_bit a.rows.now a.y a.x c.word_in.ensures c.ranges.x.fits c.word_in.type_inv (λ e. omega arith))
