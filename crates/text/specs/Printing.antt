-- What the functions between the index of a book and the text of a fact say. That a text is made of the words around its formulas is proved
-- in proofs/.
use Rattle.std.specs.Prelude.{ℕ, ◌<◌, ◌≡◌, List, ◌++◌, length, get_or}
use Rattle.logic.specs.declared.Record.{Record}
use Rattle.logic.specs.declared.Audience.{Audience}
use Rattle.logic.specs.Formula.{tree_of}
use Rattle.logic.specs.Text.{ascii, datum_for, shown, text}
use Rattle.words.specs.Words.{ahead}
use Rattle.words.specs.Lengths.{capped}
use Rattle.written.specs.Stated.{records_in}

-- the text of formula x of an index for an audience
unfoldable pub text_in : Audience → ℕ → List ℕ → ℕ → List ℕ
text_in a f t x = text (datum_for a (records_in f t)) (tree_of (records_in f t) x)

-- the members of conjunction x as they stand in a bracketed list, with the bracket behind them
unfoldable pub list_in : Audience → ℕ → List ℕ → ℕ → List ℕ
list_in a f t x = (shown (datum_for a (records_in f t)) (tree_of (records_in f t) x)).members ++ ascii ")"

-- the lengths of the first n formulas of an index
abbrev pub Measured : Audience → ℕ → List ℕ → List ℕ → ℕ → Type 0
Measured a f t lengths n = (y : ℕ) → y < n → get_or lengths y 0 ≡ capped (length (text_in a f t y))

-- the text of a fact in a mode about formula numbers p, q and x
unfoldable pub fact_text_in : Audience → ℕ → List ℕ → (ℕ → Record) → (mode p q x : ℕ) → List ℕ
fact_text_in a f t look mode p q x = ahead look mode p q ++ text_in a f t x
