-- The names of the numbers, as src/ has them: bits of a formula's word, kinds of formula record.
use Rattle.std.specs.Prelude.{ℕ}

-- the principal sees a formula; believes it; believes it fresh; and, with a rank more, believes that the principal of that rank said it, believes it
abbrev pub sees : ℕ
sees = 0

abbrev pub believes : ℕ
believes = 1

abbrev pub fresh : ℕ
fresh = 2

abbrev pub said : ℕ
said = 3

abbrev pub believed : ℕ
believed = 11

abbrev pub conjunction : ℕ
conjunction = 4

abbrev pub encrypted : ℕ
encrypted = 5

abbrev pub signed : ℕ
signed = 6

abbrev pub combination : ℕ
combination = 7

abbrev pub shared_key : ℕ
shared_key = 8

abbrev pub public_key : ℕ
public_key = 9

abbrev pub shared_secret : ℕ
shared_secret = 10

abbrev pub controls : ℕ
controls = 15

abbrev pub delegation : ℕ
delegation = 17
