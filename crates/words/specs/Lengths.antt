-- How long the text of a formula is, by the lengths of the formulas inside it. That it is so is proved in `text`.
use Rattle.std.specs.Prelude.{ℕ, ◌+◌, min, List, cond, length, get_or}
use Rattle.logic.specs.declared.Record.{Record}
use Rattle.logic.specs.declared.Audience.{Audience}
use Rattle.words.specs.Words.{is_leaf, leaf_text, inner_of, before, behind, is_pair, goes_on, ending, ahead}

-- A length that is not kept where it is above 5,000: records share parts, so lengths double from record to record.
abbrev pub capped : ℕ → ℕ
capped n = min n 5000

-- up to what stands behind the inner formula, which has the length n
abbrev pub front_length : (ℕ → Record) → Record → ℕ → ℕ
front_length look r n = capped (length (before look r) + capped (n + length (behind look r)))

-- Formula x, whose record is r; `lengths` has those of the formulas before it. A member that is put in front of a list makes it longer by its own
-- text, a comma and a space.
unfoldable pub length_by : Audience → (ℕ → Record) → List ℕ → (x : ℕ) → Record → ℕ
length_by a look lengths x r =
    cond (is_leaf r.kind) (capped (length (leaf_text a x r)))
    (cond (goes_on look r) (capped (capped (get_or lengths (inner_of r) 0 + 2) + get_or lengths r.second 0))
    (cond (is_pair r.kind) (capped (front_length look r (get_or lengths (inner_of r) 0) + capped (get_or lengths r.second 0 + length (ending r.kind))))
    (front_length look r (get_or lengths (inner_of r) 0))))

-- a fact
abbrev pub fact_length : (ℕ → Record) → List ℕ → (mode p q x : ℕ) → ℕ
fact_length look lengths mode p q x = capped (length (ahead look mode p q) + get_or lengths x 0)
