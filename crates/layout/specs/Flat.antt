-- A book as one flat array of 2,144 bytes, worked out from its index t.
-- Eight bytes to a formula record: its kind, or 0 where it has a loose variable, its three references, whether it is clear, how many principals stand before it, and
-- where the belief in it is kept once opened: a formula and a bit. Then, from 2,048 on, the formula of each assumption, and from
-- 2,112 on the receiver and the formula of each message.
use Rattle.std.specs.Prelude.{ℕ, zero, suc, ◌+◌, ◌*◌, ◌%◌, List, [], ◌∷◌, Bool, true, false, cond, not, ◌&&◌, ◌||◌, get_or, set, eqb, leb}
use Rattle.std.proofs.lemmas.List.Edits.{sets}
use Rattle.logic.specs.declared.Record.{Record}
use Rattle.logic.specs.declared.Counts.{Counts}
use Rattle.format.specs.Index.{record_in, assumption_in, message_in}
use Rattle.format.specs.Variables.{loose_in}
use Rattle.layout.specs.declared.Form.{Form}

-- byte k of formula x; references are below 256
unfoldable pub byte_of : List ℕ → ℕ → ℕ → ℕ
byte_of b x k = get_or b (x % 256 * 8 + k) 0

-- whether a record is clear, by the records before it
unfoldable pub clear_in : List ℕ → Record → Bool
clear_in b r =
    cond (eqb r.kind 5 || eqb r.kind 6) false
    (cond (eqb r.kind 4 || eqb r.kind 7) (eqb (byte_of b r.first 4) 1 && eqb (byte_of b r.second 4) 1)
    (cond (eqb r.kind 11) (eqb (byte_of b r.first 4) 1)
    (cond (leb 10 r.kind && not (eqb r.kind 16)) (eqb (byte_of b r.second 4) 1) true)))

-- where the belief in record x is kept: a belief in a formula of kind 11, 14 or 12 is opened
unfoldable pub opened_in : Record → ℕ → ℕ
opened_in r x = cond (eqb r.kind 11) (r.first % 256) (cond (eqb r.kind 14 || eqb r.kind 12) (r.second % 256) (x % 256))

unfoldable pub bit_in : List ℕ → Record → ℕ
bit_in b r =
    cond (eqb r.kind 11) 2
    (cond (eqb r.kind 14) (3 + byte_of b r.first 5 % 8)
    (cond (eqb r.kind 12) (11 + byte_of b r.first 5 % 8) 1))

-- record x with k principals before it, where the test says whether it has a loose variable
unfoldable pub form_in : List ℕ → (k x : ℕ) → Bool → Record → Form
form_in b k x is_loose r =
    record {
      kind = cond is_loose 0 r.kind;
      first = r.first % 256;
      second = r.second % 256;
      third = r.third % 256;
      clear = cond (clear_in b r) 1 0;
      rank = k % 256;
      formula = opened_in r x;
      bit = bit_in b r;
    }

abbrev pub eight : Form → List ℕ
eight f = f.kind ∷ f.first ∷ f.second ∷ f.third ∷ f.clear ∷ f.rank ∷ f.formula ∷ f.bit ∷ []

-- how many of the first x records are principals
unfoldable pub principals_in : List ℕ → ℕ → ℕ
principals_in t zero = 0
principals_in t (suc x) = cond (eqb (record_in t x).kind 1) (principals_in t x + 1) (principals_in t x)

-- the array with the first x formula records, the first a assumptions, the first m messages
unfoldable pub forms_in : List ℕ → ℕ → List ℕ → List ℕ
forms_in t zero b = b
forms_in t (suc x) b = sets (forms_in t x b) (x * 8) (eight (form_in (forms_in t x b) (principals_in t x) x (loose_in t x) (record_in t x)))

unfoldable pub assumptions_in : List ℕ → ℕ → List ℕ → List ℕ
assumptions_in t zero b = b
assumptions_in t (suc a) b = set (assumptions_in t a b) (2048 + a) ((assumption_in t a).first % 256)

unfoldable pub messages_in : List ℕ → ℕ → List ℕ → List ℕ
messages_in t zero b = b
messages_in t (suc m) b =
    set (set (messages_in t m b) (2112 + m * 2) ((message_in t (m + 1)).second % 256)) (2112 + m * 2 + 1) ((message_in t (m + 1)).third % 256)

-- the whole of it, where n counts the records; counts above the limits leave the array as it is
unfoldable pub laid_out : List ℕ → Counts → List ℕ → List ℕ
laid_out t n b =
    cond (leb n.formulas 256 && (leb n.assumptions 64 && leb n.messages 16))
    (messages_in t n.messages (assumptions_in t n.assumptions (forms_in t n.formulas b)))
    b
