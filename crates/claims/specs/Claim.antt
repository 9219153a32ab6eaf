-- Facts as the checker's functions hold them: the mode and the numbers P, Q and X side by side. For our own functions; that a claim
-- stands for a fact is proved in proofs/Claims.antt.
use Rattle.std.specs.Prelude.{ℕ, ◌+◌, ◌*◌, ◌/◌, ◌%◌, List, Bool, cond, not, ◌&&◌, get_or, leb, eqb}
use Rattle.logic.specs.declared.Record.{Record}
use Rattle.logic.specs.Kind.{is_formula}
use Rattle.logic.specs.Record.{word}
use Rattle.logic.specs.Written.{is_opening}
use Rattle.claims.specs.declared.Claim.{Claim}

abbrev pub claim : (mode p q x : ℕ) → Claim
claim mode p q x = record { mode = mode; p = p; q = q; x = x }

abbrev pub same_claim : Claim → Claim → Bool
same_claim c d = eqb c.mode d.mode && (eqb c.p d.p && (eqb c.q d.q && eqb c.x d.x))

-- the claim of the step at the front of some bytes: its seven bytes stand behind the byte of kind
abbrev pub claim_in : List ℕ → Claim
claim_in s = claim (get_or s 1 0) (word s 2) (word s 4) (word s 6)

-- a claim in four bytes; the numbers of a sound one are below 256
abbrev pub packed_claim : Claim → ℕ
packed_claim c = ((c.mode * 256 + c.p % 256) * 256 + c.q % 256) * 256 + c.x % 256

abbrev pub unpacked_claim : ℕ → Claim
unpacked_claim x = claim (x / 16777216 % 256) (x / 65536 % 256) (x / 256 % 256) (x % 256)

-- the claim of step i, where the table t has a number for each step
abbrev pub claim_at : List ℕ → ℕ → Claim
claim_at t i = unpacked_claim (get_or t i 0)

-- whether Q is as its mode asks
abbrev pub is_partner : (ℕ → Record) → Claim → Bool
is_partner look c = cond (leb c.mode 3) (eqb c.q 0) (eqb (look c.q).kind 1)

-- whether a claim is no malformed fact; `look x` is formula x, and `is_loose x` says whether a variable stands in it outside kind 17
abbrev pub is_sound : (look : ℕ → Record) (is_loose : ℕ → Bool) → Claim → Bool
is_sound look is_loose c =
    (leb 1 c.mode && leb c.mode 5)
    && (eqb (look c.p).kind 1
    && ((is_formula (look c.x).kind && not (is_loose c.x))
    && (is_partner look c
    && not (eqb c.mode 2 && is_opening (look c.x).kind))))

-- the belief of p in formula x, whose record is r, opened
abbrev pub opened_claim : Record → (p x : ℕ) → Claim
opened_claim r p x =
    cond (eqb r.kind 11) (claim 3 p 0 r.first)
    (cond (eqb r.kind 14) (claim 4 p r.first r.second)
    (cond (eqb r.kind 12) (claim 5 p r.first r.second)
    (claim 2 p 0 x)))

-- what a formula record of kind 12 or 13 states
abbrev pub stated_claim : (ℕ → Record) → Record → Claim
stated_claim look r =
    cond (eqb r.kind 12) (opened_claim (look r.second) r.first r.second) (claim 1 r.first 0 r.second)
