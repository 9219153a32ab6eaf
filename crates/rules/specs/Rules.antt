-- The rules of each formula record as lists of instances, each for a set of principals. They depend on the book alone and never on what is
-- held. b is the book's array, `links` the statements about each key and secret, `rows` the instances of each formula.
use Rattle.std.specs.Prelude.{ℕ, zero, suc, ◌+◌, ◌-◌, ◌*◌, ◌/◌, ◌%◌, ◌^◌, ◌<◌, ◌≤◌, ◌≡◌, ◌⊎◌, List, [], ◌∷◌, ◌++◌, map, Bool, true, false, cond, ◌&&◌, length, get_or, eqb, ltb}
use Rattle.std.specs.Int.Bits.{bit_and, bit_or}
use Rattle.facts.specs.declared.Cell.{Cell}
use Rattle.facts.specs.declared.Instance.{Instance}
use Rattle.facts.specs.Facts.{bit_at}
use Rattle.facts.specs.Lists.{upto}
use Rattle.lanes.specs.Lanes.{Common, common}
use Rattle.facts.specs.Names.{sees, believes, fresh, said, believed, conjunction, encrypted, signed, combination, shared_key, public_key, shared_secret, controls, delegation}
use Rattle.flat.specs.Layout.{at, kind_at, first_at, second_at, third_at, clear_at, rank_at, opened_at}

-- THE RULES THAT ARE THE SAME FOR EVERY PRINCIPAL

-- the step kind of rule r
abbrev pub step : ℕ → ℕ
step r = 65 + r

-- from one premise, from two
abbrev pub leads : ℕ → Cell → Cell → Instance
leads k p c = record { kind = k; first = p; second = p; gives = c }

abbrev pub joins : ℕ → Cell → Cell → Cell → Instance
joins k p q c = record { kind = k; first = p; second = q; gives = c }

-- what the principal of rank j said, or believes, of a conjunction r goes to its part x: rules 14, 16, and 15, 17 for the second part
abbrev pub spreads : (second r x j : ℕ) → List Instance
spreads second r x j =
    leads (step 14 + second) (at r (said + j)) (at x (said + j)) ∷ leads (step 16 + second) (at r (believed + j)) (at x (believed + j)) ∷ []

-- and what is seen: rules 6, 7
unfoldable pub parted : (second r x : ℕ) → List Instance
parted second r x = leads (step 6 + second) (at r sees) (at x sees) ∷ upto (spreads second r x) 8

-- rules 18, 19, 12, 13, 20
unfoldable pub joined : List ℕ → (r x y : ℕ) → List Instance
joined b r x y =
    leads (step 18) (at r believes) (opened_at b x)
    ∷ leads (step 19) (at r believes) (opened_at b y)
    ∷ leads (step 12) (at x fresh) (at r fresh)
    ∷ leads (step 13) (at y fresh) (at r fresh)
    ∷ joins (step 20) (opened_at b x) (opened_at b y) (at r believes)
    ∷ []

unfoldable pub conjoined : List ℕ → (r x y : ℕ) → List Instance
conjoined b r x y = parted 0 r x ++ (parted 1 r y ++ joined b r x y)

-- rule 4, of a clear formula
abbrev pub vouches : (r j : ℕ) → List Instance
vouches r j = joins (step 4) (at r fresh) (at r (said + j)) (at r (believed + j)) ∷ []

unfoldable pub vouched : List ℕ → ℕ → List Instance
vouched b r = cond (clear_at b r) (upto (vouches r) 8) []

-- rule 5
unfoldable pub controlled : List ℕ → ℕ → List Instance
controlled b r =
    joins (step 5) (at r believes) (at (second_at b r) (believed + rank_at b (first_at b r))) (opened_at b (second_at b r)) ∷ []

-- DELEGATION. Row y of the table `rows` has four words: bit x % 64 of word y * 4 + x / 64 is set where record x is an instance of record y, y
-- with one key put for the variable in it. Row 256 + x has the records of kind 17 that let somebody control a formula of which x is an
-- instance. Where a book has no kind 17 the table may be empty.
abbrev pub word_in : List ℕ → (y x : ℕ) → ℕ
word_in rows y x = get_or rows (y * 4 + x / 64) 0

unfoldable pub row_has : List ℕ → (y x : ℕ) → Bool
row_has rows y x = bit_at (word_in rows y x) (x % 64)

-- no record behind x and before z is in row y
abbrev pub NoneBetween : List ℕ → (y x z : ℕ) → Type 0
NoneBetween rows y x z = (j : ℕ) → x < j → j < z → row_has rows y j ≡ false

-- z is where to look next in row y behind x: at the next record of x's word that is in the row, or where none is at the next word
abbrev pub IsNext : List ℕ → (y x z : ℕ) → Type 0
IsNext rows y x z = (x < z) × (z ≤ x / 64 * 64 + 64) × NoneBetween rows y x z × ((row_has rows y z ≡ true) ⊎ (z ≡ x / 64 * 64 + 64))

-- what a kind 17 is over, "Q controls X", and its parts Q and X
abbrev pub grant_of : List ℕ → ℕ → ℕ
grant_of b r = second_at b r

abbrev pub grantee_of : List ℕ → ℕ → ℕ
grantee_of b r = first_at b (grant_of b r)

abbrev pub scope_of : List ℕ → ℕ → ℕ
scope_of b r = second_at b (grant_of b r)

-- rule 21: Q is trusted with x, an instance of X
abbrev pub trust : List ℕ → (r x : ℕ) → Instance
trust b r x = joins (step 21) (at r believes) (at x (believed + rank_at b (grantee_of b r))) (opened_at b x)

-- It stands in two lists, that of r and that of x: so a new belief in r asks for all its instances, and a new one in x for those of x alone.
unfoldable pub trusts : (b rows : List ℕ) → (r x : ℕ) → List Instance
trusts b rows r x = cond (row_has rows (scope_of b r) x) (trust b r x ∷ []) []

unfoldable pub trusted_by : (b rows : List ℕ) → (x r : ℕ) → List Instance
trusted_by b rows x r = cond (row_has rows (256 + x) r) (trust b r x ∷ []) []

unfoldable pub trusted : (b rows : List ℕ) → ℕ → List Instance
trusted b rows x = cond (eqb (length rows) 0) [] (upto (trusted_by b rows x) 256)

-- rule 22: c is an instance of "Q controls X"
unfoldable pub grants : (b rows : List ℕ) → (r c : ℕ) → List Instance
grants b rows r c = cond (row_has rows (grant_of b r) c) (leads (step 22) (at r believes) (at c believes) ∷ []) []

unfoldable pub delegated : (b rows : List ℕ) → ℕ → List Instance
delegated b rows r = upto (trusts b rows r) 256 ++ upto (grants b rows r) 256

-- SETS OF PRINCIPALS, by rank
abbrev pub everyone : ℕ
everyone = 255

abbrev pub only_one : List ℕ → ℕ → ℕ
only_one b q = 2 ^ rank_at b q

abbrev pub all_but : List ℕ → ℕ → ℕ
all_but b q = 255 - 2 ^ rank_at b q

-- instances for everyone
abbrev pub for_all : List Instance → List Common
for_all l = map (common everyone) l

-- y says whose public key the key of r is
unfoldable pub is_public : List ℕ → (r y : ℕ) → Bool
is_public b r y = eqb (kind_at b y) public_key && eqb (first_at b y) (second_at b r)

-- y, of kind k, is about the key or the secret of r
unfoldable pub is_about : List ℕ → (k r y : ℕ) → Bool
is_about b k r y = eqb (kind_at b y) k && eqb (second_at b y) (second_at b r)

-- rules 1 and 3: each end of the key or secret y concludes that the other said what is in r
abbrev pub from_ends : List ℕ → (k m r y : ℕ) → List Common
from_ends b k m r y =
    common (bit_and m (only_one b (first_at b y))) (joins k (at y believes) (at r sees) (at (first_at b r) (said + rank_at b (third_at b y))))
    ∷ common (bit_and m (only_one b (third_at b y))) (joins k (at y believes) (at r sees) (at (first_at b r) (said + rank_at b (first_at b y))))
    ∷ []

-- rules 1 and 9, for the principals of the set m
unfoldable pub by_shared_key : List ℕ → (m r y : ℕ) → List Common
by_shared_key b m r y =
    cond (is_about b shared_key r y)
    (from_ends b (step 1) m r y
    ++ (common (bit_and m (bit_or (only_one b (first_at b y)) (only_one b (third_at b y)))) (joins (step 9) (at y believes) (at r sees) (at (first_at b r) sees)) ∷ []))
    []

-- rule 10
unfoldable pub by_own_key : List ℕ → (m r y : ℕ) → List Common
by_own_key b m r y =
    cond (is_public b r y) (common (bit_and m (only_one b (second_at b y))) (joins (step 10) (at y believes) (at r sees) (at (first_at b r) sees)) ∷ []) []

-- rules 2 and 11
unfoldable pub by_public_key : List ℕ → (m r y : ℕ) → List Common
by_public_key b m r y =
    cond (is_public b r y)
    (common m (joins (step 2) (at y believes) (at r sees) (at (first_at b r) (said + rank_at b (second_at b y))))
    ∷ common m (joins (step 11) (at y believes) (at r sees) (at (first_at b r) sees)) ∷ [])
    []

-- rule 3
unfoldable pub by_secret : List ℕ → (m r y : ℕ) → List Common
by_secret b m r y = cond (is_about b shared_secret r y) (from_ends b (step 3) m r y) []

-- what the statement y does to the encrypted, signed or combined formula r, for the principals of the set m
unfoldable pub unsealed : List ℕ → (m r y : ℕ) → List Common
unsealed b m r y =
    cond (eqb (kind_at b r) encrypted) (by_shared_key b m r y ++ by_own_key b m r y)
    (cond (eqb (kind_at b r) signed) (by_public_key b m r y)
    (by_secret b m r y))

-- STATEMENTS ABOUT A KEY OR SECRET. Number x of the links is the last statement about x, number 256 + y the one before y. 0 is none: record 0
-- is never a statement.
unfoldable pub last_about : List ℕ → ℕ → ℕ
last_about links x = get_or links x 0

-- a link that does not lead down ends the chain
unfoldable pub before : List ℕ → ℕ → ℕ
before links y = cond (ltb (get_or links (256 + y) 0) y) (get_or links (256 + y) 0) 0

-- what each statement of a chain gives, from y down
unfoldable pub along : (ℕ → List Common) → List ℕ → (most y : ℕ) → List Common
along f links zero y = []
along f links (suc j) y = cond (eqb y 0) [] (f y ++ along f links j (before links y))

-- all statements about the key or secret of r
unfoldable pub opened : (b links : List ℕ) → (m r : ℕ) → List Common
opened b links m r = along (unsealed b m r) links 256 (last_about links (second_at b r))

-- rule 8, which asks for no statement
abbrev pub combined : List ℕ → ℕ → List Instance
combined b r = leads (step 8) (at r sees) (at (first_at b r) sees) ∷ []

-- all rules of record r, by its kind; what is from a principal tells him nothing
unfoldable pub by_kind : (b links rows : List ℕ) → ℕ → List Common
by_kind b links rows r =
    cond (eqb (kind_at b r) conjunction) (for_all (conjoined b r (first_at b r) (second_at b r)))
    (cond (eqb (kind_at b r) encrypted) (opened b links (all_but b (third_at b r)) r)
    (cond (eqb (kind_at b r) signed) (opened b links (all_but b (third_at b r)) r)
    (cond (eqb (kind_at b r) combination) (for_all (combined b r) ++ opened b links everyone r)
    (cond (eqb (kind_at b r) controls) (for_all (controlled b r))
    (cond (eqb (kind_at b r) delegation) (for_all (delegated b rows r))
    [])))))

unfoldable pub rules_of : (b links rows : List ℕ) → ℕ → List Common
rules_of b links rows r = for_all (vouched b r) ++ (by_kind b links rows r ++ for_all (trusted b rows r))
