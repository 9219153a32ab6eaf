-- Laws that the proofs of a pair's line cite, over plain variables. Assumes nothing.
use Prim.Native.Nat.{ℕ, ◌<◌, ◌≤◌}
use native.Mathlib.Omega.{arith}
use mathlib.Core.Path.{◌≡◌, refl}
use mathlib.Core.List.{List}
use mathlib.Core.Bool.{Bool, true, false, ◌||◌}
use lib.ListN.{length}
use lib.Seq.{sets}
use lib.Dec.{leb, ltb}
use borrow.Author.Tests.{ltb-false, leb-false, le-ltb, lt-leb}
use Rattle.logic.specs.declared.Record.{Record}
use Rattle.logic.specs.Refusal.{Outcome}
use Rattle.logic.specs.Refusal.Outcome.{accepted, refused}
use Rattle.logic.specs.Text.{length_told, at_front}
use Rattle.logic.specs.Honesty.{disbelief_line, is_no_pair, disbelief_among}
use Rattle.digits.proofs.Puts.{whole_short, whole_put}

-- whether the message or the formula is not there, by how many there are of each
abbrev pub is_none : (messages formulas m x : ℕ) → Bool
is_none messages formulas m x = ltb m 1 || (ltb messages m || leb formulas x)

-- otherwise both are, and the other way round
pub pair_there : (p q m x : ℕ) → is_none p q m x ≡ false → (1 ≤ m) × (m ≤ p) × (x < q)
pair_there p q m x = go (ltb m 1) (ltb p m) (leb q x) refl refl refl
  where
    go : (a b c : Bool) → ltb m 1 ≡ a → ltb p m ≡ b → leb q x ≡ c → (a || (b || c)) ≡ false → (1 ≤ m) × (m ≤ p) × (x < q)
    go true b c ea eb ec e = absurd (let z : ◌≡◌ {A = ℕ} 0 1 = cc in omega arith)
    go false true c ea eb ec e = absurd (let z : ◌≡◌ {A = ℕ} 0 1 = cc in omega arith)
    go false false true ea eb ec e = absurd (let z : ◌≡◌ {A = ℕ} 0 1 = cc in omega arith)
    go false false false ea eb ec e = (ltb-false m 1 ea, ltb-false p m eb, leb-false q x ec)

pub there_pair : (p q m x : ℕ) → (1 ≤ m) × (m ≤ p) × (x < q) → is_none p q m x ≡ false
there_pair p q m x h = rw (le-ltb m 1 h.0, le-ltb p m h.1, lt-leb q x h.2) refl

module _ (fs ms : List Record) (m x : ℕ) (b : List ℕ) {p q : ℕ} (ep : length ms ≡ p) (eq : q ≡ length fs) {r : Bool} (er : r ≡ is_none p q m x) where
  abbrev Told : Outcome ℕ → List ℕ → Type 0
  Told o b' = (o ≡ length_told (disbelief_among fs ms m x (length b))) × (b' ≡ at_front (disbelief_among fs ms m x (length b)) b)

  test_is : is_no_pair fs ms m x ≡ r
  test_is = rw (ep, ← eq, er) refl

  pub no_pair : {o : Outcome ℕ} → r ≡ true → o ≡ refused 17 0 → Told o b
  no_pair e h = rw (test_is, e) (h, refl)

  module _ (e : r ≡ false) {k : ℕ} (g : k ≡ length (disbelief_line fs ms m x)) where
    pub pair_short : {o : Outcome ℕ} → length b < k → o ≡ refused 14 0 → Told o b
    pair_short l h = rw (test_is, e) (whole_short (disbelief_line fs ms m x) b g l h)

    pub pair_whole : {b' : List ℕ} → k ≤ length b → b' ≡ sets b 0 (disbelief_line fs ms m x) → Told (accepted k) b'
    pair_whole l h = rw (test_is, e) (whole_put (disbelief_line fs ms m x) b g l h)
