-- Laws of the functions, over plain variables; what a callee ensures is taken as an equation. Assumes nothing.
use Prim.Native.Nat.{ℕ, zero, suc, ◌+◌, ◌*◌, ◌-◌, ◌/◌, ◌%◌, ◌≤◌, ◌<◌}
use native.Mathlib.Nat.{div-eq_of_lt, mod-eq_of_lt}
use native.Mathlib.Numerals.{add-one}
use native.Mathlib.Omega.{arith}
use mathlib.Core.Path.{◌≡◌, refl, sym, ap, ◌∙◌}
use mathlib.Core.List.{List, [], ◌∷◌, ◌++◌, append-nil, append_assoc}
use mathlib.Core.Bool.{Bool, true, false, cond, not}
use lib.ListN.{length, get_or, set, take, length-append}
use lib.Seq.{sets}
use lib.Dec.{eqb, ltb}
use borrow.Author.Tests.{lt-ltb, le-ltb, le-leb, lt-leb, eqb-true, eqb-false, not-true, not-false}
use Rattle.logic.specs.Fact.Fact.{Sees, Believes, BelievesFresh, BelievesSaid, BelievesBelieves}
use Rattle.logic.specs.Written.{seven_bytes, fact_bytes}
use Rattle.logic.proofs.Steps.{number_bytes, step_bytes, derivation_bytes}
use Rattle.logic.specs.Step.{Step, numbers_in}
use Rattle.facts.specs.declared.Cell.{Cell}
use Rattle.facts.specs.declared.Instance.{Instance}
use Rattle.facts.specs.Block.{place_in}
use Rattle.digits.proofs.Put.{sets_append}
use Rattle.derive.specs.Log.{instance_at, instances}
use Rattle.derive.specs.Steps.{table_size, blank, wants, wanted_by, wanted, kept, needed, numbers_of, step_number, cell_fact, first_number, step_with, step_of, steps_of, derivation, Writes, Writing, writing, entry_written, mode_byte, other_in}
use Rattle.derive.proofs.Numbers.{steps_length}

-- What is wanted.

-- a turn backwards over the entries, and the end
pub wanted_more : (p : ℕ) (log : List ℕ) (k : ℕ) (w : List ℕ) {i : Instance} {u z : List ℕ} → 0 < k → i ≡ instance_at log (k - 1) → u ≡ wanted_by p w i
    → wanted p w (instances log k) ≡ z → wanted p u (instances log (k - 1)) ≡ z
unfolding wanted instances
wanted_more p log zero w l e f h = absurd (omega arith)
wanted_more p log (suc k) w l e f h = let n : suc k - 1 ≡ k = omega arith in rw (f, e, n) h

pub wanted_end : (p : ℕ) (log : List ℕ) (k : ℕ) (w : List ℕ) {z : List ℕ} → k ≤ 0 → wanted p w (instances log k) ≡ z → w ≡ z
unfolding wanted instances
wanted_end p log zero w l h = h
wanted_end p log (suc k) w l h = absurd (omega arith)

-- The bytes of a fact.

-- a fact, written
seven : (names : List ℕ) (P : ℕ) (q : Cell) → fact_bytes (cell_fact names P q) ≡ seven_bytes (mode_byte q.bit) P (other_in names q.bit) q.formula
unfolding cell_fact mode_byte other_in
seven names P q = go (eqb q.bit 0) (eqb q.bit 1) (eqb q.bit 2) (ltb q.bit 11) refl refl refl refl
  where
    x : ℕ
    x = q.formula

    b : ℕ
    b = q.bit

    low : (m : ℕ) → m < 3 → q.bit ≡ m
        → seven_bytes (m + 1) P 0 x
        ≡ seven_bytes (cond (ltb b 3) (b + 1) (cond (ltb b 11) 4 5)) P (cond (ltb b 3) 0 (cond (ltb b 11) (get_or names (b - 3) 0) (get_or names (b - 11) 0))) x
    low m l e = rw (e, lt-ltb m 3 l)

    go : (s t u v : Bool) → eqb q.bit 0 ≡ s → eqb q.bit 1 ≡ t → eqb q.bit 2 ≡ u → ltb q.bit 11 ≡ v
        → fact_bytes (cond s (Sees P x) (cond t (Believes P x) (cond u (BelievesFresh P x)
        (cond v (BelievesSaid P (get_or names (b - 3) 0) x) (BelievesBelieves P (get_or names (b - 11) 0) x)))))
        ≡ seven_bytes (cond (ltb b 3) (b + 1) (cond v 4 5)) P (cond (ltb b 3) 0 (cond v (get_or names (b - 3) 0) (get_or names (b - 11) 0))) x
    go true t u v c d e f = let z = eqb-true q.bit 0 c in rw (← f) (low 0 (omega arith) z)
    go false true u v c d e f = let z = eqb-true q.bit 1 d in rw (← f) (low 1 (omega arith) z)
    go false false true v c d e f = let z = eqb-true q.bit 2 e in rw (← f) (low 2 (omega arith) z)
    go false false false v c d e f =
        let c' = eqb-false q.bit 0 c in
        let d' = eqb-false q.bit 1 d in
        let e' = eqb-false q.bit 2 e in
        rw (le-ltb q.bit 3 (omega arith)) (rest v)
      where
        rest : (v : Bool) → fact_bytes (cond v (BelievesSaid P (get_or names (b - 3) 0) x) (BelievesBelieves P (get_or names (b - 11) 0) x))
            ≡ seven_bytes (cond v 4 5) P (cond v (get_or names (b - 3) 0) (get_or names (b - 11) 0)) x
        rest true = refl
        rest false = refl

-- a number below 256 as two bytes
high_none : (x : ℕ) → x < 256 → x / 256 ≡ 0
high_none x l = div-eq_of_lt l

low_all : (x : ℕ) → x < 256 → x % 256 ≡ x
low_all x l = mod-eq_of_lt l

-- a number in two bytes
pub high_byte : (x : ℕ) {l : List ℕ} → x < 65536 → l ≡ x / 256 % 256 ∷ x % 256 ∷ [] → get_or l 0 0 ≡ x / 256
high_byte x b e = ap (λ (l : List ℕ). get_or l 0 0) e ∙ omega arith

pub low_byte : (x : ℕ) {l : List ℕ} → l ≡ x / 256 % 256 ∷ x % 256 ∷ [] → get_or l 1 0 ≡ x % 256
low_byte x e = ap (λ (l : List ℕ). get_or l 1 0) e

-- THE TWELVE BYTES of a step, of which a step with fewer numbers has fewer
step_bytes_lem : (names : List ℕ) (P : ℕ) (i : Instance) (a b : ℕ) {n m o x a₁ a₂ b₁ b₂ : ℕ} → P < 256 → o < 256 → x < 256
    → n ≡ numbers_in i.kind → n ≤ 2 → m ≡ mode_byte i.gives.bit → o ≡ other_in names i.gives.bit
    → x ≡ i.gives.formula → a₁ ≡ a / 256 → a₂ ≡ a % 256 → b₁ ≡ b / 256 → b₂ ≡ b % 256
    → take (8 + 2 * n) (i.kind ∷ m ∷ 0 ∷ P ∷ 0 ∷ o ∷ 0 ∷ x ∷ a₁ ∷ a₂ ∷ b₁ ∷ b₂ ∷ []) ≡ step_bytes (step_with names P i a b)
unfolding step_bytes
step_bytes_lem names P i a b {n} {m} {o} {x} {a₁} {a₂} {b₁} {b₂} lp lo lx e l em eo ex e₁ e₂ e₃ e₄ =
    let s : fact_bytes (cell_fact names P i.gives) ≡ m ∷ 0 ∷ P ∷ 0 ∷ o ∷ 0 ∷ x ∷ [] =
    seven names P i.gives
    ∙ rw (← em, ← eo, ← ex, high_none P lp, low_all P lp, high_none o lo, low_all o lo, high_none x lx, low_all x lx) in
    rw (s, ← e) (go n l)
  where
    go : (n : ℕ) → n ≤ 2
        → take (8 + 2 * n) (i.kind ∷ m ∷ 0 ∷ P ∷ 0 ∷ o ∷ 0 ∷ x ∷ a₁ ∷ a₂ ∷ b₁ ∷ b₂ ∷ [])
        ≡ i.kind ∷ m ∷ 0 ∷ P ∷ 0 ∷ o ∷ 0 ∷ x ∷ number_bytes (take n (a ∷ b ∷ []))
    go zero l = refl
    go (suc zero) l = rw (e₁, e₂)
    go (suc (suc zero)) l = rw (e₁, e₂, e₃, e₄)
    go (suc (suc (suc n))) l = absurd (omega arith)

-- how many they are
pub twelve : (n : ℕ) (a b c d e f g h i j k l : ℕ) → n ≤ 2 → 8 + 2 * n ≡ length (take (8 + 2 * n) (a ∷ b ∷ c ∷ d ∷ e ∷ f ∷ g ∷ h ∷ i ∷ j ∷ k ∷ l ∷ []))
twelve zero a b c d e f g h i j k l z = refl
twelve (suc zero) a b c d e f g h i j k l z = refl
twelve (suc (suc zero)) a b c d e f g h i j k l z = refl
twelve (suc (suc (suc n))) a b c d e f g h i j k l z = absurd (omega arith)

-- a step at a place
pub step_put : (names : List ℕ) (P : ℕ) (i : Instance) (a b : ℕ) (out : List ℕ) (at : ℕ) {n m o x a₁ a₂ b₁ b₂ : ℕ} → P < 256 → o < 256 → x < 256
    → n ≡ numbers_in i.kind → n ≤ 2 → m ≡ mode_byte i.gives.bit → o ≡ other_in names i.gives.bit
    → x ≡ i.gives.formula → a₁ ≡ a / 256 → a₂ ≡ a % 256 → b₁ ≡ b / 256 → b₂ ≡ b % 256
    → {u : List ℕ} → u ≡ sets out at (take (8 + 2 * n) (i.kind ∷ m ∷ 0 ∷ P ∷ 0 ∷ o ∷ 0 ∷ x ∷ a₁ ∷ a₂ ∷ b₁ ∷ b₂ ∷ []))
    → (u ≡ sets out at (step_bytes (step_with names P i a b))) × (at + (8 + 2 * n) ≡ at + length (step_bytes (step_with names P i a b)))
    × (at + (8 + 2 * n) ≤ at + 12)
step_put names P i a b out at {n} {m} {o} {x} {a₁} {a₂} {b₁} {b₂} lp lo lx e l em eo ex e₁ e₂ e₃ e₄ h =
    let v = step_bytes_lem names P i a b lp lo lx e l em eo ex e₁ e₂ e₃ e₄ in
    (rw (← v) h, rw (← v) (ap (λ k. at + k) (twelve n i.kind m 0 P 0 o 0 x a₁ a₂ b₁ b₂ l)), omega arith)

-- an entry that is not wanted, and one that is
module _ (p : ℕ) (names : List ℕ) (P : ℕ) (w o ns : List ℕ) (k l : ℕ) (i : Instance) {b : Bool} (e : b ≡ wants p w i.gives) where
  pub entry_left : not b ≡ true → writing o ns k l ≡ entry_written p names P w (writing o ns k l) i
  unfolding entry_written
  entry_left h = rw (← e, not-true b h)

  pub entry_taken : not b ≡ false → {x y at m : ℕ} {u v : List ℕ} → x ≡ first_number p ns i → y ≡ step_number p ns i.second
      → u ≡ sets o l (step_bytes (step_with names P i x y)) → m ≡ l + length (step_bytes (step_with names P i x y))
      → at ≡ place_in p i.gives → v ≡ set ns at k
      → writing u v (k + 1) m ≡ entry_written p names P w (writing o ns k l) i
  unfolding entry_written step_of
  entry_taken h ex ey eu em ea ev = rw (← e, not-false b h, eu, em, ev, ea, ex, ey)

-- Steps one behind the other.

bytes_snoc : (qs : List Step) (q : Step) → derivation_bytes (qs ++ (q ∷ [])) ≡ derivation_bytes qs ++ step_bytes q
unfolding derivation_bytes
bytes_snoc [] q = append-nil (step_bytes q)
bytes_snoc (r ∷ qs) q = ap (λ b. step_bytes r ++ b) (bytes_snoc qs q) ∙ sym (append_assoc (step_bytes r) (derivation_bytes qs) (step_bytes q))

-- what is written when the entries l are
pub so_far : (size p : ℕ) → List ℕ → ℕ → List ℕ → List Instance → Writing
so_far size p names P o l =
    writing (sets o 0 (derivation_bytes (steps_of size p names P l))) (numbers_of size p l) (length l) (length (derivation_bytes (steps_of size p names P l)))

one_more_lem : (size p : ℕ) (names : List ℕ) (P : ℕ) (w o : List ℕ) (l : List Instance) (i : Instance)
    → entry_written p names P w (so_far size p names P o l) i ≡ so_far size p names P o (cond (wants p w i.gives) (i ∷ l) l)
unfolding entry_written so_far steps_of numbers_of
one_more_lem size p names P w o l i = go (wants p w i.gives)
  where
    qs : List Step
    qs = steps_of size p names P l

    q : Step
    q = step_of p names P (numbers_of size p l) i

    go : (b : Bool)
        → cond b (writing (sets (sets o 0 (derivation_bytes qs)) (length (derivation_bytes qs)) (step_bytes q)) (set (numbers_of size p l) (place_in p i.gives) (length l))
        (length l + 1) (length (derivation_bytes qs) + length (step_bytes q))) (so_far size p names P o l)
        ≡ so_far size p names P o (cond b (i ∷ l) l)
    go false = refl
    go true =
        let z : 0 + length (derivation_bytes qs) ≡ length (derivation_bytes qs) = omega arith in
        let s : sets (sets o 0 (derivation_bytes qs)) (length (derivation_bytes qs)) (step_bytes q) ≡ sets o 0 (derivation_bytes (qs ++ (q ∷ []))) =
        ap (λ n. sets (sets o 0 (derivation_bytes qs)) n (step_bytes q)) (sym z) ∙ (sym (sets_append (derivation_bytes qs) (step_bytes q) o 0) ∙ ap (sets o 0) (sym (bytes_snoc qs q))) in
        let n : length (derivation_bytes qs) + length (step_bytes q) ≡ length (derivation_bytes (qs ++ (q ∷ []))) =
        sym (length-append (derivation_bytes qs) (step_bytes q)) ∙ ap length (sym (bytes_snoc qs q)) in
        λ j. writing (s j) (set (numbers_of size p l) (place_in p i.gives) (length l)) (add-one (length l) j) (n j)

pub none_yet : (size p : ℕ) (names : List ℕ) (P : ℕ) (w o log : List ℕ) → writing o (blank size) 0 0 ≡ so_far size p names P o (kept p w (instances log 0))
unfolding so_far steps_of numbers_of kept instances derivation_bytes
none_yet size p names P w o log = refl

pub entry_more : (size p : ℕ) (names : List ℕ) (P : ℕ) (w o log : List ℕ) (k : ℕ) {s u : Writing} {i : Instance} → i ≡ instance_at log k
    → u ≡ entry_written p names P w s i → s ≡ so_far size p names P o (kept p w (instances log k)) → u ≡ so_far size p names P o (kept p w (instances log (k + 1)))
unfolding kept instances
entry_more size p names P w o log k e f h = rw (f, h, e, add-one k) (one_more_lem size p names P w o (kept p w (instances log k)) (instance_at log k))

pub entries_end : (size p : ℕ) (names : List ℕ) (P : ℕ) (w o log : List ℕ) (k n : ℕ) {o' ns : List ℕ} {a b : ℕ} → k ≤ n → n ≤ k
    → writing o' ns a b ≡ so_far size p names P o (kept p w (instances log k)) → Writes (steps_of size p names P (kept p w (instances log n))) o o' a b
unfolding so_far
entries_end size p names P w o log k n l h e =
    let z : n ≡ k = omega arith in
    let qs = steps_of size p names P (kept p w (instances log k)) in
    rw z
    (record {
      front = ap (λ s. s.out) e;
      count = ap (λ s. s.steps) e ∙ sym (steps_length size p names P (kept p w (instances log k)));
      size = ap (λ s. s.bytes) e;
    })

-- the whole: the goal's fact marked in a blank table, then what it needs, then the marked entries written
pub derivation_written : (size p : ℕ) (names : List ℕ) (P : ℕ) (goal : Cell) (log : List ℕ) (n : ℕ) {t w v o o' : List ℕ} {a b : ℕ}
    → t ≡ blank size → w ≡ set t (place_in p goal) 1 → v ≡ wanted p w (instances log n)
    → Writes (steps_of size p names P (kept p v (instances log n))) o o' a b → Writes (derivation size p names P goal log n) o o' a b
unfolding derivation needed
derivation_written size p names P goal log n d e f h = rw (f, e, d) at h

-- which tables are used
pub small_tables : (n p : ℕ) → n * (3 + 2 * p) ≤ 512 → table_size n p ≡ 512
unfolding table_size
small_tables n p l = rw (le-leb (n * (3 + 2 * p)) 512 l)

pub large_tables : (n p : ℕ) → 512 < n * (3 + 2 * p) → table_size n p ≡ 4864
unfolding table_size
large_tables n p l = rw (lt-leb (n * (3 + 2 * p)) 512 l)

-- the state of the loop over the entries
pub record Progress (size p : ℕ) (names : List ℕ) (P : ℕ) (w log o out ns : List ℕ) (steps bytes k : ℕ) : Type 0 where
  pub few : steps ≤ k
  pub small : bytes ≤ 12 * k
  pub written : writing out ns steps bytes ≡ so_far size p names P o (kept p w (instances log k))

pub progress_start : (size p : ℕ) (names : List ℕ) (P : ℕ) (w log o : List ℕ) {ns : List ℕ} → ns ≡ blank size → Progress size p names P w log o o ns 0 0 0
progress_start size p names P w log o e = record { few = omega arith; small = omega arith; written = rw e (none_yet size p names P w o log) }

pub progress_more : (size p : ℕ) (names : List ℕ) (P : ℕ) (w log o : List ℕ) (k : ℕ) {out ns out' ns' : List ℕ} {a b a' b' : ℕ} {i : Instance}
    → i ≡ instance_at log k
    → writing out' ns' a' b' ≡ entry_written p names P w (writing out ns a b) i → (a' ≤ a + 1) × (b' ≤ b + 12)
    → Progress size p names P w log o out ns a b k → Progress size p names P w log o out' ns' a' b' (k + 1)
progress_more size p names P w log o k e f l h =
    record { few = omega (arith, l.0, h.few); small = omega (arith, l.1, h.small); written = entry_more size p names P w o log k e f h.written }
