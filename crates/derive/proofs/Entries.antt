-- The entries of a log, read back, are those of its history. Assumes nothing.
use Prim.Native.Nat.{ℕ, zero, suc, ◌+◌, ◌*◌, ◌<◌}
use native.Mathlib.Nat.{add-zero}
use native.Mathlib.Omega.{arith}
use mathlib.Core.Path.{◌≡◌, refl, sym, ap, ap₂, ◌∙◌}
use mathlib.Core.List.{List, [], ◌∷◌, ◌++◌, map, append_assoc}
use mathlib.Core.Bool.{Bool, true, false, cond}
use lib.ListN.{length, get_or, take, drop, take-append-drop, get_or-append}
use lib.Seq.{get_or-append-add}
use Rattle.logic.specs.Book.{All}
use Rattle.logic.specs.Derivation.{Among}
use Rattle.logic.specs.Step.{numbers_in}
use Rattle.facts.specs.declared.Cell.{Cell}
use Rattle.facts.specs.declared.Instance.{Instance}
use Rattle.facts.specs.Facts.{is_given, entry_of}
use Rattle.facts.proofs.Premises.{Unless}
use Rattle.facts.proofs.History as history
use Rattle.facts.proofs.History.{Entry, found, log_bytes, Proper}
use Rattle.derive.specs.Log.{instance_at, instances}
use Rattle.derive.specs.Steps.{premises_for}
use Rattle.derive.proofs.NeededEntries.{founds, ProperOn}

-- the instances of a history
abbrev pub by : List Entry → List Instance
by h = map (λ e. e.by) h

-- byte j of an entry behind the bytes of older ones
byte : (h : List Entry) (e : Entry) (rest : List ℕ) (j : ℕ) → j < 8
    → get_or (history.log_bytes h ++ (entry_of e.stamp e.by ++ rest)) (length h * 8 + j) 0 ≡ get_or (entry_of e.stamp e.by) j 0
byte h e rest j l =
    let v = entry_of e.stamp e.by in
    ap (λ z. get_or (history.log_bytes h ++ (v ++ rest)) (z + j) 0) (sym (history.length_bytes h))
    ∙ (get_or-append-add (history.log_bytes h) (v ++ rest) j 0 ∙ get_or-append v rest 0 j l)

-- the entry behind older ones is read back
entry_at : (h : List Entry) (e : Entry) (rest : List ℕ) → instance_at (history.log_bytes h ++ (entry_of e.stamp e.by ++ rest)) (length h) ≡ e.by
unfolding instance_at
entry_at h e rest =
    let l = history.log_bytes h ++ (entry_of e.stamp e.by ++ rest) in
    let b = byte h e rest in
    let f : get_or l (length h * 8) 0 ≡ e.by.gives.formula = ap (λ z. get_or l z 0) (sym (add-zero (length h * 8))) ∙ b 0 (omega arith) in
    λ i.
    record {
      kind = b 2 (omega arith) i;
      first = record { formula = b 4 (omega arith) i; bit = b 5 (omega arith) i };
      second = record { formula = b 6 (omega arith) i; bit = b 7 (omega arith) i };
      gives = record { formula = f i; bit = b 1 (omega arith) i };
    }

-- the entries of a log that begins with the bytes of a history
instances_of_lem : (h : List Entry) (rest : List ℕ) → instances (history.log_bytes h ++ rest) (length h) ≡ by h
unfolding instances
instances_of_lem [] rest = refl
instances_of_lem (e ∷ h) rest =
    let v = entry_of e.stamp e.by in
    ap (λ l. instances l (suc (length h))) (append_assoc (history.log_bytes h) v rest) ∙ (ap₂ (λ a b. a ∷ b) (entry_at h e rest) (instances_of_lem h (v ++ rest)))

-- the first entries of a log, so many, are a history
pub record Logged (log : List ℕ) (count : ℕ) (h : List Entry) : Type 0 where
  pub number : length h ≡ count
  pub bytes : take (count * 8) log ≡ log_bytes h
  pub proper : Proper h

-- a log that has a history begins with its bytes
pub begins : (log : List ℕ) (count : ℕ) (h : List Entry) → Logged log count h → log ≡ log_bytes h ++ drop (count * 8) log
begins log count h r = sym (take-append-drop (count * 8) log) ∙ ap (λ b. b ++ drop (count * 8) log) r.bytes

-- THE ENTRIES OF THE LOG are those of the history
pub logged_instances : (log : List ℕ) (count : ℕ) (h : List Entry) → Logged log count h → instances log count ≡ by h
logged_instances log count h r = ap₂ instances (begins log count h r) (sym r.number) ∙ instances_of_lem h (drop (count * 8) log)

found_by_entries : (h : List Entry) → found h ≡ founds (by h)
found_by_entries [] = refl
found_by_entries (e ∷ h) = ap (λ l. e.by.gives ∷ l) (found_by_entries h)

pub found_on : (h : List Entry) (q : Cell) → Among q (found h) → Among q (founds (by h))
found_on h q m = rw (found_by_entries h) at m

pub on_found : (h : List Entry) (q : Cell) → Among q (founds (by h)) → Among q (found h)
on_found h q m = rw (found_by_entries h) m

-- what an entry asks for are its premises
asked_premises : (G : Cell → Type 0) (i : Instance) → Unless (is_given i.kind) (G i.first × G i.second) → All G (premises_for i)
unfolding premises_for
asked_premises G i a = go (is_given i.kind) (numbers_in i.kind) a
  where
    go : (b : Bool) (n : ℕ) → Unless b (G i.first × G i.second) → All G (cond b [] (take n (i.first ∷ i.second ∷ [])))
    go true n a = tt
    go false zero a = tt
    go false (suc zero) a = (a.0, tt)
    go false (suc (suc zero)) a = (a.0, (a.1, tt))
    go false (suc (suc (suc n))) a = (a.0, (a.1, tt))

pub proper_on : (h : List Entry) → Proper h → ProperOn (by h)
proper_on [] r = tt
proper_on (e ∷ h) r = (
  asked_premises (λ q. Among q (founds (by h))) e.by (rw (found_by_entries h) at r.0),
  (λ m. r.1 (rw (found_by_entries h) m)),
  proper_on h r.2,
)
