-- The formula number of a datum: among the formula records of an accepted book just its own record has its name. Assumes nothing.
use Prim.Native.Nat.{ℕ, ◌<◌}
use mathlib.Core.Path.{◌≡◌, refl, sym, ◌∙◌}
use mathlib.Core.List.{List}
use native.Mathlib.Omega.{arith}
use native.Mathlib.Decide.{dec_lt}
use lib.ListN.{length}
use Rattle.logic.specs.declared.Record.{Record}
use Rattle.logic.specs.Kind.{body_of, bodies}
use Rattle.logic.specs.Count.{position_of}
use Rattle.logic.specs.Book.{EachField, Whole}
use Rattle.logic.specs.Formula.{record_of, name_of}
use Rattle.logic.specs.Text.{datum_number}
use Rattle.logic.proofs.Bytes.{record_path}
use Rattle.logic.proofs.Same.{place_found_lem, place_new}
use Rattle.logic.proofs.Member.{all_at}
use Rattle.logic.proofs.Contents.{among_at}
use Rattle.logic.proofs.Formulas.{Formulas, is_record}

-- the record of a datum has its kind, its name and nothing more
datum_record : (k a b c : ℕ) → k ≡ 3 → EachField Whole (record { kind = k; first = a; second = b; third = c })
    → ◌≡◌ {A = Record} (record { kind = k; first = a; second = b; third = c }) (record { kind = 3; first = a; second = 0; third = 0 })
unfolding body_of bodies
datum_record k a b c e w = let h = rw e at w in record_path _ _ e refl h.1 h.2

-- a record that is there is found at its place
module _ (fs : List Record) (ok : Formulas fs) where
  found_at : (r : Record) (x : ℕ) → x < length fs → record_of fs x ≡ r → position_of r fs ≡ x
  found_at r x l e = elim (dec_lt (position_of r fs) (length fs)) [
    | yes m ↦ ok.once (position_of r fs) x m l (place_found_lem r fs m ∙ sym e)
    | no n ↦ absurd (all_at (λ q. r ≡ q → ⊥) (record_of fs x) fs (place_new r fs (omega arith)) (among_at fs x l) (sym e))
  ]

  -- THE NUMBER OF A DATUM is that of its record
  pub datum_number_lem : (x : ℕ) → (record_of fs x).kind ≡ 3 → datum_number fs (name_of fs x) ≡ x
  datum_number_lem x k =
      let l = is_record fs x (λ z. omega arith) in
      let r = record_of fs x in
      found_at _ x l (datum_record r.kind r.first r.second r.third k (ok.whole x l))
