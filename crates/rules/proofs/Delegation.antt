-- What stands under a kind 17, and what is an instance of it: a formula of the same kind, without loose variables.
use Prim.Native.Nat.{ℕ, ◌<◌}
use native.Mathlib.Omega.{arith}
use mathlib.Core.Path.{◌≡◌, refl, sym, ap, ◌∙◌, subst}
use mathlib.Core.List.{List}
use lib.ListN.{length}
use lib.Dec.{T}
use Rattle.logic.specs.declared.Record.{Record}
use Rattle.logic.specs.Kind.{is_formula}
use Rattle.logic.specs.Formula.{Tree, loose, may_delegate, record_of, name_of, tree_of}
use Rattle.logic.specs.Formula.Tree.{principal, key, datum, conjunction, encrypted, signed, combined, shared_key, public_key, shared_secret, fresh, believes, sees, said, controls, variable, for_every}
use Rattle.logic.specs.Instance.{put}
use Rattle.logic.proofs.Parts.{kind_of}
use Rattle.logic.proofs.Loose.{allowed_closed}
use Rattle.logic.proofs.Formulas.{Formulas, is_record, kind_is}
use Rattle.logic.proofs.Meaning.{IsFormula, IsSentence, formula_in_lem}
use Rattle.logic.proofs.ByKind.{controls_is}
use Rattle.logic.proofs.RuleOn.{InstanceOn, delegation}
use Rattle.rules.proofs.Tables.{Under}
use Rattle.rules.proofs.InBook.{sorts15}

-- putting a key for a variable leaves the kind of a formula as it is
put_kind : (v n : ℕ) (X : Tree) → T (is_formula (kind_of X)) → kind_of (put v n X) ≡ kind_of X
put_kind v n (principal m) t = refl
put_kind v n (key m) t = refl
put_kind v n (datum m) t = refl
put_kind v n (conjunction X Y) t = refl
put_kind v n (encrypted X K R) t = refl
put_kind v n (signed X K R) t = refl
put_kind v n (combined X Y) t = refl
put_kind v n (shared_key P K Q) t = refl
put_kind v n (public_key K Q) t = refl
put_kind v n (shared_secret P X Q) t = refl
put_kind v n (fresh X) t = refl
put_kind v n (believes P X) t = refl
put_kind v n (sees P X) t = refl
put_kind v n (said P X) t = refl
put_kind v n (controls P X) t = refl
put_kind v n (variable w) t = absurd t
put_kind v n (for_every w Z) t = refl

module _ (fs : List Record) (ok : Formulas fs) (d : ℕ) (k : (record_of fs d).kind ≡ 17) where
  abbrev pub grant : ℕ
  grant = (record_of fs d).second

  abbrev pub scope : ℕ
  scope = (record_of fs grant).second

  pub in_d : d < length fs
  in_d = is_record fs d (λ z. omega arith)

  -- "Q controls X" and X may stand under d
  pub grant_is : (record_of fs grant).kind ≡ 15
  grant_is = (delegation fs ok d k).0

  pub grant_under : Under fs d grant
  grant_under = ok.delegations d in_d k

  pub scope_under : Under fs d scope
  scope_under = subst (λ Z. T (may_delegate (name_of fs (record_of fs d).first) Z)) (controls_is fs ok grant grant_is) grant_under

  pub grant_formula : IsFormula fs grant
  grant_formula = rw grant_is tt

  pub scope_formula : IsFormula fs scope
  scope_formula = (sorts15 fs ok grant grant_is).1

  -- AN INSTANCE
  pub same_kind : (y x : ℕ) → IsFormula fs y → x < length fs → InstanceOn fs (record_of fs d).first y x → (record_of fs x).kind ≡ (record_of fs y).kind
  same_kind y x f l (n, e) =
      let h = kind_is fs ok y (formula_in_lem fs y f) in
      sym (kind_is fs ok x l) ∙ ap kind_of e ∙ put_kind (name_of fs (record_of fs d).first) n (tree_of fs y) (rw h f) ∙ h

  pub instance_sentence : (y x : ℕ) → Under fs d y → IsFormula fs y → x < length fs → InstanceOn fs (record_of fs d).first y x → IsSentence fs x
  instance_sentence y x u f l (n, e) =
      (rw (same_kind y x f l (n, e)) f, ap loose e ∙ allowed_closed (name_of fs (record_of fs d).first) n (tree_of fs y) u)
