-- The text of a goal's fact is the text of its formula. Assumes nothing.
use Prim.Native.Nat.{ℕ, ◌<◌}
use mathlib.Core.Path.{◌≡◌, refl, sym, ap, ◌∙◌}
use mathlib.Core.List.{List}
use mathlib.Core.Bool.{Bool, true, false, cond, ◌||◌}
use lib.ListN.{length}
use lib.Dec.{T, eqb}
use borrow.Author.Tests.{eqb-true}
use Rattle.logic.specs.declared.Record.{Record}
use Rattle.logic.specs.Kind.{is_statement}
use Rattle.logic.specs.Formula.{Tree, record_of, tree_of, built}
use Rattle.logic.specs.Formula.Tree.{principal, key, datum, conjunction, encrypted, signed, combined, shared_key, public_key, shared_secret, fresh, believes, sees, said, controls, variable, for_every}
use Rattle.logic.specs.Fact.{belief, goal_fact}
use Rattle.logic.specs.Fact.Fact.{Sees}
use Rattle.logic.specs.Text.{text, statement, fact_text}
use Rattle.logic.proofs.Formulas.{Formulas, tree_is, is_record}

-- Opening a belief does not change what it says.
statement-belief : (P : ℕ) (X : Tree) → statement (belief P X) ≡ believes P X
statement-belief P (principal n) = refl
statement-belief P (key n) = refl
statement-belief P (datum n) = refl
statement-belief P (conjunction X Y) = refl
statement-belief P (encrypted X K R) = refl
statement-belief P (signed X K R) = refl
statement-belief P (combined X Y) = refl
statement-belief P (shared_key A K B) = refl
statement-belief P (public_key K Q) = refl
statement-belief P (shared_secret A X B) = refl
statement-belief P (fresh X) = refl
statement-belief P (believes Q X) = refl
statement-belief P (sees Q X) = refl
statement-belief P (said Q X) = refl
statement-belief P (controls Q X) = refl
statement-belief P (variable v) = refl
statement-belief P (for_every v Z) = refl

stated_tree : (tree : ℕ → Tree) (look : ℕ → Record) (r : Record) → T (is_statement r.kind)
    → statement (cond (eqb r.kind 12) (belief (look r.first).first (tree r.second)) (Sees (look r.first).first (tree r.second))) ≡ built tree look r
unfolding built
stated_tree tree look r h = go (eqb r.kind 12) refl (eqb r.kind 13) refl h
  where
    go : (b : Bool) → eqb r.kind 12 ≡ b → (c : Bool) → eqb r.kind 13 ≡ c → T (b || c)
        → statement (cond (eqb r.kind 12) (belief (look r.first).first (tree r.second)) (Sees (look r.first).first (tree r.second))) ≡ built tree look r
    go true e c g t = let k = eqb-true r.kind 12 e in rw k (statement-belief (look r.first).first (tree r.second))
    go false e true g t = let k = eqb-true r.kind 13 g in rw k refl
    go false e false g t = absurd t

pub goal_text : (naming : ℕ → List ℕ) (fs : List Record) → Formulas fs → (r : Record) → T (is_statement (record_of fs r.second).kind)
    → (r.second < length fs) × (fact_text naming (goal_fact fs r) ≡ text naming (tree_of fs r.second))
unfolding goal_fact
goal_text naming fs ok r h =
    let l : r.second < length fs = is_record fs r.second (λ e. no_kind (record_of fs r.second).kind e h) in
    (l, ap (text naming) (stated_tree (tree_of fs) (record_of fs) (record_of fs r.second) h ∙ sym (tree_is fs ok r.second l)))
  where
    no_kind : (k : ℕ) → k ≡ 0 → T (is_statement k) → ⊥
    no_kind k e t = rw e at t
