-- The trees of formula records: each is built from the trees of the records that its fields refer to.
use Prim.Native.Nat.{ℕ, zero, suc, ◌+◌, ◌<◌}
use mathlib.Core.Path.{◌≡◌, refl, sym, ◌∙◌, ap, ap₂}
use mathlib.Core.List.{List, [], ◌∷◌, ◌++◌}
use native.Mathlib.Omega.{arith}
use native.Mathlib.Nat.{add-zero}
use lib.ListN.{length, get_or, length-append, get_or-append}
use lib.Seq.{get_or-append_seam}
use lib.Dec.{T}
use Rattle.logic.specs.declared.Record.{Record}
use Rattle.logic.specs.Kind.{body_of, bodies, refers}
use Rattle.logic.specs.Record.{no_record}
use Rattle.logic.specs.Book.{EachField}
use Rattle.logic.specs.Formula.{Tree, record_of, no_tree, key_field, built, trees_behind}
use Rattle.logic.specs.Formula.Tree.{conjunction, encrypted, signed, combined, shared_secret, fresh, believes, sees, said, controls, for_every}
use Rattle.logic.proofs.Cases.{FormulaKind}
use Rattle.logic.proofs.Cases.FormulaKind.{kind1, kind2, kind3, kind4, kind5, kind6, kind7, kind8, kind9, kind10, kind11, kind12, kind13, kind14, kind15, kind16, kind17}

-- trees once built stay
kept : (fs : List Record) (ts : List Tree) (rs : List Record) (x : ℕ) → x < length ts
    → get_or (trees_behind fs ts rs) x no_tree ≡ get_or ts x no_tree
unfolding trees_behind
kept fs ts [] x l = refl
kept fs ts (r ∷ rs) x l =
    let t = built (λ y. get_or ts y no_tree) (record_of fs) r in
    kept fs (ts ++ (t ∷ [])) rs x (simp length-append (omega arith)) ∙ get_or-append ts (t ∷ []) no_tree x l

-- record j of rs has the tree that is built from the trees us of the records before it
pub record At (fs : List Record) (ts : List Tree) (rs : List Record) (j : ℕ) : Type 0 where
  pub before : List Tree
  pub count : length before ≡ length ts + j
  pub stay : (x : ℕ) → x < length before → get_or before x no_tree ≡ get_or (trees_behind fs ts rs) x no_tree
  pub here : get_or (trees_behind fs ts rs) (length ts + j) no_tree ≡ built (λ x. get_or before x no_tree) (record_of fs) (get_or rs j no_record)

pub found : (fs : List Record) (ts : List Tree) (rs : List Record) (j : ℕ) → j < length rs → At fs ts rs j
unfolding trees_behind
found fs ts [] j l = absurd (omega arith)
found fs ts (r ∷ rs) zero l =
    let t = built (λ y. get_or ts y no_tree) (record_of fs) r in
    record {
      before = ts;
      count = omega arith;
      stay = λ x h. sym (kept fs ts (r ∷ rs) x h);
      here =
          rw (add-zero (length ts))
          (kept fs (ts ++ (t ∷ [])) rs (length ts) (simp length-append (omega arith)) ∙ get_or-append_seam ts t [] no_tree);
    }
found fs ts (r ∷ rs) (suc j) l =
    let t = built (λ y. get_or ts y no_tree) (record_of fs) r in
    let h = found fs (ts ++ (t ∷ [])) rs j (omega arith) in
    let e : length (ts ++ (t ∷ [])) + j ≡ length ts + suc j = simp length-append (omega arith) in
    record {
      before = h.before;
      count = h.count ∙ e;
      stay = h.stay;
      here = rw (← e) h.here;
    }

-- a record of a known kind is built from the trees of the fields that refer
pub built_from : (tree tree' : ℕ → Tree) (look : ℕ → Record) (r : Record) → FormulaKind r.kind
    → EachField (λ s y. T (refers s) → tree y ≡ tree' y) r → built tree look r ≡ built tree' look r
unfolding built body_of bodies
built_from tree tree' look r v h = go r.kind r.first r.second r.third v h
  where
    go : (k a b c : ℕ) → FormulaKind k
        → EachField (λ s y. T (refers s) → tree y ≡ tree' y) (record { kind = k; first = a; second = b; third = c })
        → built tree look (record { kind = k; first = a; second = b; third = c })
        ≡ built tree' look (record { kind = k; first = a; second = b; third = c })
    go k a b c kind1 h = refl
    go k a b c kind2 h = refl
    go k a b c kind3 h = refl
    go k a b c kind4 h = ap₂ conjunction (h.0 tt) (h.1 tt)
    go k a b c kind5 h = ap (λ X. encrypted X (key_field (look b)) (look c).first) (h.0 tt)
    go k a b c kind6 h = ap (λ X. signed X (key_field (look b)) (look c).first) (h.0 tt)
    go k a b c kind7 h = ap₂ combined (h.0 tt) (h.1 tt)
    go k a b c kind8 h = refl
    go k a b c kind9 h = refl
    go k a b c kind10 h = ap (λ X. shared_secret (look a).first X (look c).first) (h.1 tt)
    go k a b c kind11 h = ap fresh (h.0 tt)
    go k a b c kind12 h = ap (believes (look a).first) (h.1 tt)
    go k a b c kind13 h = ap (sees (look a).first) (h.1 tt)
    go k a b c kind14 h = ap (said (look a).first) (h.1 tt)
    go k a b c kind15 h = ap (controls (look a).first) (h.1 tt)
    go k a b c kind16 h = refl
    go k a b c kind17 h = ap (for_every (look a).first) (h.1 tt)
