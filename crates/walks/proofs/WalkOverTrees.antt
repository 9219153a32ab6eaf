-- The pass over marks is the walk: in the formula records of a book, mark 2 × x + 1 is set just if the walk over trees meets formula x inside a
-- section from the sender.
use Prim.Native.Nat.{ℕ, zero, suc, ◌+◌, ◌/◌, ◌%◌, ◌≤◌, ◌<◌}
use native.Mathlib.Decide.{ℕ_discrete, dec_lt}
use native.Mathlib.Omega.{arith}
use mathlib.Core.Path.{◌≡◌, refl, sym, ◌∙◌, ap, subst}
use mathlib.Core.Logic.{inl, inr, ◌↔◌}
use mathlib.Core.List.{List, [], ◌∷◌}
use mathlib.Core.Bool.{Bool, true, false, cond, ◌&&◌}
use lib.ListN.{length, get_or, set, replicate, length-replicate, get_or-replicate, get_or-eq_default}
use lib.Seq.{get_or-set_same, get_or-set_other}
use lib.Dec.{T, eqb, eqb→eq}
use borrow.Author.Tests.{eqb-true, eq-eqb}
use Rattle.logic.specs.declared.Record.{Record}
use Rattle.logic.specs.Kind.{body_of, bodies, refers}
use Rattle.logic.specs.Book.{All, EachField}
use Rattle.logic.specs.Formula.{Tree, record_of, name_of, key_of, tree_of}
use Rattle.logic.specs.Formula.Tree.{principal, encrypted, signed}
use Rattle.logic.specs.Honesty.{Meets}
use Rattle.logic.specs.Honesty.Meets.{begins, left, right, through, into_encrypted, into_signed}
use Rattle.logic.proofs.Tests.{T_and, true_T}
use Rattle.logic.proofs.KindTests.{either_T}
use Rattle.logic.proofs.Parts.{kind_of}
use Rattle.logic.proofs.Formulas.{Formulas, is_record, kind_is, principal_is, same_tree}
use Rattle.logic.proofs.ByKind.{fields, conjunction_is, encrypted_is, signed_is, combined_is}
use Rattle.walks.specs.Walk.{mark_of, is_section, onward, walk_from}
use Rattle.walks.proofs.Marks.{IsSet, leads, Done, walk_only, walk_stays, walk_done}

-- the number and the answer of "inside"
abbrev pub bit : Bool → ℕ
bit false = 0
bit true = 1

abbrev is_inside : ℕ → Bool
is_inside zero = false
is_inside (suc i) = true

inside_bit : (b : Bool) → is_inside (bit b) ≡ b
inside_bit false = refl
inside_bit true = refl

bit_small : (b : Bool) → bit b < 2
bit_small false = omega arith
bit_small true = omega arith

-- a mark has one formula and one bit
mark_formula : (x b : ℕ) → b < 2 → mark_of x b / 2 ≡ x
mark_formula x b l = omega arith

mark_bit : (x b : ℕ) → b < 2 → mark_of x b % 2 ≡ b
mark_bit x b l = omega arith

-- where a record leads, by its kind
onward_conjunction : (a : ℕ) (r : Record) (b : ℕ) → r.kind ≡ 4 → onward a r b ≡ mark_of r.first b ∷ mark_of r.second b ∷ []
unfolding onward
onward_conjunction a r b k = rw k refl

onward_combined : (a : ℕ) (r : Record) (b : ℕ) → r.kind ≡ 7 → onward a r b ≡ mark_of r.first b ∷ []
unfolding onward
onward_combined a r b k = rw k refl

onward_encrypted : (a : ℕ) (r : Record) (b : ℕ) → r.kind ≡ 5 → r.third ≡ a → onward a r b ≡ mark_of r.first 1 ∷ []
unfolding onward
onward_encrypted a r b k e = rw (k, eq-eqb r.third a e) refl

onward_signed : (a : ℕ) (r : Record) (b : ℕ) → r.kind ≡ 6 → r.third ≡ a → onward a r b ≡ mark_of r.first 1 ∷ []
unfolding onward
onward_signed a r b k e = rw (k, eq-eqb r.third a e) refl

-- what holds of all that a record leads to
all_onward : (P : ℕ → Type 0) (a : ℕ) (r : Record) (b : ℕ)
    → (r.kind ≡ 4 → P (mark_of r.first b) × P (mark_of r.second b))
    → (r.kind ≡ 7 → P (mark_of r.first b))
    → (r.kind ≡ 5 → r.third ≡ a → P (mark_of r.first 1))
    → (r.kind ≡ 6 → r.third ≡ a → P (mark_of r.first 1))
    → All P (onward a r b)
unfolding onward
all_onward P a r b c m e s = go (eqb r.kind 4) refl
  where
    section : (q : Bool) → (is_section r.kind && eqb r.third a) ≡ q → All P (cond q (mark_of r.first 1 ∷ []) [])
    section true d =
        let h = T_and (is_section r.kind) (eqb r.third a) (true_T _ d) in
        let z = eqb→eq r.third a h.1 in
        (elim (either_T r.kind 5 6 h.0) [ inl k ↦ e k z | inr k ↦ s k z ], tt)
    section false d = tt

    more : (q : Bool) → eqb r.kind 7 ≡ q
        → All P (cond q (mark_of r.first b ∷ []) (cond (is_section r.kind && eqb r.third a) (mark_of r.first 1 ∷ []) []))
    more true d = (m (eqb-true r.kind 7 d), tt)
    more false d = section (is_section r.kind && eqb r.third a) refl

    go : (q : Bool) → eqb r.kind 4 ≡ q
        → All P (cond q (mark_of r.first b ∷ mark_of r.second b ∷ [])
        (cond (eqb r.kind 7) (mark_of r.first b ∷ []) (cond (is_section r.kind && eqb r.third a) (mark_of r.first 1 ∷ []) [])))
    go true d = let h = c (eqb-true r.kind 4 d) in (h.0, (h.1, tt))
    go false d = more (eqb r.kind 7) refl

module _ (fs : List Record) (ok : Formulas fs) where
  -- fields refer to earlier formulas
  near : (x k : ℕ) → (record_of fs x).kind ≡ k → x < length fs
      → EachField (λ s y. T (refers s) → y < x) (record { kind = k; first = (record_of fs x).first; second = (record_of fs x).second; third = (record_of fs x).third })
  near x k e l =
      let r = record_of fs x in
      subst (λ i. EachField (λ s y. T (refers s) → y < x) (record { kind = i; first = r.first; second = r.second; third = r.third })) e (ok.earlier x l)

  there : (x k : ℕ) → (record_of fs x).kind ≡ suc k → x < length fs
  there x k e = is_record fs x (λ z. omega (arith, e, z))

  parts_near : (x : ℕ) → (record_of fs x).kind ≡ 4 → ((record_of fs x).first < x) × ((record_of fs x).second < x)
  unfolding body_of bodies
  parts_near x k = let h = near x 4 k (there x 3 k) in (h.0 tt, h.1 tt)

  combined_near : (x : ℕ) → (record_of fs x).kind ≡ 7 → (record_of fs x).first < x
  unfolding body_of bodies
  combined_near x k = (near x 7 k (there x 6 k)).0 tt

  encrypted_near : (x : ℕ) → (record_of fs x).kind ≡ 5 → (record_of fs x).first < x
  unfolding body_of bodies
  encrypted_near x k = (near x 5 k (there x 4 k)).0 tt

  signed_near : (x : ℕ) → (record_of fs x).kind ≡ 6 → (record_of fs x).first < x
  unfolding body_of bodies
  signed_near x k = (near x 6 k (there x 5 k)).0 tt

  -- each mark leads to lower ones
  falls : (a i : ℕ) → All (λ j. j < i) (leads (record_of fs) a i)
  falls a i =
      all_onward (λ j. j < i) a (record_of fs (i / 2)) (i % 2)
      (λ k. let h = parts_near (i / 2) k in let c = h.0 in let d = h.1 in (omega arith, omega arith))
      (λ k. let h = combined_near (i / 2) k in omega arith)
      (λ k e. let h = encrypted_near (i / 2) k in omega arith)
      (λ k e. let h = signed_near (i / 2) k in omega arith)

  module _ (a z : ℕ) (pa : (record_of fs a).kind ≡ 1) (lz : z < length fs) (few : length fs ≤ 256) where
    abbrev A : ℕ
    A = name_of fs a

    abbrev Z : Tree
    Z = tree_of fs z

    -- what a mark says
    abbrev Says : ℕ → Type 0
    Says i = (i / 2 < length fs) × Meets A Z (is_inside (i % 2)) (tree_of fs (i / 2))

    says : (x b : ℕ) → b < 2 → x < length fs → Meets A Z (is_inside b) (tree_of fs x) → Says (mark_of x b)
    says x b s l w = (
      rw (mark_formula x b s) l,
      subst (λ (n : ℕ). Meets A Z (is_inside n) (tree_of fs (mark_of x b / 2))) (sym (mark_bit x b s))
          (subst (λ (y : ℕ). Meets A Z (is_inside b) (tree_of fs y)) (sym (mark_formula x b s)) w),
    )

    closed : (i : ℕ) → Says i → All Says (leads (record_of fs) a i)
    closed i (l, w) =
        let x = i / 2 in
        let b = i % 2 in
        let r = record_of fs x in
        let s : b < 2 = omega arith in
        let one : 1 < 2 = omega arith in
        all_onward Says a r b
        (λ k. let h = parts_near x k in let c = h.0 in let d = h.1 in
        let v = subst (λ (t : Tree). Meets A Z (is_inside b) t) (conjunction_is fs ok x k) w in
        (says r.first b s (omega arith) (left _ _ _ v), says r.second b s (omega arith) (right _ _ _ v)))
        (λ k. let c = combined_near x k in
        says r.first b s (omega arith) (through _ _ _ (subst (λ (t : Tree). Meets A Z (is_inside b) t) (combined_is fs ok x k) w)))
        (λ k e. let c = encrypted_near x k in
        let d : tree_of fs x ≡ encrypted (tree_of fs r.first) (key_of fs r.second) A = encrypted_is fs ok x k ∙ ap (λ (n : ℕ). encrypted (tree_of fs r.first) (key_of fs r.second) (name_of fs n)) e in
        says r.first 1 one (omega arith) (into_encrypted _ _ _ (subst (λ (t : Tree). Meets A Z (is_inside b) t) d w)))
        (λ k e. let c = signed_near x k in
        let d : tree_of fs x ≡ signed (tree_of fs r.first) (key_of fs r.second) A = signed_is fs ok x k ∙ ap (λ (n : ℕ). signed (tree_of fs r.first) (key_of fs r.second) (name_of fs n)) e in
        says r.first 1 one (omega arith) (into_signed _ _ _ (subst (λ (t : Tree). Meets A Z (is_inside b) t) d w)))

    -- a table of 512 marks, at first with that of z alone
    abbrev first : List ℕ
    first = set (replicate 512 0) (mark_of z 0) 1

    blank : (i : ℕ) → get_or {A = ℕ} (replicate 512 0) i 0 ≡ 0
    blank i = elim (dec_lt i 512) [
      | yes l ↦ get_or-replicate 512 i 0 0 l
      | no n ↦ get_or-eq_default (replicate 512 0) 0 {n = i} (rw (length-replicate {A = ℕ} 512 0) (omega arith))
    ]

    first_only : (i : ℕ) → IsSet first i → i ≡ mark_of z 0
    first_only i s = elim (ℕ_discrete i (mark_of z 0)) [ yes e ↦ e | no n ↦ absurd (s (get_or-set_other (replicate 512 0) (mark_of z 0) i 1 0 n ∙ blank i)) ]

    first_set : IsSet first (mark_of z 0)
    first_set e =
        let b : mark_of z 0 < 512 = omega arith in
        let h : ◌≡◌ {A = ℕ} 1 0 = sym (get_or-set_same (replicate 512 0) (mark_of z 0) 1 0 (rw (length-replicate {A = ℕ} 512 0) b)) ∙ e in
        omega arith

    abbrev marked : List ℕ
    marked = walk_from (record_of fs) a z (replicate 512 0)

    -- what is marked is met
    marked_met : (i : ℕ) → IsSet marked i → Says i
    unfolding walk_from
    marked_met =
        walk_only (record_of fs) a Says closed first (mark_of z 0 + 1)
        (λ j s. subst Says (sym (first_only j s)) (says z 0 (omega arith) lz begins))

    done : Done (record_of fs) a marked 0
    unfolding walk_from
    done =
        walk_done (record_of fs) a (falls a) first (mark_of z 0 + 1)
        (λ i l s. absurd (let e = first_only i s in omega arith))

    begun : IsSet marked (mark_of z 0)
    unfolding walk_from
    begun = walk_stays (record_of fs) a first (mark_of z 0 + 1) (mark_of z 0) first_set

    -- what is met has a record, and is marked
    Marked : Bool → Tree → Type 0
    Marked b X = (x : ℕ) × (x < length fs) × (tree_of fs x ≡ X) × IsSet marked (mark_of x (bit b))

    leads_on : (b : Bool) (x : ℕ) → IsSet marked (mark_of x (bit b)) → All (IsSet marked) (onward a (record_of fs x) (bit b))
    leads_on b x s =
        let h = done (mark_of x (bit b)) (omega arith) s in
        subst (λ (n : ℕ). All (IsSet marked) (onward a (record_of fs x) n)) (mark_bit x (bit b) (bit_small b))
        (subst (λ (y : ℕ). All (IsSet marked) (onward a (record_of fs y) (mark_of x (bit b) % 2))) (mark_formula x (bit b) (bit_small b)) h)

    from_sender : (y : ℕ) → (record_of fs y).kind ≡ 1 → name_of fs y ≡ A → y ≡ a
    from_sender y k e =
        same_tree fs ok y a (there y 0 k) (there a 0 pa)
        (principal_is fs ok y k ∙ (ap principal e ∙ sym (principal_is fs ok a pa)))

    met_marked : (b : Bool) (X : Tree) → Meets A Z b X → Marked b X
    unfolding Marked body_of bodies
    met_marked b _ begins = (z, lz, refl, begun)
    met_marked b _ (left i X Y w) =
        let h = met_marked i _ w in
        let x = h.0 in
        let k : (record_of fs x).kind ≡ 4 = sym (kind_is fs ok x h.1) ∙ ap kind_of h.2 in
        let d = conjunction_is fs ok x k in
        let e = h.2 in
        let n = (parts_near x k).0 in
        let s = subst (λ (l : List ℕ). All (IsSet marked) l) (onward_conjunction a (record_of fs x) (bit i) k) (leads_on i x h.3) in
        ((record_of fs x).first, omega (arith, h.1), (cc), s.0)
    met_marked b _ (right i X Y w) =
        let h = met_marked i _ w in
        let x = h.0 in
        let k : (record_of fs x).kind ≡ 4 = sym (kind_is fs ok x h.1) ∙ ap kind_of h.2 in
        let d = conjunction_is fs ok x k in
        let e = h.2 in
        let n = (parts_near x k).1 in
        let s = subst (λ (l : List ℕ). All (IsSet marked) l) (onward_conjunction a (record_of fs x) (bit i) k) (leads_on i x h.3) in
        ((record_of fs x).second, omega (arith, h.1), (cc), s.1.0)
    met_marked b _ (through i X Y w) =
        let h = met_marked i _ w in
        let x = h.0 in
        let k : (record_of fs x).kind ≡ 7 = sym (kind_is fs ok x h.1) ∙ ap kind_of h.2 in
        let d = combined_is fs ok x k in
        let e = h.2 in
        let n = combined_near x k in
        let s = subst (λ (l : List ℕ). All (IsSet marked) l) (onward_combined a (record_of fs x) (bit i) k) (leads_on i x h.3) in
        ((record_of fs x).first, omega (arith, h.1), (cc), s.0)
    met_marked b _ (into_encrypted i X K w) =
        let h = met_marked i _ w in
        let x = h.0 in
        let k : (record_of fs x).kind ≡ 5 = sym (kind_is fs ok x h.1) ∙ ap kind_of h.2 in
        let d = encrypted_is fs ok x k in
        let e = h.2 in
        let n = encrypted_near x k in
        let q = from_sender (record_of fs x).third (fields fs ok x 5 k (λ v. omega arith)).2 (cc) in
        let s = subst (λ (l : List ℕ). All (IsSet marked) l) (onward_encrypted a (record_of fs x) (bit i) k q) (leads_on i x h.3) in
        ((record_of fs x).first, omega (arith, h.1), (cc), s.0)
    met_marked b _ (into_signed i X K w) =
        let h = met_marked i _ w in
        let x = h.0 in
        let k : (record_of fs x).kind ≡ 6 = sym (kind_is fs ok x h.1) ∙ ap kind_of h.2 in
        let d = signed_is fs ok x k in
        let e = h.2 in
        let n = signed_near x k in
        let q = from_sender (record_of fs x).third (fields fs ok x 6 k (λ v. omega arith)).2 (cc) in
        let s = subst (λ (l : List ℕ). All (IsSet marked) l) (onward_signed a (record_of fs x) (bit i) k q) (leads_on i x h.3) in
        ((record_of fs x).first, omega (arith, h.1), (cc), s.0)

    -- THE WALK: formula x is marked as met inside a section from the sender just if the walk over trees meets it there
    pub marked_inside : (x : ℕ) → x < length fs → IsSet marked (mark_of x 1) ↔ Meets A Z true (tree_of fs x)
    unfolding Marked
    marked_inside x l = (
      (λ s. let h = (marked_met (mark_of x 1) s).1 in
          subst (λ (n : ℕ). Meets A Z (is_inside n) (tree_of fs x)) (mark_bit x 1 (omega arith))
          (subst (λ (y : ℕ). Meets A Z (is_inside (mark_of x 1 % 2)) (tree_of fs y)) (mark_formula x 1 (omega arith)) h)),
      (λ w. let h = met_marked true _ w in
          subst (λ (y : ℕ). IsSet marked (mark_of y 1)) (same_tree fs ok h.0 x h.1 l h.2) h.3),
    )
