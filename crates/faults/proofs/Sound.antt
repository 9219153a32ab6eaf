-- That a record is sound by its kind: its fields, each by its sort, and that none of the tests in order holds. Assumes nothing.
use Prim.Native.Nat.{ℕ}
use native.Mathlib.Omega.{arith}
use mathlib.Core.Path.{◌≡◌, refl, sym, ap, ◌∙◌}
use mathlib.Core.List.{List}
use mathlib.Core.Bool.{Bool, true, false, cond, not, ◌&&◌, ◌||◌}
use lib.Dec.{T, leb, ltb, eqb}
use borrow.Author.Tests.{ne_eqb, leb-true}
use Rattle.logic.specs.declared.Sort.{Sort}
use Rattle.logic.specs.declared.Sort.TheVariants.{Absent, Name, Principal, Key, Formula, Variable, Control, Statement, Message}
use Rattle.logic.specs.declared.Body.{Body}
use Rattle.logic.specs.declared.Record.{Record}
use Rattle.logic.specs.declared.Counts.{Counts}
use Rattle.logic.specs.Kind.{bodies, body_of, is_formula, is_key, is_statement, refers, fits, states, keeps_to}
use Rattle.logic.specs.Record.{no_record, each_field}
use Rattle.logic.specs.Reading.{out_of_order, over_limit, is_dangling, is_misfit, is_not_rising, is_wrong_delegation, is_to_sender, is_no_statement, has_loose, is_after_last, fault_of}
use Rattle.format.specs.Index.{record_in, look_in}
use Rattle.faults.specs.Sound.{field_sound}
use Rattle.logic.proofs.Table.{at_each_kind}
use Rattle.logic.proofs.Tests.{T_and}
use Rattle.format.proofs.Laws.{NoneFrom, none_from}

-- A field of formula x, by its sort: there is no formula of kind 0, so that one of the right kind is there.
and_true : (p : Bool) → p ≡ (p && true)
and_true true = refl
and_true false = refl

module _ (f m : ℕ) (t : List ℕ) (x : ℕ) where
  there : (c : ℕ → Bool) → c 0 ≡ false → c (look_in f t x).kind ≡ (ltb x f && (c (look_in f t x).kind && true))
  unfolding look_in
  there c e = go (ltb x f)
    where
      go : (b : Bool) → c (cond b (record_in t x) no_record).kind ≡ (b && (c (cond b (record_in t x) no_record).kind && true))
      go true = and_true _
      go false = e

  pub sound_principal : eqb (look_in f t x).kind 1 ≡ field_sound f m (look_in f t) Principal x
  unfolding field_sound
  sound_principal = there (λ k. eqb k 1) refl

  pub sound_key : is_key (look_in f t x).kind ≡ field_sound f m (look_in f t) Key x
  unfolding field_sound
  sound_key = there is_key refl

  pub sound_variable : eqb (look_in f t x).kind 16 ≡ field_sound f m (look_in f t) Variable x
  unfolding field_sound
  sound_variable = there (λ k. eqb k 16) refl

  pub sound_control : eqb (look_in f t x).kind 15 ≡ field_sound f m (look_in f t) Control x
  unfolding field_sound
  sound_control = there (λ k. eqb k 15) refl

  pub sound_formula : is_formula (look_in f t x).kind ≡ field_sound f m (look_in f t) Formula x
  unfolding field_sound
  sound_formula = there is_formula refl

  pub sound_statement : is_statement (look_in f t x).kind ≡ field_sound f m (look_in f t) Statement x
  unfolding field_sound
  sound_statement = there is_statement refl

  pub sound_message : leb x m ≡ field_sound f m (look_in f t) Message x
  unfolding field_sound
  sound_message = refl

  pub sound_absent : true ≡ field_sound f m (look_in f t) Absent x
  unfolding field_sound
  sound_absent = refl

-- All fields of a record of kind k, where b is its body.
module _ (f m : ℕ) (t : List ℕ) (r : Record) where
  pub by_body : {k : ℕ} (b : Body) → r.kind ≡ k → b ≡ body_of k → {p q u v : Bool} → v ≡ (p && (q && u))
      → p ≡ field_sound f m (look_in f t) b.first r.first → q ≡ field_sound f m (look_in f t) b.second r.second
      → u ≡ field_sound f m (look_in f t) b.third r.third → v ≡ each_field (field_sound f m (look_in f t)) r
  by_body b ek e ev ep eq eu = ev ∙ rw (ep, eq, eu, e, ek)

  -- the same where there is one field, or the others have none
  pub by_one : {k : ℕ} (b : Body) → r.kind ≡ k → b ≡ body_of k → {p q u : Bool} → p ≡ field_sound f m (look_in f t) b.first r.first
      → q ≡ field_sound f m (look_in f t) b.second r.second → u ≡ field_sound f m (look_in f t) b.third r.third
      → q ≡ true → u ≡ true → p ≡ each_field (field_sound f m (look_in f t)) r
  by_one b ek e {p} ep eq eu qt ut = by_body b ek e (rw (qt, ut) (and_true p)) ep eq eu

-- A record of no such kind has names, or nothing.
module _ (f m : ℕ) (t : List ℕ) where
  named : Sort → Bool
  named Absent = true
  named Name = true
  named Principal = false
  named Key = false
  named Formula = false
  named Variable = false
  named Control = false
  named Statement = false
  named Message = false

  named_sound : (s : Sort) (x : ℕ) → T (named s) → true ≡ field_sound f m (look_in f t) s x
  unfolding named field_sound
  named_sound Absent x u = refl
  named_sound Name x u = refl
  named_sound Principal x u = absurd u
  named_sound Key x u = absurd u
  named_sound Formula x u = absurd u
  named_sound Variable x u = absurd u
  named_sound Control x u = absurd u
  named_sound Statement x u = absurd u
  named_sound Message x u = absurd u

  referring : ℕ → Bool
  referring k = (leb 4 k && leb k 15) || (eqb k 17 || (eqb k 32 || (eqb k 33 || eqb k 34)))

  referring_or : (k : ℕ) → T (referring k || (named (body_of k).first && (named (body_of k).second && named (body_of k).third)))
  unfolding named referring body_of bodies
  referring_or = at_each_kind (λ k b. referring k || (named b.first && (named b.second && named b.third))) tt (λ k. or_true (referring k))
    where
      or_true : (x : Bool) → T (x || true)
      or_true true = tt
      or_true false = tt

  pub by_rest : (r : Record) → NoneFrom r.kind 4 12 → (r.kind ≡ 17 → ⊥) → (r.kind ≡ 32 → ⊥) → (r.kind ≡ 33 → ⊥) → (r.kind ≡ 34 → ⊥)
      → true ≡ each_field (field_sound f m (look_in f t)) r
  unfolding referring
  by_rest r u w a g h =
      let v = rw (unreferring, ne_eqb r.kind 17 w, ne_eqb r.kind 32 a, ne_eqb r.kind 33 g, ne_eqb r.kind 34 h) at (referring_or r.kind) in
      let p = T_and (named (body_of r.kind).first) _ v in
      let q = T_and (named (body_of r.kind).second) _ p.1 in
      by_body f m t r (body_of r.kind) refl refl refl (named_sound _ r.first p.0) (named_sound _ r.second q.0) (named_sound _ r.third q.1)
    where
      unreferring : (leb 4 r.kind && leb r.kind 15) ≡ false
      unreferring = go (leb 4 r.kind) (leb r.kind 15) refl refl
        where
          go : (x y : Bool) → leb 4 r.kind ≡ x → leb r.kind 15 ≡ y → (x && y) ≡ false
          go true true d e = absurd (none_from r.kind 4 12 u (leb-true 4 r.kind d) (let l = leb-true r.kind 15 e in omega arith))
          go true false d e = refl
          go false y d e = refl

-- A test on each field that is two tests.
swapped : (a b c x y z : Bool) → ((a && x) && ((b && y) && (c && z))) ≡ ((a && (b && c)) && (x && (y && z)))
swapped false b c x y z = refl
swapped true b c false y z = sym (and_false (b && c))
  where
    and_false : (p : Bool) → (p && false) ≡ false
    and_false true = refl
    and_false false = refl
swapped true false c true y z = refl
swapped true true c true false z = sym (and_false c)
  where
    and_false : (p : Bool) → (p && false) ≡ false
    and_false true = refl
    and_false false = refl
swapped true true c true true z = refl

module _ (p q : Sort → ℕ → Bool) (r : Record) where
  each_both : each_field (λ s x. p s x && q s x) r ≡ (each_field p r && each_field q r)
  each_both = swapped (p _ r.first) (p _ r.second) (p _ r.third) (q _ r.first) (q _ r.second) (q _ r.third)

not_not : (p : Bool) → p ≡ not (not p)
not_not true = refl
not_not false = refl

-- The fields of a record are sound where refusals 4, 5, 10 and 11 do not fit it.
module _ (n : Counts) (look : ℕ → Record) (allows : ℕ → ℕ → Bool) (is_open : ℕ → Bool) (r : Record) where
  fields_apart : each_field (field_sound n.formulas n.messages look) r
      ≡ (not (is_dangling n r) && (not (is_misfit look r) && (not (is_no_statement look r) && not (is_after_last n r))))
  unfolding field_sound is_dangling is_misfit is_no_statement is_after_last
  fields_apart =
      let a : Sort → ℕ → Bool = λ s x. not (refers s) || ltb x n.formulas in
      let b : Sort → ℕ → Bool = λ s x. fits s (look x).kind in
      let c : Sort → ℕ → Bool = λ s x. states s (look x).kind in
      let d : Sort → ℕ → Bool = keeps_to n.messages in
      each_both a (λ s x. b s x && (c s x && d s x)) r
      ∙ ap (λ v. each_field a r && v) (each_both b (λ s x. c s x && d s x) r ∙ ap (λ v. each_field b r && v) (each_both c d r))
      ∙ rw (← not_not (each_field a r), ← not_not (each_field b r), ← not_not (each_field c r), ← not_not (each_field d r)) refl

  -- the tests in order, and those that are not of fields before those that are
  abbrev ordered : Bool → Bool → Bool → Bool → Bool → Bool → Bool → Bool → Bool → Bool → ℕ
  ordered a b c d e w f g l h = cond a 3 (cond b 9 (cond c 4 (cond d 5 (cond e 6 (cond w 23 (cond f 7 (cond g 10 (cond l 22 (cond h 11 0)))))))))

  past : (e f w l : Bool) → false ≡ (not e && (not f && (not w && (not l && false))))
  past true f w l = refl
  past false true w l = refl
  past false false true l = refl
  past false false false true = refl
  past false false false false = refl

  apart : (a b c d e w f g l h : Bool)
      → eqb (ordered a b c d e w f g l h) 0 ≡ (not a && (not b && (not e && (not f && (not w && (not l && (not c && (not d && (not g && not h)))))))))
  apart true b c d e w f g l h = refl
  apart false true c d e w f g l h = refl
  apart false false true d e w f g l h = past e f w l
  apart false false false true e w f g l h = past e f w l
  apart false false false false true w f g l h = refl
  apart false false false false false true f g l h = past false f false false
  apart false false false false false false true g l h = refl
  apart false false false false false false false true l h = past false false false l
  apart false false false false false false false false true h = refl
  apart false false false false false false false false false true = refl
  apart false false false false false false false false false false = refl

  pub sound_is : eqb (fault_of n look allows is_open false r) 0
      ≡ (not (out_of_order n r.kind) && (not (over_limit n r.kind) && (not (is_not_rising look r) && (not (is_to_sender r)
      && (not (is_wrong_delegation allows r) && (not (has_loose is_open r) && each_field (field_sound n.formulas n.messages look) r))))))
  unfolding fault_of
  sound_is =
      apart (out_of_order n r.kind) (over_limit n r.kind) (is_dangling n r) (is_misfit look r) (is_not_rising look r) (is_wrong_delegation allows r) (is_to_sender r)
      (is_no_statement look r) (has_loose is_open r) (is_after_last n r)
      ∙ rw (← fields_apart) refl
