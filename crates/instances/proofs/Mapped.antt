-- Records of kinds 4 to 15, which are known by their references: their fields are mapped one by one. Assumes nothing.
use Prim.Native.Nat.{ℕ, ◌<◌, ◌≤◌}
use native.Mathlib.Omega.{arith}
use mathlib.Core.Path.{◌≡◌, refl, sym, ◌∙◌}
use mathlib.Core.List.{List, map}
use Rattle.logic.specs.declared.Record.{Record}
use Rattle.logic.specs.Kind.{body_of, bodies}
use Rattle.logic.specs.Book.{All, EachField, Whole}
use Rattle.logic.proofs.Cases.{FormulaKind}
use Rattle.logic.proofs.Cases.FormulaKind.{kind1, kind2, kind3, kind4, kind5, kind6, kind7, kind8, kind9, kind10, kind11, kind12, kind13, kind14, kind15, kind16, kind17}
use Rattle.logic.proofs.Formulas.{references}
use Rattle.instances.specs.Images.{field_image, mapped}
use Rattle.logic.proofs.Putting.{Inner}

by_references : (k a b c d e f : ℕ) → FormulaKind k → Inner k → EachField Whole (record { kind = k; first = a; second = b; third = c })
    → EachField Whole (record { kind = k; first = d; second = e; third = f })
    → references (record { kind = k; first = a; second = b; third = c }) ≡ references (record { kind = k; first = d; second = e; third = f })
    → ◌≡◌ {A = Record} (record { kind = k; first = a; second = b; third = c }) (record { kind = k; first = d; second = e; third = f })
unfolding body_of bodies
by_references k a b c d e f kind1 i g h r = absurd (omega (arith, i.0))
by_references k a b c d e f kind2 i g h r = absurd (omega (arith, i.0))
by_references k a b c d e f kind3 i g h r = absurd (omega (arith, i.0))
by_references k a b c d e f kind4 i g h r = cc
by_references k a b c d e f kind5 i g h r = cc
by_references k a b c d e f kind6 i g h r = cc
by_references k a b c d e f kind7 i g h r = cc
by_references k a b c d e f kind8 i g h r = cc
by_references k a b c d e f kind9 i g h r = cc
by_references k a b c d e f kind10 i g h r = cc
by_references k a b c d e f kind11 i g h r = cc
by_references k a b c d e f kind12 i g h r = cc
by_references k a b c d e f kind13 i g h r = cc
by_references k a b c d e f kind14 i g h r = cc
by_references k a b c d e f kind15 i g h r = cc
by_references k a b c d e f kind16 i g h r = absurd (omega (arith, i.1))
by_references k a b c d e f kind17 i g h r = absurd (omega (arith, i.1))

pub same_references : (r q : Record) → FormulaKind r.kind → Inner r.kind → q.kind ≡ r.kind → EachField Whole r → EachField Whole q
    → references r ≡ references q → r ≡ q
same_references r q f i e g h s =
    let p : Record = record { kind = r.kind; first = q.first; second = q.second; third = q.third } in
    let d : q ≡ p = λ j. record { kind = e j; first = q.first; second = q.second; third = q.third } in
    by_references r.kind r.first r.second r.third q.first q.second q.third f i g (rw d at h) (rw d at s) ∙ sym d

module _ (t : List ℕ) (v : ℕ) (images : List ℕ) where
  -- a field mapped
  abbrev pub image : ℕ → ℕ
  image = field_image t v images

  pub mapped_references : (k a b c : ℕ) → FormulaKind k
      → references (mapped t v images (record { kind = k; first = a; second = b; third = c })) ≡ map image (references (record { kind = k; first = a; second = b; third = c }))
  unfolding mapped body_of bodies
  mapped_references k a b c kind1 = refl
  mapped_references k a b c kind2 = refl
  mapped_references k a b c kind3 = refl
  mapped_references k a b c kind4 = refl
  mapped_references k a b c kind5 = refl
  mapped_references k a b c kind6 = refl
  mapped_references k a b c kind7 = refl
  mapped_references k a b c kind8 = refl
  mapped_references k a b c kind9 = refl
  mapped_references k a b c kind10 = refl
  mapped_references k a b c kind11 = refl
  mapped_references k a b c kind12 = refl
  mapped_references k a b c kind13 = refl
  mapped_references k a b c kind14 = refl
  mapped_references k a b c kind15 = refl
  mapped_references k a b c kind16 = refl
  mapped_references k a b c kind17 = refl

  small : (x : ℕ) → image x ≤ 256 → image x < 65536
  small x l = omega arith

  pub mapped_whole : (k a b c : ℕ) → FormulaKind k → Inner k → EachField Whole (record { kind = k; first = a; second = b; third = c })
      → All (λ x. image x ≤ 256) (references (record { kind = k; first = a; second = b; third = c })) → EachField Whole (mapped t v images (record { kind = k; first = a; second = b; third = c }))
  unfolding mapped body_of bodies
  mapped_whole k a b c kind1 i h s = absurd (omega (arith, i.0))
  mapped_whole k a b c kind2 i h s = absurd (omega (arith, i.0))
  mapped_whole k a b c kind3 i h s = absurd (omega (arith, i.0))
  mapped_whole k a b c kind4 i h s = (small _ s.0, small _ s.1.0, h.2)
  mapped_whole k a b c kind5 i h s = (small _ s.0, small _ s.1.0, small _ s.1.1.0)
  mapped_whole k a b c kind6 i h s = (small _ s.0, small _ s.1.0, small _ s.1.1.0)
  mapped_whole k a b c kind7 i h s = (small _ s.0, small _ s.1.0, h.2)
  mapped_whole k a b c kind8 i h s = (small _ s.0, small _ s.1.0, small _ s.1.1.0)
  mapped_whole k a b c kind9 i h s = (small _ s.0, small _ s.1.0, h.2)
  mapped_whole k a b c kind10 i h s = (small _ s.0, small _ s.1.0, small _ s.1.1.0)
  mapped_whole k a b c kind11 i h s = (small _ s.0, h.1, h.2)
  mapped_whole k a b c kind12 i h s = (small _ s.0, small _ s.1.0, h.2)
  mapped_whole k a b c kind13 i h s = (small _ s.0, small _ s.1.0, h.2)
  mapped_whole k a b c kind14 i h s = (small _ s.0, small _ s.1.0, h.2)
  mapped_whole k a b c kind15 i h s = (small _ s.0, small _ s.1.0, h.2)
  mapped_whole k a b c kind16 i h s = absurd (omega (arith, i.1))
  mapped_whole k a b c kind17 i h s = absurd (omega (arith, i.1))
