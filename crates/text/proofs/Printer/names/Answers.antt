use native.Mathlib.Nat.{not-suc-le-zero}
use native.Mathlib.Omega.{arith}
use Prim.Native.Nat.{◌≤◌}
use mathlib.Core.Path.{◌≡◌, refl, sym, ap, ◌∙◌}
use Rattle.logic.specs.Count.{of_kind}
use Rattle.logic.specs.Place.{rank, principal_count}
use Rattle.written.specs.Stated.{records_in}
use Rattle.text.proofs.Lines.{name_room, one_listed, none_listed, all_named}
use borrow.Author.Rules.{rules}
use Rattle.text.proofs.Printer.names.Goals.{then-is_principal, else-is_principal}
use Rattle.text.proofs.Printer.names.Goals as goal

pub loop-x-init : goal.loop-x-init
unfolding rank of_kind
loop-x-init c = (search rules, refl, refl, (λ a l. absurd (not-suc-le-zero l)))

pub bounds-names-r : goal.bounds-names-r
bounds-names-r c =
    let i = c.args.self.now.index in
    let l = c.loop-x in
    let q = c.args.self.now.book in
    let few : principal_count (records_in i.formulas i.numbers.now) ≤ 8 = (let e = q.principals in let z = q.fewer in omega arith) in
    name_room i.formulas i.numbers.now l.names l.x l.r few l.invariant (sym c.is_principal.ensures ∙ c.if-is_principal.true)

pub overflow_add-r : goal.overflow_add-r
overflow_add-r c = omega (arith, c.loop-x.invariant.0, c.args.self.now.book.few)

pub loop-x-preserved : goal.loop-x-preserved
loop-x-preserved c =
    let i = c.args.self.now.index in
    let l = c.loop-x in
    let q = c.args.self.now.book in
    let few : principal_count (records_in i.formulas i.numbers.now) ≤ 8 = (let e = q.principals in let z = q.fewer in omega arith) in
    elim c.if-is_principal.branch [
      | then-is_principal w ↦ rw (w.names-is, w.r-is) (one_listed i.formulas i.numbers.now l.names l.x l.r few l.invariant (sym c.is_principal.ensures ∙ w.if-is_principal.true))
      | else-is_principal w ↦ rw (w.names-is, w.r-is) (none_listed i.formulas i.numbers.now l.names l.x l.r few l.invariant (sym c.is_principal.ensures ∙ w.if-is_principal.false))
    ]

pub returns : goal.returns
returns c =
    let s = c.args.self.now in
    let v = c.loop-x.invariant in
    let fs = records_in s.index.formulas s.index.numbers.now in
    let e : c.loop-x.x ≡ s.index.formulas = omega arith in
    all_named fs c.loop-x.names c.args.self.now.book.formulas (v.2 ∙ ap (rank fs) e) v.3
