use native.Mathlib.Omega.{arith}
use Prim.Native.Nat.{ℕ}
use mathlib.Core.Path.{ap, ap₂, ◌∙◌}
use mathlib.Core.List.{◌∷◌, []}
use lib.ListN.{length, take, length-append}
use Rattle.logic.specs.Text.{decimal}
use Rattle.logic.specs.Explained.{premises_text}
use Rattle.digits.proofs.Puts.{writes, appends_of, writes_then, writes_as}
use Rattle.lines.proofs.Laws.{numbers_are}
use Rattle.lines.proofs.put_rule.Goals as goal

pub returns-clause-put : goal.returns-clause-put
returns-clause-put c =
    let r = c.from.ensures ∙ c.saturating_sub.ensures in
    let i = ap₂ (λ (x y : ℕ). premises_text (take c.numbers_in-n.result (x ∷ y ∷ []))) c.word.ensures c.word-2.ensures in
    appends_of (writes_then (writes_then (writes_then (writes c.text.ensures.put) (writes_as (ap decimal r) (writes c.short.ensures.put))) (writes c.text-2.ensures.put))
    (writes_as (i ∙ ap premises_text (numbers_are c.args.step.now c.requires c.numbers_in-n.ensures.0)) (writes c.put_premises.ensures.put))) (omega arith)

pub returns-clause-few : goal.returns-clause-few
returns-clause-few c =
    let r = c.from.ensures ∙ c.saturating_sub.ensures in
    let i = ap₂ (λ (x y : ℕ). premises_text (take c.numbers_in-n.result (x ∷ y ∷ []))) c.word.ensures c.word-2.ensures in
    let p = i ∙ ap premises_text (numbers_are c.args.step.now c.requires c.numbers_in-n.ensures.0) in
    simp length-append (omega (arith, ap length p, ap (λ (k : ℕ). length (decimal k)) r, c.short.ensures.few, c.put_premises.ensures.few))
