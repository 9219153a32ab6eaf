use lib.Seq.{length-take-le}
use mathlib.Core.Path.{◌≡◌, sym, ap, ◌∙◌}
use borrow.Author.Rules.{rules}
use Rattle.std.specs.Prelude.{Ok}
use Rattle.text.proofs.Explanation.{told_steps}
use Rattle.text.specs.Told.{told_listed}
use Rattle.programs.proofs.Reader.tell_piece.Goals as goal

-- A piece lies within the buffer, and the next one begins behind it.
pub slice_bounds-put-end : goal.slice_bounds-put-end
slice_bounds-put-end c =
    let a = c.args in
    let k = c.explain.ensures in
    let e : c.explain.result ≡ Ok c.in_ok-told.told = search rules in
    (told_steps a.self.now.book.now a.derivation.now a.from a.buffer.now (sym (ap told_listed (e ∙ ap Ok c.in-Some.is)) ∙ k.0) k.1).1

pub slice_bounds-put-end-2 : goal.slice_bounds-put-end-2
slice_bounds-put-end-2 c =
    let a = c.args in
    let k = c.explain.ensures in
    let e : c.explain.result ≡ Ok c.in_ok-told.told = search rules in
    sym (length-take-le _ _ (told_steps a.self.now.book.now a.derivation.now a.from a.buffer.now (sym (ap told_listed (e ∙ ap Ok c.in-Some.is)) ∙ k.0) k.1).1)

pub returns : goal.returns
returns c =
    let a = c.args in
    let k = c.explain.ensures in
    let e : c.explain.result ≡ Ok c.in_ok-told.told = search rules in
    (told_steps a.self.now.book.now a.derivation.now a.from a.buffer.now (sym (ap told_listed (e ∙ ap Ok c.in-Some.is)) ∙ k.0) k.1).0
