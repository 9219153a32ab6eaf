use lib.Seq.{length-take-le}
use lib.ListN.{replicate}
use mathlib.Core.Path.{◌≡◌, sym, ap, ◌∙◌}
use borrow.Author.Rules.{rules}
use Rattle.std.specs.Prelude.{Ok}
use Rattle.logic.specs.Refusal.{told}
use Rattle.text.proofs.DisbeliefLines.{told_disbelief}
use Rattle.programs.proofs.Reader.tell_disbelief.Goals as goal

-- The line lies within the buffer.
pub slice_bounds-buffer-end : goal.slice_bounds-buffer-end
slice_bounds-buffer-end c =
    let a = c.args in
    let k = c.disbelief_line.ensures in
    let e : c.disbelief_line.result ≡ Ok c.in_ok-n.n = search rules in
    (told_disbelief a.self.now.book.now a.message a.formula (replicate 4160 0) (sym (ap told e) ∙ k.0) k.1).1

pub slice_bounds-put-end : goal.slice_bounds-put-end
slice_bounds-put-end c =
    let a = c.args in
    let k = c.disbelief_line.ensures in
    let e : c.disbelief_line.result ≡ Ok c.in_ok-n.n = search rules in
    sym (length-take-le _ _ (told_disbelief a.self.now.book.now a.message a.formula (replicate 4160 0) (sym (ap told e) ∙ k.0) k.1).1)
