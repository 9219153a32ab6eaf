use mathlib.Core.Path.{refl}
use native.Mathlib.Omega.{arith}
use Rattle.derive.proofs.Laws.{high_byte, low_byte, step_put}
use Rattle.derive.proofs.Holder.write_step.Goals as goal

pub returns : goal.returns
returns c =
    let s = c.args in
    let n = c.numbers_in.ensures in
    let a = c.to_be_bytes.ensures in
    let b = c.to_be_bytes-2.ensures in
    step_put s.self.now.names.now s.self.now.formula s.i s.a s.b s.out.now s.at (omega arith) (omega arith) (omega arith) n.0 n.1
    c.mode_of-mode.ensures c.other_in-other.ensures refl
    (high_byte s.a (omega arith) a) (low_byte s.a a) (high_byte s.b (omega arith) b) (low_byte s.b b) c.put_text.ensures
