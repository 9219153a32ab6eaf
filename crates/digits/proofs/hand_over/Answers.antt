use mathlib.Core.Path.{refl}
use Rattle.digits.proofs.Puts.{whole_put}
use Rattle.digits.proofs.hand_over.Goals as goal

-- A buffer that has room.
pub returns : goal.returns
returns c = let a = c.args in whole_put a.text.now a.buffer.now refl c.if-buffer-text.false c.put_text.ensures
