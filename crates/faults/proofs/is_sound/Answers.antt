use Rattle.faults.proofs.Sound.{sound_is}
use mathlib.Core.Path.{sym, ◌∙◌}
use Rattle.faults.proofs.is_sound.Goals as goal

pub returns : goal.returns
returns c = c.is_unfaulted.ensures ∙ sym (sound_is _ _ _ _ _)
