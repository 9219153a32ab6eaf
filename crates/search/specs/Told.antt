-- What the prover answers in document 01's terms: whether the goal is reached; or the number of the refusal and what is returned.
use Rattle.std.specs.Prelude.{Result, Ok, Err}
use Rattle.logic.specs.Refusal.{number_of, Outcome}
use Rattle.logic.specs.Refusal.Outcome.{accepted, refused}
use Rattle.logic.specs.declared.Refusal.{Refusal}
use Rattle.logic.specs.Proof.{Answer}
use Rattle.logic.specs.Proof.Answer.{reached, not_reached}
use Rattle.search.specs.declared.Proved.{Proved}
use Rattle.search.specs.declared.Proved.TheVariants.{Reached, NotReached}

abbrev pub answered : Proved → Answer
answered (Reached r) = reached r.steps r.bytes r.held
answered (NotReached h) = not_reached h

abbrev pub told_proved : Result Proved Refusal → Outcome Answer
told_proved (Ok p) = accepted (answered p)
told_proved (Err f) = refused (number_of f.cause) f.place
