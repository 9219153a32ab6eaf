-- The answer of the listing operation, in document 01's numbers and values.
use Rattle.std.specs.Prelude.{ℕ, Option, None, Some, Result, Ok, Err}
use Rattle.logic.specs.declared.Refusal.{Refusal}
use Rattle.logic.specs.Refusal.{number_of, Outcome}
use Rattle.logic.specs.Refusal.Outcome.{accepted, refused}
use Rattle.logic.specs.Listing.{Part}
use Rattle.logic.specs.Listing.Part.{piece, over}
use Rattle.text.specs.declared.Piece.{Piece}

abbrev pub told_listed : Result (Option Piece) Refusal → Outcome (Part ℕ)
told_listed (Ok (Some p)) = accepted (piece p.bytes p.next)
told_listed (Ok None) = accepted over
told_listed (Err f) = refused (number_of f.cause) f.place
