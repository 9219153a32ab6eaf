-- The numbers of document 01, "What is turned away", and of document 02, wish 4, and what each answer says in these terms.
use Rattle.std.specs.Prelude.{ℕ, Result, Ok, Err}
use Rattle.logic.specs.declared.Cause.{Cause}
use Rattle.logic.specs.declared.Cause.TheVariants.{UnknownKind, WrongLength, OutOfOrder, DanglingReference, WrongSort, NamesNotRising, SenderIsReceiver, RepeatedFormula, OverLimit, NotStatement, MessageAfterLast, NoSpace, NoSuchGoal, ShortBuffer, LongText, BadStepKind, MalformedFact, PremiseNotEarlier, DoesNotFollow, NotTheGoal, TooManySteps, LooseVariable, WrongDelegation}
use Rattle.logic.specs.declared.Refusal.{Refusal}
use Rattle.logic.specs.declared.Entered.{Entered}
use Rattle.logic.specs.declared.Entered.TheVariants.{Present, Added}

abbrev pub number_of : Cause → ℕ
number_of UnknownKind = 1
number_of WrongLength = 2
number_of OutOfOrder = 3
number_of DanglingReference = 4
number_of WrongSort = 5
number_of NamesNotRising = 6
number_of SenderIsReceiver = 7
number_of RepeatedFormula = 8
number_of OverLimit = 9
number_of NotStatement = 10
number_of MessageAfterLast = 11
number_of NoSpace = 12
number_of NoSuchGoal = 13
number_of ShortBuffer = 14
number_of LongText = 15
number_of BadStepKind = 16
number_of MalformedFact = 17
number_of PremiseNotEarlier = 18
number_of DoesNotFollow = 19
number_of NotTheGoal = 20
number_of TooManySteps = 21
number_of LooseVariable = 22
number_of WrongDelegation = 23

-- what is accepted, with what it is worth, or what is turned away, with the number and what is returned
pub data Outcome (A : Type 0) : Type 0 where
  accepted : A → Outcome A
  refused : ℕ → ℕ → Outcome A

-- an answer of the code in these terms
abbrev pub told : {A : Type 0} → Result A Refusal → Outcome A
told (Ok a) = accepted a
told (Err f) = refused (number_of f.cause) f.place

-- what comes of entering a record: it is present as formula number .., or is appended and has that number in its own count
pub data Entry : Type 0 where
  present : ℕ → Entry
  added : ℕ → Entry
  turned_away : ℕ → ℕ → Entry

-- the answer of entering
abbrev pub told_entered : Result Entered Refusal → Entry
told_entered (Ok (Present i)) = present i
told_entered (Ok (Added i)) = added i
told_entered (Err f) = turned_away (number_of f.cause) f.place
