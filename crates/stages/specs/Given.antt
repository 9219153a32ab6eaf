-- The definitions of the stages for a book that is laid out and what is given of it.
use Rattle.std.specs.Prelude.{ℕ, ◌≡◌, List, length}
use Rattle.lanes.specs.declared.Held.{Held}
use Rattle.lanes.specs.Lanes.{State}
use Rattle.lanes.specs.Held.{state_of}
use Rattle.stamps.specs.declared.Stamped.{Stamped}
use Rattle.stamps.specs.Stamped as stamped
use Rattle.rules.specs.Close.{Closes}
use Rattle.engine.specs.declared.Laid.{Laid}
use Rattle.engine.specs.Laid.{array_of}
use Rattle.stages.specs.declared.Given.{Given}
use Rattle.stages.specs.declared.Found.{Found}
use Rattle.stages.specs.Stages.{StageIs, TurnIs, StagesEnd, Surveys, FindsAll, Finds}

-- the words and the records to be looked at again, in full
abbrev pub AllWords : Held → Type 0
AllWords h = (length h.words ≡ 1024) × (length h.pending ≡ 4)

abbrev pub ClosesTo : Laid → (k : ℕ) → (s t : State) → Type 0
ClosesTo b k s t = Closes (array_of b) b.links.now b.rows.now b.users.now k s t

-- what was given is closed in h, and what is new in it is stamped from f to z with the stamps v
abbrev pub StageFrom : Laid → Given → (given : State) (h : Held) (v : List ℕ) (f z : Stamped) → Type 0
StageFrom b g given h v f z =
    StageIs (array_of b) b.links.now b.rows.now b.users.now given (state_of h) v g.sizes.formulas g.sizes.principals f.before f.table.now (stamped.state_of z)

abbrev pub TurnFrom : Laid → Given → (h h' : Held) (m next : ℕ) (f z : Stamped) → Type 0
TurnFrom b g h h' m next f z =
    TurnIs (array_of b) b.links.now b.rows.now b.users.now g.deliveries.now (state_of h) (state_of h') m next g.sizes.formulas g.sizes.principals f.before f.table.now (stamped.state_of z)

abbrev pub StagesOf : Laid → Given → (t t' : List ℕ) (held : ℕ) → Type 0
StagesOf b g t t' held =
    StagesEnd (array_of b) b.links.now b.rows.now b.users.now g.deliveries.now g.sizes.formulas g.sizes.principals g.force g.sizes.assumptions t t' held

abbrev pub SurveyOf : Laid → Given → (t t' : List ℕ) (held : ℕ) → Type 0
SurveyOf b g t t' held =
    Surveys (array_of b) b.links.now b.rows.now b.users.now g.deliveries.now g.sizes.formulas g.sizes.principals g.force g.sizes.assumptions t t' held

abbrev pub FoundIn : Laid → Given → (k : ℕ) (l l' : List ℕ) → Found → Type 0
FoundIn b g k l l' f =
    FindsAll (array_of b) b.links.now b.rows.now b.users.now g.deliveries.now k g.sizes.formulas g.force g.sizes.assumptions l l' f.count f.held

abbrev pub FindingOf : Laid → Given → (k : ℕ) (l l' : List ℕ) → Found → Type 0
FindingOf b g k l l' f =
    Finds (array_of b) b.links.now b.rows.now b.users.now g.deliveries.now k g.sizes.formulas g.force g.sizes.assumptions l l' f.count f.held
