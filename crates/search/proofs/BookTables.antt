-- The tables of a book's array: the chains have every statement, the rules are about cells that are there, and each formula that a rule asks
-- about has a user with that rule in its list. Taken are the rows of instances.
use Prim.Native.Nat.{ℕ, ◌+◌, ◌<◌, ◌≤◌}
use native.Mathlib.Omega.{arith}
use native.Mathlib.Decide.{dec_lt}
use mathlib.Core.Path.{◌≡◌, refl, ◌∙◌}
use mathlib.Core.List.{List, [], ◌∷◌}
use mathlib.Core.Bool.{Bool, true, false, cond}
use lib.ListN.{length, replicate}
use borrow.Author.Tests.{le-leb}
use Rattle.logic.specs.declared.Record.{Record}
use Rattle.logic.specs.Kind.{body_of, bodies}
use Rattle.logic.specs.Count.{formulas}
use Rattle.logic.specs.Book.{Book}
use Rattle.logic.specs.Formula.{record_of}
use Rattle.logic.proofs.Contents.{contents}
use Rattle.logic.proofs.Follows.{formula_limit_lem}
use Rattle.logic.proofs.Formulas.{Formulas}
use Rattle.layout.proofs.FlatBook.{Laid}
use Rattle.layout.proofs.FlatBytes.{Whole}
use Rattle.flat.specs.Layout.{field_at, kind_at}
use lib.Dec.{eqb}
use Rattle.facts.specs.Lists.{upto}
use Rattle.facts.proofs.Upto.{none_upto}
use Rattle.rules.specs.Rules.{row_has, trust, trusted_by, trusted, vouched, by_kind, rules_of}
use Rattle.flat.proofs.Cells.{Ranking, Represents}
use Rattle.rules.proofs.Tables.{Chained, Instanced, Covers}
use Rattle.rules.proofs.InBook.{kind_read}
use Rattle.rules.proofs.Entries.{Below}
use Rattle.rules.proofs.RulesSized.{instance_inside, sized}
use Rattle.rules.proofs.Closing as closing
use Rattle.tables.specs.Links.{linked}
use Rattle.tables.specs.Users.{users_of}
use Rattle.tables.proofs.Chains.{chains, chained, linked_below}
use Rattle.tables.proofs.Cover.{covers}
use Rattle.search.proofs.FlatRepresents.{ranking, represented}

-- a record of no kind that is not clear, and that nobody lets anybody control, has no rules
not_trusted : (b rows : List ℕ) (x d : ℕ) → (row_has rows (256 + x) d ≡ true → ⊥) → trusted_by b rows x d ≡ []
unfolding trusted_by
not_trusted b rows x d h = go (row_has rows (256 + x) d) h
  where
    go : (v : Bool) → (v ≡ true → ⊥) → cond v (trust b d x ∷ []) [] ≡ []
    go true h = absurd (h refl)
    go false h = refl

none_trusted : (b rows : List ℕ) (x : ℕ) → ((d : ℕ) → d < 256 → row_has rows (256 + x) d ≡ true → ⊥) → trusted b rows x ≡ []
unfolding trusted
none_trusted b rows x h = go (eqb (length rows) 0)
  where
    go : (v : Bool) → cond v [] (upto (trusted_by b rows x) 256) ≡ []
    go true = refl
    go false = none_upto (trusted_by b rows x) 256 (λ d l. not_trusted b rows x d (h d l))

no_rules : (b links rows : List ℕ) (x : ℕ) → field_at b x 0 ≡ 0 → field_at b x 4 ≡ 0 → ((d : ℕ) → d < 256 → row_has rows (256 + x) d ≡ true → ⊥) → rules_of b links rows x ≡ []
unfolding rules_of vouched by_kind
no_rules b links rows x k c h = rw (k, c, none_trusted b rows x h) refl

module _ (rs : List Record) (book : Book rs) (b : List ℕ) (laid : Laid rs b) (whole : Whole b (length (formulas rs))) where
  abbrev fs : List Record
  fs = formulas rs

  abbrev ok : Formulas (formulas rs)
  ok = (contents rs book).formulas_ok

  abbrev ρ : Ranking (formulas rs)
  ρ = ranking rs book

  abbrev rep : Represents (ranking rs book) b
  rep = represented rs book b laid

  few : length (formulas rs) ≤ 256
  few = formula_limit_lem rs book

  abbrev pub links : List ℕ
  links = linked b (length (formulas rs)) (replicate 512 0)

  -- RECORD 0 has no record before it, so it is no statement
  refers_before : (k : ℕ) → 0 < length fs → (record_of fs 0).kind ≡ k → (k ≡ 8 → ⊥) × (k ≡ 9 → ⊥) × (k ≡ 10 → ⊥)
  unfolding body_of bodies
  refers_before k l e = (
    (λ z. let h = rw (e ∙ z) at (ok.earlier 0 l) in let i = h.0 tt in omega arith),
    (λ z. let h = rw (e ∙ z) at (ok.earlier 0 l) in let i = h.0 tt in omega arith),
    (λ z. let h = rw (e ∙ z) at (ok.earlier 0 l) in let i = h.0 tt in omega arith),
  )

  first_record : (kind_at b 0 ≡ 8 → ⊥) × (kind_at b 0 ≡ 9 → ⊥) × (kind_at b 0 ≡ 10 → ⊥)
  unfolding field_at
  first_record = elim (dec_lt 0 (length (formulas rs))) [
    | yes l ↦
        let n = refers_before (record_of fs 0).kind l refl in (
          (λ z. n.0 (kind_read fs ρ b rep 0 8 l z tt)),
          (λ z. n.1 (kind_read fs ρ b rep 0 9 l z tt)),
          (λ z. n.2 (kind_read fs ρ b rep 0 10 l z tt)),
        )
    | no h ↦ let e = whole.blank 0 (omega arith) (omega arith) 0 (omega arith) in ((λ z. omega arith), (λ z. omega arith), (λ z. omega arith))
  ]

  -- THE CHAINS
  pub chains_linked : Chained b links (length (formulas rs))
  chains_linked = chained b whole.bytes first_record (length (formulas rs)) few

  pub links_below : Below links 256
  unfolding linked
  links_below k =
      let z = (chains b whole.bytes first_record (length (formulas rs)) few).below k in
      let l = few in
      rw (le-leb (length (formulas rs)) 256 few) (omega arith)

  -- with the rows of instances
  module _ (rows : List ℕ) (instanced : Instanced (formulas rs) b rows) where
    abbrev pub users : List ℕ
    users = users_of b (length (formulas rs)) (replicate 1024 0)

    users_cover : Covers b links rows users (length (formulas rs))
    users_cover r l =
        covers b rows whole.bytes (length (formulas rs)) few links (linked_below b whole.bytes first_record (length (formulas rs)) few (omega arith))
        (λ x d lx ld k h. instance_inside fs ok ρ b rows rep instanced few d x ld k lx h) instanced.back instanced.forth r l

    -- a record behind the formulas is no instance
    none_behind : (r : ℕ) → length (formulas rs) ≤ r → r < 256 → (d : ℕ) → d < 256 → row_has rows (256 + r) d ≡ true → ⊥
    none_behind r l h d ld e =
        let p = instanced.back r d h ld e in
        let i = instance_inside fs ok ρ b rows rep instanced few d r p.0 p.1 h p.2 in
        omega arith

    -- ALL OF IT
    pub tables_laid : closing.Laid b links rows users (length (formulas rs))
    unfolding field_at
    tables_laid = record {
      few = few;
      sized = sized fs ok ρ b rep links rows links_below instanced few;
      blank = λ r l h. no_rules b links rows r (whole.blank r l h 0 (omega arith)) (whole.blank r l h 4 (omega arith)) (none_behind r l h);
      covers = users_cover;
    }
