-- The rows that are laid for an accepted book are what the rules ask of them.
use Prim.Native.Nat.{ℕ, ◌+◌, ◌%◌, ◌^◌, ◌<◌, ◌≤◌}
use native.Mathlib.Nat.{zero-div}
use native.Mathlib.Omega.{arith}
use mathlib.Core.Path.{◌≡◌, refl, sym, ap, ◌∙◌}
use mathlib.Core.List.{List, []}
use mathlib.Core.Bool.{Bool, true, false, cond}
use lib.ListN.{length, replicate}
use Rattle.logic.specs.declared.Record.{Record}
use Rattle.logic.specs.Count.{formulas}
use Rattle.logic.specs.Book.{Book}
use Rattle.logic.specs.Formula.{record_of}
use Rattle.format.specs.Index.{index_size, record_in, filled}
use Rattle.facts.specs.Facts.{bit_at}
use Rattle.lanes.proofs.Sets.{apart}
use Rattle.layout.proofs.FlatBook.{Laid}
use Rattle.layout.proofs.FlatBytes.{Whole}
use Rattle.rules.specs.Rules.{row_has, scope_of}
use Rattle.rules.proofs.Tables.{Instanced}
use Rattle.instances.specs.Rows.{has_delegation, instances_of}
use Rattle.instances.proofs.Laws.{delegation_here}
use Rattle.instances.proofs.Told.{Told, told_record, book_told}
use Rattle.instances.proofs.Instances.{inside, of_formulas, rows_wide, only, each}
use Rattle.tables.specs.Delegations.{delegations_of}
use Rattle.tables.proofs.Delegations.{rows_kept, let_by, lets_all}

-- no row has anything where there are no rows
no_rows : (y x : ℕ) → row_has [] y x ≡ true → ⊥
unfolding row_has bit_at
no_rows y x h = absurd (apart (sym (rw (zero-div (2 ^ (x % 64))) at h)))

module _ (t₀ : List ℕ) (rs : List Record) (room : index_size ≤ length t₀) (book : Book rs) (b : List ℕ) (laid : Laid rs b) (whole : Whole b (length (formulas rs))) where
  abbrev fs : List Record
  fs = formulas rs

  abbrev t : List ℕ
  t = filled t₀ [] rs

  told : Told fs t
  told = book_told t₀ rs room book

  -- a book with a kind 17
  abbrev instances : List ℕ
  instances = instances_of t (length fs) (replicate 2048 0)

  abbrev rows : List ℕ
  rows = delegations_of b (length fs) instances

  wide : length instances ≡ 2048
  wide = rows_wide fs t told

  none_yet : (x d : ℕ) → x < 256 → d < 256 → row_has instances (256 + x) d ≡ true → ⊥
  unfolding row_has
  none_yet x d lx ld h = let l = of_formulas fs t told (256 + x) d (omega arith) ld (sym h) in let f = told.few in omega arith

  same : (y x : ℕ) → y < length fs → x < 256 → row_has rows y x ≡ row_has instances y x
  same y x l m = rows_kept b whole.bytes (length fs) told.few instances wide none_yet y x (let f = told.few in omega arith) m

  with_rows : Instanced fs b rows
  unfolding row_has
  with_rows = record {
    few = told.few;
    inside = λ y x l m h. inside fs t told y x (let f = told.few in omega arith) m (sym (sym (same y x l m) ∙ h));
    only = λ d y x ld kd ly lx u h. only fs t told d kd y x ly lx u (sym (sym (same y x ly (let f = told.few in omega arith)) ∙ h));
    every = λ d y x ld kd ly lx u i. same y x ly (let f = told.few in omega arith) ∙ sym (each fs t told d kd y x ly lx u i);
    back = let_by b whole.bytes (length fs) told.few instances wide none_yet;
    forth = lets_all b whole.bytes (length fs) told.few instances wide none_yet;
  }

  -- a book without
  without_rows : has_delegation t (length fs) ≡ false → Instanced fs b []
  without_rows n =
      let none : (d : ℕ) → d < length fs → (record_of fs d).kind ≡ 17 → ⊥ = λ d l k. apart (delegation_here t d (length fs) l refl (told_kind d l k) ∙ n) in
      record {
        few = told.few;
        inside = λ y x l m h. absurd (no_rows y x h);
        only = λ d y x ld kd ly lx u h. absurd (no_rows y x h);
        every = λ d y x ld kd ly lx u i. absurd (none d ld kd);
        back = λ x d lx ld h. absurd (no_rows (256 + x) d h);
        forth = λ x d lx ld k h. absurd (no_rows (scope_of b d) x h);
      }
    where
      told_kind : (d : ℕ) → d < length fs → (record_of fs d).kind ≡ 17 → (record_in t d).kind ≡ 17
      told_kind d l k = ap (λ r. r.kind) (told_record fs t told d l) ∙ k

  pub instanced_rows : Instanced fs b (cond (has_delegation t (length fs)) rows [])
  instanced_rows = go (has_delegation t (length fs)) refl
    where
      go : (v : Bool) → has_delegation t (length fs) ≡ v → Instanced fs b (cond v rows [])
      go true e = with_rows
      go false e = without_rows e
