-- THE PAIRS OF A BOOK ARE ITS REPORT: by its formula records, its messages and a table that begins with its survey.
use Prim.Native.Nat.{ℕ, ◌≤◌, ◌<◌}
use mathlib.Core.Path.{◌≡◌, sym, ap, ◌∙◌}
use mathlib.Core.List.{List, ◌++◌}
use mathlib.Core.Bool.{Bool, true, false, not}
use lib.ListN.{length, get_or, replicate, get_or-append}
use lib.Dec.{T, eqb}
use borrow.Author.Tests.{eqb-false, ne_eqb}
use Rattle.logic.specs.declared.Record.{Record}
use Rattle.logic.specs.Count.{formulas, messages}
use Rattle.logic.specs.Book.{Book}
use Rattle.logic.specs.Formula.{record_of, tree_of}
use Rattle.logic.specs.Fact.{initial}
use Rattle.logic.specs.Written.{opened}
use Rattle.logic.specs.Place.{place}
use Rattle.logic.specs.Survey.{IsSurvey}
use Rattle.logic.specs.Honesty.{Meets, is_to_be_believed, is_before, belief_byte, Fails, message_of, sender_of, IsReport}
use Rattle.logic.proofs.Tests.{T_and, and_T, T_false}
use Rattle.logic.proofs.Contents.{contents}
use Rattle.logic.proofs.Meaning.{formula_in_lem}
use Rattle.logic.proofs.Places.{place_below}
use Rattle.logic.proofs.Surveys.{placed}
use Rattle.logic.proofs.HonestSenders.{to_be_believed, sender, sent, met_valid}
use Rattle.walks.specs.Walk.{mark_of, walk_from}
use Rattle.walks.proofs.WalkOverTrees.{marked_inside}
use Rattle.reports.specs.Pairs.{is_named, of_message, pairs_upto}
use Rattle.reports.proofs.InOrder.{named_among, among_named, pairs_among, among_pairs, pairs_rising}

-- a mark that is not 0
T_set : (v : ℕ) → T (not (eqb v 0)) → (v ≡ 0 → ⊥)
T_set v t = eqb-false v 0 (T_false (eqb v 0) t)

set_T : (v : ℕ) → (v ≡ 0 → ⊥) → T (not (eqb v 0))
set_T v n = rw (ne_eqb v 0 n) tt

not_false_T : (b : Bool) → b ≡ false → T (not b)
not_false_T b e = rw e tt

module _ (rs : List Record) (book : Book rs) (few : length (formulas rs) ≤ 256) (t rest : List ℕ) (s : IsSurvey (formulas rs) (initial rs) t) where
  abbrev fs : List Record
  fs = formulas rs

  abbrev its_record : ℕ → Record
  its_record m = message_of (messages rs) m

  -- the marks of message m
  abbrev marks : ℕ → List ℕ
  marks m = walk_from (record_of fs) (its_record m).first (its_record m).third (replicate 512 0)

  -- where a belief is met and asked for, its byte is the survey's
  byte_same : (m x : ℕ) → 1 ≤ m → m ≤ length (messages rs) → Meets (sender_of rs m) (tree_of fs (its_record m).third) true (tree_of fs x)
      → T (is_to_be_believed (record_of fs x).kind) → belief_byte fs (t ++ rest) (its_record m).first x ≡ belief_byte fs t (its_record m).first x
  byte_same m x a b w k =
      let g = opened fs (its_record m).first x in
      let l = place_below fs g (placed fs g (met_valid rs book m x a b w k)) in
      get_or-append t rest 0 (place fs g) (rw s.size l)

  there : (x : ℕ) → T (is_to_be_believed (record_of fs x).kind) → x < length fs
  there x k = formula_in_lem fs x (to_be_believed (record_of fs x).kind k)

  -- what is named fails the rule,
  named_fails : (m x : ℕ) → 1 ≤ m → m ≤ length (messages rs) → T (is_named fs (t ++ rest) (marks m) m (its_record m).first x)
      → Fails fs t m (its_record m) x
  unfolding is_named
  named_fails m x a b n =
      let p = (its_record m).first in
      let h = T_and (not (eqb (get_or (marks m) (mark_of x 1) 0) 0)) _ n in
      let g = T_and (is_to_be_believed (record_of fs x).kind) _ h.1 in
      let w = (marked_inside fs (contents rs book).formulas_ok p (its_record m).third (sender rs book m a b) (formula_in_lem fs _ (sent rs book m a b).0) few x (there x g.0)).0 (T_set _ h.0) in
      record {
        met = w;
        asked = g.0;
        lacking = ap (is_before m) (sym (byte_same m x a b w g.0)) ∙ T_false _ g.1;
      }

  -- and what fails it is named
  fails_named : (m x : ℕ) → 1 ≤ m → m ≤ length (messages rs) → Fails fs t m (its_record m) x
      → T (is_named fs (t ++ rest) (marks m) m (its_record m).first x)
  unfolding is_named
  fails_named m x a b f =
      let p = (its_record m).first in
      let z = (marked_inside fs (contents rs book).formulas_ok p (its_record m).third (sender rs book m a b) (formula_in_lem fs _ (sent rs book m a b).0) few x (there x f.asked)).1 f.met in
      and_T (not (eqb (get_or (marks m) (mark_of x 1) 0) 0)) _ (set_T _ z)
      (and_T (is_to_be_believed (record_of fs x).kind) _ f.asked
      (not_false_T _ (ap (is_before m) (byte_same m x a b f.met f.asked) ∙ f.lacking)))

  pub pairs_report : IsReport rs t (pairs_upto (record_of fs) fs (t ++ rest) (length fs) its_record (length (messages rs)))
  unfolding of_message
  pairs_report =
      record {
        rising = pairs_rising (record_of fs) fs (t ++ rest) (length fs) its_record (length (messages rs));
        each = λ a f. let k = there a.formula f.2.asked in
            among_pairs (record_of fs) fs (t ++ rest) (length fs) its_record (length (messages rs)) a.message a f.0 f.1
            (among_named (is_named fs (t ++ rest) (marks a.message) a.message (its_record a.message).first) a.message (length fs) a.formula k
            (fails_named a.message a.formula f.0 f.1 f.2));
        only = λ a i. let h = pairs_among (record_of fs) fs (t ++ rest) (length fs) its_record (length (messages rs)) a i in
            let g = named_among (is_named fs (t ++ rest) (marks a.message) a.message (its_record a.message).first) a.message (length fs) a h.2 in
            (h.0, h.1, named_fails a.message a.formula h.0 h.1 g.2);
      }
