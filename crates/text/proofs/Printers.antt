-- The two printers: parts that are put one behind the other are the whole. Assumes nothing.
use Prim.Native.Nat.{ℕ, ◌<◌}
use mathlib.Core.Path.{◌≡◌, sym}
use mathlib.Core.List.{List, ◌++◌}
use mathlib.Core.Bool.{true, false}
use lib.ListN.{length}
use Rattle.logic.specs.declared.Record.{Record}
use Rattle.logic.specs.declared.Audience.{Audience}
use Rattle.format.specs.Index.{look_in}
use Rattle.logic.proofs.Formulas.{Formulas}
use Rattle.digits.proofs.Puts.{Writes, writes_none, writes_then, writes_as}
use Rattle.written.specs.Stated.{records_in}
use Rattle.text.specs.Printing.{text_in, list_in}
use Rattle.words.specs.Words.{is_pair, goes_on, ending}
use Rattle.text.proofs.Shape.{right_in, right_list, right_none, right_one}

-- All that stands before what follows behind the inner formula of r is put: from o at `at` it led to p, and ends at a.
module _ (audience : Audience) (f : ℕ) (t : List ℕ) (r : Record) {whole front o p : List ℕ} {at a : ℕ} (e : whole ≡ front ++ right_in audience f t r) (u : Writes o at front p a) where
  right_writes : {q : List ℕ} {b : ℕ} → Writes p a (right_in audience f t r) q b → Writes o at whole q b
  right_writes v = writes_as (sym e) (writes_then u v)

  -- the list goes on
  pub list_writes : goes_on (look_in f t) r ≡ true → {q : List ℕ} {b : ℕ} → Writes p a (list_in audience f t r.second) q b → Writes o at whole q b
  list_writes g v = right_writes (writes_as (sym (right_list audience f t r g)) v)

  -- nothing follows
  pub none_writes : is_pair r.kind ≡ false → Writes o at whole p a
  none_writes g = right_writes (writes_as (sym (right_none audience f t r g)) (writes_none p a))

  -- a second formula follows
  pub second_writes : Formulas (records_in f t) → r.second < length (records_in f t) → goes_on (look_in f t) r ≡ false → is_pair r.kind ≡ true
      → {q s : List ℕ} {b c : ℕ} → Writes p a (text_in audience f t r.second) q b → Writes q b (ending r.kind) s c → Writes o at whole s c
  second_writes ok l g k v w = right_writes (writes_as (sym (right_one audience f t r ok l g k)) (writes_then v w))
