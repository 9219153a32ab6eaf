-- The lists of any array of bytes are for sets of ranks and give facts about formulas that can be. Assumes nothing.
use Prim.Native.Nat.{ℕ, ◌+◌, ◌*◌, ◌<◌}
use native.Mathlib.Nat.{lt_of_le_of_lt}
use native.Mathlib.Omega.{arith}
use mathlib.Core.List.{List}
use lib.Bits.{bit_and, and_le_l}
use Rattle.logic.specs.Book.{All}
use Rattle.logic.proofs.Member.{all_imp}
use Rattle.logic.proofs.Bytes.{Bytes}
use Rattle.facts.specs.declared.Instance.{Instance}
use Rattle.lanes.specs.Lanes.{Common}
use Rattle.lanes.proofs.Measure.{Bounded}
use Rattle.flat.specs.Layout.{field_at, first_at, second_at, third_at}
use Rattle.rules.specs.Rules.{everyone, all_but, rules_of}
use Rattle.rules.proofs.Entries.{Alone, Opening, Entry, entries}
use Rattle.rules.proofs.Entries.Alone.{entry4, entry5, entry6, entry7, entry8, entry12, entry13, entry14, entry15, entry16, entry17, entry18, entry19, entry20, entry21, entry22}
use Rattle.rules.proofs.Entries.Opening.{entry1, entry2, entry3, entry9, entry10, entry11}
use Rattle.rules.proofs.Entries.Entry.{alone, opens, entrusts}

module _ (b links rows : List ℕ) (h : Bytes b) (r : ℕ) (l : r < 256) where
  field_below : (x k : ℕ) → field_at b x k < 256
  unfolding field_at
  field_below x k = h (x * 8 + k)

  but_below : (q : ℕ) → all_but b q < 256
  but_below q = omega arith

  gives_below : (i : Instance) → Alone b rows r i → i.gives.formula < 256
  gives_below i (entry4 j a e) = l
  gives_below i (entry5 e) = field_below (second_at b r) 6
  gives_below i (entry6 e) = field_below r 1
  gives_below i (entry7 e) = field_below r 2
  gives_below i (entry8 e) = field_below r 1
  gives_below i (entry12 e) = l
  gives_below i (entry13 e) = l
  gives_below i (entry14 j a e) = field_below r 1
  gives_below i (entry15 j a e) = field_below r 2
  gives_below i (entry16 j a e) = field_below r 1
  gives_below i (entry17 j a e) = field_below r 2
  gives_below i (entry18 e) = field_below (first_at b r) 6
  gives_below i (entry19 e) = field_below (second_at b r) 6
  gives_below i (entry20 e) = l
  gives_below i (entry21 x a e m) = field_below x 6
  gives_below i (entry22 c a e m) = a

  and_below : (m w : ℕ) → m < 256 → bit_and m w < 256
  and_below m w a = lt_of_le_of_lt (and_le_l m w) a

  opening_bounded : (y : ℕ) (c : Common) → Opening b r y c → Bounded c
  opening_bounded y c (entry1 p q a e f g) = record { may = and_below (all_but b (third_at b r)) _ (but_below (third_at b r)); gives = field_below r 1 }
  opening_bounded y c (entry2 e f g) = record { may = but_below (third_at b r); gives = field_below r 1 }
  opening_bounded y c (entry3 p q a e f g) = record { may = and_below everyone _ (omega arith); gives = field_below r 1 }
  opening_bounded y c (entry9 e f g) = record { may = and_below (all_but b (third_at b r)) _ (but_below (third_at b r)); gives = field_below r 1 }
  opening_bounded y c (entry10 e f g) = record { may = and_below (all_but b (third_at b r)) _ (but_below (third_at b r)); gives = field_below r 1 }
  opening_bounded y c (entry11 e f g) = record { may = but_below (third_at b r); gives = field_below r 1 }

  entry_bounded : (c : Common) → Entry b links rows r c → Bounded c
  entry_bounded c (alone i a) = record { may = omega arith; gives = gives_below i a }
  entry_bounded c (opens y _ o e) = opening_bounded y c e
  entry_bounded c (entrusts d a e) = record { may = omega arith; gives = field_below r 6 }

  pub bounded : All Bounded (rules_of b links rows r)
  bounded = all_imp (Entry b links rows r) Bounded entry_bounded (rules_of b links rows r) (entries b links rows r)
