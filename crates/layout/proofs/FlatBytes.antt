-- The array that is worked out of an index has bytes alone, and behind the formula records it is as it was. Assumes nothing.
use Prim.Native.Nat.{ℕ, zero, suc, ◌+◌, ◌*◌, ◌%◌, ◌<◌, ◌≤◌}
use native.Mathlib.Nat.{mod-lt}
use native.Mathlib.Omega.{arith}
use native.Mathlib.Decide.{dec_lt, ℕ_discrete}
use mathlib.Core.Path.{◌≡◌, refl, ◌∙◌}
use mathlib.Core.Logic.{inr}
use mathlib.Core.List.{List, [], ◌∷◌}
use mathlib.Core.Bool.{Bool, true, false, cond, ◌&&◌, ◌||◌}
use lib.ListN.{length, get_or, set, replicate, length-set, get_or-eq_default}
use lib.Seq.{sets, get_or-set_same, get_or-set_other}
use lib.Dec.{eqb, leb}
use Rattle.logic.specs.declared.Record.{Record}
use Rattle.logic.specs.declared.Counts.{Counts}
use Rattle.logic.specs.Book.{All}
use Rattle.logic.proofs.Bytes.{Bytes}
use Rattle.format.specs.Index.{unpacked, record_in}
use Rattle.format.specs.Variables.{loose_in}
use Rattle.layout.specs.Flat.{byte_of, clear_in, opened_in, bit_in, form_in, eight, principals_in, forms_in, assumptions_in, messages_in, laid_out}
use Rattle.layout.proofs.FlatBook.{sets_out, assumptions_before, messages_before}

-- BYTES
pub bytes_set : (l : List ℕ) (i v : ℕ) → v < 256 → Bytes l → Bytes (set l i v)
bytes_set l i v h b j = elim (ℕ_discrete j i) [
  | yes e ↦ elim (dec_lt i (length l)) [
    | yes m ↦ rw (e, get_or-set_same l i v 0 m) h
    | no m ↦ rw (get_or-eq_default (set l i v) 0 {n = j} (rw length-set (omega arith))) (omega arith)
  ]
  | no d ↦ rw (get_or-set_other l i j v 0 d) (b j)
]

pub bytes_sets : (l : List ℕ) (i : ℕ) (vs : List ℕ) → All (λ v. v < 256) vs → Bytes l → Bytes (sets l i vs)
bytes_sets l i [] a b = b
bytes_sets l i (v ∷ vs) a b = bytes_sets (set l i v) (suc i) vs a.1 (bytes_set l i v a.0 b)

low : (x : ℕ) → x % 256 < 256
low x = mod-lt x (omega arith)

-- what the test picks is a byte
picked : (c : Bool) (x y : ℕ) → x < 256 → y < 256 → cond c x y < 256
picked true x y a b = a
picked false x y a b = b

-- the eight bytes of a record
module _ (b : List ℕ) (k x : ℕ) (is_loose : Bool) (r : Record) (h : r.kind < 256) where
  bit_low : bit_in b r < 256
  unfolding bit_in
  bit_low =
      let m : byte_of b r.first 5 % 8 < 8 = mod-lt (byte_of b r.first 5) (omega arith) in
      picked (eqb r.kind 11) 2 _ (omega arith)
      (picked (eqb r.kind 14) (3 + byte_of b r.first 5 % 8) _ (omega arith)
      (picked (eqb r.kind 12) (11 + byte_of b r.first 5 % 8) 1 (omega arith) (omega arith)))

  opened_low : opened_in r x < 256
  unfolding opened_in
  opened_low = picked (eqb r.kind 11) _ _ (low r.first) (picked (eqb r.kind 14 || eqb r.kind 12) _ _ (low r.second) (low x))

  form_bytes : All (λ v. v < 256) (eight (form_in b k x is_loose r))
  unfolding form_in
  form_bytes = (picked is_loose 0 r.kind (omega arith) h, (low r.first, (low r.second, (low r.third, (picked (clear_in b r) 1 0 (omega arith) (omega arith), (low k, (opened_low, (bit_low, tt))))))))

module _ (t : List ℕ) where
  kind_low : (x : ℕ) → (record_in t x).kind < 256
  unfolding unpacked
  kind_low x = mod-lt _ (omega arith)

  forms_bytes : (x : ℕ) (b : List ℕ) → Bytes b → Bytes (forms_in t x b)
  unfolding forms_in
  forms_bytes zero b h = h
  forms_bytes (suc x) b h =
      bytes_sets (forms_in t x b) (x * 8) (eight (form_in (forms_in t x b) (principals_in t x) x (loose_in t x) (record_in t x)))
      (form_bytes (forms_in t x b) (principals_in t x) x (loose_in t x) (record_in t x) (kind_low x)) (forms_bytes x b h)

  assumptions_bytes : (a : ℕ) (b : List ℕ) → Bytes b → Bytes (assumptions_in t a b)
  unfolding assumptions_in
  assumptions_bytes zero b h = h
  assumptions_bytes (suc a) b h = bytes_set (assumptions_in t a b) (2048 + a) _ (low _) (assumptions_bytes a b h)

  messages_bytes : (m : ℕ) (b : List ℕ) → Bytes b → Bytes (messages_in t m b)
  unfolding messages_in
  messages_bytes zero b h = h
  messages_bytes (suc m) b h =
      bytes_set (set (messages_in t m b) (2112 + m * 2) _) (2112 + m * 2 + 1) _ (low _) (bytes_set (messages_in t m b) (2112 + m * 2) _ (low _) (messages_bytes m b h))

  -- ALL OF IT IS BYTES
  pub laid_bytes : (n : Counts) (b : List ℕ) → Bytes b → Bytes (laid_out t n b)
  unfolding laid_out
  laid_bytes n b h = go (leb n.formulas 256 && (leb n.assumptions 64 && leb n.messages 16))
    where
      go : (c : Bool) → Bytes (cond c (messages_in t n.messages (assumptions_in t n.assumptions (forms_in t n.formulas b))) b)
      go true = messages_bytes n.messages _ (assumptions_bytes n.assumptions _ (forms_bytes n.formulas b h))
      go false = h

  -- BEHIND THE RECORDS it is as it was
  forms_behind : (x : ℕ) (b : List ℕ) (j : ℕ) → x * 8 ≤ j → get_or (forms_in t x b) j 0 ≡ get_or b j 0
  unfolding forms_in
  forms_behind zero b j l = refl
  forms_behind (suc x) b j l = sets_out (forms_in t x b) (x * 8) (eight (form_in (forms_in t x b) (principals_in t x) x (loose_in t x) (record_in t x))) j (inr (omega arith)) ∙ forms_behind x b j (omega arith)

  pub laid_behind : (n : Counts) (b : List ℕ) (j : ℕ) → n.formulas * 8 ≤ j → j < 2048 → get_or (laid_out t n b) j 0 ≡ get_or b j 0
  unfolding laid_out
  laid_behind n b j l h = go (leb n.formulas 256 && (leb n.assumptions 64 && leb n.messages 16))
    where
      go : (c : Bool) → get_or (cond c (messages_in t n.messages (assumptions_in t n.assumptions (forms_in t n.formulas b))) b) j 0 ≡ get_or b j 0
      go true =
          messages_before t (assumptions_in t n.assumptions (forms_in t n.formulas b)) n.messages j (omega arith)
          ∙ assumptions_before t (forms_in t n.formulas b) n.assumptions j h
          ∙ forms_behind n.formulas b j l
      go false = refl

-- THE ARRAY AS A WHOLE, worked out of zeros: bytes alone, and nothing behind the n formula records
pub record Whole (b : List ℕ) (n : ℕ) : Type 0 where
  pub bytes : Bytes b
  pub blank : (x : ℕ) → n ≤ x → x < 256 → (k : ℕ) → k < 8 → get_or b (x * 8 + k) 0 ≡ 0

zeros : (m j : ℕ) → ◌≡◌ {A = ℕ} (get_or (replicate m 0) j 0) 0
zeros zero j = refl
zeros (suc m) zero = refl
zeros (suc m) (suc j) = zeros m j

pub whole : (t : List ℕ) (n : Counts) (m : ℕ) → Whole (laid_out t n (replicate m 0)) n.formulas
whole t n m = record {
  bytes = laid_bytes t n (replicate m 0) (λ j. rw (zeros m j) (omega arith));
  blank = λ x l h k i. laid_behind t n (replicate m 0) (x * 8 + k) (omega arith) (omega arith) ∙ zeros m (x * 8 + k);
}
