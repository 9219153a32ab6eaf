-- Parts of facts stamped one after the other: what a byte of the table is afterwards, what is held as before, and how many bytes are not 0.
-- Assumes nothing.
use Prim.Native.Nat.{ℕ, ◌+◌, ◌/◌, ◌^◌, ◌<◌}
use native.Mathlib.Omega.{arith}
use native.Mathlib.Decide.{ℕ_discrete}
use mathlib.Core.Path.{◌≡◌, refl, sym, ap, ◌∙◌, subst}
use mathlib.Core.Logic.{inl, inr, ⊎_elim}
use mathlib.Core.List.{List, [], ◌∷◌, ◌++◌}
use mathlib.Core.Bool.{Bool, true, false, not, ◌&&◌}
use lib.ListN.{length, get_or, length-set}
use lib.Seq.{get_or-set_same, get_or-set_other}
use Rattle.logic.specs.Derivation.{Among}
use Rattle.logic.specs.Survey.{held}
use Rattle.facts.specs.Facts.{bit_at}
use Rattle.lanes.proofs.Sets.{apart}
use Rattle.stamps.specs.Stamps.{place_of, fresh, Part, State, stamp_part}
use Rattle.stamps.proofs.Bits.{fresh_in, shifted_in, Only, bits_length, bits_keeps, bits_set, Free, Apart, bits_held}

none_new : (b : Bool) → true ≡ (b && not b) → ⊥
none_new true e = apart e
none_new false e = apart e

module _ (ws v : List ℕ) (d : ℕ) where
  -- the bits of a part that are new, with what was held before
  abbrev pub new : Part → List ℕ → ℕ
  new c b = fresh (get_or ws c.word 0) (get_or b c.word 0) / 2 ^ c.low

  pub new_in : (c : Part) (b : List ℕ) (k : ℕ) → bit_at (new c b) k ≡ (bit_at (get_or ws c.word 0) (c.low + k) && not (bit_at (get_or b c.word 0) (c.low + k)))
  new_in c b k =
      shifted_in (fresh (get_or ws c.word 0) (get_or b c.word 0)) c.low k
      ∙ fresh_in (get_or ws c.word 0) (get_or b c.word 0) (c.low + k)

  abbrev pub place_in : Part → ℕ → ℕ
  place_in c b = place_of d c.at b

  unfoldable pub stamp_parts : List Part → State → State
  stamp_parts [] s = s
  stamp_parts (c ∷ l) s = stamp_parts l (stamp_part ws v d c s)

  pub parts_append : (k l : List Part) (s : State) → stamp_parts (k ++ l) s ≡ stamp_parts l (stamp_parts k s)
  unfolding stamp_parts
  parts_append [] l s = refl
  parts_append (c ∷ k) l s = parts_append k l (stamp_part ws v d c s)

  -- WHAT WAS HELD BEFORE
  before_length : (c : Part) (s : State) → length (stamp_part ws v d c s).before ≡ length s.before
  unfolding stamp_part
  before_length c s = length-set s.before c.word (get_or ws c.word 0)

  before_same : (c : Part) (s : State) → c.word < length s.before → get_or (stamp_part ws v d c s).before c.word 0 ≡ get_or ws c.word 0
  unfolding stamp_part
  before_same c s l = get_or-set_same s.before c.word (get_or ws c.word 0) 0 l

  before_other : (c : Part) (s : State) (i : ℕ) → (i ≡ c.word → ⊥) → get_or (stamp_part ws v d c s).before i 0 ≡ get_or s.before i 0
  unfolding stamp_part
  before_other c s i n = get_or-set_other s.before c.word i (get_or ws c.word 0) 0 n

  -- what is new after a part was new before it, and stands in another word
  less : (c e : Part) (s : State) (k : ℕ) → c.word < length s.before → true ≡ bit_at (new e (stamp_part ws v d c s).before) k
      → (true ≡ bit_at (new e s.before) k) × (e.word ≡ c.word → ⊥)
  less c e s k l h = elim (ℕ_discrete e.word c.word) [
    | yes q ↦
        let z : get_or (stamp_part ws v d c s).before e.word 0 ≡ get_or ws e.word 0 = rw q (before_same c s l) in
        absurd (none_new (bit_at (get_or ws e.word 0) (e.low + k)) (h ∙ new_in e (stamp_part ws v d c s).before k ∙ ap (λ x. bit_at (get_or ws e.word 0) (e.low + k) && not (bit_at x (e.low + k))) z))
    | no n ↦ (h ∙ ap (λ x. bit_at (fresh (get_or ws e.word 0) x / 2 ^ e.low) k) (before_other c s e.word n), n)
  ]

  -- the words of the parts are there
  abbrev pub Words : List Part → List ℕ → Type 0
  Words l b = (c : Part) → Among c l → c.word < length b

  words_next : (c : Part) (l : List Part) (s : State) → Words (c ∷ l) s.before → Words l (stamp_part ws v d c s).before
  words_next c l s w e m = subst (λ z. e.word < z) (sym (before_length c s)) (w e (inr m))

  pub parts_before_length : (l : List Part) (s : State) → length (stamp_parts l s).before ≡ length s.before
  unfolding stamp_parts
  parts_before_length [] s = refl
  parts_before_length (c ∷ l) s = parts_before_length l (stamp_part ws v d c s) ∙ before_length c s

  -- a word that none of them has stays
  pub parts_before_other : (l : List Part) (s : State) (i : ℕ) → ((c : Part) → Among c l → i ≡ c.word → ⊥) → get_or (stamp_parts l s).before i 0 ≡ get_or s.before i 0
  unfolding stamp_parts
  parts_before_other [] s i n = refl
  parts_before_other (c ∷ l) s i n = parts_before_other l (stamp_part ws v d c s) i (λ e m. n e (inr m)) ∙ before_other c s i (n c (inl refl))

  -- a word that is up to date stays so
  before_keeps : (l : List Part) (s : State) (i : ℕ) → Words l s.before → get_or s.before i 0 ≡ get_or ws i 0 → get_or (stamp_parts l s).before i 0 ≡ get_or ws i 0
  unfolding stamp_parts
  before_keeps [] s i w e = e
  before_keeps (c ∷ l) s i w e =
      before_keeps l (stamp_part ws v d c s) i (words_next c l s w) (elim (ℕ_discrete i c.word) [
        | yes q ↦ rw q (before_same c s (w c (inl refl)))
        | no n ↦ before_other c s i n ∙ e
      ])

  pub parts_before : (l : List Part) (s : State) (c : Part) → Among c l → Words l s.before → get_or (stamp_parts l s).before c.word 0 ≡ get_or ws c.word 0
  unfolding stamp_parts
  parts_before [] s c x'' w = elim x'' [ ]
  parts_before (e ∷ l) s c (inl q) w =
      before_keeps l (stamp_part ws v d e s) c.word (words_next e l s w)
      (subst (λ z. get_or (stamp_part ws v d e s).before z.word 0 ≡ get_or ws z.word 0) (sym q) (before_same e s (w e (inl refl))))
  parts_before (e ∷ l) s c (inr m) w = parts_before l (stamp_part ws v d e s) c m (words_next e l s w)

  -- THE TABLE
  part_length : (c : Part) (s : State) → length (stamp_part ws v d c s).stamps.bytes ≡ length s.stamps.bytes
  unfolding stamp_part
  part_length c s = bits_length v d c.at 64 (new c s.before) s.stamps

  pub parts_length : (l : List Part) (s : State) → length (stamp_parts l s).stamps.bytes ≡ length s.stamps.bytes
  unfolding stamp_parts
  parts_length [] s = refl
  parts_length (c ∷ l) s = parts_length l (stamp_part ws v d c s) ∙ part_length c s

  part_keeps : (c : Part) (s : State) (j y : ℕ) → Only v d c.at 64 (new c s.before) j y → get_or s.stamps.bytes j 0 ≡ y → get_or (stamp_part ws v d c s).stamps.bytes j 0 ≡ y
  unfolding stamp_part
  part_keeps c s j y h e = bits_keeps v d c.at 64 (new c s.before) s.stamps j y h e

  part_set : (c : Part) (s : State) (b j y : ℕ) → b < 64 → true ≡ bit_at (new c s.before) b → place_in c b ≡ j → Only v d c.at 64 (new c s.before) j y
      → j < length s.stamps.bytes → get_or (stamp_part ws v d c s).stamps.bytes j 0 ≡ y
  unfolding stamp_part
  part_set c s b j y l n e h r = bits_set v d c.at 64 (new c s.before) s.stamps b j y l n e h r

  -- every new bit that has the place j has the stamp y
  abbrev pub OnlyOf : List Part → List ℕ → (j y : ℕ) → Type 0
  OnlyOf l b j y = (c : Part) → Among c l → Only v d c.at 64 (new c b) j y

  only_next : (c : Part) (l : List Part) (s : State) (j y : ℕ) → Words (c ∷ l) s.before → OnlyOf (c ∷ l) s.before j y → OnlyOf l (stamp_part ws v d c s).before j y
  only_next c l s j y w h e m b lb n = h e (inr m) b lb (less c e s b (w c (inl refl)) n).0

  pub parts_keep : (l : List Part) (s : State) (j y : ℕ) → Words l s.before → OnlyOf l s.before j y → get_or s.stamps.bytes j 0 ≡ y → get_or (stamp_parts l s).stamps.bytes j 0 ≡ y
  unfolding stamp_parts
  parts_keep [] s j y w h e = e
  parts_keep (c ∷ l) s j y w h e =
      parts_keep l (stamp_part ws v d c s) j y (words_next c l s w) (only_next c l s j y w h) (part_keeps c s j y (h c (inl refl)) e)

  -- no two parts have the same word
  abbrev pub OneEach : List Part → Type 0
  OneEach l = (c e : Part) → Among c l → Among e l → c.word ≡ e.word → c ≡ e

  pub parts_set : (l : List Part) (s : State) (c : Part) (b j y : ℕ) → Among c l → b < 64 → true ≡ bit_at (new c s.before) b → place_in c b ≡ j
      → Words l s.before → OneEach l → OnlyOf l s.before j y → j < length s.stamps.bytes → get_or (stamp_parts l s).stamps.bytes j 0 ≡ y
  unfolding stamp_parts
  parts_set [] s c b j y m lb n p w o h r = elim m [ ]
  parts_set (e ∷ l) s c b j y m lb n p w o h r = elim (ℕ_discrete c.word e.word) [
    | yes q ↦
        let z = o c e m (inl refl) q in
        parts_keep l (stamp_part ws v d e s) j y (words_next e l s w) (only_next e l s j y w h)
        (part_set e s b j y lb (subst (λ x. true ≡ bit_at (new x s.before) b) z n) (subst (λ x. place_in x b ≡ j) z p) (h e (inl refl)) r)
    | no x ↦
        ⊎_elim
        (λ q. absurd (x (ap (λ z. z.word) q)))
        (λ i.
        parts_set l (stamp_part ws v d e s) c b j y i lb (n ∙ ap (λ z. bit_at (fresh (get_or ws c.word 0) z / 2 ^ c.low) b) (sym (before_other e s c.word x))) p
        (words_next e l s w) (λ c e i k. o c e (inr i) (inr k)) (only_next e l s j y w h) (subst (λ z. j < z) (sym (part_length e s)) r))
        m
  ]

  -- HOW MANY BYTES are not 0
  abbrev pub FreeOf : List Part → State → Type 0
  FreeOf l s = (c : Part) → Among c l → Free v d c.at 64 (new c s.before) s.stamps.bytes

  abbrev pub ApartOf : List Part → List ℕ → Type 0
  ApartOf l b =
      (c e : Part) (i k : ℕ) → Among c l → Among e l → i < 64 → k < 64 → true ≡ bit_at (new c b) i → true ≡ bit_at (new e b) k → place_in c i ≡ place_in e k
      → (c ≡ e) × (i ≡ k)

  part_held : (c : Part) (s : State) → Free v d c.at 64 (new c s.before) s.stamps.bytes → Apart v d c.at 64 (new c s.before)
      → held (stamp_part ws v d c s).stamps.bytes + s.stamps.count ≡ held s.stamps.bytes + (stamp_part ws v d c s).stamps.count
  unfolding stamp_part
  part_held c s f p = bits_held v d c.at 64 (new c s.before) s.stamps f p

  pub parts_held : (l : List Part) (s : State) → Words l s.before → FreeOf l s → ApartOf l s.before
      → held (stamp_parts l s).stamps.bytes + s.stamps.count ≡ held s.stamps.bytes + (stamp_parts l s).stamps.count
  unfolding stamp_parts
  parts_held [] s w f p = refl
  parts_held (c ∷ l) s w f p =
      let t = stamp_part ws v d c s in
      let g : FreeOf l t = λ e m b lb n.
      let k = less c e s b (w c (inl refl)) n in
      let h = f e (inr m) b lb k.0 in (
        subst (λ z. place_in e b < z) (sym (part_length c s)) h.0,
        part_keeps c s (place_in e b) 0 (λ i li ni q. absurd (k.1 (ap (λ z. z.word) (sym (p c e i b (inl refl) (inr m) li lb ni k.0 q).0)))) h.1,
        h.2,
      ) in
      let a : ApartOf l t.before = λ x y i j mx my li lj ni nj q.
      p x y i j (inr mx) (inr my) li lj (less c x s i (w c (inl refl)) ni).0 (less c y s j (w c (inl refl)) nj).0 q in
      let h = parts_held l t (words_next c l s w) g a in
      let i = part_held c s (f c (inl refl)) (λ i j li lj ni nj q. (p c c i j (inl refl) (inl refl) li lj ni nj q).1) in
      omega (arith, h, i)
