-- Claims stand for facts over formula numbers: a fact has one claim, which four bytes give back, and a sound claim is that of the fact
-- that its seven bytes are. Assumes nothing.
use Prim.Native.Nat.{ℕ, ◌+◌, ◌<◌, ◌≤◌}
use native.Mathlib.Omega.{arith}
use mathlib.Core.Path.{◌≡◌, refl, sym, ap, ◌∙◌}
use mathlib.Core.List.{List}
use mathlib.Core.Bool.{Bool, true, false, cond, not, ◌&&◌, ◌||◌}
use lib.ListN.{length, get_or, take, drop, length-take, length-drop}
use lib.Seq.{get_or-drop, get_or-take}
use lib.Dec.{T, leb, eqb, eqb→eq}
use borrow.Author.Tests.{eqb-true, eqb-false, eq-eqb}
use Rattle.logic.specs.declared.Record.{Record}
use Rattle.logic.specs.Kind.{is_formula}
use Rattle.logic.specs.Record.{word}
use Rattle.logic.specs.Book.{Closed}
use Rattle.logic.specs.Formula.{is_closed, record_of, tree_of}
use Rattle.logic.specs.Fact.{Fact}
use Rattle.logic.specs.Fact.Fact.{Sees, Believes, BelievesFresh, BelievesSaid, BelievesBelieves}
use Rattle.logic.specs.Written.{is_principal, is_sentence, is_opening, is_written, fact_in, is_malformed, opened, stated_on}
use Rattle.logic.proofs.Tests.{T_and, eqb_same}
use Rattle.logic.proofs.Closure.{formula_of}
use Rattle.logic.proofs.Holder.{holder}
use Rattle.logic.proofs.Meaning.{Valid, principal_in, formula_in_lem}
use Rattle.logic.proofs.FactBytes.{Formed}
use Rattle.claims.specs.declared.Claim.{Claim}
use Rattle.claims.specs.Claim.{claim, same_claim, claim_in, packed_claim, unpacked_claim, is_sound, opened_claim, stated_claim}

abbrev pub mode_of : Fact ℕ → ℕ
mode_of (Sees p x) = 1
mode_of (Believes p x) = 2
mode_of (BelievesFresh p x) = 3
mode_of (BelievesSaid p q x) = 4
mode_of (BelievesBelieves p q x) = 5

-- Q, of whom P believes something, or 0
abbrev pub partner : Fact ℕ → ℕ
partner (Sees p x) = 0
partner (Believes p x) = 0
partner (BelievesFresh p x) = 0
partner (BelievesSaid p q x) = q
partner (BelievesBelieves p q x) = q

abbrev pub claim_of : Fact ℕ → Claim
claim_of g = claim (mode_of g) (holder g) (partner g) (formula_of g)

-- the fact of a claim
abbrev fact_of : Claim → Fact ℕ
fact_of c =
    cond (eqb c.mode 1) (Sees c.p c.x)
    (cond (eqb c.mode 2) (Believes c.p c.x)
    (cond (eqb c.mode 3) (BelievesFresh c.p c.x)
    (cond (eqb c.mode 4) (BelievesSaid c.p c.q c.x)
    (BelievesBelieves c.p c.q c.x))))

fact_back : (g : Fact ℕ) → fact_of (claim_of g) ≡ g
fact_back (Sees p x) = refl
fact_back (Believes p x) = refl
fact_back (BelievesFresh p x) = refl
fact_back (BelievesSaid p q x) = refl
fact_back (BelievesBelieves p q x) = refl

-- A FACT HAS ONE CLAIM
pub fact_once : (g h : Fact ℕ) → claim_of g ≡ claim_of h → g ≡ h
fact_once g h e = sym (fact_back g) ∙ (ap fact_of e ∙ fact_back h)

-- a fact by its mode
of_mode : (g : Fact ℕ) (m : ℕ) → mode_of g ≡ m → g ≡ fact_of (claim m (holder g) (partner g) (formula_of g))
of_mode g m e = sym (fact_back g) ∙ ap (λ k. fact_of (claim k (holder g) (partner g) (formula_of g))) e

pub is_sees : (g : Fact ℕ) → mode_of g ≡ 1 → g ≡ Sees (holder g) (formula_of g)
is_sees g e = of_mode g 1 e

pub is_believes : (g : Fact ℕ) → mode_of g ≡ 2 → g ≡ Believes (holder g) (formula_of g)
is_believes g e = of_mode g 2 e

pub is_fresh : (g : Fact ℕ) → mode_of g ≡ 3 → g ≡ BelievesFresh (holder g) (formula_of g)
is_fresh g e = of_mode g 3 e

pub is_said : (g : Fact ℕ) → mode_of g ≡ 4 → g ≡ BelievesSaid (holder g) (partner g) (formula_of g)
is_said g e = of_mode g 4 e

pub is_believed : (g : Fact ℕ) → mode_of g ≡ 5 → g ≡ BelievesBelieves (holder g) (partner g) (formula_of g)
is_believed g e = of_mode g 5 e

-- the test of two claims
pub claim_path : (c d : Claim) → c.mode ≡ d.mode → c.p ≡ d.p → c.q ≡ d.q → c.x ≡ d.x → c ≡ d
claim_path c d e f g h = λ i. record { mode = e i; p = f i; q = g i; x = h i }

pub same_claim_lem : (c d : Claim) → T (same_claim c d) → c ≡ d
same_claim_lem c d t =
    let a = T_and (eqb c.mode d.mode) _ t in
    let b = T_and (eqb c.p d.p) _ a.1 in
    let e = T_and (eqb c.q d.q) _ b.1 in
    claim_path c d (eqb→eq c.mode d.mode a.0) (eqb→eq c.p d.p b.0) (eqb→eq c.q d.q e.0) (eqb→eq c.x d.x e.1)

pub claim_same : (c : Claim) → same_claim c c ≡ true
claim_same c = rw (eqb_same c.mode, eqb_same c.p, eqb_same c.q, eqb_same c.x)

-- the numbers of a fact that may be written are below those of the formulas
pub formula_of_in : (fs : List Record) (g : Fact ℕ) → Valid fs g → formula_of g < length fs
formula_of_in fs (Sees p x) v = formula_in_lem fs x v.1.0
formula_of_in fs (Believes p x) v = formula_in_lem fs x v.1.0
formula_of_in fs (BelievesFresh p x) v = formula_in_lem fs x v.1.0
formula_of_in fs (BelievesSaid p q x) v = formula_in_lem fs x v.2.0
formula_of_in fs (BelievesBelieves p q x) v = formula_in_lem fs x v.2.0

-- and their formula has no variable outside kind 17
pub closed_of : (fs : List Record) (g : Fact ℕ) → Valid fs g → Closed fs (formula_of g)
closed_of fs (Sees p x) v = v.1.1
closed_of fs (Believes p x) v = v.1.1
closed_of fs (BelievesFresh p x) v = v.1.1
closed_of fs (BelievesSaid p q x) v = v.2.1
closed_of fs (BelievesBelieves p q x) v = v.2.1

holder_in : (fs : List Record) (g : Fact ℕ) → Valid fs g → holder g < length fs
holder_in fs (Sees p x) v = principal_in fs p v.0
holder_in fs (Believes p x) v = principal_in fs p v.0
holder_in fs (BelievesFresh p x) v = principal_in fs p v.0
holder_in fs (BelievesSaid p q x) v = principal_in fs p v.0
holder_in fs (BelievesBelieves p q x) v = principal_in fs p v.0

partner_small : (fs : List Record) (g : Fact ℕ) → Valid fs g → length fs ≤ 256 → partner g < 256
partner_small fs (Sees p x) v l = omega arith
partner_small fs (Believes p x) v l = omega arith
partner_small fs (BelievesFresh p x) v l = omega arith
partner_small fs (BelievesSaid p q x) v l = let h = principal_in fs q v.1 in omega arith
partner_small fs (BelievesBelieves p q x) v l = let h = principal_in fs q v.1 in omega arith

mode_small : (g : Fact ℕ) → mode_of g < 256
mode_small (Sees p x) = omega arith
mode_small (Believes p x) = omega arith
mode_small (BelievesFresh p x) = omega arith
mode_small (BelievesSaid p q x) = omega arith
mode_small (BelievesBelieves p q x) = omega arith

unpacked_claim_lem : (k p q x : ℕ) → k < 256 → p < 256 → q < 256 → x < 256 → unpacked_claim (packed_claim (claim k p q x)) ≡ claim k p q x
unpacked_claim_lem k p q x a b c d = claim_path _ (claim k p q x) (omega arith) (omega arith) (omega arith) (omega arith)

-- FOUR BYTES GIVE BACK the claim of a fact that may be written
pub claim_back : (fs : List Record) → length fs ≤ 256 → (g : Fact ℕ) → Valid fs g → unpacked_claim (packed_claim (claim_of g)) ≡ claim_of g
claim_back fs l g v =
    let h = holder_in fs g v in
    let f = formula_of_in fs g v in
    unpacked_claim_lem (mode_of g) (holder g) (partner g) (formula_of g) (mode_small g) (omega arith) (partner_small fs g v l) (omega arith)

-- The bytes of a step's fact.

abbrev pub fact_bytes_of : List ℕ → List ℕ
fact_bytes_of s = take 7 (drop 1 s)

at_fact : (s : List ℕ) (i : ℕ) → i < 7 → get_or (fact_bytes_of s) i 0 ≡ get_or s (1 + i) 0
at_fact s i l = rw (get_or-take 7 (drop 1 s) i 0 l, get_or-drop)

pub bytes_claim : (s : List ℕ)
    → claim (get_or (fact_bytes_of s) 0 0) (word (fact_bytes_of s) 1) (word (fact_bytes_of s) 3) (word (fact_bytes_of s) 5) ≡ claim_in s
unfolding word
bytes_claim s =
    rw (at_fact s 0 (omega arith), at_fact s 1 (omega arith), at_fact s 2 (omega arith), at_fact s 3 (omega arith), at_fact s 4 (omega arith), at_fact s 5 (omega arith), at_fact s 6 (omega arith))

pub bytes_seven : (s : List ℕ) → 8 ≤ length s → length (fact_bytes_of s) ≡ 7
bytes_seven s l = simp (length-take, length-drop) (omega arith)

-- the claim of bytes that are not malformed
formed_claim : (fs : List Record) (f : List ℕ) → Formed fs f → claim_of (fact_in f) ≡ claim (get_or f 0 0) (word f 1) (word f 3) (word f 5)
unfolding fact_in
formed_claim fs f h = go (eqb k 1) (eqb k 2) (eqb k 3) (eqb k 4) refl refl refl refl
  where
    k : ℕ
    k = get_or f 0 0

    P : ℕ
    P = word f 1

    Q : ℕ
    Q = word f 3

    X : ℕ
    X = word f 5

    go : (t₁ t₂ t₃ t₄ : Bool) → eqb k 1 ≡ t₁ → eqb k 2 ≡ t₂ → eqb k 3 ≡ t₃ → eqb k 4 ≡ t₄
        → claim_of (cond t₁ (Sees P X) (cond t₂ (Believes P X) (cond t₃ (BelievesFresh P X) (cond t₄ (BelievesSaid P Q X) (BelievesBelieves P Q X)))))
        ≡ claim k P Q X
    go true t₂ t₃ t₄ e₁ e₂ e₃ e₄ = let m = eqb-true k 1 e₁ in claim_path _ (claim k P Q X) (sym m) refl (sym (h.none (omega arith))) refl
    go false true t₃ t₄ e₁ e₂ e₃ e₄ = let m = eqb-true k 2 e₂ in claim_path _ (claim k P Q X) (sym m) refl (sym (h.none (omega arith))) refl
    go false false true t₄ e₁ e₂ e₃ e₄ = let m = eqb-true k 3 e₃ in claim_path _ (claim k P Q X) (sym m) refl (sym (h.none (omega arith))) refl
    go false false false true e₁ e₂ e₃ e₄ = let m = eqb-true k 4 e₄ in claim_path _ (claim k P Q X) (sym m) refl refl refl
    go false false false false e₁ e₂ e₃ e₄ =
        let a₁ = eqb-false k 1 e₁ in
        let a₂ = eqb-false k 2 e₂ in
        let a₃ = eqb-false k 3 e₃ in
        let a₄ = eqb-false k 4 e₄ in
        let b = h.mode in
        claim_path _ (claim k P Q X) (omega arith) refl refl refl

pub step_claim : (fs : List Record) (s : List ℕ) → Formed fs (fact_bytes_of s) → claim_of (fact_in (fact_bytes_of s)) ≡ claim_in s
step_claim fs s h = formed_claim fs (fact_bytes_of s) h ∙ bytes_claim s

-- A CLAIM IS SOUND just if its bytes are not malformed.

-- by mode: P is a principal, F says that X is a formula, Z that Q is 0, O that X is opened, R that Q is a principal
plain_modes : (P F Z : Bool) → not (not Z || not (P && F)) ≡ (P && (F && (Z && true)))
plain_modes true true true = refl
plain_modes true true false = refl
plain_modes true false true = refl
plain_modes true false false = refl
plain_modes false F true = refl
plain_modes false F false = refl

belief_mode : (P F Z O : Bool) → not (not Z || not (P && (F && not O))) ≡ (P && (F && (Z && not O)))
belief_mode true true true true = refl
belief_mode true true true false = refl
belief_mode true true false O = refl
belief_mode true false true O = refl
belief_mode true false false O = refl
belief_mode false F true O = refl
belief_mode false F false O = refl

partner_modes : (P F R : Bool) → not (not (P && (R && F))) ≡ (P && (F && (R && true)))
partner_modes true true true = refl
partner_modes true true false = refl
partner_modes true false true = refl
partner_modes true false false = refl
partner_modes false F R = refl

not_not : (b : Bool) → not (not b) ≡ b
not_not true = refl
not_not false = refl

-- X is no malformed part of a fact
sentence_is : (fs : List Record) (is_loose : ℕ → Bool) → ((x : ℕ) → x < length fs → is_loose x ≡ not (is_closed (tree_of fs x)))
    → (x : ℕ) → (is_formula (record_of fs x).kind && not (is_loose x)) ≡ is_sentence fs x
sentence_is fs is_loose loose_is x = go (is_formula (record_of fs x).kind) (λ t. formula_in_lem fs x t)
  where
    go : (b : Bool) → (T b → x < length fs) → (b && not (is_loose x)) ≡ (b && is_closed (tree_of fs x))
    go true h = ap not (loose_is x (h tt)) ∙ not_not (is_closed (tree_of fs x))
    go false h = refl

module _ (fs : List Record) (is_loose : ℕ → Bool) (loose_is : (x : ℕ) → x < length fs → is_loose x ≡ not (is_closed (tree_of fs x))) (k P Q X : ℕ) where
  sound_modes : (t₁ t₂ t₃ t₄ : Bool) → eqb k 1 ≡ t₁ → eqb k 2 ≡ t₂ → eqb k 3 ≡ t₃ → eqb k 4 ≡ t₄
      → not (not (leb 1 k && leb k 5) || (leb k 3 && not (eqb Q 0)
      || not (is_written fs (cond t₁ (Sees P X) (cond t₂ (Believes P X) (cond t₃ (BelievesFresh P X) (cond t₄ (BelievesSaid P Q X) (BelievesBelieves P Q X))))))))
      ≡ is_sound (record_of fs) is_loose (claim k P Q X)
  sound_modes true t₂ t₃ t₄ e₁ e₂ e₃ e₄ =
      rw (sentence_is fs is_loose loose_is X, eqb-true k 1 e₁) (plain_modes (is_principal fs P) (is_sentence fs X) (eqb Q 0))
  sound_modes false true t₃ t₄ e₁ e₂ e₃ e₄ =
      rw (sentence_is fs is_loose loose_is X, eqb-true k 2 e₂) (belief_mode (is_principal fs P) (is_sentence fs X) (eqb Q 0) (is_opening (record_of fs X).kind))
  sound_modes false false true t₄ e₁ e₂ e₃ e₄ =
      rw (sentence_is fs is_loose loose_is X, eqb-true k 3 e₃) (plain_modes (is_principal fs P) (is_sentence fs X) (eqb Q 0))
  sound_modes false false false true e₁ e₂ e₃ e₄ =
      rw (sentence_is fs is_loose loose_is X, eqb-true k 4 e₄) (partner_modes (is_principal fs P) (is_sentence fs X) (is_principal fs Q))
  sound_modes false false false false e₁ e₂ e₃ e₄ = go (eqb k 5) refl
    where
      go : (t : Bool) → eqb k 5 ≡ t
          → not (not (leb 1 k && leb k 5) || (leb k 3 && not (eqb Q 0) || not (is_written fs (BelievesBelieves P Q X))))
          ≡ is_sound (record_of fs) is_loose (claim k P Q X)
      go true e₅ = rw (sentence_is fs is_loose loose_is X, eqb-true k 5 e₅) (partner_modes (is_principal fs P) (is_sentence fs X) (is_principal fs Q))
      go false e₅ = rw none
        where
          none : (leb 1 k && leb k 5) ≡ false
          none = within (leb 1 k) (leb k 5) refl refl
            where
              within : (a b : Bool) → leb 1 k ≡ a → leb k 5 ≡ b → (a && b) ≡ false
              within true true f g =
                  absurd (let l = borrow.Author.Tests.leb-true 1 k f in
                  let m = borrow.Author.Tests.leb-true k 5 g in
                  let a₁ = eqb-false k 1 e₁ in
                  let a₂ = eqb-false k 2 e₂ in
                  let a₃ = eqb-false k 3 e₃ in
                  let a₄ = eqb-false k 4 e₄ in
                  let a₅ = eqb-false k 5 e₅ in
                  omega arith)
              within true false f g = refl
              within false b f g = refl

pub sound_law : (fs : List Record) (is_loose : ℕ → Bool) → ((x : ℕ) → x < length fs → is_loose x ≡ not (is_closed (tree_of fs x)))
    → (s : List ℕ) → 8 ≤ length s → not (is_malformed fs (fact_bytes_of s)) ≡ is_sound (record_of fs) is_loose (claim_in s)
unfolding is_malformed fact_in
sound_law fs is_loose loose_is s l =
    let f = fact_bytes_of s in
    rw (eq-eqb (length f) 7 (bytes_seven s l))
    (sound_modes fs is_loose loose_is (get_or f 0 0) (word f 1) (word f 3) (word f 5) (eqb (get_or f 0 0) 1) (eqb (get_or f 0 0) 2) (eqb (get_or f 0 0) 3) (eqb (get_or f 0 0) 4) refl refl refl refl
    ∙ ap (is_sound (record_of fs) is_loose) (bytes_claim s))

-- The claims of opened beliefs and of what records state.

pub opened_claim_lem : (fs : List Record) (p x : ℕ) → claim_of (opened fs p x) ≡ opened_claim (record_of fs x) p x
unfolding opened
opened_claim_lem fs p x = go (eqb (record_of fs x).kind 11) (eqb (record_of fs x).kind 14) (eqb (record_of fs x).kind 12)
  where
    a : ℕ
    a = (record_of fs x).first

    b : ℕ
    b = (record_of fs x).second

    go : (t u v : Bool)
        → claim_of (cond t (BelievesFresh p a) (cond u (BelievesSaid p a b) (cond v (BelievesBelieves p a b) (Believes p x))))
        ≡ cond t (claim 3 p 0 a) (cond u (claim 4 p a b) (cond v (claim 5 p a b) (claim 2 p 0 x)))
    go true u v = refl
    go false true v = refl
    go false false true = refl
    go false false false = refl

pub stated_claim_lem : (fs : List Record) (r : Record) → claim_of (stated_on fs r) ≡ stated_claim (record_of fs) r
stated_claim_lem fs r = rw (← opened_claim_lem fs r.first r.second) (go (eqb r.kind 12))
  where
    go : (t : Bool) → claim_of (cond t (opened fs r.first r.second) (Sees r.first r.second))
        ≡ cond t (claim_of (opened fs r.first r.second)) (claim 1 r.first 0 r.second)
    go true = refl
    go false = refl
