-- What stands in the list of a record, rule by rule: every member is one of these, and each of these is a member. Assumes nothing.
use Prim.Native.Nat.{ℕ, zero, suc, ◌+◌, ◌%◌, ◌^◌, ◌<◌}
use native.Mathlib.Nat.{zero-div}
use native.Mathlib.Omega.{arith}
use mathlib.Core.Path.{◌≡◌, refl, sym, ap₂, subst}
use mathlib.Core.Logic.{inl, inr}
use mathlib.Core.List.{List, [], ◌∷◌, ◌++◌}
use mathlib.Core.Bool.{Bool, true, false, cond, ◌&&◌}
use lib.ListN.{length, get_or}
use lib.Bits.{bit_and, bit_or}
use lib.Dec.{eqb}
use borrow.Author.Tests.{eq-eqb, ne_eqb, eqb-true, eqb-false}
use Rattle.logic.specs.Book.{All}
use Rattle.logic.specs.Rule.{Ends}
use Rattle.logic.specs.Derivation.{Among}
use Rattle.logic.proofs.Member.{all_imp, all_append, all_map, among_left, among_right, among_map}
use Rattle.facts.specs.declared.Instance.{Instance}
use Rattle.facts.specs.Facts.{bit_at}
use Rattle.facts.specs.Lists.{upto}
use Rattle.facts.proofs.Upto.{all_upto, among_upto}
use Rattle.lanes.specs.Lanes.{Common, common}
use Rattle.lanes.proofs.Sets.{apart, and_both}
use Rattle.flat.specs.Layout.{at, kind_at, first_at, second_at, third_at, clear_at, rank_at, opened_at}
use Rattle.rules.specs.Rules.{step, leads, joins, spreads, parted, joined, conjoined, vouches, vouched, controlled, row_has, grant_of, grantee_of, scope_of, trust, trusts, trusted_by, trusted, grants, delegated, is_public, everyone, only_one, all_but, for_all, is_about, by_shared_key, by_own_key, by_public_key, by_secret, unsealed, last_about, before, along, opened, by_kind, rules_of}
use Rattle.rules.proofs.Within.{in_first, in_second, in_joined, in_spread}
use Rattle.rules.proofs.Tables.{On, among_along}
use Rattle.rules.proofs.Tables.On.{here, later}

-- rules about the record r and its parts, which everyone may use
pub data Alone (b rows : List ℕ) (r : ℕ) : Instance → Type 0 where
  entry4 : (j : ℕ) → j < 8 → clear_at b r ≡ true → Alone b rows r (joins (step 4) (at r 2) (at r (3 + j)) (at r (11 + j)))
  entry5 : kind_at b r ≡ 15
      → Alone b rows r (joins (step 5) (at r 1) (at (second_at b r) (11 + rank_at b (first_at b r))) (opened_at b (second_at b r)))
  entry6 : kind_at b r ≡ 4 → Alone b rows r (leads (step 6) (at r 0) (at (first_at b r) 0))
  entry7 : kind_at b r ≡ 4 → Alone b rows r (leads (step 7) (at r 0) (at (second_at b r) 0))
  entry8 : kind_at b r ≡ 7 → Alone b rows r (leads (step 8) (at r 0) (at (first_at b r) 0))
  entry12 : kind_at b r ≡ 4 → Alone b rows r (leads (step 12) (at (first_at b r) 2) (at r 2))
  entry13 : kind_at b r ≡ 4 → Alone b rows r (leads (step 13) (at (second_at b r) 2) (at r 2))
  entry14 : (j : ℕ) → j < 8 → kind_at b r ≡ 4 → Alone b rows r (leads (step 14) (at r (3 + j)) (at (first_at b r) (3 + j)))
  entry15 : (j : ℕ) → j < 8 → kind_at b r ≡ 4 → Alone b rows r (leads (step 15) (at r (3 + j)) (at (second_at b r) (3 + j)))
  entry16 : (j : ℕ) → j < 8 → kind_at b r ≡ 4 → Alone b rows r (leads (step 16) (at r (11 + j)) (at (first_at b r) (11 + j)))
  entry17 : (j : ℕ) → j < 8 → kind_at b r ≡ 4 → Alone b rows r (leads (step 17) (at r (11 + j)) (at (second_at b r) (11 + j)))
  entry18 : kind_at b r ≡ 4 → Alone b rows r (leads (step 18) (at r 1) (opened_at b (first_at b r)))
  entry19 : kind_at b r ≡ 4 → Alone b rows r (leads (step 19) (at r 1) (opened_at b (second_at b r)))
  entry20 : kind_at b r ≡ 4 → Alone b rows r (joins (step 20) (opened_at b (first_at b r)) (opened_at b (second_at b r)) (at r 1))
  entry21 : (x : ℕ) → x < 256 → kind_at b r ≡ 17 → row_has rows (scope_of b r) x ≡ true
      → Alone b rows r (joins (step 21) (at r 1) (at x (11 + rank_at b (grantee_of b r))) (opened_at b x))
  entry22 : (c : ℕ) → c < 256 → kind_at b r ≡ 17 → row_has rows (grant_of b r) c ≡ true → Alone b rows r (leads (step 22) (at r 1) (at c 1))

-- rules by which the statement y opens r; p is one end of a key or secret and q the other
pub data Opening (b : List ℕ) (r y : ℕ) : Common → Type 0 where
  entry1 : (p q : ℕ) → Ends p q (first_at b y) (third_at b y) → kind_at b r ≡ 5 → kind_at b y ≡ 8 → second_at b y ≡ second_at b r
      → Opening b r y (common (bit_and (all_but b (third_at b r)) (only_one b p)) (joins (step 1) (at y 1) (at r 0) (at (first_at b r) (3 + rank_at b q))))
  entry2 : kind_at b r ≡ 6 → kind_at b y ≡ 9 → first_at b y ≡ second_at b r
      → Opening b r y (common (all_but b (third_at b r)) (joins (step 2) (at y 1) (at r 0) (at (first_at b r) (3 + rank_at b (second_at b y)))))
  entry3 : (p q : ℕ) → Ends p q (first_at b y) (third_at b y) → kind_at b r ≡ 7 → kind_at b y ≡ 10 → second_at b y ≡ second_at b r
      → Opening b r y (common (bit_and everyone (only_one b p)) (joins (step 3) (at y 1) (at r 0) (at (first_at b r) (3 + rank_at b q))))
  entry9 : kind_at b r ≡ 5 → kind_at b y ≡ 8 → second_at b y ≡ second_at b r
      → Opening b r y (common (bit_and (all_but b (third_at b r)) (bit_or (only_one b (first_at b y)) (only_one b (third_at b y)))) (joins (step 9) (at y 1) (at r 0) (at (first_at b r) 0)))
  entry10 : kind_at b r ≡ 5 → kind_at b y ≡ 9 → first_at b y ≡ second_at b r
      → Opening b r y (common (bit_and (all_but b (third_at b r)) (only_one b (second_at b y))) (joins (step 10) (at y 1) (at r 0) (at (first_at b r) 0)))
  entry11 : kind_at b r ≡ 6 → kind_at b y ≡ 9 → first_at b y ≡ second_at b r
      → Opening b r y (common (all_but b (third_at b r)) (joins (step 11) (at y 1) (at r 0) (at (first_at b r) 0)))

-- a member of the list of r: such a rule, with a statement that stands in the chain of r's key or secret; or rule 21 of the kind 17 d for r
pub data Entry (b links rows : List ℕ) (r : ℕ) : Common → Type 0 where
  entrusts : (d : ℕ) → d < 256 → row_has rows (256 + r) d ≡ true → Entry b links rows r (common everyone (trust b d r))
  alone : (i : Instance) → Alone b rows r i → Entry b links rows r (common everyone i)
  opens : (y : ℕ) (c : Common) → On links y (last_about links (second_at b r)) → Opening b r y c → Entry b links rows r c

-- each link is below n
abbrev pub Below : List ℕ → ℕ → Type 0
Below links n = (k : ℕ) → get_or links k 0 < n

-- what holds of each list holds of the one that the test picks
pub all_cond : {A : Type 0} (P : A → Type 0) (v : Bool) (k l : List A) → (v ≡ true → All P k) → (v ≡ false → All P l) → All P (cond v k l)
all_cond P true k l f g = f refl
all_cond P false k l f g = g refl

-- each statement that `along` meets stands in the chain
all_along : (P : Common → Type 0) (f : ℕ → List Common) (links : List ℕ) (j t : ℕ) → ((y : ℕ) → On links y t → All P (f y)) → All P (along f links j t)
unfolding along
all_along P f links zero t h = tt
all_along P f links (suc j) t h =
    all_cond P (eqb t 0) [] _ (λ e. tt)
    (λ e.
    let n = eqb-false t 0 e in
    all_append P (f t) (along f links j (before links t)) (h t (here t n refl)) (all_along P f links j (before links t) (λ y o. h y (later t n o))))

-- where a row has something, there are rows
some_rows : (rows : List ℕ) (y x : ℕ) → row_has rows y x ≡ true → eqb (length rows) 0 ≡ false
unfolding row_has bit_at
some_rows [] y x h = absurd (apart (sym (rw (zero-div (2 ^ (x % 64))) at h)))
some_rows (w ∷ rows) y x h = ne_eqb (length (w ∷ rows)) 0 (λ e. omega arith)

-- two numbers that have to be equal, and two more
two_equal : (u k v w : ℕ) → (eqb u k && eqb v w) ≡ true → (u ≡ k) × (v ≡ w)
two_equal u k v w e = let h = and_both (eqb u k) (eqb v w) (sym e) in (eqb-true u k (sym h.0), eqb-true v w (sym h.1))

equal_two : (u k v w : ℕ) → u ≡ k → v ≡ w → (eqb u k && eqb v w) ≡ true
equal_two u k v w e f = rw (eq-eqb u k e, eq-eqb v w f)

-- THE STATEMENT y AGAINST THE RECORD r
module _ (b : List ℕ) (r y : ℕ) where
  about_parts : (k : ℕ) → is_about b k r y ≡ true → (kind_at b y ≡ k) × (second_at b y ≡ second_at b r)
  unfolding is_about
  about_parts k e = two_equal (kind_at b y) k (second_at b y) (second_at b r) e

  about_is : (k : ℕ) → kind_at b y ≡ k → second_at b y ≡ second_at b r → is_about b k r y ≡ true
  unfolding is_about
  about_is k e s = equal_two (kind_at b y) k (second_at b y) (second_at b r) e s

  public_parts : is_public b r y ≡ true → (kind_at b y ≡ 9) × (first_at b y ≡ second_at b r)
  unfolding is_public
  public_parts e = two_equal (kind_at b y) 9 (first_at b y) (second_at b r) e

  public_is : kind_at b y ≡ 9 → first_at b y ≡ second_at b r → is_public b r y ≡ true
  unfolding is_public
  public_is e s = equal_two (kind_at b y) 9 (first_at b y) (second_at b r) e s

  -- the set of those who may open r
  abbrev others : ℕ
  others = all_but b (third_at b r)

  all_shared : kind_at b r ≡ 5 → All (Opening b r y) (by_shared_key b others r y)
  unfolding by_shared_key
  all_shared k =
      all_cond (Opening b r y) (is_about b 8 r y) _ []
      (λ e.
      let s = about_parts 8 e in
      (entry1 _ _ (inl (refl, refl)) k s.0 s.1, (entry1 _ _ (inr (refl, refl)) k s.0 s.1, (entry9 k s.0 s.1, tt))))
      (λ e. tt)

  all_own : kind_at b r ≡ 5 → All (Opening b r y) (by_own_key b others r y)
  unfolding by_own_key
  all_own k = all_cond (Opening b r y) (is_public b r y) _ [] (λ e. let s = public_parts e in (entry10 k s.0 s.1, tt)) (λ e. tt)

  all_signed : kind_at b r ≡ 6 → All (Opening b r y) (unsealed b others r y)
  unfolding unsealed by_public_key
  all_signed k =
      rw k
      (all_cond (Opening b r y) (is_public b r y) _ [] (λ e. let s = public_parts e in (entry2 k s.0 s.1, (entry11 k s.0 s.1, tt))) (λ e. tt))

  all_secret : kind_at b r ≡ 7 → All (Opening b r y) (unsealed b everyone r y)
  unfolding unsealed by_secret
  all_secret k =
      rw k
      (all_cond (Opening b r y) (is_about b 10 r y) _ []
      (λ e. let s = about_parts 10 e in (entry3 _ _ (inl (refl, refl)) k s.0 s.1, (entry3 _ _ (inr (refl, refl)) k s.0 s.1, tt))) (λ e. tt))

  all_encrypted : kind_at b r ≡ 5 → All (Opening b r y) (unsealed b others r y)
  unfolding unsealed
  all_encrypted k = rw k (all_append (Opening b r y) (by_shared_key b others r y) (by_own_key b others r y) (all_shared k) (all_own k))

  -- who may open r, by its kind
  abbrev openers : ℕ
  openers = cond (eqb (kind_at b r) 7) everyone others

  in_unsealed : (c : Common) → Opening b r y c → Among c (unsealed b openers r y)
  unfolding unsealed by_shared_key by_own_key by_public_key by_secret
  in_unsealed c (entry1 p q (inl h) k s e) =
      rw (k, about_is 8 s e)
      (inl (ap₂ (λ p q. common (bit_and others (only_one b p)) (joins (step 1) (at y 1) (at r 0) (at (first_at b r) (3 + rank_at b q)))) h.0 h.1))
  in_unsealed c (entry1 p q (inr h) k s e) =
      rw (k, about_is 8 s e)
      (inr (inl (ap₂ (λ p q. common (bit_and others (only_one b p)) (joins (step 1) (at y 1) (at r 0) (at (first_at b r) (3 + rank_at b q)))) h.0 h.1)))
  in_unsealed c (entry9 k s e) = rw (k, about_is 8 s e) (inr (inr (inl refl)))
  in_unsealed c (entry10 k s e) = rw k (among_right _ (by_shared_key b others r y) (by_own_key b others r y) (rw (public_is s e) (inl refl)))
  in_unsealed c (entry2 k s e) = rw (k, public_is s e) (inl refl)
  in_unsealed c (entry11 k s e) = rw (k, public_is s e) (inr (inl refl))
  in_unsealed c (entry3 p q (inl h) k s e) =
      rw (k, about_is 10 s e)
      (inl (ap₂ (λ p q. common (bit_and everyone (only_one b p)) (joins (step 3) (at y 1) (at r 0) (at (first_at b r) (3 + rank_at b q)))) h.0 h.1))
  in_unsealed c (entry3 p q (inr h) k s e) =
      rw (k, about_is 10 s e)
      (inr (inl (ap₂ (λ p q. common (bit_and everyone (only_one b p)) (joins (step 3) (at y 1) (at r 0) (at (first_at b r) (3 + rank_at b q)))) h.0 h.1)))

-- THE RECORD r BY ITSELF
module _ (b rows : List ℕ) (r : ℕ) where
  all_vouched : All (Alone b rows r) (vouched b r)
  unfolding vouched
  all_vouched = all_cond (Alone b rows r) (clear_at b r) _ [] (λ c. all_upto (Alone b rows r) (vouches r) 8 (λ j l. (entry4 j l c, tt))) (λ c. tt)

  all_conjoined : kind_at b r ≡ 4 → All (Alone b rows r) (conjoined b r (first_at b r) (second_at b r))
  unfolding conjoined parted joined
  all_conjoined k =
      let x = first_at b r in
      let y = second_at b r in
      all_append (Alone b rows r) (parted 0 r x) (parted 1 r y ++ joined b r x y)
      (entry6 k, all_upto (Alone b rows r) (spreads 0 r x) 8 (λ j l. (entry14 j l k, (entry16 j l k, tt))))
      (all_append (Alone b rows r) (parted 1 r y) (joined b r x y)
      (entry7 k, all_upto (Alone b rows r) (spreads 1 r y) 8 (λ j l. (entry15 j l k, (entry17 j l k, tt))))
      (entry18 k, (entry19 k, (entry12 k, (entry13 k, (entry20 k, tt))))))

  all_controlled : kind_at b r ≡ 15 → All (Alone b rows r) (controlled b r)
  unfolding controlled
  all_controlled k = (entry5 k, tt)

  all_delegated : kind_at b r ≡ 17 → All (Alone b rows r) (delegated b rows r)
  unfolding delegated trusts grants
  all_delegated k =
      all_append (Alone b rows r) (upto (trusts b rows r) 256) (upto (grants b rows r) 256)
      (all_upto (Alone b rows r) (trusts b rows r) 256 (λ x l. all_cond (Alone b rows r) (row_has rows (scope_of b r) x) _ [] (λ h. (entry21 x l k h, tt)) (λ h. tt)))
      (all_upto (Alone b rows r) (grants b rows r) 256 (λ c l. all_cond (Alone b rows r) (row_has rows (grant_of b r) c) _ [] (λ h. (entry22 c l k h, tt)) (λ h. tt)))

module _ (b links rows : List ℕ) (r : ℕ) where
  all_alone : (l : List Instance) → All (Alone b rows r) l → All (Entry b links rows r) (for_all l)
  all_alone l h = all_map (common everyone) (Entry b links rows r) l (all_imp (Alone b rows r) (λ i. Entry b links rows r (common everyone i)) alone l h)

  all_opened : (m : ℕ) → ((y : ℕ) → All (Opening b r y) (unsealed b m r y)) → All (Entry b links rows r) (opened b links m r)
  unfolding opened
  all_opened m h =
      all_along (Entry b links rows r) (unsealed b m r) links 256 (last_about links (second_at b r))
      (λ y o. all_imp (Opening b r y) (Entry b links rows r) (λ c e. opens y c o e) (unsealed b m r y) (h y))

  all_kind : All (Entry b links rows r) (by_kind b links rows r)
  unfolding by_kind
  all_kind =
      let E = Entry b links rows r in
      let k = kind_at b r in
      all_cond E (eqb k 4) _ _ (λ e. all_alone (conjoined b r (first_at b r) (second_at b r)) (all_conjoined b rows r (eqb-true k 4 e)))
      (λ n4. all_cond E (eqb k 5) _ _ (λ e. all_opened (all_but b (third_at b r)) (λ y. all_encrypted b r y (eqb-true k 5 e)))
      (λ n5. all_cond E (eqb k 6) _ _ (λ e. all_opened (all_but b (third_at b r)) (λ y. all_signed b r y (eqb-true k 6 e)))
      (λ n6. all_cond E (eqb k 7) _ _ (λ e. (alone _ (entry8 (eqb-true k 7 e)), all_opened everyone (λ y. all_secret b r y (eqb-true k 7 e))))
      (λ n7. all_cond E (eqb k 15) _ _ (λ e. all_alone (controlled b r) (all_controlled b rows r (eqb-true k 15 e)))
      (λ n15. all_cond E (eqb k 17) _ [] (λ e. all_alone (delegated b rows r) (all_delegated b rows r (eqb-true k 17 e)))
      (λ n17. tt))))))

  all_trusted : All (Entry b links rows r) (for_all (trusted b rows r))
  unfolding trusted trusted_by
  all_trusted =
      all_map (common everyone) (Entry b links rows r) (trusted b rows r)
      (all_cond (λ i. Entry b links rows r (common everyone i)) (eqb (length rows) 0) [] (upto (trusted_by b rows r) 256) (λ e. tt)
      (λ e. all_upto (λ i. Entry b links rows r (common everyone i)) (trusted_by b rows r) 256
      (λ d l. all_cond (λ i. Entry b links rows r (common everyone i)) (row_has rows (256 + r) d) _ [] (λ h. (entrusts d l h, tt)) (λ h. tt))))

  -- EVERY MEMBER IS AN ENTRY
  pub entries : All (Entry b links rows r) (rules_of b links rows r)
  unfolding rules_of
  entries =
      all_append (Entry b links rows r) (for_all (vouched b r)) (by_kind b links rows r ++ for_all (trusted b rows r)) (all_alone (vouched b r) (all_vouched b rows r))
      (all_append (Entry b links rows r) (by_kind b links rows r) (for_all (trusted b rows r)) all_kind all_trusted)

  in_kind : (c : Common) → Among c (by_kind b links rows r) → Among c (rules_of b links rows r)
  unfolding rules_of
  in_kind c m = among_right c (for_all (vouched b r)) (by_kind b links rows r ++ for_all (trusted b rows r)) (among_left c (by_kind b links rows r) (for_all (trusted b rows r)) m)

  in_trusted : (d : ℕ) → d < 256 → row_has rows (256 + r) d ≡ true → Among (common everyone (trust b d r)) (rules_of b links rows r)
  unfolding rules_of trusted trusted_by
  in_trusted d l h =
      among_right _ (for_all (vouched b r)) (by_kind b links rows r ++ for_all (trusted b rows r))
      (among_right _ (by_kind b links rows r) (for_all (trusted b rows r))
      (among_map (common everyone) (trust b d r) (trusted b rows r) (rw (some_rows rows (256 + r) d h) (among_upto (trust b d r) (trusted_by b rows r) 256 d l (rw h (inl refl))))))

  in_parts : (i : Instance) → kind_at b r ≡ 4 → Among i (conjoined b r (first_at b r) (second_at b r)) → Among (common everyone i) (rules_of b links rows r)
  unfolding by_kind
  in_parts i k m = in_kind _ (rw k (among_map (common everyone) i (conjoined b r (first_at b r) (second_at b r)) m))

  in_delegated : (i : Instance) → kind_at b r ≡ 17 → Among i (delegated b rows r) → Among (common everyone i) (rules_of b links rows r)
  unfolding by_kind
  in_delegated i k m = in_kind _ (rw k (among_map (common everyone) i (delegated b rows r) m))

  in_alone : (i : Instance) → Alone b rows r i → Among (common everyone i) (rules_of b links rows r)
  unfolding rules_of vouched conjoined parted joined controlled delegated trusts grants by_kind
  in_alone i (entry4 j l c) =
      among_left _ (for_all (vouched b r)) (by_kind b links rows r ++ for_all (trusted b rows r)) (among_map (common everyone) _ (vouched b r) (rw c (among_upto _ (vouches r) 8 j l (inl refl))))
  in_alone i (entry5 k) = in_kind _ (rw k (inl refl))
  in_alone i (entry8 k) = in_kind _ (rw k (inl refl))
  in_alone i (entry6 k) = in_parts i k (in_first b i r (first_at b r) (second_at b r) (inl refl))
  in_alone i (entry7 k) = in_parts i k (in_second b i r (first_at b r) (second_at b r) (inl refl))
  in_alone i (entry14 j l k) = in_parts i k (in_first b i r (first_at b r) (second_at b r) (in_spread i 0 r (first_at b r) j l (inl refl)))
  in_alone i (entry15 j l k) = in_parts i k (in_second b i r (first_at b r) (second_at b r) (in_spread i 1 r (second_at b r) j l (inl refl)))
  in_alone i (entry16 j l k) = in_parts i k (in_first b i r (first_at b r) (second_at b r) (in_spread i 0 r (first_at b r) j l (inr (inl refl))))
  in_alone i (entry17 j l k) = in_parts i k (in_second b i r (first_at b r) (second_at b r) (in_spread i 1 r (second_at b r) j l (inr (inl refl))))
  in_alone i (entry18 k) = in_parts i k (in_joined b i r (first_at b r) (second_at b r) (inl refl))
  in_alone i (entry19 k) = in_parts i k (in_joined b i r (first_at b r) (second_at b r) (inr (inl refl)))
  in_alone i (entry12 k) = in_parts i k (in_joined b i r (first_at b r) (second_at b r) (inr (inr (inl refl))))
  in_alone i (entry13 k) = in_parts i k (in_joined b i r (first_at b r) (second_at b r) (inr (inr (inr (inl refl)))))
  in_alone i (entry20 k) = in_parts i k (in_joined b i r (first_at b r) (second_at b r) (inr (inr (inr (inr (inl refl))))))
  in_alone i (entry21 x l k h) =
      in_delegated i k (among_left i (upto (trusts b rows r) 256) (upto (grants b rows r) 256) (among_upto i (trusts b rows r) 256 x l (rw h (inl refl))))
  in_alone i (entry22 c l k h) =
      in_delegated i k (among_right i (upto (trusts b rows r) 256) (upto (grants b rows r) 256) (among_upto i (grants b rows r) 256 c l (rw h (inl refl))))

  module _ (below : Below links 256) where
    -- what a statement of the chain gives, for a record of kind k
    in_opened : (k y : ℕ) (c : Common) → kind_at b r ≡ k → On links y (last_about links (second_at b r)) → Opening b r y c
        → Among c (opened b links (cond (eqb k 7) everyone (all_but b (third_at b r))) r)
    unfolding opened last_about
    in_opened k y c e o h =
        subst (λ k. Among c (opened b links (cond (eqb k 7) everyone (all_but b (third_at b r))) r)) e
        (among_along c (unsealed b (openers b r y) r) links y (last_about links (second_at b r)) o 256 (below (second_at b r)) (in_unsealed b r y c h))

    in_list : (y : ℕ) (c : Common) → On links y (last_about links (second_at b r)) → Opening b r y c → Among c (by_kind b links rows r)
    unfolding by_kind
    in_list y c o (entry1 p q h k s e) = let m = in_opened 5 y c k o (entry1 p q h k s e) in rw k m
    in_list y c o (entry2 k s e) = let m = in_opened 6 y c k o (entry2 k s e) in rw k m
    in_list y c o (entry3 p q h k s e) = let m = in_opened 7 y c k o (entry3 p q h k s e) in rw k (inr m)
    in_list y c o (entry9 k s e) = let m = in_opened 5 y c k o (entry9 k s e) in rw k m
    in_list y c o (entry10 k s e) = let m = in_opened 5 y c k o (entry10 k s e) in rw k m
    in_list y c o (entry11 k s e) = let m = in_opened 6 y c k o (entry11 k s e) in rw k m

    -- EVERY ENTRY IS A MEMBER
    pub in_rules : (c : Common) → Entry b links rows r c → Among c (rules_of b links rows r)
    in_rules c (alone i a) = in_alone i a
    in_rules c (opens y _ o h) = in_kind c (in_list y c o h)
    in_rules c (entrusts d l h) = in_trusted d l h
