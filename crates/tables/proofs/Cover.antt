-- Each formula that a rule asks about has a user with that rule in its list. Assumes nothing.
use Prim.Native.Nat.{ℕ, zero, suc, ◌+◌, ◌<◌, ◌≤◌}
use native.Mathlib.Omega.{arith}
use mathlib.Core.Path.{◌≡◌, refl, sym, ◌∙◌, subst}
use mathlib.Core.Logic.{◌⊎◌, inl, inr}
use mathlib.Core.List.{List, [], ◌∷◌, ◌++◌, map, map-append}
use mathlib.Core.Bool.{Bool, true, false, cond}
use lib.ListN.{length, get_or, replicate, length-replicate}
use lib.Dec.{eqb, ltb}
use borrow.Author.Tests.{le-leb, eqb-true, ne_eqb}
use Rattle.logic.specs.Book.{All}
use Rattle.logic.specs.Derivation.{Among}
use Rattle.logic.proofs.Member.{all_at, all_of, all_imp, all_append, all_map}
use Rattle.logic.proofs.Bytes.{Bytes}
use Rattle.facts.specs.declared.Instance.{Instance}
use Rattle.facts.specs.Lists.{upto}
use Rattle.facts.proofs.Upto.{all_upto}
use Rattle.flat.specs.Layout.{field_at, kind_at, first_at, second_at, third_at, clear_at}
use Rattle.rules.specs.Rules.{spreads, parted, joined, conjoined, vouches, vouched, controlled, row_has, grant_of, scope_of, trust, trusts, trusted_by, trusted, grants, delegated, is_public, everyone, all_but, for_all, is_about, by_shared_key, by_own_key, by_public_key, by_secret, unsealed, last_about, before, along, opened, by_kind, rules_of}
use Rattle.rules.proofs.Keys.{both_true}
use Rattle.lanes.specs.Lanes.{Common, common}
use Rattle.lanes.proofs.Sets.{Uses}
use Rattle.rules.proofs.Tables.{Recalls, Covers}
use Rattle.rules.proofs.Entries.{Below, all_cond, in_rules}
use Rattle.rules.proofs.Entries.Alone.{entry21}
use Rattle.rules.proofs.Entries.Entry.{alone, entrusts}
use Rattle.tables.specs.Links.{is_statement, about_of}
use Rattle.tables.specs.Users.{parts, asks_second, asked, entered_upto, shared_upto, users_of}
use Rattle.tables.proofs.Chains.{statement_is, about_nine, about_other}
use Rattle.tables.proofs.Rows.{entered_long, entered_uses, shared_grows, shared_uses}

-- LISTS
before_low : (links : List ℕ) (t n : ℕ) → get_or links (256 + t) 0 < n → 0 < n → before links t < n
unfolding before
before_low links t n l h = go (ltb (get_or links (256 + t) 0) t)
  where
    go : (v : Bool) → cond v (get_or links (256 + t) 0) 0 < n
    go true = l
    go false = h

-- what holds of every statement that a chain can lead to holds along the chain
all_along : (P : Common → Type 0) (f : ℕ → List Common) (links : List ℕ) (n : ℕ) → ((k : ℕ) → get_or links k 0 < n) → ((y : ℕ) → y < n → All P (f y))
    → (j t : ℕ) → t < n → All P (along f links j t)
unfolding along
all_along P f links n low h zero t l = tt
all_along P f links n low h (suc j) t l =
    all_cond P (eqb t 0) [] (f t ++ along f links j (before links t)) (λ e. tt)
    (λ e. all_append P (f t) (along f links j (before links t)) (h t l) (all_along P f links n low h j (before links t) (before_low links t n (low (256 + t)) (omega arith))))

-- ONE RECORD
-- r is a user of both formulas that an instance asks about
abbrev Known : List ℕ → ℕ → Instance → Type 0
Known u r i = Uses u i.first.formula r × Uses u i.second.formula r

abbrev Served : List ℕ → ℕ → Common → Type 0
Served u r c = Known u r c.by

module _ (u : List ℕ) (r : ℕ) where
  all_for : (m : ℕ) (l : List Instance) → All (Known u r) l → All (Served u r) (map (common m) l)
  all_for m [] a = tt
  all_for m (i ∷ l) a = (a.0, all_for m l a.1)

module _ (b u : List ℕ) (r : ℕ) (self : Uses u r r) where
  vouched_served : All (Known u r) (vouched b r)
  unfolding vouched
  vouched_served = all_cond (Known u r) (clear_at b r) (upto (vouches r) 8) [] (λ e. all_upto (Known u r) (vouches r) 8 (λ j l. ((self, self), tt))) (λ e. tt)

  parted_served : (second x : ℕ) → All (Known u r) (parted second r x)
  unfolding parted
  parted_served second x = ((self, self), all_upto (Known u r) (spreads second r x) 8 (λ j l. ((self, self), ((self, self), tt))))

  conjoined_served : (x y : ℕ) → Uses u x r → Uses u y r → Uses u (field_at b x 6) r → Uses u (field_at b y 6) r → All (Known u r) (conjoined b r x y)
  unfolding conjoined joined
  conjoined_served x y ux uy ox oy =
      all_append (Known u r) (parted 0 r x) (parted 1 r y ++ joined b r x y) (parted_served 0 x)
      (all_append (Known u r) (parted 1 r y) (joined b r x y) (parted_served 1 y) ((self, self), ((self, self), ((ux, ux), ((uy, uy), ((ox, oy), tt))))))

  controlled_served : Uses u (second_at b r) r → All (Known u r) (controlled b r)
  unfolding controlled
  controlled_served h = ((self, h), tt)

  granted_served : (rows : List ℕ) → All (Known u r) (upto (grants b rows r) 256)
  unfolding grants
  granted_served rows = all_upto (Known u r) (grants b rows r) 256 (λ c l. all_cond (Known u r) (row_has rows (grant_of b r) c) _ [] (λ e. ((self, self), tt)) (λ e. tt))

  -- STATEMENTS: y is about the key or secret of r, and so has r among its users
  module _ (y : ℕ) (knows : true ≡ is_statement b y → about_of b y ≡ second_at b r → Uses u y r) where
    about_knows : (k : ℕ) → 8 ≤ k → k < 11 → (k ≡ 9 → ⊥) → is_about b k r y ≡ true → Uses u y r
    unfolding is_about
    about_knows k l h n e =
        let p = both_true (eqb (kind_at b y) k) (eqb (second_at b y) (second_at b r)) e in
        let ek = eqb-true (kind_at b y) k p.0 in
        knows (statement_is b y (omega arith) (omega arith)) (about_other b y (λ z. n (sym ek ∙ z)) ∙ eqb-true (second_at b y) (second_at b r) p.1)

    public_knows : is_public b r y ≡ true → Uses u y r
    unfolding is_public
    public_knows e =
        let p = both_true (eqb (kind_at b y) 9) (eqb (first_at b y) (second_at b r)) e in
        let ek = eqb-true (kind_at b y) 9 p.0 in
        knows (statement_is b y (omega arith) (omega arith)) (about_nine b y ek ∙ eqb-true (first_at b y) (second_at b r) p.1)

    shared_served : (m : ℕ) → All (Served u r) (by_shared_key b m r y)
    unfolding by_shared_key
    shared_served m = all_cond (Served u r) (is_about b 8 r y) _ [] (λ e. let a = about_knows 8 (omega arith) (omega arith) (λ z. omega arith) e in ((a, self), ((a, self), ((a, self), tt)))) (λ e. tt)

    own_served : (m : ℕ) → All (Served u r) (by_own_key b m r y)
    unfolding by_own_key
    own_served m = all_cond (Served u r) (is_public b r y) _ [] (λ e. ((public_knows e, self), tt)) (λ e. tt)

    public_served : (m : ℕ) → All (Served u r) (by_public_key b m r y)
    unfolding by_public_key
    public_served m = all_cond (Served u r) (is_public b r y) _ [] (λ e. let a = public_knows e in ((a, self), ((a, self), tt))) (λ e. tt)

    secret_served : (m : ℕ) → All (Served u r) (by_secret b m r y)
    unfolding by_secret
    secret_served m = all_cond (Served u r) (is_about b 10 r y) _ [] (λ e. let a = about_knows 10 (omega arith) (omega arith) (λ z. omega arith) e in ((a, self), ((a, self), tt))) (λ e. tt)

    unsealed_served : (m : ℕ) → All (Served u r) (unsealed b m r y)
    unfolding unsealed
    unsealed_served m =
        all_cond (Served u r) (eqb (kind_at b r) 5) _ _ (λ e. all_append (Served u r) (by_shared_key b m r y) (by_own_key b m r y) (shared_served m) (own_served m))
        (λ d. all_cond (Served u r) (eqb (kind_at b r) 6) _ _ (λ e. public_served m) (λ e. secret_served m))

  module _ (links : List ℕ) (n : ℕ) (low : (k : ℕ) → get_or links k 0 < n) where
    opened_served : ((y : ℕ) → y < n → true ≡ is_statement b y → about_of b y ≡ second_at b r → Uses u y r) → (m : ℕ) → All (Served u r) (opened b links m r)
    unfolding opened last_about
    opened_served knows m = all_along (Served u r) (unsealed b m r) links n low (λ y l. unsealed_served y (knows y l) m) 256 (get_or links (second_at b r) 0) (low (second_at b r))

-- ALL RECORDS
module _ (b rows : List ℕ) (bytes : Bytes b) (n : ℕ) (ln : n ≤ 256) where
  abbrev entered : List ℕ
  entered = entered_upto b n (replicate 1024 0)

  abbrev table : List ℕ
  table = shared_upto b n entered

  wide : ◌≡◌ {A = ℕ} (length entered) 1024
  wide = entered_long b (replicate 1024 0) n ∙ length-replicate {A = ℕ} 1024 0

  field_below : (x k : ℕ) → field_at b x k < 256
  unfolding field_at
  field_below x k = bytes _

  module _ (r : ℕ) (l : r < n) where
    asks : (x : ℕ) → x < 256 → Among x (asked b r) → Uses entered x r
    asks x lx m = entered_uses b (replicate 1024 0) n x r (length-replicate {A = ℕ} 1024 0) ln l lx m

    asks_still : (x : ℕ) → x < 256 → Among x (asked b r) → Uses table x r
    asks_still x lx m = (shared_grows b n entered).stay x r (asks x lx m)

    self : Uses table r r
    unfolding asked
    self = asks_still r (omega arith) (inl refl)

    of_part : kind_at b r ≡ 4 → (x : ℕ) → x < 256 → Among x (parts b r) → Uses table x r
    unfolding asked
    of_part e x lx m = asks_still x lx (inr (rw e m))

    conjunction : kind_at b r ≡ 4 → All (Known table r) (conjoined b r (first_at b r) (second_at b r))
    unfolding parts
    conjunction e =
        conjoined_served b table r self (first_at b r) (second_at b r) (of_part e (first_at b r) (field_below r 1) (inl refl))
        (of_part e (second_at b r) (field_below r 2) (inr (inl refl)))
        (of_part e (field_at b (first_at b r) 6) (field_below (first_at b r) 6) (inr (inr (inl refl))))
        (of_part e (field_at b (second_at b r) 6) (field_below (second_at b r) 6) (inr (inr (inr (inl refl)))))

    second_asked : (k : ℕ) → eqb (kind_at b r) k ≡ true → (k ≡ 4 → ⊥) → true ≡ asks_second k → Among (second_at b r) (asked b r)
    unfolding asked
    second_asked k e d a = inr (rw (eqb-true (kind_at b r) k e, ne_eqb k 4 d, ← a) (inl refl))

    module _ (links : List ℕ) (low : (k : ℕ) → get_or links k 0 < n) where
      -- a sealed formula is a user of its key or secret, and so of each statement about it
      sealed_served : Among (second_at b r) (asked b r) → (m : ℕ) → All (Served table r) (opened b links m r)
      sealed_served a m =
          opened_served b table r self links n low
          (λ y ly s e. shared_uses b n entered y r wide ln ly (omega arith) s (subst (λ x. Uses entered x r) (sym e) (asks (second_at b r) (field_below r 2) a))) m

      -- Rule 21 of r for an instance, or of a kind 17 for r; any other rule is served by r itself.
      abbrev Trust : Common → Type 0
      Trust c =
          ((x : ℕ) × (x < 256) × (kind_at b r ≡ 17) × (row_has rows (scope_of b r) x ≡ true) × (c ≡ common everyone (trust b r x)))
          ⊎ ((d : ℕ) × (d < 256) × (row_has rows (256 + r) d ≡ true) × (c ≡ common everyone (trust b d r)))

      abbrev Asks : Common → Type 0
      Asks c = Served table r c ⊎ Trust c

      all_own : (l : List Common) → All (Served table r) l → All Asks l
      all_own l h = all_imp (Served table r) Asks (λ c. inl) l h

      trusts_ask : kind_at b r ≡ 17 → All Asks (for_all (upto (trusts b rows r) 256))
      unfolding trusts
      trusts_ask k =
          all_map (common everyone) Asks (upto (trusts b rows r) 256)
          (all_upto (λ i. Asks (common everyone i)) (trusts b rows r) 256
          (λ x l. all_cond (λ i. Asks (common everyone i)) (row_has rows (scope_of b r) x) _ [] (λ e. (inr (inl (x, l, k, e, refl)), tt)) (λ e. tt)))

      trusted_ask : All Asks (for_all (trusted b rows r))
      unfolding trusted trusted_by
      trusted_ask =
          all_map (common everyone) Asks (trusted b rows r)
          (all_cond (λ i. Asks (common everyone i)) (eqb (length rows) 0) [] (upto (trusted_by b rows r) 256) (λ e. tt)
          (λ e. all_upto (λ i. Asks (common everyone i)) (trusted_by b rows r) 256
          (λ d l. all_cond (λ i. Asks (common everyone i)) (row_has rows (256 + r) d) _ [] (λ e. (inr (inr (d, l, e, refl)), tt)) (λ e. tt))))

      delegated_ask : kind_at b r ≡ 17 → All Asks (for_all (delegated b rows r))
      unfolding delegated
      delegated_ask k =
          rw (map-append (common everyone) (upto (trusts b rows r) 256) (upto (grants b rows r) 256))
          (all_append Asks (for_all (upto (trusts b rows r) 256)) (for_all (upto (grants b rows r) 256)) (trusts_ask k)
          (all_own (for_all (upto (grants b rows r) 256)) (all_for table r everyone (upto (grants b rows r) 256) (granted_served b table r self rows))))

      kind_asks : All Asks (by_kind b links rows r)
      unfolding by_kind asks_second
      kind_asks =
          all_cond Asks (eqb (kind_at b r) 4) _ _
          (λ e. all_own (for_all (conjoined b r (first_at b r) (second_at b r))) (all_for table r everyone (conjoined b r (first_at b r) (second_at b r)) (conjunction (eqb-true (kind_at b r) 4 e))))
          (λ d4. all_cond Asks (eqb (kind_at b r) 5) _ _ (λ e. all_own (opened b links (all_but b (third_at b r)) r) (sealed_served (second_asked 5 e (λ z. omega arith) refl) (all_but b (third_at b r))))
          (λ d5. all_cond Asks (eqb (kind_at b r) 6) _ _ (λ e. all_own (opened b links (all_but b (third_at b r)) r) (sealed_served (second_asked 6 e (λ z. omega arith) refl) (all_but b (third_at b r))))
          (λ d6. all_cond Asks (eqb (kind_at b r) 7) _ _ (λ e. (inl (self, self), all_own (opened b links everyone r) (sealed_served (second_asked 7 e (λ z. omega arith) refl) everyone)))
          (λ d7. all_cond Asks (eqb (kind_at b r) 15) _ _
          (λ e. all_own (for_all (controlled b r)) (all_for table r everyone (controlled b r)
          (controlled_served b table r self (asks_still (second_at b r) (field_below r 2) (second_asked 15 e (λ z. omega arith) refl)))))
          (λ d15. all_cond Asks (eqb (kind_at b r) 17) _ [] (λ e. delegated_ask (eqb-true (kind_at b r) 17 e)) (λ e. tt))))))

      rules_ask : All Asks (rules_of b links rows r)
      unfolding rules_of
      rules_ask =
          all_append Asks (for_all (vouched b r)) (by_kind b links rows r ++ for_all (trusted b rows r))
          (all_own (for_all (vouched b r)) (all_for table r everyone (vouched b r) (vouched_served b table r self)))
          (all_append Asks (by_kind b links rows r) (for_all (trusted b rows r)) kind_asks trusted_ask)

  -- COVER, whatever the chains, as long as they lead to records of the book, and whatever the rows, as long as those behind the instances have just the
  -- records of kind 17 that let somebody control a formula with the record in its row
  module _ (links : List ℕ) (low : (k : ℕ) → get_or links k 0 < n)
      (inside : (x d : ℕ) → x < 256 → d < n → kind_at b d ≡ 17 → row_has rows (scope_of b d) x ≡ true → x < n)
      (back : (x d : ℕ) → x < 256 → d < 256 → row_has rows (256 + x) d ≡ true → (d < n) × (kind_at b d ≡ 17) × (row_has rows (scope_of b d) x ≡ true))
      (forth : (x d : ℕ) → x < 256 → d < n → kind_at b d ≡ 17 → row_has rows (scope_of b d) x ≡ true → row_has rows (256 + x) d ≡ true) where
    below : Below links 256
    below k = let l = low k in omega arith

    recalled : (r : ℕ) (l : r < n) (c : Common) → Among c (rules_of b links rows r) → Asks r l links low c
        → Recalls b links rows table c c.by.first.formula × Recalls b links rows table c c.by.second.formula
    recalled r l c m (inl (p, q)) = ((r, omega arith, p, m), (r, omega arith, q, m))
    recalled r l c m (inr (inl (x, lx, k, h, e))) =
        let a = in_rules b links rows x below (common everyone (trust b r x)) (entrusts r (omega arith) (forth x r lx l k h)) in
        rw e ((r, omega arith, self r l, subst (λ c. Among c (rules_of b links rows r)) e m), (x, lx, self x (inside x r lx l k h), a))
    recalled r l c m (inr (inr (d, ld, h, e))) =
        let p = back r d (omega arith) ld h in
        let a = in_rules b links rows d below (common everyone (trust b d r)) (alone (trust b d r) (entry21 r (omega arith) p.1 p.2)) in
        rw e ((d, ld, self d p.0, a), (r, omega arith, self r l, subst (λ c. Among c (rules_of b links rows r)) e m))

    pub covers : Covers b links rows (users_of b n (replicate 1024 0)) n
    unfolding users_of
    covers = rw (le-leb n 256 ln)
        (λ r l. all_of (λ c. Recalls b links rows table c c.by.first.formula × Recalls b links rows table c c.by.second.formula) (rules_of b links rows r)
        (λ c m. recalled r l c m (all_at (Asks r l links low) c (rules_of b links rows r) (rules_ask r l links low) m)))
