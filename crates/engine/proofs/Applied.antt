-- What each function that applies rules leaves, by the tests that it makes. Each law takes what a call ensures as an equation. Assumes nothing.
use Prim.Native.Nat.{ℕ, zero, suc, ◌+◌, ◌^◌, ◌<◌, ◌≤◌}
use native.Mathlib.Omega.{arith}
use native.Mathlib.Decide.{dec_lt}
use mathlib.Core.Path.{◌≡◌, refl, sym, ap, ap₂, ◌∙◌, subst}
use mathlib.Core.List.{List, [], ◌∷◌, ◌++◌, map-append}
use mathlib.Core.Bool.{Bool, true, false, cond, not}
use lib.ListN.{length}
use lib.Bits.{bit_and, bit_or}
use lib.Dec.{eqb, ltb}
use borrow.Author.Tests.{eq-eqb, ne_eqb, le-ltb, not-true, not-false}
use Rattle.logic.specs.Book.{All}
use Rattle.logic.proofs.Member.{all_append}
use Rattle.facts.specs.declared.Cell.{Cell}
use Rattle.facts.specs.declared.Instance.{Instance}
use Rattle.facts.specs.Facts.{is_given}
use Rattle.facts.specs.Lists.{upto}
use Rattle.facts.proofs.Upto.{all_upto}
use Rattle.flat.specs.Layout.{at, kind_at, first_at, second_at, third_at, clear_at, rank_at, opened_at}
use Rattle.rules.specs.Rules.{step, leads, joins, spreads, parted, joined, conjoined, vouches, vouched, controlled, row_has, NoneBetween, grant_of, scope_of, trust, trusts, trusted_by, trusted, grants, delegated, is_public, everyone, only_one, all_but, for_all, is_about, from_ends, by_shared_key, by_own_key, by_public_key, by_secret, unsealed, last_about, before, along, opened, combined, by_kind, rules_of}
use Rattle.lanes.specs.Lanes.{lane, State, state, Common, common, is_held, ready, concluded, run}
use Rattle.lanes.proofs.Runs.{run_append}
use Rattle.rules.proofs.Tables.{before_below}
use Rattle.engine.proofs.Laws.{run_none, run_one, run_cons, run_both, both_all, run_idle, none_held, first_none, second_none, all_for_all, up_over}

pub lead_is : {i : Instance} {k : ℕ} {p p' c c' : Cell} → i ≡ leads k p c → p ≡ p' → c ≡ c' → i ≡ leads k p' c'
lead_is e f g = rw (← f, ← g) e

pub join_is : {i : Instance} {k : ℕ} {p p' q q' c c' : Cell} → i ≡ joins k p q c → p ≡ p' → q ≡ q' → c ≡ c' → i ≡ joins k p' q' c'
join_is e f g h = rw (← f, ← g, ← h) e

-- what is not in its row gives nothing
no_trust : (b rows : List ℕ) (r x : ℕ) → row_has rows (scope_of b r) x ≡ false → trusts b rows r x ≡ []
unfolding trusts
no_trust b rows r x e = rw e

no_trusted : (b rows : List ℕ) (x r : ℕ) → row_has rows (256 + x) r ≡ false → trusted_by b rows x r ≡ []
unfolding trusted_by
no_trusted b rows x r e = rw e

no_grant : (b rows : List ℕ) (r c : ℕ) → row_has rows (grant_of b r) c ≡ false → grants b rows r c ≡ []
unfolding grants
no_grant b rows r c e = rw e

module _ (u : List ℕ) (k : ℕ) where
  -- CONJUNCTIONS
  pub spread_none : (ws d l : List ℕ) (n kind : ℕ) (p c : Cell) {w : ℕ} → 65 < kind → w ≡ lane ws p → w ≡ 0 → state ws d l n ≡ run u k (state ws d l n) (for_all (leads kind p c ∷ []))
  spread_none ws d l n kind p c r e z =
      run_idle u k (state ws d l n) (for_all (leads kind p c ∷ []))
      (none_held ws c (first_none ws (common everyone (leads kind p c)) (le-ltb kind 66 (omega arith)) (sym e ∙ z)), tt)

  pub spread_two : (s : State) (second r x j : ℕ) {p q p' q' : Cell} {t v : State} → p ≡ at r (3 + j) → q ≡ at x (3 + j) → t ≡ run u k s (for_all (leads (79 + second) p q ∷ []))
      → p' ≡ at r (11 + j) → q' ≡ at x (11 + j) → v ≡ run u k t (for_all (leads (81 + second) p' q' ∷ [])) → v ≡ run u k s (for_all (spreads second r x j))
  spread_two s second r x j {t = t} {v = v} ep eq e ep' eq' f =
      both_all u k s (leads (79 + second) (at r (3 + j)) (at x (3 + j)) ∷ []) (leads (81 + second) (at r (11 + j)) (at x (11 + j)) ∷ []) {t = t} {v = v}
      (rw (← ep, ← eq) e) (rw (← ep', ← eq') f)

  pub parted_all : (s : State) (second r x : ℕ) {i : Instance} {p q : Cell} {t v : State} → i ≡ leads (71 + second) p q → p ≡ at r 0 → q ≡ at x 0 → t ≡ concluded u k s (common 255 i)
      → v ≡ run u k t (for_all (upto (spreads second r x) 8)) → v ≡ run u k s (for_all (parted second r x))
  unfolding parted
  parted_all s second r x ei ep eq e f =
      run_cons u k s everyone (leads (71 + second) (at r 0) (at x 0)) (for_all (upto (spreads second r x) 8)) (le-ltb (71 + second) 66 (omega arith)) refl (lead_is ei ep eq) e f

  pub joined_all : (b : List ℕ) (s : State) (r x y : ℕ) {p q b1 b2 b3 f1 f2 f3 f4 : Cell} {i j h l m : Instance} {t v w z o : State} → p ≡ opened_at b x → q ≡ opened_at b y
      → b1 ≡ at r 1 → i ≡ leads (step 18) b1 p → t ≡ concluded u k s (common 255 i)
      → b2 ≡ at r 1 → j ≡ leads (step 19) b2 q → v ≡ concluded u k t (common 255 j)
      → f1 ≡ at x 2 → f2 ≡ at r 2 → h ≡ leads (step 12) f1 f2 → w ≡ concluded u k v (common 255 h)
      → f3 ≡ at y 2 → f4 ≡ at r 2 → l ≡ leads (step 13) f3 f4 → z ≡ concluded u k w (common 255 l)
      → b3 ≡ at r 1 → m ≡ joins (step 20) p q b3 → o ≡ concluded u k z (common 255 m)
      → o ≡ run u k s (for_all (joined b r x y))
  unfolding joined
  joined_all b s r x y ep eq e1 ei ft e2 ej fv e3 e4 eh fw e5 e6 el fz e7 em fo =
      rw (← ep, ← eq)
      (run_cons u k s _ _ _ refl refl (lead_is ei e1 refl) ft (run_cons u k _ _ _ _ refl refl (lead_is ej e2 refl) fv (run_cons u k _ _ _ _ refl refl (lead_is eh e3 e4) fw
      (run_cons u k _ _ _ _ refl refl (lead_is el e5 e6) fz (run_one u k _ _ _ refl refl (join_is em refl refl e7) fo)))))

  pub conjoined_all : (b : List ℕ) (s : State) (r x y : ℕ) {t v w : State} → t ≡ run u k s (for_all (parted 0 r x)) → v ≡ run u k t (for_all (parted 1 r y)) → w ≡ run u k v (for_all (joined b r x y))
      → w ≡ run u k s (for_all (conjoined b r x y))
  unfolding conjoined
  conjoined_all b s r x y e f g = both_all u k s (parted 0 r x) (parted 1 r y ++ joined b r x y) e (both_all u k _ (parted 1 r y) (joined b r x y) f g)

  -- RULES 4 AND 5
  pub vouched_none : (b : List ℕ) (s : State) (r : ℕ) {v : Bool} → v ≡ clear_at b r → not v ≡ true → s ≡ run u k s (for_all (vouched b r))
  unfolding vouched
  vouched_none b s r {v} e h = rw (← e, not-true v h) (run_none u k s)

  vouches_idle : (ws : List ℕ) (r : ℕ) → lane ws (at r 2) ≡ 0 → (j : ℕ) → All (λ c. is_held ws (ready ws c) c.by.gives ≡ true) (for_all (upto (vouches r) j))
  unfolding upto
  vouches_idle ws r z zero = tt
  vouches_idle ws r z (suc j) =
      rw (map-append (common everyone) (upto (vouches r) j) (vouches r j))
      (all_append (λ c. is_held ws (ready ws c) c.by.gives ≡ true) (for_all (upto (vouches r) j)) (for_all (vouches r j)) (vouches_idle ws r z j)
      (none_held ws (at r (11 + j)) (first_none ws (common everyone (joins (step 4) (at r 2) (at r (3 + j)) (at r (11 + j)))) refl z), tt))

  pub vouched_idle : (b ws d l : List ℕ) (n r : ℕ) {v : Bool} {p : Cell} {w : ℕ} → v ≡ clear_at b r → not v ≡ false → p ≡ at r 2 → w ≡ lane ws p → w ≡ 0
      → state ws d l n ≡ run u k (state ws d l n) (for_all (vouched b r))
  unfolding vouched
  vouched_idle b ws d l n r {v} e h ep el z =
      rw (← e, not-false v h) (run_idle u k (state ws d l n) (for_all (upto (vouches r) 8)) (vouches_idle ws r (ap (lane ws) (sym ep) ∙ sym el ∙ z) 8))

  pub vouched_all : (b : List ℕ) (s : State) (r : ℕ) {v : Bool} {t : State} → v ≡ clear_at b r → not v ≡ false → t ≡ run u k s (for_all (upto (vouches r) 8)) → t ≡ run u k s (for_all (vouched b r))
  unfolding vouched
  vouched_all b s r {v} e h f = rw (← e, not-false v h) f

  pub controlled_is : (b : List ℕ) (s : State) (r : ℕ) {q x j : ℕ} {c p1 p2 : Cell} {i : Instance} {t : State} → x ≡ second_at b r → q ≡ first_at b r → j ≡ rank_at b q → c ≡ opened_at b x
      → p1 ≡ at r 1 → p2 ≡ at x (11 + j) → i ≡ joins (step 5) p1 p2 c → t ≡ concluded u k s (common 255 i) → t ≡ run u k s (for_all (controlled b r))
  unfolding controlled
  controlled_is b s r ex eq ej ec e1 e2 ei et = rw (← ex, ← eq, ← ej, ← ec) (run_one u k s _ _ refl refl (join_is ei e1 e2 refl) et)

  -- KIND 17
  pub trust_one : (b : List ℕ) (s : State) (r x : ℕ) {c q j : ℕ} {p p1 p2 : Cell} {i : Instance} {t : State} → c ≡ second_at b r → q ≡ first_at b c → j ≡ rank_at b q
      → p ≡ opened_at b x → p1 ≡ at r 1 → p2 ≡ at x (11 + j) → i ≡ joins (step 21) p1 p2 p → t ≡ concluded u k s (common 255 i)
      → t ≡ run u k s (for_all (trust b r x ∷ []))
  trust_one b s r x ec eq ej ep e1 e2 ei et = rw (← ec, ← eq, ← ej, ← ep) (run_one u k s _ _ refl refl (join_is ei e1 e2 refl) et)

  -- where there are no rows
  pub trusted_empty : (b rows : List ℕ) (s : State) (x : ℕ) → length rows ≡ 0 → s ≡ run u k s (for_all (trusted b rows x))
  unfolding trusted
  trusted_empty b rows s x e = rw (eq-eqb (length rows) 0 e) (run_none u k s)

  -- and where there are
  pub trusted_all : (b rows : List ℕ) (s : State) (x : ℕ) {t : State} → (length rows ≡ 0 → ⊥) → t ≡ run u k s (for_all (upto (trusted_by b rows x) 256)) → t ≡ run u k s (for_all (trusted b rows x))
  unfolding trusted
  trusted_all b rows s x n e = rw (ne_eqb (length rows) 0 n) e

  module _ (b rows : List ℕ) (s : State) (r x : ℕ) {y : ℕ} {v : Bool} where
    pub trusts_none : {c : ℕ} → c ≡ second_at b r → y ≡ second_at b c → v ≡ row_has rows y x → not v ≡ true → s ≡ run u k s (for_all (trusts b rows r x))
    unfolding trusts
    trusts_none ec ey e h = rw (← ec, ← ey, ← e, not-true v h) (run_none u k s)

    pub trusts_one : {c : ℕ} {t : State} → c ≡ second_at b r → y ≡ second_at b c → v ≡ row_has rows y x → not v ≡ false
        → t ≡ run u k s (for_all (trust b r x ∷ [])) → t ≡ run u k s (for_all (trusts b rows r x))
    unfolding trusts
    trusts_one ec ey e h et = rw (← ec, ← ey, ← e, not-false v h) (et ∙ rw (← ec))

    pub grants_none : y ≡ second_at b r → v ≡ row_has rows y x → not v ≡ true → s ≡ run u k s (for_all (grants b rows r x))
    unfolding grants
    grants_none ey e h = rw (← ey, ← e, not-true v h) (run_none u k s)

    pub grants_one : {p1 p2 : Cell} {i : Instance} {t : State} → y ≡ second_at b r → v ≡ row_has rows y x → not v ≡ false
        → p1 ≡ at r 1 → p2 ≡ at x 1 → i ≡ leads (step 22) p1 p2 → t ≡ concluded u k s (common 255 i) → t ≡ run u k s (for_all (grants b rows r x))
    unfolding grants
    grants_one ey e h e1 e2 ei et = rw (← ey, ← e, not-false v h) (run_one u k s _ _ refl refl (lead_is ei e1 e2) et)

  module _ (b rows : List ℕ) (s : State) (r x : ℕ) {v : Bool} where
    pub trusted_none : v ≡ row_has rows (256 + x) r → not v ≡ true → s ≡ run u k s (for_all (trusted_by b rows x r))
    unfolding trusted_by
    trusted_none e h = rw (← e, not-true v h) (run_none u k s)

    pub trusted_one : {t : State} → v ≡ row_has rows (256 + x) r → not v ≡ false → t ≡ run u k s (for_all (trust b r x ∷ [])) → t ≡ run u k s (for_all (trusted_by b rows x r))
    unfolding trusted_by
    trusted_one e h et = rw (← e, not-false v h) et

  -- a turn through a row
  module _ (b rows : List ℕ) (s : State) (r x z : ℕ) {t v : State} (l : x < z) where
    pub trusts_more : {c y : ℕ} → c ≡ second_at b r → y ≡ second_at b c → NoneBetween rows y x z → t ≡ run u k s (for_all (upto (trusts b rows r) x))
        → v ≡ run u k t (for_all (trusts b rows r x)) → v ≡ run u k s (for_all (upto (trusts b rows r) z))
    trusts_more ec ey h e g = up_over u k s (trusts b rows r) x z e g l (λ j m n. no_trust b rows r j (sym (ap (λ i. row_has rows i j) (ey ∙ ap (second_at b) ec)) ∙ h j m n))

    pub trusted_more : NoneBetween rows (256 + r) x z → t ≡ run u k s (for_all (upto (trusted_by b rows r) x))
        → v ≡ run u k t (for_all (trusted_by b rows r x)) → v ≡ run u k s (for_all (upto (trusted_by b rows r) z))
    trusted_more h e g = up_over u k s (trusted_by b rows r) x z e g l (λ j m n. no_trusted b rows r j (h j m n))

    pub grants_more : {y : ℕ} → y ≡ second_at b r → NoneBetween rows y x z → t ≡ run u k s (for_all (upto (grants b rows r) x))
        → v ≡ run u k t (for_all (grants b rows r x)) → v ≡ run u k s (for_all (upto (grants b rows r) z))
    grants_more ey h e g = up_over u k s (grants b rows r) x z e g l (λ j m n. no_grant b rows r j (sym (ap (λ i. row_has rows i j) ey) ∙ h j m n))

  pub delegated_all : (b rows : List ℕ) (s : State) (r : ℕ) {t v : State} → t ≡ run u k s (for_all (upto (trusts b rows r) 256)) → v ≡ run u k t (for_all (upto (grants b rows r) 256))
      → v ≡ run u k s (for_all (delegated b rows r))
  unfolding delegated
  delegated_all b rows s r e f = both_all u k s (upto (trusts b rows r) 256) (upto (grants b rows r) 256) e f

  -- where nobody believes it nobody is ready
  pub delegated_none : (b rows ws d l : List ℕ) (n r : ℕ) {p : Cell} {w : ℕ} → p ≡ at r 1 → w ≡ lane ws p → w ≡ 0
      → state ws d l n ≡ run u k (state ws d l n) (for_all (delegated b rows r))
  unfolding delegated trusts grants
  delegated_none b rows ws d l n r ep el z =
      run_idle u k (state ws d l n) (for_all (delegated b rows r))
      (all_for_all Still (delegated b rows r)
      (all_append (λ i. Still (common everyone i)) (upto (trusts b rows r) 256) (upto (grants b rows r) 256)
      (all_upto (λ i. Still (common everyone i)) (trusts b rows r) 256
      (λ x m. picked (λ i. Still (common everyone i)) (row_has rows (scope_of b r) x) _ (still (trust b r x) refl refl, tt)))
      (all_upto (λ i. Still (common everyone i)) (grants b rows r) 256
      (λ c m. picked (λ i. Still (common everyone i)) (row_has rows (grant_of b r) c) _ (still (leads (step 22) (at r 1) (at c 1)) refl refl, tt)))))
    where
      Still : Common → Type 0
      Still c = is_held ws (ready ws c) c.by.gives ≡ true

      still : (i : Instance) → is_given i.kind ≡ false → i.first ≡ at r 1 → Still (common everyone i)
      still i g f = none_held ws i.gives (first_none ws (common everyone i) g (ap (lane ws) (f ∙ sym ep) ∙ sym el ∙ z))

      picked : (P : Instance → Type 0) (v : Bool) (q : List Instance) → All P q → All P (cond v q [])
      picked P true q a = a
      picked P false q a = tt

  -- KEYS AND SECRETS
  pub ends_heard : (b : List ℕ) (s : State) (kind m r y : ℕ) (l : 65 < kind) {x a c j1 j2 o1 o2 : ℕ} {p1 q1 c1 p2 q2 c2 : Cell} {i1 i2 : Instance} {t v : State}
      → x ≡ first_at b r → a ≡ first_at b y → c ≡ third_at b y
      → p1 ≡ at y 1 → q1 ≡ at r 0 → j1 ≡ rank_at b c → c1 ≡ at x (3 + j1) → i1 ≡ joins kind p1 q1 c1 → o1 ≡ only_one b a → t ≡ concluded u k s (common (bit_and m o1) i1)
      → p2 ≡ at y 1 → q2 ≡ at r 0 → j2 ≡ rank_at b a → c2 ≡ at x (3 + j2) → i2 ≡ joins kind p2 q2 c2 → o2 ≡ only_one b c → v ≡ concluded u k t (common (bit_and m o2) i2)
      → v ≡ run u k s (from_ends b kind m r y)
  ends_heard b s kind m r y l ex ea ec ep1 eq1 ej1 ec1 ei1 eo1 et ep2 eq2 ej2 ec2 ei2 eo2 ev =
      rw (← ex, ← ea, ← ec, ← ej1, ← ej2)
      (run_cons u k s _ _ _ (le-ltb kind 66 (omega arith)) (ap (bit_and m) (eo1 ∙ ap (λ z. 2 ^ z) (sym ej2))) (join_is ei1 ep1 eq1 ec1) et (run_one u k _ _ _ (le-ltb kind 66 (omega arith)) (ap (bit_and m) (eo2 ∙ ap (λ z. 2 ^ z) (sym ej1))) (join_is ei2 ep2 eq2 ec2) ev))

  module _ (b : List ℕ) (s : State) (m r y : ℕ) {v : Bool} where
    pub shared_none : v ≡ is_about b 8 r y → not v ≡ true → s ≡ run u k s (by_shared_key b m r y)
    unfolding by_shared_key
    shared_none e h = rw (← e, not-true v h) (run_none u k s)

    pub shared_all : {a c x o1 o2 : ℕ} {p q g : Cell} {i : Instance} {t w : State} → v ≡ is_about b 8 r y → not v ≡ false → t ≡ run u k s (from_ends b (step 1) m r y)
        → a ≡ first_at b y → o1 ≡ only_one b a → c ≡ third_at b y → o2 ≡ only_one b c → p ≡ at y 1 → q ≡ at r 0 → x ≡ first_at b r → g ≡ at x 0 → i ≡ joins (step 9) p q g
        → w ≡ concluded u k t (common (bit_and m (bit_or o1 o2)) i) → w ≡ run u k s (by_shared_key b m r y)
    unfolding by_shared_key
    shared_all {a} {c} {x} e h ft ea e1 ec e2 ep eq ex eg ei fw =
        rw (← e, not-false v h)
        (run_both u k s (from_ends b (step 1) m r y) _ ft
        (run_one u k _ _ _ refl (ap₂ (λ z1 z2. bit_and m (bit_or z1 z2)) (e1 ∙ ap (only_one b) ea) (e2 ∙ ap (only_one b) ec)) (join_is ei ep eq (eg ∙ ap (λ z. at z 0) ex)) fw))

    pub secret_none : v ≡ is_about b 10 r y → not v ≡ true → s ≡ run u k s (by_secret b m r y)
    unfolding by_secret
    secret_none e h = rw (← e, not-true v h) (run_none u k s)

    pub secret_all : {t : State} → v ≡ is_about b 10 r y → not v ≡ false → t ≡ run u k s (from_ends b (step 3) m r y) → t ≡ run u k s (by_secret b m r y)
    unfolding by_secret
    secret_all e h f = rw (← e, not-false v h) f

    pub own_none : v ≡ is_public b r y → not v ≡ true → s ≡ run u k s (by_own_key b m r y)
    unfolding by_own_key
    own_none e h = rw (← e, not-true v h) (run_none u k s)

    pub own_all : {a x o : ℕ} {p q g : Cell} {i : Instance} {t : State} → v ≡ is_public b r y → not v ≡ false → a ≡ second_at b y → o ≡ only_one b a → p ≡ at y 1 → q ≡ at r 0
        → x ≡ first_at b r → g ≡ at x 0 → i ≡ joins (step 10) p q g → t ≡ concluded u k s (common (bit_and m o) i) → t ≡ run u k s (by_own_key b m r y)
    unfolding by_own_key
    own_all e h ea eo ep eq ex eg ei ft =
        rw (← e, not-false v h) (run_one u k s _ _ refl (ap (bit_and m) (eo ∙ ap (only_one b) ea)) (join_is ei ep eq (eg ∙ ap (λ z. at z 0) ex)) ft)

    pub public_none : v ≡ is_public b r y → not v ≡ true → s ≡ run u k s (by_public_key b m r y)
    unfolding by_public_key
    public_none e h = rw (← e, not-true v h) (run_none u k s)

    pub public_all : {x q j : ℕ} {p1 q1 g1 p2 q2 g2 : Cell} {i1 i2 : Instance} {t w : State} → v ≡ is_public b r y → not v ≡ false → x ≡ first_at b r → q ≡ second_at b y → j ≡ rank_at b q
        → p1 ≡ at y 1 → q1 ≡ at r 0 → g1 ≡ at x (3 + j) → i1 ≡ joins (step 2) p1 q1 g1 → t ≡ concluded u k s (common m i1)
        → p2 ≡ at y 1 → q2 ≡ at r 0 → g2 ≡ at x 0 → i2 ≡ joins (step 11) p2 q2 g2 → w ≡ concluded u k t (common m i2) → w ≡ run u k s (by_public_key b m r y)
    unfolding by_public_key
    public_all e h ex eq ej ep1 eq1 eg1 ei1 ft ep2 eq2 eg2 ei2 fw =
        rw (← e, not-false v h, ← ex, ← eq, ← ej) (run_cons u k s _ _ _ refl refl (join_is ei1 ep1 eq1 eg1) ft (run_one u k _ _ _ refl refl (join_is ei2 ep2 eq2 eg2) fw))

  -- a statement against a sealed formula, by the kind of the formula
  module _ (b : List ℕ) (s : State) (m r y : ℕ) {kind : ℕ} (e : kind ≡ kind_at b r) where
    pub unsealed_5 : {t v : State} → kind ≡ 5 → t ≡ run u k s (by_shared_key b m r y) → v ≡ run u k t (by_own_key b m r y) → v ≡ run u k s (unsealed b m r y)
    unfolding unsealed
    unsealed_5 h f g = rw (← e, h) (run_both u k s (by_shared_key b m r y) (by_own_key b m r y) f g)

    pub unsealed_6 : {t : State} → (kind ≡ 5 → ⊥) → kind ≡ 6 → t ≡ run u k s (by_public_key b m r y) → t ≡ run u k s (unsealed b m r y)
    unfolding unsealed
    unsealed_6 n h f = rw (← e, h) f

    pub unsealed_7 : {t : State} → (kind ≡ 5 → ⊥) → (kind ≡ 6 → ⊥) → t ≡ run u k s (by_secret b m r y) → t ≡ run u k s (unsealed b m r y)
    unfolding unsealed
    unsealed_7 n o f = rw (← e, ne_eqb kind 5 n, ne_eqb kind 6 o) f

  -- where nobody believes the statement, or nobody sees the formula, nobody is ready
  Asks : ℕ → ℕ → Common → Type 0
  Asks r y c = (ltb c.by.kind 66 ≡ false) × (c.by.first ≡ at y 1) × (c.by.second ≡ at r 0)

  all_of : (P : Common → Type 0) (v : Bool) (l l' : List Common) → All P l → All P l' → All P (cond v l l')
  all_of P true l l' a a' = a
  all_of P false l l' a a' = a'

  asks_ends : (b : List ℕ) (m r y rule : ℕ) → 0 < rule → All (Asks r y) (from_ends b (step rule) m r y)
  unfolding Asks
  asks_ends b m r y rule l = let e = le-ltb (step rule) 66 (omega arith) in ((e, refl, refl), ((e, refl, refl), tt))

  asks_unsealed : (b : List ℕ) (m r y : ℕ) → All (Asks r y) (unsealed b m r y)
  unfolding unsealed by_shared_key by_own_key by_public_key by_secret Asks
  asks_unsealed b m r y =
      let x = first_at b r in
      let nine : All (Asks r y) (common (bit_and m (bit_or (only_one b (first_at b y)) (only_one b (third_at b y)))) (joins (step 9) (at y 1) (at r 0) (at x 0)) ∷ []) = ((refl, refl, refl), tt) in
      let ten : All (Asks r y) (common (bit_and m (only_one b (second_at b y))) (joins (step 10) (at y 1) (at r 0) (at x 0)) ∷ []) = ((refl, refl, refl), tt) in
      let two : All (Asks r y) (common m (joins (step 2) (at y 1) (at r 0) (at x (3 + rank_at b (second_at b y)))) ∷ common m (joins (step 11) (at y 1) (at r 0) (at x 0)) ∷ []) =
      ((refl, refl, refl), ((refl, refl, refl), tt)) in
      all_of (Asks r y) (eqb (kind_at b r) 5) _ _
      (all_append (Asks r y) (by_shared_key b m r y) (by_own_key b m r y)
      (all_of (Asks r y) (is_about b 8 r y) _ [] (all_append (Asks r y) (from_ends b (step 1) m r y) (common (bit_and m (bit_or (only_one b (first_at b y)) (only_one b (third_at b y)))) (joins (step 9) (at y 1) (at r 0) (at x 0)) ∷ []) (asks_ends b m r y 1 (omega arith)) nine) tt)
      (all_of (Asks r y) (is_public b r y) _ [] ten tt))
      (all_of (Asks r y) (eqb (kind_at b r) 6) _ _
      (all_of (Asks r y) (is_public b r y) _ [] two tt)
      (all_of (Asks r y) (is_about b 10 r y) _ [] (asks_ends b m r y 3 (omega arith)) tt))

  all_map : (P Q : Common → Type 0) → ((c : Common) → P c → Q c) → (l : List Common) → All P l → All Q l
  all_map P Q f [] a = tt
  all_map P Q f (c ∷ l) a = (f c a.0, all_map P Q f l a.1)

  module _ (b ws d l : List ℕ) (n m r : ℕ) where
    pub unsealed_none : (y : ℕ) {p : Cell} {w : ℕ} → p ≡ at y 1 → w ≡ lane ws p → w ≡ 0 → state ws d l n ≡ run u k (state ws d l n) (unsealed b m r y)
    unfolding Asks
    unsealed_none y ep el z =
        run_idle u k (state ws d l n) (unsealed b m r y)
        (all_map (Asks r y) (λ c. is_held ws (ready ws c) c.by.gives ≡ true)
        (λ c a. none_held ws c.by.gives (first_none ws c a.0 (ap (lane ws) (a.1 ∙ sym ep) ∙ sym el ∙ z))) (unsealed b m r y) (asks_unsealed b m r y))

    along_none : (links : List ℕ) → lane ws (at r 0) ≡ 0 → (j y : ℕ) → All (λ c. is_held ws (ready ws c) c.by.gives ≡ true) (along (unsealed b m r) links j y)
    unfolding along Asks
    along_none links z zero y = tt
    along_none links z (suc j) y =
        all_of (λ c. is_held ws (ready ws c) c.by.gives ≡ true) (eqb y 0) [] (unsealed b m r y ++ along (unsealed b m r) links j (before links y)) tt
        (all_append (λ c. is_held ws (ready ws c) c.by.gives ≡ true) (unsealed b m r y) (along (unsealed b m r) links j (before links y))
        (all_map (Asks r y) (λ c. is_held ws (ready ws c) c.by.gives ≡ true)
        (λ c a. none_held ws c.by.gives (second_none ws c a.0 (ap (lane ws) a.2 ∙ z))) (unsealed b m r y) (asks_unsealed b m r y))
        (along_none links z j (before links y)))

    pub opened_none : (links : List ℕ) {p : Cell} {w : ℕ} → p ≡ at r 0 → w ≡ lane ws p → w ≡ 0 → state ws d l n ≡ run u k (state ws d l n) (opened b links m r)
    unfolding opened
    opened_none links ep el z =
        run_idle u k (state ws d l n) (along (unsealed b m r) links 256 (last_about links (second_at b r)))
        (along_none links (ap (lane ws) (sym ep) ∙ sym el ∙ z) 256 (last_about links (second_at b r)))

  -- ALONG A CHAIN: what is left to do
  along_fuel : (f : ℕ → List Common) (links : List ℕ) (i j y : ℕ) → y < i → y < j → along f links i y ≡ along f links j y
  unfolding along
  along_fuel f links zero j y a c = absurd (omega arith)
  along_fuel f links (suc i) zero y a c = absurd (omega arith)
  along_fuel f links (suc i) (suc j) zero a c = refl
  along_fuel f links (suc i) (suc j) (suc y) a c =
      let z = before_below links (suc y) (λ e. omega arith) in
      rw (ne_eqb (suc y) 0 (λ e. omega arith)) (ap (λ l. f (suc y) ++ l) (along_fuel f links i j (before links (suc y)) (omega arith) (omega arith)))

  pub along_more : (f : ℕ → List Common) (links : List ℕ) (s : State) (y y' : ℕ) {t z : State} → (y ≡ 0 → ⊥) → y < 256 → t ≡ run u k s (f y) → y' ≡ before links y
      → run u k s (along f links 256 y) ≡ z → run u k t (along f links 256 y') ≡ z
  unfolding along
  along_more f links s y y' {t} {z} n l e ey h =
      let d = before_below links y n in
      let g : along f links 255 (before links y) ≡ along f links 256 (before links y) = along_fuel f links 255 256 (before links y) (omega arith) (omega arith) in
      let q : run u k s (f y ++ along f links 255 (before links y)) ≡ z = subst (λ v. run u k s (cond v [] (f y ++ along f links 255 (before links y))) ≡ z) (ne_eqb y 0 n) h in
      rw (e, ey, ← g) (sym (run_append u k (f y) (along f links 255 (before links y)) s) ∙ q)

  pub along_end : (f : ℕ → List Common) (links : List ℕ) (s : State) (y : ℕ) {z : State} → y ≡ 0 → run u k s (along f links 256 y) ≡ z → s ≡ z
  unfolding along run
  along_end f links s y e h = rw e at h

  -- BY KIND
  pub combined_all : (b links : List ℕ) (s : State) (r : ℕ) {x : ℕ} {p q : Cell} {i : Instance} {t v : State} → p ≡ at r 0 → x ≡ first_at b r → q ≡ at x 0 → i ≡ leads (step 8) p q
      → t ≡ concluded u k s (common 255 i) → v ≡ run u k t (opened b links everyone r) → v ≡ run u k s (for_all (combined b r) ++ opened b links everyone r)
  combined_all b links s r ep ex eq ei ft fv = run_cons u k s _ _ _ refl refl (lead_is ei ep (eq ∙ ap (λ z. at z 0) ex)) ft fv

  module _ (b links rows : List ℕ) (s : State) (r : ℕ) {kind : ℕ} (e : kind ≡ kind_at b r) where
    pub kind_4 : {x y : ℕ} {t : State} → kind ≡ 4 → x ≡ first_at b r → y ≡ second_at b r → t ≡ run u k s (for_all (conjoined b r x y)) → t ≡ run u k s (by_kind b links rows r)
    unfolding by_kind
    kind_4 h ex ey f = rw (← e, h, ← ex, ← ey) f

    -- encrypted or signed
    pub kind_sealed : {f m : ℕ} {t : State} → 5 ≤ kind → kind ≤ 6 → f ≡ third_at b r → m ≡ all_but b f → t ≡ run u k s (opened b links m r) → t ≡ run u k s (by_kind b links rows r)
    unfolding by_kind
    kind_sealed l h ef em f = rw (← e, ne_eqb kind 4 (λ z. omega arith), ← ef, ← em) (elim (dec_lt kind 6) [
      | yes m ↦ rw (eq-eqb kind 5 (omega arith)) f
      | no m ↦ rw (ne_eqb kind 5 (λ z. omega arith), eq-eqb kind 6 (omega arith)) f
    ])

    pub kind_other : (kind ≡ 4 → ⊥) → (kind ≡ 5 → ⊥) → (kind ≡ 6 → ⊥) → (kind ≡ 7 → ⊥) → (kind ≡ 15 → ⊥) → (kind ≡ 17 → ⊥) → s ≡ run u k s (by_kind b links rows r)
    unfolding by_kind
    kind_other n4 n5 n6 n7 n15 n17 =
        rw (← e, ne_eqb kind 4 n4, ne_eqb kind 5 n5, ne_eqb kind 6 n6, ne_eqb kind 7 n7, ne_eqb kind 15 n15, ne_eqb kind 17 n17) (run_none u k s)

    pub kind_7 : {t : State} → kind ≡ 7 → t ≡ run u k s (for_all (combined b r) ++ opened b links everyone r) → t ≡ run u k s (by_kind b links rows r)
    unfolding by_kind
    kind_7 h f = rw (← e, h) f

    pub kind_15 : {t : State} → kind ≡ 15 → t ≡ run u k s (for_all (controlled b r)) → t ≡ run u k s (by_kind b links rows r)
    unfolding by_kind
    kind_15 h f = rw (← e, h) f

    pub kind_17 : {t : State} → kind ≡ 17 → t ≡ run u k s (for_all (delegated b rows r)) → t ≡ run u k s (by_kind b links rows r)
    unfolding by_kind
    kind_17 h f = rw (← e, h) f

  pub rules_all : (b links rows : List ℕ) (s : State) (r : ℕ) {t v w : State} → t ≡ run u k s (for_all (vouched b r)) → v ≡ run u k t (by_kind b links rows r)
      → w ≡ run u k v (for_all (trusted b rows r)) → w ≡ run u k s (rules_of b links rows r)
  unfolding rules_of
  rules_all b links rows s r {t} e f g =
      run_both u k s (for_all (vouched b r)) (by_kind b links rows r ++ for_all (trusted b rows r)) e
      (run_both u k t (by_kind b links rows r) (for_all (trusted b rows r)) f g)
