-- Giving and closing keep the lengths of words and pending records. Assumes nothing.
use Prim.Native.Nat.{ℕ, zero, suc, ◌+◌, ◌*◌, ◌^◌, ◌≤◌}
use mathlib.Core.Path.{◌≡◌, refl, ◌∙◌, subst}
use mathlib.Core.List.{List, [], ◌∷◌}
use mathlib.Core.Bool.{Bool, true, false, cond}
use lib.ListN.{length, get_or, set, length-set}
use lib.Bits.{bit_or}
use Rattle.facts.specs.declared.Instance.{Instance}
use Rattle.facts.specs.Facts.{bit_at}
use Rattle.lanes.specs.Lanes.{word_of, shift_of, lane, State, state, marked, Common, is_new, noted, counted, is_held, entered, ready, fired, run}
use Rattle.lanes.proofs.Sets.{marked_length}
use Rattle.rules.specs.Close.{without, Reaches, Closes}
use Rattle.rules.specs.Close.Reaches.{start, more}
use Rattle.rules.specs.Rules.{rules_of}
use Rattle.stages.specs.Stages.{assumed, assumed_in, delivered, delivered_from, Turning, TurnIs, stamped_with}
use Rattle.stamps.specs.Stamps as stamps

-- t has as many words and as many words of pending records as s
abbrev pub AsLong : State → State → Type 0
AsLong s t = (length t.words ≡ length s.words) × (length t.pending ≡ length s.pending)

trans_long : (s t v : State) → AsLong s t → AsLong t v → AsLong s v
trans_long s t v a b = (b.0 ∙ a.0, b.1 ∙ a.1)

pub entered_long : (u : List ℕ) (k who : ℕ) (i : Instance) (s : State) → AsLong s (entered u k who i s)
unfolding entered
entered_long u k who i s = go (is_held s.words who i.gives)
  where
    go : (v : Bool)
        → AsLong s (cond v s (state
        (set s.words (word_of i.gives) (bit_or (get_or s.words (word_of i.gives) 0) (who * 2 ^ shift_of i.gives)))
        (marked u s.pending i.gives.formula)
        (noted (is_new k (lane s.words i.gives) who) i s.log s.count)
        (counted (is_new k (lane s.words i.gives) who) s.count)))
    go true = (refl, refl)
    go false = (simp length-set refl, marked_length u s.pending i.gives.formula)

run_long : (u : List ℕ) (k : ℕ) (l : List Common) (s : State) → AsLong s (run u k s l)
unfolding run fired
run_long u k [] s = (refl, refl)
run_long u k (c ∷ l) s = trans_long s (fired u k s c) (run u k (fired u k s c) l) (entered_long u k (ready s.words c) c.by s) (run_long u k l (fired u k s c))

reaches_long : (b links rows u : List ℕ) (k : ℕ) (s t : State) → Reaches b links rows u k s t → AsLong s t
reaches_long b links rows u k s t start = (refl, refl)
reaches_long b links rows u k s t (more v r l p h) =
    let w : AsLong v (without r v) = (refl, simp length-set refl) in
    trans_long s v (run u k (without r v) (rules_of b links rows r)) (reaches_long b links rows u k s v h) (trans_long v (without r v) (run u k (without r v) (rules_of b links rows r)) w (run_long u k (rules_of b links rows r) (without r v)))

pub closes_long : (b links rows u : List ℕ) (k : ℕ) (s t : State) → Closes b links rows u k s t → AsLong s t
closes_long b links rows u k s t c = reaches_long b links rows u k s t c.reached

pub assumed_long : (b u : List ℕ) (k f a : ℕ) (s : State) → AsLong s (assumed_in b u k f a s)
unfolding assumed_in assumed
assumed_long b u k f zero s = (refl, refl)
assumed_long b u k f (suc a) s = go (bit_at f a) (assumed_long b u k f a s)
  where
    go : (v : Bool) → AsLong s (assumed_in b u k f a s) → AsLong s (cond v (assumed b u k a (assumed_in b u k f a s)) (assumed_in b u k f a s))
    go true l = trans_long s (assumed_in b u k f a s) (assumed b u k a (assumed_in b u k f a s)) l (entered_long u k _ _ (assumed_in b u k f a s))
    go false l = l

pub delivered_long : (ds u : List ℕ) (k m c : ℕ) (s : State) → AsLong s (delivered_from ds u k m c s)
unfolding delivered_from delivered
delivered_long ds u k m zero s = (refl, refl)
delivered_long ds u k m (suc c) s =
    trans_long s (delivered_from ds u k m c s) (delivered ds u k (m + c) (delivered_from ds u k m c s)) (delivered_long ds u k m c s) (entered_long u k _ _ (delivered_from ds u k m c s))

-- the lengths of a state that begins with 1,024 words and four words of pending records, and what closing leaves of it
abbrev pub Whole : State → Type 0
Whole s = (length s.words ≡ 1024) × (length s.pending ≡ 4)

kept : (s t : State) → AsLong s t → Whole s → Whole t
kept s t a w = (a.0 ∙ w.0, a.1 ∙ w.1)

module _ (b links rows u : List ℕ) (k : ℕ) where
  pub reached_whole : (s t : State) → Reaches b links rows u k s t → Whole s → Whole t
  reached_whole s t h w = kept s t (reaches_long b links rows u k s t h) w

  pub after_assumed : (f a : ℕ) (s t : State) → t ≡ assumed_in b u k f a s → length s.words ≡ 1024 → length s.pending ≡ 4 → Whole t
  after_assumed f a s t e w d = rw e (kept s (assumed_in b u k f a s) (assumed_long b u k f a s) (w, d))

  pub after_delivered : (ds : List ℕ) (m c : ℕ) (s t : State) → t ≡ delivered_from ds u k m c s → Whole s → Whole t
  after_delivered ds m c s t e w = rw e (kept s (delivered_from ds u k m c s) (delivered_long ds u k m c s) w)

  pub closed : (g g' t : State) → g' ≡ g → Closes b links rows u k g' t → Whole g' → Closes b links rows u k g t × Whole t
  closed g g' t e c w = (subst (λ x. Closes b links rows u k x t) e c, kept g' t (closes_long b links rows u k g' t c) w)

-- a turn that was given, closed and stamped
module _ (b links rows u ds : List ℕ) (m : ℕ) (s g s' : State) (next n p : ℕ) (v f t : List ℕ) where
  pub turn_whole : Whole s → Turning ds u m s next g v → Whole g
  turn_whole w (c, en, i, es, ev) = after_delivered b links rows u 8 ds m c s g es w

  pub turn_is : Whole s → Turning ds u m s next g v → Closes b links rows u 8 g s' → (z : stamps.State) → z ≡ stamped_with s'.words v n p f t → z.stamps.count ≤ 65536
      → TurnIs b links rows u ds s s' m next n p f t z
  turn_is w (c, en, i, es, ev) cl z ez l =
      let a = closed b links rows u 8 (delivered_from ds u 8 m c s) g s' es cl (after_delivered b links rows u 8 ds m c s g es w) in
      (c, en, i, (a.0, subst (λ x. z ≡ stamped_with s'.words x n p f t) ev ez, l, a.1.0, a.1.1))
