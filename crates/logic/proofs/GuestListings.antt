-- Two accepted books that differ only in the names of data have equal surveys, reach the same goals, and have equal guest's texts and
-- listings: a guest learns nothing of these names. Assumes nothing.
use Prim.Native.Nat.{ℕ, suc, ◌<◌}
use mathlib.Core.Path.{◌≡◌, refl, sym, ◌∙◌, ap, ap₂, subst, fun_ext}
use mathlib.Core.Logic.{inl, inr, ◌↔◌}
use mathlib.Core.List.{List, [], ◌∷◌, ◌++◌}
use mathlib.Core.Bool.{Bool, true, false, cond, not, ◌&&◌}
use lib.ListN.{length, get_or}
use lib.Seq.{ext_get_or}
use lib.Dec.{T, ltb}
use Rattle.logic.specs.declared.Record.{Record}
use Rattle.logic.specs.declared.Audience.TheVariants.{Guest}
use Rattle.logic.specs.Record.{no_record}
use Rattle.logic.specs.Count.{formulas, goals}
use Rattle.logic.specs.Refusal.{Outcome}
use Rattle.logic.specs.Refusal.Outcome.{accepted, refused}
use Rattle.logic.specs.Reading.{reading}
use Rattle.logic.specs.Book.{Book}
use Rattle.logic.specs.SameButData.{SameButData}
use Rattle.logic.specs.Formula.{Tree}
use Rattle.logic.specs.Fact.{Fact, goal_fact, initial}
use Rattle.logic.specs.Derivation.{Derivable}
use Rattle.logic.specs.Written.{meaning, is_written, is_malformed, fact_in, goal_fact_on}
use Rattle.logic.specs.Place.{F, place, fact_at}
use Rattle.logic.specs.Survey.{ByteOf, PlaceHolds, IsSurvey, held, is_within, Surveyed}
use Rattle.logic.specs.Proof.{Reached}
use Rattle.logic.specs.Rearranged.{SameWritten}
use Rattle.logic.specs.Text.{datum_for, fact_text, text_fitting, text_among, text_after, text_for, length_told, at_front, texting, texted}
use Rattle.logic.specs.Listing.{fact_line, place_line, held_line, goals_line, place_lines, Marked, count_true, ListingAfter, GuestListing, goal_byte, marks_by, line_at, part_among, part_after, part_for, part_told, with_part, listing_told, listing_in}
use Rattle.logic.proofs.Tests.{T_and}
use Rattle.logic.proofs.Bytes.{Bytes}
use Rattle.logic.proofs.BookRead.{accepted_is_book}
use Rattle.logic.proofs.Contents.{Contents, contents, among_at}
use Rattle.logic.proofs.Meaning.{Valid, valid}
use Rattle.logic.proofs.Verdict.{well_formed_fact}
use Rattle.logic.proofs.Surveys.{survey_once}
use Rattle.logic.proofs.Rearrangement.{equal_surveyed}
use Rattle.logic.proofs.OtherData.{data_back, same_formulas, same_goals, same_F, same_place, same_fact_at, same_written, same_malformed, guest_text, same_images, same_goal, follows_there, goal_there}

-- SURVEYS

-- facts that follow up to the same messages have the same byte
byte_same : (fs hs : List Record) (given given' : ℕ → List (Fact Tree)) (f g : Fact Tree)
    → ((m : ℕ) → Derivable fs (given m) f ↔ Derivable hs (given' m) g) → (v : ℕ) → ByteOf fs given f v → ByteOf hs given' g v
byte_same fs hs given given' f g h v (inl (e, never)) = inl (e, (λ m d. never m ((h m).1 d)))
byte_same fs hs given given' f g h v (inr (m, e, (d, first))) = inr (m, e, ((h m).0 d, (λ k l i. first k l ((h k).1 i))))

module _ (rs qs : List Record) (s : SameButData rs qs) (c : Contents rs) (d : Contents qs) where
  -- what may be written follows here as it follows there
  follows_alike : (f : Fact ℕ) → Valid (formulas rs) f → Valid (formulas qs) f → (m : ℕ)
      → Derivable (formulas rs) (initial rs m) (meaning (formulas rs) f) ↔ Derivable (formulas qs) (initial qs m) (meaning (formulas qs) f)
  follows_alike f v w m = (follows_there rs qs s c d m f v, follows_there qs rs (data_back rs qs s) d c m f w)

  written_alike : (f : Fact ℕ) → is_written (formulas rs) f ≡ is_written (formulas qs) f
  written_alike = same_written (formulas rs) (formulas qs) (same_formulas rs qs s) c.formulas_ok d.formulas_ok

  fact_holds : (f : Fact ℕ) (v : ℕ) → cond (is_written (formulas rs) f) (ByteOf (formulas rs) (initial rs) (meaning (formulas rs) f) v) (v ≡ 0)
      → cond (is_written (formulas qs) f) (ByteOf (formulas qs) (initial qs) (meaning (formulas qs) f) v) (v ≡ 0)
  fact_holds f v h =
      go (is_written (formulas rs) f) (is_written (formulas qs) f) (written_alike f) (valid (formulas rs) f) (valid (formulas qs) f) h
    where
      go : (a b : Bool) → a ≡ b → (T a → Valid (formulas rs) f) → (T b → Valid (formulas qs) f)
          → cond a (ByteOf (formulas rs) (initial rs) (meaning (formulas rs) f) v) (v ≡ 0)
          → cond b (ByteOf (formulas qs) (initial qs) (meaning (formulas qs) f) v) (v ≡ 0)
      go true true e x y h =
          byte_same (formulas rs) (formulas qs) (initial rs) (initial qs) (meaning (formulas rs) f) (meaning (formulas qs) f)
          (follows_alike f (x tt) (y tt)) v h
      go true false e x y h = absurd (subst T e tt)
      go false true e x y h = absurd (subst T (sym e) tt)
      go false false e x y h = h

  place_holds : (i v : ℕ) → PlaceHolds (formulas rs) (initial rs) i v → PlaceHolds (formulas qs) (initial qs) i v
  place_holds i v h =
      subst (λ f. cond (is_written (formulas qs) f) (ByteOf (formulas qs) (initial qs) (meaning (formulas qs) f) v) (v ≡ 0))
      (same_fact_at (formulas rs) (formulas qs) (same_formulas rs qs s) i) (fact_holds (fact_at (formulas rs) i) v h)

  survey_there : (t : List ℕ) → IsSurvey (formulas rs) (initial rs) t → IsSurvey (formulas qs) (initial qs) t
  survey_there t h =
      let e = same_F (formulas rs) (formulas qs) (same_formulas rs qs s) in
      record {
        size = h.size ∙ e;
        holds = λ i l. place_holds i (get_or t i 0) (h.holds i (subst (λ n. i < n) (sym e) l));
      }

  -- GOALS
  reached_there : (g : ℕ) → g < length (goals rs) → Reached rs g → Reached qs g
  reached_there g l h =
      let r = get_or (goals rs) g no_record in
      subst (λ gs. Derivable (formulas qs) (initial qs (get_or gs g no_record).first) (goal_fact (formulas qs) (get_or gs g no_record)))
      (same_goals rs qs s) (goal_there rs qs s c d r.first r (among_at (goals rs) g l) h)

reached_alike : (rs qs : List Record) → SameButData rs qs → Contents rs → Contents qs → (g : ℕ) → g < length (goals rs) → Reached rs g ↔ Reached qs g
reached_alike rs qs s c d g l = (
  reached_there rs qs s c d g l,
  reached_there qs rs (data_back rs qs s) d c g (subst (λ gs. g < length gs) (same_goals rs qs s) l),
)

-- EQUAL SURVEYS
pub other_data_survey : (rs qs : List Record) → Book rs → Book qs → SameButData rs qs
    → (t : List ℕ) → IsSurvey (formulas rs) (initial rs) t ↔ IsSurvey (formulas qs) (initial qs) t
other_data_survey rs qs b c s t = (
  survey_there rs qs s (contents rs b) (contents qs c) t,
  survey_there qs rs (data_back rs qs s) (contents qs c) (contents rs b) t,
)

-- EQUAL ANSWERS, EQUAL BYTES: what `survey` answers for two such books and tables of one length is equal, and so is what it writes
pub other_data_surveyed : (b c : List ℕ) (rs qs : List Record) → Bytes b → Bytes c → reading b ≡ accepted rs → reading c ≡ accepted qs
    → SameButData rs qs → (t t' u u' : List ℕ) (o v : Outcome ℕ) → length t ≡ length u → Surveyed b t t' o → Surveyed c u u' v
    → (o ≡ v) × SameWritten t t' u u'
other_data_surveyed b c rs qs x y e f s =
    equal_surveyed b c rs qs e f (same_F (formulas rs) (formulas qs) (same_formulas rs qs s))
    (λ t. (other_data_survey rs qs (accepted_is_book b rs x e).1 (accepted_is_book c qs y f).1 s t).0)

-- THE SAME GOALS ARE REACHED
pub other_data_reached : (rs qs : List Record) → Book rs → Book qs → SameButData rs qs
    → (g : ℕ) → g < length (goals rs) → Reached rs g ↔ Reached qs g
other_data_reached rs qs b c s = reached_alike rs qs s (contents rs b) (contents qs c)

-- MARKS: books that reach the same goals have one list of marks.

mark_once : (A B : Type 0) → A ↔ B → (a b : Bool) → cond a A (A → ⊥) → cond b B (B → ⊥) → a ≡ b
mark_once A B e true true x y = refl
mark_once A B e true false x y = absurd (y (e.0 x))
mark_once A B e false true x y = absurd (x (e.1 y))
mark_once A B e false false x y = refl

marks_alike : (rs qs : List Record) → length (goals rs) ≡ length (goals qs) → ((g : ℕ) → g < length (goals rs) → Reached rs g ↔ Reached qs g)
    → (k l : List Bool) → Marked rs k → Marked qs l → k ≡ l
marks_alike rs qs e h k l x y =
    ext_get_or false k l (x.size ∙ (e ∙ sym y.size))
    (λ g i. let m : g < length (goals rs) = subst (λ n. g < n) x.size i in
    mark_once (Reached rs g) (Reached qs g) (h g m) (get_or k g false) (get_or l g false) (x.reached g m) (y.reached g (subst (λ n. g < n) e m)))

-- LINES

-- what stands only where a test passes, or only where it fails, need be equal only there
where_passed : {A : Type 0} (b : Bool) (x y z : A) → (T b → x ≡ y) → cond b x z ≡ cond b y z
where_passed true x y z h = h tt
where_passed false x y z h = refl

where_failed : {A : Type 0} (b : Bool) (x y z : A) → (T (not b) → x ≡ y) → cond b z x ≡ cond b z y
where_failed true x y z h = refl
where_failed false x y z h = h tt

module _ (rs qs : List Record) (s : SameButData rs qs) (c : Contents rs) (d : Contents qs) where
  fact_text_lem : (f : Fact ℕ) → T (is_written (formulas rs) f)
      → fact_text (datum_for Guest (formulas rs)) (meaning (formulas rs) f) ≡ fact_text (datum_for Guest (formulas qs)) (meaning (formulas qs) f)
  fact_text_lem f w =
      guest_text (formulas rs) (formulas qs) (same_formulas rs qs s) c.formulas_ok d.formulas_ok f (valid (formulas rs) f w)

  place_line_lem : (i v : ℕ) → place_line Guest (formulas rs) i v ≡ place_line Guest (formulas qs) i v
  unfolding place_line
  place_line_lem i v =
      let fs = formulas rs in
      let hs = formulas qs in
      let f = fact_at fs i in
      let w = is_written fs f in
      let e = same_formulas rs qs s in
      let t = fact_text (datum_for Guest hs) (meaning hs f) in
      where_passed (ltb 0 v && (ltb i (F fs) && w)) (fact_line v (fact_text (datum_for Guest fs) (meaning fs f))) (fact_line v t) []
      (λ p. ap (fact_line v) (fact_text_lem f (T_and (ltb i (F fs)) w (T_and (ltb 0 v) (ltb i (F fs) && w) p).1).1))
      ∙ (ap₂ (λ n b. cond (ltb 0 v && (ltb i n && b)) (fact_line v t) []) (same_F fs hs e) (written_alike rs qs s c d f)
      ∙ ap (λ g. cond (ltb 0 v && (ltb i (F hs) && is_written hs g)) (fact_line v (fact_text (datum_for Guest hs) (meaning hs g))) [])
      (same_fact_at fs hs e i))

  place_lines_lem : (i : ℕ) (t : List ℕ) → place_lines Guest (formulas rs) i t ≡ place_lines Guest (formulas qs) i t
  unfolding place_lines
  place_lines_lem i [] = refl
  place_lines_lem i (v ∷ t) = ap₂ (λ k l. k ++ l) (place_line_lem i v) (place_lines_lem (suc i) t)

  -- the marks that the table gives
  marks_by_lem : (t : List ℕ) → marks_by (formulas rs) (goals rs) t ≡ marks_by (formulas qs) (goals qs) t
  unfolding marks_by
  marks_by_lem t =
      let fs = formulas rs in
      let hs = formulas qs in
      same_images (λ r. is_within r.first (goal_byte fs t r)) (λ r. is_within r.first (goal_byte hs t r)) (goals rs)
      (λ r m. ap (λ n. is_within r.first (get_or t n 0))
      (same_place fs hs (same_formulas rs qs s) (goal_fact_on fs r) ∙ ap (place hs) (same_goal rs qs s c d r m)))
      ∙ ap (λ gs. marks_by hs gs t) (same_goals rs qs s)

  line_at_lem : (t : List ℕ) (i : ℕ) → line_at Guest (formulas rs) (goals rs) t i ≡ line_at Guest (formulas qs) (goals qs) t i
  unfolding line_at
  line_at_lem t i =
      rw (same_F (formulas rs) (formulas qs) (same_formulas rs qs s), place_line_lem i (get_or t i 0), marks_by_lem t, same_goals rs qs s)

  part_among_lem : (table : List ℕ) (from room : ℕ)
      → part_among Guest (formulas rs) (goals rs) table from room ≡ part_among Guest (formulas qs) (goals qs) table from room
  part_among_lem table from room =
      let e : line_at Guest (formulas rs) (goals rs) table ≡ line_at Guest (formulas qs) (goals qs) table = fun_ext (line_at_lem table) in
      rw (e, same_F (formulas rs) (formulas qs) (same_formulas rs qs s))

  text_among_lem : (f : List ℕ) (n : ℕ) → text_among Guest (formulas rs) f n ≡ text_among Guest (formulas qs) f n
  text_among_lem f n =
      let fs = formulas rs in
      let hs = formulas qs in
      let t = text_fitting n (fact_text (datum_for Guest hs) (meaning hs (fact_in f))) in
      where_failed (is_malformed fs f) (text_fitting n (fact_text (datum_for Guest fs) (meaning fs (fact_in f)))) t (refused 17 0)
      (λ p. ap (text_fitting n) (fact_text_lem (fact_in f) (well_formed_fact fs f p)))
      ∙ ap (λ b. cond b (refused 17 0) t) (same_malformed fs hs (same_formulas rs qs s) c.formulas_ok d.formulas_ok f)

  listing_after : (out out' : List ℕ) → ListingAfter Guest (accepted rs) out → ListingAfter Guest (accepted qs) out' → out ≡ out'
  listing_after out out' (t, x, (k, m, e)) (u, y, (l, n, f)) =
      let fs = formulas rs in
      let hs = formulas qs in
      let G = same_goals rs qs s in
      let z : t ≡ u = survey_once hs (initial qs) t u (survey_there rs qs s c d t x) y in
      let w : k ≡ l = marks_alike rs qs (ap length G) (reached_alike rs qs s c d) k l m n in
      e
      ∙ (ap (λ p. p ++ held_line (held t) ++ goals_line (count_true k) (length (goals rs))) (place_lines_lem 0 t)
      ∙ (ap₂ (λ p q. place_lines Guest hs 0 p ++ held_line (held p) ++ q) z (ap₂ goals_line (ap count_true w) (ap length G))
      ∙ sym f))

-- THE PROMISE: two accepted books that "differ only in the name numbers of data" have equal guest's listings,
pub guest_listings : (b c : List ℕ) (rs qs : List Record) → Bytes b → Bytes c → reading b ≡ accepted rs → reading c ≡ accepted qs
    → SameButData rs qs → (out out' : List ℕ) → GuestListing b out → GuestListing c out' → out ≡ out'
guest_listings b c rs qs x y e f s out out' g h =
    listing_after rs qs s (contents rs (accepted_is_book b rs x e).1) (contents qs (accepted_is_book c qs y f).1) out out'
    (subst (λ r. ListingAfter Guest r out) e g) (subst (λ r. ListingAfter Guest r out') f h)

-- equal guest's texts of every fact,
text_for_lem : (b c : List ℕ) (rs qs : List Record) → Bytes b → Bytes c → reading b ≡ accepted rs → reading c ≡ accepted qs
    → SameButData rs qs → (s : List ℕ) (n : ℕ) → text_for Guest b s n ≡ text_for Guest c s n
unfolding text_for
text_for_lem b c rs qs x y e f h s n =
    ap (λ r. text_after Guest r s n) e
    ∙ (text_among_lem rs qs h (contents rs (accepted_is_book b rs x e).1) (contents qs (accepted_is_book c qs y f).1) s n
    ∙ ap (λ r. text_after Guest r s n) (sym f))

pub guest_texts : (b c : List ℕ) (rs qs : List Record) → Bytes b → Bytes c → reading b ≡ accepted rs → reading c ≡ accepted qs
    → SameButData rs qs → (s t : List ℕ) → (texting Guest b s t ≡ texting Guest c s t) × (texted Guest b s t ≡ texted Guest c s t)
unfolding texting texted
guest_texts b c rs qs x y e f h s t =
    let z = text_for_lem b c rs qs x y e f h s (length t) in
    (ap length_told z, ap (λ o. at_front o t) z)

-- and equal pieces of the guest's listing, whatever the table holds
part_for_lem : (b c : List ℕ) (rs qs : List Record) → Bytes b → Bytes c → reading b ≡ accepted rs → reading c ≡ accepted qs
    → SameButData rs qs → (table : List ℕ) (from room : ℕ) → part_for Guest b table from room ≡ part_for Guest c table from room
unfolding part_for
part_for_lem b c rs qs x y e f h table from room =
    ap (λ r. part_after Guest r table from room) e
    ∙ (part_among_lem rs qs h (contents rs (accepted_is_book b rs x e).1) (contents qs (accepted_is_book c qs y f).1) table from room
    ∙ ap (λ r. part_after Guest r table from room) (sym f))

pub guest_pieces : (b c : List ℕ) (rs qs : List Record) → Bytes b → Bytes c → reading b ≡ accepted rs → reading c ≡ accepted qs
    → SameButData rs qs → (table : List ℕ) (from : ℕ) (t : List ℕ)
    → (listing_told Guest b table from t ≡ listing_told Guest c table from t) × (listing_in Guest b table from t ≡ listing_in Guest c table from t)
unfolding listing_told listing_in
guest_pieces b c rs qs x y e f h table from t =
    let z = part_for_lem b c rs qs x y e f h table from (length t) in
    (ap part_told z, ap (λ o. with_part o t) z)
