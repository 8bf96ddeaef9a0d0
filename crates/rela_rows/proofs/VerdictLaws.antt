-- Verdicts on the same paths agree.
use Rattle.std.proofs.Common.{◌≡◌, ℕ, ◌<◌, inl, inr, Bool, true, false, List, [], ◌∷◌, length, refl, sym, subst, arith}
use Rattle.rela_engine.specs.RowOf.{words_of, relation_of, IsOffence, RowOf}
use Rattle.rela_build.specs.PathSets.{Paths}
use Rattle.rela_names.specs.Shortlex.{IsSmaller, IsBefore, First}
use Rattle.rela_report.specs.declared.rows.Row.{Row}
use Rattle.rela_report.specs.declared.rows.Row.TheVariants.{Compliant, Violated, Undecided}
use Rattle.rela_report.specs.declared.rows.Side.{Side}
use Rattle.rela_report.specs.declared.rows.Side.TheVariants as side
use Rattle.rela_rir.specs.Words.{WordSet, Relation, ImageOf}
use Rattle.rela_translate.specs.Checked.{Checked as Check}
use Rattle.rela_translate.specs.Verdict.{AreMet, Offends, Offending, BeforeImage, AfterImage}
use Rattle.rela_rows.specs.Rows.{AgreeInVerdict}

-- ---- the first word of a set

not_smaller : (u v : List ℕ) → length u ≡ length v → ¬ IsSmaller u v → ¬ IsSmaller v u → u ≡ v
not_smaller [] [] long absent none = refl
not_smaller [] (y ∷ v) long absent none = absurd (omega (arith, long))
not_smaller (x ∷ u) [] long absent none = absurd (omega (arith, long))
not_smaller (x ∷ u) (y ∷ v) long absent none =
    let one : ¬ (x < y) = λ less. absent (inl less) in
    let two : ¬ (y < x) = λ less. none (inl less) in
    let same : x ≡ y = omega arith in
    let rest : u ≡ v = not_smaller u v (omega (arith, long)) (λ less. absent (inr (same, less))) (λ less. none (inr (sym same, less))) in
    cc

not_before : (u v : List ℕ) → ¬ IsBefore u v → ¬ IsBefore v u → u ≡ v
not_before u v absent none =
    let one : ¬ (length u < length v) = λ less. absent (inl less) in
    let two : ¬ (length v < length u) = λ less. none (inl less) in
    let long : length u ≡ length v = omega arith in
    not_smaller u v long (λ less. absent (inr (long, less))) (λ less. none (inr (sym long, less)))

one_first : (X Y : WordSet) (u v : List ℕ) → ((w : List ℕ) → X w → Y w) → ((w : List ℕ) → Y w → X w) → First X u → First Y v → u ≡ v
one_first X Y u v there back first other =
    not_before u v (λ before. other.least u (there u first.member) before) (λ before. first.least v (back v other.member) before)

-- ---- the images

image_in : (X Y : WordSet) (R : Relation) → ((w : List ℕ) → X w → Y w) → (w : List ℕ) → ImageOf X R w → ImageOf Y R w
image_in X Y R there w image = record { source = image.source; in_set = there image.source image.in_set; related = image.related }

module _ (check : Check) (locations : ℕ) (pre post before after : WordSet) (there : (w : List ℕ) → pre w → before w) (back : (w : List ℕ) → before w → pre w)
    (later : (w : List ℕ) → post w → after w) (earlier : (w : List ℕ) → after w → post w) where
  abbrev B : WordSet → WordSet
  B = BeforeImage check locations

  abbrev A : WordSet → WordSet
  A = AfterImage check locations

  abbrev R : Side → Relation
  R of = relation_of of check locations

  offends : (at_most : Bool) (w : List ℕ) → Offends at_most (B pre) (A post) w → Offends at_most (B before) (A after) w
  offends false w (inl is) = inl (image_in pre before (R side.Before) there w is.0, λ image. is.1 (image_in after post (R side.After) earlier w image))
  offends false w (inr is) = inr (λ image. is.0 (image_in before pre (R side.Before) back w image), image_in post after (R side.After) later w is.1)
  offends true w is = (image_in post after (R side.After) later w is.0, λ image. is.1 (image_in before pre (R side.Before) back w image))

met_offends : (at_most : Bool) (X Y : WordSet) (w : List ℕ) → AreMet at_most X Y → ¬ Offends at_most X Y w
met_offends false X Y w met (inl is) = is.1 ((met w).0 is.0)
met_offends false X Y w met (inr is) = is.0 ((met w).1 is.1)
met_offends true X Y w met is = is.1 (met w is.0)

-- a word that offends isn't in both images
apart : (at_most : Bool) (X Y : WordSet) (w : List ℕ) → Offends at_most X Y w → X w → ¬ Y w
apart false X Y w (inl is) x y = is.1 y
apart false X Y w (inr is) x y = is.0 x
apart true X Y w is x y = is.1 x

-- ---- two verdicts

module _ (check : Check) (locations limit : ℕ) (p q : Paths) (there : (w : List ℕ) → p.pre w → q.pre w) (back : (w : List ℕ) → q.pre w → p.pre w)
    (later : (w : List ℕ) → p.post w → q.post w) (earlier : (w : List ℕ) → q.post w → p.post w) where
  abbrev Offence : Paths → List ℕ → Side → List ℕ → Type 0
  Offence r word of source = IsOffence check locations r.pre r.post word of source

  to_q : (w : List ℕ) → Offending check locations p.pre p.post w → Offending check locations q.pre q.post w
  to_q w is = offends check locations p.pre p.post q.pre q.post there back later earlier check.at_most w is

  to_p : (w : List ℕ) → Offending check locations q.pre q.post w → Offending check locations p.pre p.post w
  to_p w is = offends check locations q.pre q.post p.pre p.post back there earlier later check.at_most w is

  same_word : (u v : List ℕ) (of to : Side) (s t : List ℕ) → Offence p u of s → Offence q v to t → u ≡ v
  same_word u v of to s t one two = one_first (Offending check locations p.pre p.post) (Offending check locations q.pre q.post) u v to_q to_p one.first two.first

  abbrev Sources : Paths → Side → List ℕ → WordSet
  Sources r of word path = words_of of r.pre r.post path × relation_of of check locations path word

  source_to_q : (of : Side) (word path : List ℕ) → Sources p of word path → Sources q of word path
  source_to_q side.Before word path is = (there path is.0, is.1)
  source_to_q side.After word path is = (later path is.0, is.1)

  source_to_p : (of : Side) (word path : List ℕ) → Sources q of word path → Sources p of word path
  source_to_p side.Before word path is = (back path is.0, is.1)
  source_to_p side.After word path is = (earlier path is.0, is.1)

  same_side : (word : List ℕ) (of to : Side) (s t : List ℕ) → Offence p word of s → Offence q word to t → of ≡ to
  same_side word side.Before side.Before s t one two = refl
  same_side word side.After side.After s t one two = refl
  same_side word side.Before side.After s t one two =
      absurd (apart check.at_most (BeforeImage check locations p.pre) (AfterImage check locations p.post) word one.first.member one.in_image
      (image_in q.post p.post (relation_of side.After check locations) earlier word two.in_image))
  same_side word side.After side.Before s t one two =
      absurd (apart check.at_most (BeforeImage check locations p.pre) (AfterImage check locations p.post) word one.first.member
      (image_in q.pre p.pre (relation_of side.Before check locations) back word two.in_image) one.in_image)

  same_source : (word : List ℕ) (of : Side) (s t : List ℕ) → Offence p word of s → Offence q word of t → s ≡ t
  same_source word of s t one two = one_first (Sources p of word) (Sources q of word) s t (source_to_q of word) (source_to_p of word) one.first_source two.first_source

  same_violation : (u v : List ℕ) (of to : Side) (s t : List ℕ) → Offence p u of s → Offence q v to t → Violated u of s ≡ Violated v to t
  same_violation u v of to s t one two =
      let word : u ≡ v = same_word u v of to s t one two in
      let here : Offence q u to t = subst (λ (w : List ℕ). Offence q w to t) (sym word) two in
      let sides : of ≡ to = same_side u of to s t one here in
      let there' : Offence q u of t = subst (λ (x : Side). Offence q u x t) (sym sides) here in
      let sources : s ≡ t = same_source u of s t one there' in
      cc

  pub verdicts_agree : (row other : Row) → RowOf check locations p limit row → RowOf check locations q limit other → AgreeInVerdict row other
  verdicts_agree Compliant Compliant one two = inl refl
  verdicts_agree Compliant (Violated v to t) one two = absurd (met_offends check.at_most (BeforeImage check locations p.pre) (AfterImage check locations p.post) v one.says (to_p v two.says.first.member))
  verdicts_agree (Violated u of s) Compliant one two = absurd (met_offends check.at_most (BeforeImage check locations q.pre) (AfterImage check locations q.post) u two.says (to_q u one.says.first.member))
  verdicts_agree (Violated u of s) (Violated v to t) one two = inl (same_violation u v of to s t one.says two.says)
  verdicts_agree Undecided other one two = inr (inl refl)
  verdicts_agree Compliant Undecided one two = inr (inr refl)
  verdicts_agree (Violated u of s) Undecided one two = inr (inr refl)
