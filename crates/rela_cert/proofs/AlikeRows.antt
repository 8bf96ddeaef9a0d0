-- Rows whose check has one relation, and whose paths are the same before and after the change.
use Rattle.std.proofs.Common.{◌≡◌, ℕ, ◌<◌, ◌↔◌, Bool, true, false, List, [], ◌∷◌, ◌++◌, sym, subst}
use Rattle.std.proofs.lemmas.List.Elements.{All-cons, All-head, All-nil}
use Rattle.rela_blocks.specs.RowBlocks.{symbols_of}
use Rattle.rela_blocks.specs.Scenes.{after_image, before_image, lettering_of, scene}
use Rattle.rela_build.specs.Lettering.{AreLetterBlocks}
use Rattle.rela_build.specs.Made.{IsMade}
use Rattle.rela_build.specs.PathSets.{Paths, no_paths}
use Rattle.rela_build.specs.Reading.{HoldsJust}
use Rattle.rela_closed.specs.Closed.{IsClosed}
use Rattle.rela_nfa.specs.Automaton.{Automaton}
use Rattle.rela_rir.specs.Meaning.{InR, Setting}
use Rattle.rela_rir.specs.Places.{Agree, At, Scene}
use Rattle.rela_rir.specs.Words.{WordSet}
use Rattle.rela_rir.specs.declared.term.PathTerm.{PathTerm}
use Rattle.rela_rir.specs.declared.term.RelTerm.{RelTerm}
use Rattle.rela_translate.specs.Checked.{Checked}
use Rattle.rela_translate.specs.Terms.{after_of, before_of}
use Rattle.rela_translate.specs.Verdict.{AfterImage, AreMet, BeforeImage, Meets}
use Rattle.rela_translate.specs.Zones.{After, Before}
use Rattle.rela_cert.specs.Closed.{Closed}
use Rattle.rela_cert.specs.Letters.{letter_words}
use Rattle.rela_cert.specs.Rows.{AreImagesClosed, IsImageClosed}
use Rattle.rela_cert.proofs.ByStates.{closed_back, closed_one}
use Rattle.rela_cert.proofs.TermsMean.{RelationsMean}

-- ---- their check is met

module _ (check : Checked) (n : ℕ) (means : RelationsMean check n) (one : before_of n check.body ≡ after_of n check.body) where
  abbrev m : Setting
  m = (scene check n no_paths).setting

  same_pairs : (u v : List ℕ) → Before check.classes n check.body u v ↔ After check.classes n check.body u v
  same_pairs u v =
      let first = means.before u v in
      let second = means.after u v in (
        λ is. second.0 (subst (λ (r : RelTerm). InR m r u v) one (first.1 is)),
        λ is. first.0 (subst (λ (r : RelTerm). InR m r u v) (sym one) (second.1 is)),
      )

  module _ (pre post : WordSet) (words : (w : List ℕ) → pre w ↔ post w) where
    same_images : (w : List ℕ) → BeforeImage check n pre w ↔ AfterImage check n post w
    same_images w = (
      λ i. record { source = i.source; in_set = (words i.source).0 i.in_set; related = (same_pairs i.source w).0 i.related },
      λ i. record { source = i.source; in_set = (words i.source).1 i.in_set; related = (same_pairs i.source w).1 i.related },
    )

    met_by : (at_most : Bool) → AreMet at_most (BeforeImage check n pre) (AfterImage check n post)
    met_by false = same_images
    met_by true = λ w is. (same_images w).1 is

    pub meets_alike : Meets check n pre post
    meets_alike = met_by check.at_most

-- ---- their images block

-- words that are closed for two terms are closed for the first
closed_fewer : (m : Scene) (n : ℕ) (x y : PathTerm) (words : List (List ℕ)) → Closed m n (x ∷ y ∷ []) words → Closed m n (x ∷ []) words
closed_fewer m n x y words closed word s listed below =
    let found = closed word s listed below in
    let agrees : PathTerm → Type 0 = λ z. Agree (At m z) found.0 (word ++ s ∷ []) in
    (found.0, found.1, All-cons agrees x [] (All-head agrees x (y ∷ []) found.2) (All-nil agrees))

module _ (check : Checked) (n : ℕ) (paths : Paths) (blocks : List ℕ) (are : AreLetterBlocks (lettering_of check n blocks)) (a : Automaton)
    (made : IsMade (Unit {0}) (lettering_of check n blocks) paths (before_image check n) a) (over : List Bool) (holds : HoldsJust blocks (λ s. s < symbols_of check n) over)
    (words : List (List ℕ)) where
  pub image_closed : IsClosed over (a ∷ []) (letter_words blocks words) → IsImageClosed check n paths words
  image_closed closed = closed_back (lettering_of check n blocks) paths (symbols_of check n) over holds (before_image check n) a made words closed

  pub images_open : ¬ IsClosed over (a ∷ []) (letter_words blocks words) → ¬ AreImagesClosed check n paths words
  images_open opened closed =
      opened (closed_one (Unit {0}) (lettering_of check n blocks) are paths (symbols_of check n) over holds (before_image check n) a made words
      (closed_fewer (scene check n paths) (symbols_of check n) (before_image check n) (after_image check n) words closed))
