-- Why the relations of a check aren't made.
use Rattle.std.proofs.Common.{◌≡◌, ◌∙◌, ℕ, ◌+◌, Bool, List, [], ◌∷◌, ◌++◌, length, get_or, inl, inr, refl, sym, subst, arith}
use Rattle.std.specs.List.{Contains, slice_get}
use Rattle.std.specs.Prelude.{Some}
use Rattle.std.proofs.lemmas.List.Elements.{All-cons, All-head, All-nil, Contains-append_left, Contains-append_right, Contains-push}
use Rattle.rela_blocks.specs.FlowName.{paths_at}
use Rattle.rela_blocks.specs.Scenes.{after_image, before_image, lettering_of, scene}
use Rattle.rela_build.specs.Lettering.{Lettering, AreLetterBlocks, IsAlone}
use Rattle.rela_build.specs.Made.{IsMadeR}
use Rattle.rela_build.specs.Named.{NamesR}
use Rattle.rela_build.specs.Notes.{IsRefused, StoppedTwoR}
use Rattle.rela_build.specs.PathSets.{no_paths}
use Rattle.rela_build.specs.declared.stop.Stop.{Stop}
use Rattle.rela_build.specs.declared.stop.Stop.TheVariants.{Limit, Refused}
use Rattle.rela_certfile.specs.Listed.{words_of}
use Rattle.rela_certfile.specs.declared.rows.Step.{Step}
use Rattle.rela_closed.specs.Closed.{IsClosed}
use Rattle.rela_nfa.specs.Automaton.{Automaton}
use Rattle.rela_rir.specs.Complements.{complemented_parts_r}
use Rattle.rela_rir.specs.Limit.{ReachedInside, ReachedInsideR}
use Rattle.rela_rir.specs.Places.{Agree, At}
use Rattle.rela_rir.specs.declared.term.PathTerm.{PathTerm}
use Rattle.rela_rir.specs.declared.term.RelTerm.{RelTerm}
use Rattle.rela_trans.specs.Machine.{Machine}
use Rattle.rela_translate.specs.Checked.{Checked}
use Rattle.rela_translate.specs.Terms.{after_of, before_of}
use Rattle.rela_translate.specs.Zones.{path_symbols}
use Rattle.rela_cert.specs.Closed.{Closed}
use Rattle.rela_cert.specs.Letters.{letter_words}
use Rattle.rela_cert.specs.RowNames.{RowName, row_scenes}
use Rattle.rela_cert.specs.Rows.{IsOpenAt, MayPass, parts_of}
use Rattle.rela_cert.proofs.ByStates.{closed_one}
use Rattle.rela_cert.proofs.ComplementCounts.{parts_are}

-- why a complement is refused, by the listed blocks, whose symbols are read by a partition
abbrev pub RefusesBy : List ℕ → List (List Step) → ℕ → Automaton → List Bool → Type 0
RefusesBy part complements number a over = ¬ IsClosed over (a ∷ []) (letter_words part (words_of (get_or complements number [])))

at_place : (before : List PathTerm) (part : PathTerm) (later : List PathTerm) → slice_get (before ++ part ∷ later) (length before) ≡ Some part
at_place [] part later = refl
at_place (x ∷ before) part later = at_place before part later

-- ---- what the laws of terms say of the check's relations, for the paths of a flow

-- a relation that passes a limit where there are no paths has an image that does
abbrev pub PassesOn : RowName → PathTerm → RelTerm → Type 0
PassesOn at x r = (k : ℕ) → ReachedInsideR (scene at.check at.locations no_paths) k r → ReachedInside (row_scenes.of at) k x

-- words that a complemented part tells apart where there are no paths it tells apart
abbrev pub PartsAgree : RowName → Type 0
PartsAgree at =
    (part : PathTerm) → Contains (parts_of at.check at.locations) part → (v w : List ℕ) → Agree (At (row_scenes.of at) part) v w
    → Agree (At (scene at.check at.locations no_paths) part) v w

-- ---- stops

module _ (E : Type 0) (at : RowName) (blocks : List ℕ) (are : AreLetterBlocks (lettering_of at.check at.locations blocks)) (limit : ℕ) (complements : List (List Step)) where
  abbrev n : ℕ
  n = at.locations

  abbrev l : Lettering
  l = lettering_of at.check n blocks

  abbrev b : RelTerm
  b = before_of n at.check.body

  abbrev a : RelTerm
  a = after_of n at.check.body

  abbrev Stops : Stop → Type 0
  Stops e = StoppedTwoR (RefusesBy blocks complements) E l no_paths limit 0 b a e

  pub too_large : PassesOn at (before_image at.check n) b → PassesOn at (after_image at.check n) a → (e : Stop) → Stops e → e ≡ Limit
      → MayPass at.check n (paths_at at.flow) limit
  unfolding StoppedTwoR
  too_large before_passes after_passes e stops is last = elim (subst Stops is stops) [
    | inl before ↦ inl (before_passes (limit + 1) before)
    | inr after ↦ inr (inl (after_passes (limit + 1) after))
  ]

  module _ (agree : PartsAgree at) where
    -- words that are closed for the part are so where there are no paths
    closed_bare : (part : PathTerm) → Contains (parts_of at.check n) part → (words : List (List ℕ)) → Closed (row_scenes.of at) (path_symbols n) (part ∷ []) words
        → Closed (scene at.check n no_paths) (path_symbols n) (part ∷ []) words
    closed_bare part is words closed word s listed below =
        let found = closed word s listed below in (
          found.0,
          found.1,
          All-cons (λ y. Agree (At (scene at.check n no_paths) y) found.0 (word ++ s ∷ [])) part []
              (agree part is found.0 (word ++ s ∷ []) (All-head (λ y. Agree (At (row_scenes.of at) y) found.0 (word ++ s ∷ [])) part [] found.2))
              (All-nil (λ y. Agree (At (scene at.check n no_paths) y) found.0 (word ++ s ∷ []))),
        )

    refused_at : (number : ℕ) → IsRefused (RefusesBy blocks complements) E l no_paths 0 (complemented_parts_r b ++ complemented_parts_r a) number
        → IsOpenAt at.check n (paths_at at.flow) complements number
    refused_at number is =
        let words = words_of (get_or complements number []) in
        let whole : parts_of at.check n ≡ is.before ++ is.part ∷ is.later = parts_are at.check n ∙ is.whole in
        let listed : Contains (parts_of at.check n) is.part =
        subst (λ (ps : List PathTerm). Contains ps is.part) (sym whole)
        (Contains-append_right is.before (is.part ∷ is.later) is.part (Contains-append_left (is.part ∷ []) is.later is.part (Contains-push [] is.part))) in (
          is.part,
          subst (λ (k : ℕ). slice_get (parts_of at.check n) k ≡ Some is.part) (omega (arith, is.numbered))
              (subst (λ (parts : List PathTerm). slice_get parts (length is.before) ≡ Some is.part) (sym whole) (at_place is.before is.part is.later)),
          λ closed. is.refused (closed_one E l are no_paths (path_symbols n) is.over is.is.of_path is.part is.automaton is.is.made words
              (closed_bare is.part listed words closed)),
        )

    pub refused : (e : Stop) → Stops e → (number : ℕ) → e ≡ Refused number → IsOpenAt at.check n (paths_at at.flow) complements number
    unfolding StoppedTwoR
    refused e stops number is = refused_at number (subst Stops is stops)

-- ---- by the letters and the terms that they were made of

-- what was made before the first note
pub from_none : (refuses : ℕ → Automaton → List Bool → Type 0) (E : Type 0) (l : Lettering) (limit first : ℕ) (x y : RelTerm) (e : Stop)
    → first ≡ 0 → StoppedTwoR refuses E l no_paths limit first x y e → StoppedTwoR refuses E l no_paths limit 0 x y e
from_none refuses E l limit first x y e none stopped = subst (λ (k : ℕ). StoppedTwoR refuses E l no_paths limit k x y e) none stopped

module _ (E : Type 0) (check : Checked) (n : ℕ) (blocks : List ℕ) (l : Lettering) (is : l ≡ lettering_of check n blocks) where
  pub made_of : (r r' : RelTerm) (t : Machine) → r ≡ r' → IsMadeR E l no_paths r t → IsMadeR E (lettering_of check n blocks) no_paths r' t
  made_of r r' t same made =
      subst (λ (q : RelTerm). IsMadeR E (lettering_of check n blocks) no_paths q t) same (subst (λ (k : Lettering). IsMadeR E k no_paths r t) is made)

  pub stopped_of : (refuses : ℕ → Automaton → List Bool → Type 0) (limit : ℕ) (x y x' y' : RelTerm) (e : Stop) → x ≡ x' → y ≡ y'
      → StoppedTwoR refuses E l no_paths limit 0 x y e → StoppedTwoR refuses E (lettering_of check n blocks) no_paths limit 0 x' y' e
  stopped_of refuses limit x y x' y' e one two stopped =
      subst (λ (q : RelTerm). StoppedTwoR refuses E (lettering_of check n blocks) no_paths limit 0 q y' e) one
      (subst (λ (q : RelTerm). StoppedTwoR refuses E (lettering_of check n blocks) no_paths limit 0 x q e) two
      (subst (λ (k : Lettering). StoppedTwoR refuses E k no_paths limit 0 x y e) is stopped))

  pub named_of : (r r' : RelTerm) → r ≡ r' → NamesR (IsAlone blocks) r' → NamesR (IsAlone l.blocks) r
  named_of r r' same named = subst (λ (k : Lettering). NamesR (IsAlone k.blocks) r) (sym is) (subst (NamesR (IsAlone blocks)) (sym same) named)
