-- What the words of a row's two automata tell of its check.
use Rattle.std.proofs.Common.{ℕ, ◌↔◌, Bool, true, false, List, map, inl, inr, sym, subst}
use Rattle.std.specs.Prelude.{Contains}
use Rattle.rela_blocks.specs.Scenes.{after_image, before_image, lettering_of}
use Rattle.rela_build.specs.Lettering.{Lettering}
use Rattle.rela_build.specs.Made.{IsMade}
use Rattle.rela_build.specs.PathSets.{Paths, scene_of}
use Rattle.rela_build.specs.Reading.{read_by}
use Rattle.rela_nfa.specs.Automaton.{Automaton}
use Rattle.rela_nfa.specs.Runs.{Accepts}
use Rattle.rela_rir.specs.Meaning.{In}
use Rattle.rela_rir.specs.declared.term.PathTerm.{PathTerm}
use Rattle.rela_translate.specs.Checked.{Checked}
use Rattle.rela_translate.specs.Verdict.{AfterImage, AreMet, BeforeImage, Meets, Offends}
use Rattle.rela_cert.specs.Letters.{letter_words}
use Rattle.rela_cert.specs.Rows.{SomeOffends}
use Rattle.rela_cert.proofs.MappedWords.{mapped_back}
use Rattle.rela_cert.proofs.TermsMean.{ImagesMean}

module _ (E : Type 0) (check : Checked) (n : ℕ) (paths : Paths) (means : ImagesMean check n paths) (blocks : List ℕ) where
  abbrev l : Lettering
  l = lettering_of check n blocks

  abbrev f : ℕ → ℕ
  f = read_by blocks

  words_of_made : (x : PathTerm) (a : Automaton) → IsMade E l paths x a → (w : List ℕ) → Accepts a (map f w) ↔ In (scene_of l paths).setting x w
  unfolding IsMade
  words_of_made x a made = made.language

  module _ (a b : Automaton) (before : IsMade E l paths (before_image check n) a) (after : IsMade E l paths (after_image check n) b) where
    of_before : (w : List ℕ) → Accepts a (map f w) ↔ BeforeImage check n paths.pre w
    of_before w =
        let one = words_of_made (before_image check n) a before w in
        let two = means.before w in
        (λ accepted. two.0 (one.0 accepted), λ is. one.1 (two.1 is))

    of_after : (w : List ℕ) → Accepts b (map f w) ↔ AfterImage check n paths.post w
    of_after w =
        let one = words_of_made (after_image check n) b after w in
        let two = means.after w in
        (λ accepted. two.0 (one.0 accepted), λ is. one.1 (two.1 is))

    met_by : (at_most : Bool) → AreMet at_most (Accepts a) (Accepts b) → AreMet at_most (BeforeImage check n paths.pre) (AfterImage check n paths.post)
    met_by false met = λ w. (
      λ is. (of_after w).0 ((met (map f w)).0 ((of_before w).1 is)),
      λ is. (of_before w).0 ((met (map f w)).1 ((of_after w).1 is)),
    )
    met_by true met = λ w is. (of_before w).0 (met (map f w) ((of_after w).1 is))

    pub meets : AreMet check.at_most (Accepts a) (Accepts b) → Meets check n paths.pre paths.post
    meets met = met_by check.at_most met

    pub offends_by : (at_most : Bool) (w : List ℕ) → Offends at_most (Accepts a) (Accepts b) (map f w)
        → Offends at_most (BeforeImage check n paths.pre) (AfterImage check n paths.post) w
    offends_by false w (inl (one, other)) = inl ((of_before w).0 one, λ is. other ((of_after w).1 is))
    offends_by false w (inr (other, one)) = inr (λ is. other ((of_before w).1 is), (of_after w).0 one)
    offends_by true w (one, other) = ((of_after w).0 one, λ is. other ((of_before w).1 is))

    pub some_offends : (words : List (List ℕ)) (v : List ℕ) → Contains (letter_words blocks words) v → Offends check.at_most (Accepts a) (Accepts b) v
        → SomeOffends check n paths words
    some_offends words v listed offends =
        let found = mapped_back (map f) words v listed in
        (found.0, found.1, offends_by check.at_most found.0 (subst (Offends check.at_most (Accepts a) (Accepts b)) (sym found.2) offends))
