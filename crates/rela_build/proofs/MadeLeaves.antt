-- Automata of path terms that have no parts, which are given with a table that turns round always.
use Rattle.std.proofs.Common.{◌≡◌, ℕ, ◌∷◌, [], refl, sym, ap, ◌∙◌, subst}
use Rattle.rela_nfa.specs.Automaton.{Automaton}
use Rattle.rela_rir.specs.Meaning.{In}
use Rattle.rela_rir.specs.Places.{Scene, Places, Tells, At, Apart, LetterPlaces, PathSetPlaces, PartsApart, NoParts}
use Rattle.rela_rir.specs.Words.{WordSet}
use Rattle.rela_rir.specs.declared.term.PathTerm.{PathTerm}
use Rattle.rela_rir.specs.declared.term.PathTerm.TheVariants as P
use Rattle.rela_build.specs.Lettering.{Lettering, IsInEntry}
use Rattle.rela_build.specs.Made.{IsBuilt, IsLetterAutomaton, IsMade}
use Rattle.rela_build.specs.PathSets.{Paths, scene_of}
use Rattle.rela_build.proofs.TermMeanings.{in_class, in_one, in_pre, in_post}
use Rattle.rela_build.proofs.TermPlaces.{at_class, at_one, at_pre, at_post, apart_class, apart_one, apart_pre, apart_post}

module _ (E : Type 0) (l : Lettering) (paths : Paths) where
  abbrev m : Scene
  m = scene_of l paths

  abbrev Is : PathTerm → Automaton → Type 0
  Is t a = IsMade E l paths t a

  given : (u : PathTerm) (X : WordSet) (x : Places) (D : Tells) (a : Automaton) → In m.setting u ≡ X → At m u ≡ x → Apart m u ≡ D → IsBuilt (Unit {0}) l.blocks X x D a → Is u a
  unfolding IsMade
  given u X x D a words places apart built =
      subst (λ (Y : WordSet). IsBuilt E l.blocks Y (At m u) (Apart m u) a) (sym words)
      (subst (λ (y : Places). IsBuilt E l.blocks X y (Apart m u) a) (sym places)
      (subst (λ (F : Tells). IsBuilt E l.blocks X x F a) (sym apart) (record {
        automaton = built.automaton;
        letters = built.letters;
        language = built.language;
        table = built.table;
        placed = built.placed;
        exact = λ e. built.exact tt;
      })))

  pub class : (k : ℕ) (a : Automaton) → IsLetterAutomaton l.blocks (IsInEntry l k) a → Is (P.Class k) a
  unfolding IsLetterAutomaton
  class k a built = given (P.Class k) _ _ _ a (in_class m.setting k) (at_class m k) (apart_class m k) built

  one_word : (s : ℕ) (a : Automaton) → IsLetterAutomaton l.blocks (λ t. t ≡ s) a → IsBuilt (Unit {0}) l.blocks (λ w. w ≡ s ∷ []) (LetterPlaces (λ t. t ≡ s)) (PartsApart NoParts NoParts) a
  unfolding IsLetterAutomaton
  one_word s a built = record {
    automaton = built.automaton;
    letters = built.letters;
    language = λ w. (
      λ h. let found = (built.language w).0 h in found.1 ∙ ap (λ (t : ℕ). t ∷ []) found.2,
      λ e. (built.language w).1 (s, e, refl),
    );
    table = built.table;
    placed = built.placed;
    exact = built.exact;
  }

  pub one : (s : ℕ) (a : Automaton) → IsLetterAutomaton l.blocks (λ r. r ≡ s) a → Is (P.One s) a
  one s a built = given (P.One s) _ _ _ a (in_one m.setting s) (at_one m s) (apart_one m s) (one_word s a built)

  pub pre : (a : Automaton) → IsBuilt (Unit {0}) l.blocks paths.pre (PathSetPlaces paths.at_pre) (PartsApart NoParts NoParts) a → Is P.Pre a
  pre a built = given P.Pre _ _ _ a (in_pre m.setting) (at_pre m) (apart_pre m) built

  pub post : (a : Automaton) → IsBuilt (Unit {0}) l.blocks paths.post (PathSetPlaces paths.at_post) (PartsApart NoParts NoParts) a → Is P.Post a
  post a built = given P.Post _ _ _ a (in_post m.setting) (at_post m) (apart_post m) built
