-- Automata of single symbols and of no paths, from what their calls tell.
use Rattle.std.proofs.Common.{◌≡◌, ℕ, ◌+◌, ◌<◌, ◌≤◌, ◌↔◌, Bool, List, [], ◌∷◌, length, map, take, refl, sym, ap, ◌∙◌, subst, arith}
use Rattle.rela_labels.specs.Partition.{block_count}
use Rattle.rela_nfa.specs.Automaton.{Automaton, IsAutomaton, states}
use Rattle.rela_nfa.specs.Languages.{IsLetterOf}
use Rattle.rela_nfa.specs.Runs.{Reach, Accepts}
use Rattle.rela_rir.specs.Built.{OneState, LetterStates}
use Rattle.rela_rir.specs.Places.{Start, Begin, LetterPlaces, PathSetPlaces, PartsApart, NoParts}
use Rattle.rela_rir.specs.Tables.{IsExact}
use Rattle.rela_build.specs.Made.{Leads, IsBuilt, IsLetterAutomaton}
use Rattle.rela_build.specs.PathSets.{no_paths}
use Rattle.rela_build.specs.Reading.{read_by, HoldsJust}
use Rattle.rela_build.proofs.LetterTables.{one_table, one_exact, only_start, start_alone, at_no_letter, only_begin, begin_alone, at_no_path, start_and_end, letter_table, letter_exact}
use Rattle.rela_build.proofs.LetterWords.{state_reached}
use Rattle.rela_build.proofs.MadeTerms.{well}
use Rattle.rela_build.proofs.ReadWords.{read_as, no_letters, OneOf, letter, own}

same : {A : Type 0} → A ↔ A
same = ((λ a. a), λ a. a)

module _ (blocks : List ℕ) where
  abbrev f : ℕ → ℕ
  f = read_by blocks

  below : (a : Automaton) (n : ℕ) → IsAutomaton a → states a ≡ n → (q : ℕ) (w : List ℕ) → Leads blocks a q w → q < n
  below a n ok count q w h = let less = state_reached a ok q (map f w) h in omega (arith, less, count)

  at_start : (a : Automaton) → ((v : List ℕ) → Reach a 0 v ↔ (v ≡ [])) → (w : List ℕ) → Leads blocks a 0 w ↔ (w ≡ [])
  at_start a start = read_as f (Reach a 0) (λ w. w ≡ []) (λ w. w ≡ []) start (no_letters f)

  -- ---- one symbol

  letters : (P : ℕ → Type 0) (a : Automaton) (n : ℕ) → IsAutomaton a → n ≡ block_count blocks → a.letters ≡ n → states a ≡ 2
      → ((v : List ℕ) → Reach a 0 v ↔ (v ≡ [])) → ((w : List ℕ) → Leads blocks a 1 w ↔ OneOf f P w) → ((w : List ℕ) → Accepts a (map f w) ↔ OneOf f P w)
      → IsLetterAutomaton blocks P a
  unfolding IsLetterAutomaton
  letters P a n ok size of count start end language =
      let are : LetterStates P (Leads blocks a) = record { begin = at_start a start; end = end; count = below a 2 ok count } in
      record {
        automaton = ok;
        letters = of ∙ size;
        language = language;
        table = start_and_end;
        placed = letter_table P (Leads blocks a) are;
        exact = λ e. subst (λ (k : ℕ). IsExact k (Leads blocks a) (LetterPlaces P) start_and_end) (sym count) (letter_exact P (Leads blocks a) are);
      }

  pub of_class : (P : ℕ → Type 0) (set : List Bool) (u w : Automaton) (n : ℕ) → w ≡ u → IsAutomaton w → HoldsJust blocks P set → n ≡ block_count blocks
      → u.letters ≡ n → states u ≡ 2 → ((v : List ℕ) → Reach u 0 v ↔ (v ≡ [])) → ((v : List ℕ) → Reach u 1 v ↔ IsLetterOf set v)
      → ((v : List ℕ) → Accepts u v ↔ IsLetterOf set v) → IsLetterAutomaton blocks P w
  of_class P set u w n same ok just size of count start end language =
      let reads = letter f set P just.holds in
      well (IsLetterAutomaton blocks P) u w same ok
      (λ ok. letters P u n ok size of count start (read_as f (Reach u 1) (IsLetterOf set) (OneOf f P) end reads) (read_as f (Accepts u) (IsLetterOf set) (OneOf f P) language reads))

  -- the word of the letter k is the word of the symbol s alone
  one_word : (k s : ℕ) → k ≡ f s → ((t : ℕ) → f t ≡ k → t ≡ s) → (w : List ℕ) → (map f w ≡ k ∷ []) ↔ OneOf f (λ t. t ≡ s) w
  one_word k s is alone w =
      let reads = own f k s is alone w in
      (λ h. (s, reads.0 h, refl), λ (t, e, at). reads.1 (e ∙ ap (λ (r : ℕ). r ∷ []) at))

  pub of_symbol : (k s : ℕ) (u w : Automaton) (n : ℕ) → w ≡ u → IsAutomaton w → k ≡ f s → ((t : ℕ) → f t ≡ k → t ≡ s) → n ≡ block_count blocks
      → u.letters ≡ n → states u ≡ length (k ∷ []) + 1 → ((q : ℕ) (v : List ℕ) → Reach u q v ↔ ((q ≤ length (k ∷ [])) × (v ≡ take q (k ∷ []))))
      → ((v : List ℕ) → Accepts u v ↔ (v ≡ k ∷ [])) → IsLetterAutomaton blocks (λ t. t ≡ s) w
  of_symbol k s u w n same ok is alone size of count reached language =
      let reads = one_word k s is alone in
      well (IsLetterAutomaton blocks (λ t. t ≡ s)) u w same ok (λ ok.
      letters (λ t. t ≡ s) u n ok size of count
      (λ v. (λ h. ((reached 0 v).0 h).1, λ e. (reached 0 v).1 (omega arith, e)))
      (λ v. (λ h. (reads v).0 ((reached 1 (map f v)).0 h).1, λ h. (reached 1 (map f v)).1 (omega arith, (reads v).1 h)))
      (λ v. (λ h. (reads v).0 ((language (map f v)).0 h), λ h. (language (map f v)).1 ((reads v).1 h))))

  -- ---- no symbol

  pub of_no_class : (P : ℕ → Type 0) (u w : Automaton) (n : ℕ) → w ≡ u → IsAutomaton w → ((s : ℕ) → ¬ P s) → n ≡ block_count blocks
      → u.letters ≡ n → states u ≡ 1 → ((v : List ℕ) → Reach u 0 v ↔ (v ≡ [])) → ((v : List ℕ) → ¬ Accepts u v) → IsLetterAutomaton blocks P w
  unfolding IsLetterAutomaton
  of_no_class P u w n is ok never size of count start language =
      well (IsLetterAutomaton blocks P) u w is ok (λ ok.
      let one : OneState (Leads blocks u) = record { begin = at_start u start; count = below u 1 ok count } in
      record {
        automaton = ok;
        letters = of ∙ size;
        language = λ w. (λ h. absurd (language (map f w) h), λ one. absurd (never one.0 one.2));
        table = only_start;
        placed = one_table (Leads blocks u) one (LetterPlaces P) only_start Start refl start_alone (λ w. same) (at_no_letter P never);
        exact = λ e. subst (λ (k : ℕ). IsExact k (Leads blocks u) (LetterPlaces P) only_start) (sym count)
            (one_exact (Leads blocks u) one (LetterPlaces P) only_start Start refl start_alone (λ w. same) (at_no_letter P never));
      })

  -- ---- no path

  pub of_no_paths : (u w : Automaton) (n : ℕ) → w ≡ u → IsAutomaton w → n ≡ block_count blocks → u.letters ≡ n → states u ≡ 1
      → ((v : List ℕ) → Reach u 0 v ↔ (v ≡ [])) → ((v : List ℕ) → ¬ Accepts u v) → IsBuilt (Unit {0}) blocks no_paths.pre (PathSetPlaces no_paths.at_pre) (PartsApart NoParts NoParts) w
  of_no_paths u w n is ok size of count start language =
      well (IsBuilt (Unit {0}) blocks no_paths.pre (PathSetPlaces no_paths.at_pre) (PartsApart NoParts NoParts)) u w is ok (λ ok.
      let one : OneState (Leads blocks u) = record { begin = at_start u start; count = below u 1 ok count } in
      record {
        automaton = ok;
        letters = of ∙ size;
        language = λ w. (language (map f w), λ h. absurd h);
        table = only_begin;
        placed = one_table (Leads blocks u) one (PathSetPlaces no_paths.at_pre) only_begin Begin refl begin_alone (λ w. same) at_no_path;
        exact = λ e. subst (λ (k : ℕ). IsExact k (Leads blocks u) (PathSetPlaces no_paths.at_pre) only_begin) (sym count)
            (one_exact (Leads blocks u) one (PathSetPlaces no_paths.at_pre) only_begin Begin refl begin_alone (λ w. same) at_no_path);
      })
