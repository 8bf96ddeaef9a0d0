-- Words of symbols, each of which is the number of its block.
use Rattle.std.proofs.Common.{◌≡◌, ℕ, ◌<◌, ◌↔◌, List, [], ◌∷◌, length, refl, sym, subst}
use Rattle.std.specs.List.{All}
use Rattle.std.proofs.lemmas.List.Elements.{All-head, All-tail}
use Rattle.rela_labels.specs.Partition.{block_of}
use Rattle.rela_letter_nfa.specs.LetterAutomaton.{LetterAutomaton}
use Rattle.rela_letter_nfa.specs.Runs.{Accepts as AcceptsLetters}
use Rattle.rela_nfa.specs.Automaton.{Automaton}
use Rattle.rela_nfa.specs.Relabelling.{blocks_of}
use Rattle.rela_nfa.specs.Runs.{Accepts}
use Rattle.rela_letter_paths.specs.Finest.{IsFinest}
use Rattle.rela_letter_paths.specs.Letters.{HasLettersBelow}
use Rattle.rela_letter_paths.proofs.WithinSymbols.{words_below}

module _ (finest : List ℕ) (is : IsFinest finest) where
  own_blocks : (w : List ℕ) → All (λ s. s < length finest) w → blocks_of finest w ≡ w
  own_blocks [] within = refl
  own_blocks (s ∷ w) within =
      let first : block_of finest s ≡ s = is s (All-head (λ s. s < length finest) s w within) in
      let later : blocks_of finest w ≡ w = own_blocks w (All-tail (λ s. s < length finest) s w within) in
      cc

  module _ (made : LetterAutomaton) (nfa : Automaton) (P : List ℕ → Type 0) (same : (w : List ℕ) → AcceptsLetters made w ↔ Accepts nfa w) (below : HasLettersBelow (length finest) made)
      (language : (w : List ℕ) → All (λ s. s < length finest) w → Accepts nfa (blocks_of finest w) ↔ P w) (within : (w : List ℕ) → P w → All (λ s. s < length finest) w) where
    pub words_of_symbols : (w : List ℕ) → AcceptsLetters made w ↔ P w
    words_of_symbols w = (
      λ accepts.
          let symbols = words_below (length finest) made below w accepts in
          (language w symbols).0 (subst (Accepts nfa) (sym (own_blocks w symbols)) ((same w).0 accepts)),
      λ holds.
          let symbols = within w holds in
          (same w).1 (subst (Accepts nfa) (own_blocks w symbols) ((language w symbols).1 holds)),
    )
