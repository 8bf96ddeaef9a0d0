-- What an automaton with one letter on each edge and a transducer that reads its words do together.
use Rattle.std.specs.Prelude.{◌≡◌, ℕ, ◌⊎◌, ◌↔◌, List, [], ◌∷◌, Option, None, Some, slice_get}
use Rattle.std.specs.Option.{option_to_list}
use Rattle.rela_pairs.specs.declared.pair.Pair.{Pair}
use Rattle.rela_nfa.specs.Meeting.{pair_of}
use Rattle.rela_letter_nfa.specs.LetterAutomaton.{LetterAutomaton, IsFinal}
use Rattle.rela_letter_nfa.specs.Runs.{HasStep}
use Rattle.rela_trans.specs.Machine.{Machine, IsFinal as IsFinalMachine}
use Rattle.rela_trans.specs.Runs.{HasStep as HasMove}
use Rattle.rela_letter_image.specs.Needs.{Told, IsLive}

-- the automaton goes silently while the transducer stays
abbrev pub GoesSilently : LetterAutomaton → Pair → Pair → Type 0
GoesSilently a x y = HasStep a x.left None y.left × (x.right ≡ y.right)

-- the transducer goes alone, reading nothing and writing the letter, if there is one
abbrev pub GoesAlone : (ℕ → ℕ) → Machine → Pair → Option ℕ → Pair → Type 0
GoesAlone read t x letter y = (x.left ≡ y.left) × HasMove read t x.right [] (option_to_list letter) y.right

-- the automaton goes by a letter that the transducer reads while it writes the letter, if there is one
abbrev pub GoTogether : (ℕ → ℕ) → LetterAutomaton → Machine → Pair → Option ℕ → Pair → Type 0
GoTogether read a t x letter y = (k : ℕ) × HasStep a x.left (Some k) y.left
    × HasMove read t x.right (k ∷ []) (option_to_list letter) y.right

-- the two go from one pair of states to another, and write the letter, if there is one
abbrev pub Goes : (ℕ → ℕ) → LetterAutomaton → Machine → Pair → Option ℕ → Pair → Type 0
Goes read a t x letter y = ((letter ≡ None) × GoesSilently a x y)
    ⊎ (GoesAlone read t x letter y ⊎ GoTogether read a t x letter y)

-- the states of r are these pairs, from each of which it goes as the two do to live pairs, and writes what they write
pub record IsProduct (read : ℕ → ℕ) (a : LetterAutomaton) (t : Machine) (told : Told)
    (pairs : List Pair) (r : LetterAutomaton) : Type 0 where
  pub starts : slice_get pairs r.start ≡ Some (pair_of a.start t.start)
  pub final : (p : ℕ) (x : Pair) → slice_get pairs p ≡ Some x →
      IsFinal r p ↔ (IsFinal a x.left × IsFinalMachine t x.right)
  pub only : (p q : ℕ) (x : Pair) (letter : Option ℕ) → slice_get pairs p ≡ Some x →
      HasStep r p letter q → (y : Pair) × (slice_get pairs q ≡ Some y) × Goes read a t x letter y
  pub all : (p : ℕ) (x y : Pair) (letter : Option ℕ) → slice_get pairs p ≡ Some x →
      Goes read a t x letter y → IsLive told y →
      (q : ℕ) × (slice_get pairs q ≡ Some y) × HasStep r p letter q
