-- The lists of sets that listed words reach, in a table, and what leads from one to another.
use Rattle.std.specs.Prelude.{◌≡◌, ◌≢◌, ℕ, ◌<◌, ◌⊎◌, ◌↔◌, ◌||◌, Bool, IsTrue, true, false, List, [], ◌∷◌, ◌++◌, length, slice_index_or, slice_set, Some, None}
use Rattle.std.specs.HashMap.{HashMap, get}
use Rattle.std.specs.List.{All}
use Rattle.std.specs.Prelude.{nat_eq}
use Rattle.std.specs.Option.{option_map_or}
use Rattle.rela_labels.specs.Letters.{has}
use Rattle.rela_names.specs.Shortlex.{IsBefore}
use Rattle.rela_nfa.specs.Automaton.{Automaton, IsMove, Move}
use Rattle.rela_nfa.specs.Runs.{StepIn}
use Rattle.rela_build.specs.Complement.{IsOver}
use Rattle.rela_closed.specs.Sets.{AreReached, HasFinal, Leads}
use Rattle.rela_closed.specs.Words.{IsUpTo}

-- each word has the number of the sets that it reaches, that of the first is 0, and some word reaches each
pub record AreListed (automata : List Automaton) (words : List (List ℕ))
    (table : List (List (List ℕ))) (numbers : List ℕ) : Type 0 where
  pub each : length numbers ≡ length words
  pub first : slice_index_or numbers 0 0 ≡ 0
  pub within : (i : ℕ) → i < length words → slice_index_or numbers i 0 < length table
  pub reached : (i : ℕ) → i < length words →
      AreReached automata (slice_index_or words i [])
      (slice_index_or table (slice_index_or numbers i 0) [])
  pub met : (n : ℕ) → n < length table → (i : ℕ) × (i < length words)
      × (slice_index_or numbers i 0 ≡ n)

-- the letter leads from the sets to those of the table with the number `to`
pub record LeadsTo (automata : List Automaton) (table : List (List (List ℕ)))
    (sets : List (List ℕ)) (k to : ℕ) : Type 0 where
  pub below : to < length table
  pub leads : Leads automata sets k (slice_index_or table to [])

-- the letter leads from the sets to sets of the table
abbrev pub IsFollowed : List Automaton → List (List (List ℕ)) → List (List ℕ) → ℕ → Type 0
IsFollowed automata table sets k = (to : ℕ) × LeadsTo automata table sets k to

-- it leads to sets that aren't in the table
pub record LeadsOut (automata : List Automaton) (table : List (List (List ℕ)))
    (sets : List (List ℕ)) (k : ℕ) : Type 0 where
  pub next : List (List ℕ)
  pub leads : Leads automata sets k next
  pub lacking : (j : ℕ) → j < length table → slice_index_or table j [] ≢ next

-- each of the letters leads from each of the first n of the table to sets of the table
abbrev pub AreFollowed : List Bool → List Automaton → List (List (List ℕ)) → ℕ → Type 0
AreFollowed over automata table n =
    (i k : ℕ) → i < n → has over k ≡ true → IsFollowed automata table (slice_index_or table i []) k

-- one of the letters leads from one of the table to sets that aren't in it
pub record IsLeft (over : List Bool) (automata : List Automaton)
    (table : List (List (List ℕ))) : Type 0 where
  pub from : ℕ
  pub letter : ℕ
  pub within : from < length table
  pub read : has over letter ≡ true
  pub out : LeadsOut automata table (slice_index_or table from []) letter

-- whether the n-th of the sets with each of these numbers has a final state of the automaton
pub record TellsFinals (a : Automaton) (n : ℕ) (table : List (List (List ℕ)))
    (numbers : List ℕ) (flags : List Bool) : Type 0 where
  pub each : length flags ≡ length numbers
  pub final_states : (i : ℕ) → i < length numbers → IsTrue (slice_index_or flags i false)
      ↔ HasFinal a (slice_index_or (slice_index_or table (slice_index_or numbers i 0) []) n [])

-- so for each automaton
pub record TellAllFinals (automata : List Automaton) (table : List (List (List ℕ)))
    (numbers : List ℕ) (accepted : List (List Bool)) : Type 0 where
  pub each : length accepted ≡ length automata
  pub finals : (n : ℕ) (a : Automaton) → n < length automata →
      TellsFinals (slice_index_or automata n a) n table numbers (slice_index_or accepted n [])

-- edges by the letters of the set below k, each to where its letters lead
pub record AreEdges (over : List Bool) (automata : List Automaton) (table : List (List (List ℕ)))
    (sets : List (List ℕ)) (k : ℕ) (out : List Move) : Type 0 where
  pub labelled : (q : ℕ) → ¬ StepIn out None q
  pub sound : (j to : ℕ) → StepIn out (Some j) to → (has over j ≡ true) × (to < length table)
      × Leads automata sets j (slice_index_or table to [])
  pub all : (j : ℕ) → j < k → has over j ≡ true → (to : ℕ) × StepIn out (Some j) to
  pub moves : All (IsMove (length over) (length table)) out

-- edges out of each of the first n of the table
abbrev pub AreAllEdges : List Bool → List Automaton → List (List (List ℕ)) → ℕ →
    List (List Move) → Type 0
AreAllEdges over automata table n edges =
    (i : ℕ) → i < n → AreEdges over automata table (slice_index_or table i []) (length over)
    (slice_index_or edges i [])

-- the edge's label has the letter
abbrev pub takes : ℕ → Move → Bool
takes letter move = option_map_or (λ set. has set letter) move.label false

-- the edge with this label and end is among the new ones, or the label has been joined to that of an old one
abbrev pub IsPutIn : List Bool → ℕ → List Move → List Move → Type 0
IsPutIn set to old new =
    (new ≡ old ++ record { label = Some set; to = to } ∷ [])
    ⊎ ((i : ℕ) × (joined : List Bool) × (i < length old)
    × (new ≡ slice_set old i (record { label = Some joined; to = to }))
    × ((move : Move) → (slice_index_or old i move).to ≡ to) × (length joined ≡ length set)
    × ((k : ℕ) (move : Move) → has joined k ≡ (takes k (slice_index_or old i move) || has set k)))

-- each place is that of an edge to the end
abbrev pub ArePlaced : {S : Type 0} → List Move → HashMap ℕ ℕ S → Type 0
ArePlaced moves places = (to i : ℕ) → get nat_eq places to ≡ Some i → (i < length moves)
    × ((move : Move) → (slice_index_or moves i move).to ≡ to)

-- the letter leads from the sets of number i to those that a word reaches which isn't after the one with the letter
abbrev pub IsLed : List Automaton → List (List ℕ) → List (List (List ℕ)) → ℕ → ℕ → Type 0
IsLed automata words table i letter = (to : ℕ) × (to < length words)
    × Leads automata (slice_index_or table i []) letter (slice_index_or table to [])
    × IsUpTo (slice_index_or words to []) (slice_index_or words i [] ++ letter ∷ [])

-- the search so far: the words in ascending order and the sets that they reach. Those before number p have been left
-- by each letter, and that one by the letters below k; each leads to a word that isn't after the one with the letter.
pub record IsSearched (over : List Bool) (automata : List Automaton) (words : List (List ℕ))
    (table : List (List (List ℕ))) (p k : ℕ) : Type 0 where
  pub each : length table ≡ length words
  pub some : 0 < length words
  pub first : slice_index_or words 0 [] ≡ []
  pub read : All (IsOver over) words
  pub reached : (i : ℕ) → i < length words →
      AreReached automata (slice_index_or words i []) (slice_index_or table i [])
  pub ascending : (i j : ℕ) → i < j → j < length words →
      IsBefore (slice_index_or words i []) (slice_index_or words j [])
  pub ahead : p < length words → (i : ℕ) → i < length words →
      IsBefore (slice_index_or words i []) (slice_index_or words p [] ++ k ∷ [])
  pub out : (i j : ℕ) → i < length words → (i < p) ⊎ ((i ≡ p) × (j < k)) → has over j ≡ true →
      IsLed automata words table i j
