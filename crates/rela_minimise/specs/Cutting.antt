-- Classes of states that are split by one column after the other.
use Rattle.std.specs.Prelude.{◌≡◌, ◌≢◌, ℕ, ◌+◌, ◌<◌, ◌≤◌, ◌⊎◌, List, [], length, Option, None, Some, slice_index, slice_index_or}
use Rattle.std.specs.List.{AllPairs}
use Rattle.rela_subset.specs.Deterministic.{Deterministic, IsDeterministic, states}
use Rattle.rela_minimise.specs.Classes.{AcceptSame, finality}
use Rattle.rela_minimise.specs.Refining.{AreColumns}
use Rattle.rela_minimise.specs.declared.class_pairs.ClassPair.{ClassPair}

-- what a read past the end of pairs gives
abbrev pub no_pair : ClassPair
no_pair = record { class = 0; onto = 0 }

-- no pair stands twice
abbrev pub AreApart : List ClassPair → Type 0
AreApart pairs = AllPairs ◌≢◌ pairs

-- the number of each state's class, where each class has a state
pub record AreCounted (n count : ℕ) (classes : List ℕ) : Type 0 where
  pub each : length classes ≡ n
  pub counted : (q : ℕ) → q < n → slice_index classes q < count
  pub met : (c : ℕ) → c < count → (q : ℕ) × (q < n) × (slice_index classes q ≡ c)

-- from the states of one class the column leads to states of one class
abbrev pub LeadTogether : ℕ → List ℕ → List ℕ → Type 0
LeadTogether n classes column = (p q : ℕ) → p < n → q < n → slice_index classes p
    ≡ slice_index classes q → slice_index classes (slice_index column p)
    ≡ slice_index classes (slice_index column q)

-- the classes have been split by the class to which the column leads; where none is new, all are as they were
pub record IsCut (n : ℕ) (column : List ℕ) (count : ℕ) (classes : List ℕ) (count' : ℕ)
    (classes' : List ℕ) : Type 0 where
  pub counted : AreCounted n count' classes'
  pub grown : count ≤ count'
  pub within : (p q : ℕ) → p < n → q < n → slice_index classes' p ≡ slice_index classes' q →
      slice_index classes p ≡ slice_index classes q
  pub together : (p q : ℕ) → p < n → q < n → slice_index classes p ≡ slice_index classes q →
      slice_index classes (slice_index column p) ≡ slice_index classes (slice_index column q) →
      slice_index classes' p ≡ slice_index classes' q
  pub same : count' ≡ count → ((q : ℕ) → q < n → slice_index classes' q ≡ slice_index classes q)
      × LeadTogether n classes column

-- the part to which a state goes: its class, where its column leads as that of the first state of the class did, and
-- else a new class for the pair
abbrev pub GoesTo : List (Option ℕ) → List ClassPair → ℕ → ℕ → ℕ → Type 0
GoesTo firsts pairs class onto part =
    ((slice_index_or firsts class None ≡ Some onto) × (part ≡ class))
    ⊎ ((first : ℕ) × (slice_index_or firsts class None ≡ Some first) × (first ≢ onto)
    × ((j : ℕ) × (j < length pairs) × (slice_index_or pairs j no_pair
    ≡ record { class = class; onto = onto }) × (part ≡ length firsts + j)))

-- what was noted stays, and what is new is by a state of the class that goes to the part
pub record IsParted (class part : ℕ) (firsts : List (Option ℕ)) (pairs : List ClassPair)
    (firsts' : List (Option ℕ)) (pairs' : List ClassPair) : Type 0 where
  pub each : length firsts' ≡ length firsts
  pub firsts_kept : (c f : ℕ) → slice_index_or firsts c None ≡ Some f →
      slice_index_or firsts' c None ≡ Some f
  pub firsts_new : (c : ℕ) → (slice_index_or firsts' c None ≡ slice_index_or firsts c None)
      ⊎ (part ≡ c)
  pub longer : length pairs ≤ length pairs'
  pub pairs_kept : (j : ℕ) → j < length pairs → slice_index_or pairs' j no_pair
      ≡ slice_index_or pairs j no_pair
  pub pairs_new : (j : ℕ) → j < length pairs' → (j < length pairs) ⊎ (part ≡ length firsts' + j)

-- the first i states have gone to their parts
pub record IsCutting (column : List ℕ) (count : ℕ) (classes : List ℕ) (i : ℕ)
    (firsts : List (Option ℕ)) (pairs : List ClassPair) (parts : List ℕ) : Type 0 where
  pub each : length parts ≡ i
  pub opened : length firsts ≡ count
  pub goes : (q : ℕ) → q < i → GoesTo firsts pairs (slice_index classes q)
      (slice_index classes (slice_index column q)) (slice_index parts q)
  pub first : (c : ℕ) → (slice_index_or firsts c None ≡ None)
      ⊎ ((q : ℕ) × (q < i) × (slice_index parts q ≡ c))
  pub used : (j : ℕ) → j < length pairs → (q : ℕ) × (q < i) × (slice_index parts q ≡ count + j)

-- states that accept the same words are in one class, and the states of one class are all final or all not
pub record AreCoarse (d : Deterministic) (count : ℕ) (classes : List ℕ) : Type 0 where
  pub counted : AreCounted (states d) count classes
  pub accepting : (p q : ℕ) → p < states d → q < states d → AcceptSame d p q →
      slice_index classes p ≡ slice_index classes q
  pub final : (p q : ℕ) → p < states d → q < states d → slice_index classes p
      ≡ slice_index classes q → finality d p ≡ finality d q

-- the classes have been split by the first i columns in turn; where none is new, all are as they were
pub record IsPassed (n : ℕ) (columns : List (List ℕ)) (i count : ℕ) (classes : List ℕ) (count' : ℕ)
    (classes' : List ℕ) : Type 0 where
  pub counted : AreCounted n count' classes'
  pub grown : count ≤ count'
  pub coarse : (d : Deterministic) → n ≡ states d → IsDeterministic d → AreColumns d columns →
      AreCoarse d count classes → AreCoarse d count' classes'
  pub same : count' ≡ count → ((q : ℕ) → q < n → slice_index classes' q ≡ slice_index classes q)
      × ((j : ℕ) → j < i → LeadTogether n classes (slice_index_or columns j []))
