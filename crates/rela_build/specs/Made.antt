-- What it means that an automaton is that of a path term, and a transducer that of a relation term.
use Rattle.std.specs.Prelude.{◌≡◌, ℕ, ◌↔◌, Option, List, [], ◌∷◌, map}
use Rattle.rela_labels.specs.Partition.{block_count}
use Rattle.rela_nfa.specs.Automaton.{Automaton, IsAutomaton, states}
use Rattle.rela_nfa.specs.Runs.{Reach, Accepts}
use Rattle.rela_rir.specs.Meaning.{In, InR}
use Rattle.rela_rir.specs.Places.{Place, At, AtR, Apart, ApartR, LetterPlaces, PartsApart, NoParts}
use Rattle.rela_rir.specs.declared.term.PathTerm.{PathTerm}
use Rattle.rela_rir.specs.declared.term.RelTerm.{RelTerm}
use Rattle.rela_trans.specs.Machine.{Machine, IsMachine, machine_states}
use Rattle.rela_trans.specs.Runs.{ReachR, Relates}
use Rattle.rela_build.specs.Lettering.{Lettering}
use Rattle.rela_build.specs.PathSets.{Paths, scene_of}
use Rattle.rela_build.specs.Reading.{read_by}
use Rattle.rela_rir.specs.Tables.{IsTable, IsExact, OnPairs}

-- the word of symbols, each read as its letter, leads to the state
abbrev pub Leads : List ℕ → Automaton → ℕ → List ℕ → Type 0
Leads blocks a q w = Reach a q (map (read_by blocks) w)

-- the pair of words of symbols leads to the state
abbrev pub LeadsR : List ℕ → Machine → ℕ → List ℕ → List ℕ → Type 0
LeadsR blocks t q u v = ReachR (read_by blocks) t q u v

-- An automaton whose letters are the blocks: the words of symbols that it accepts are those of the set, and its table
-- is one of these places. Where `exactly` holds the table turns round.
pub record IsBuilt (exactly : Type 0) (blocks : List ℕ) (words : List ℕ → Type 0)
    (at : Place → List ℕ → Type 0) (apart : Place → Place → Type 0) (a : Automaton) : Type 0 where
  pub automaton : IsAutomaton a
  pub letters : a.letters ≡ block_count blocks
  pub language : (w : List ℕ) → Accepts a (map (read_by blocks) w) ↔ words w
  pub table : Place → Option ℕ
  pub placed : IsTable (Leads blocks a) at apart table
  pub exact : exactly → IsExact (states a) (Leads blocks a) at table

-- A transducer whose letters are the blocks, likewise for pairs of words.
pub record IsBuiltR (exactly : Type 0) (blocks : List ℕ) (pairs : List ℕ → List ℕ → Type 0)
    (at : Place → List ℕ → List ℕ → Type 0) (apart : Place → Place → Type 0)
    (t : Machine) : Type 0 where
  pub machine : IsMachine t
  pub letters : t.letters ≡ block_count blocks
  pub relation : (u v : List ℕ) → Relates (read_by blocks) t u v ↔ pairs u v
  pub table : Place → Option ℕ
  pub placed : IsTable (OnPairs (LeadsR blocks t)) (OnPairs at) apart table
  pub exact : exactly → IsExact (machine_states t) (OnPairs (LeadsR blocks t)) (OnPairs at) table

-- the automaton is that of the path term, over these letters, where the path sets are these
unfoldable pub IsMade : Type 0 → Lettering → Paths → PathTerm → Automaton → Type 0
IsMade exactly l paths x a =
    IsBuilt exactly l.blocks (In (scene_of l paths).setting x) (At (scene_of l paths) x)
    (Apart (scene_of l paths) x) a

-- the transducer is that of the relation term, likewise
unfoldable pub IsMadeR : Type 0 → Lettering → Paths → RelTerm → Machine → Type 0
IsMadeR exactly l paths r t =
    IsBuiltR exactly l.blocks (InR (scene_of l paths).setting r) (AtR (scene_of l paths) r)
    (ApartR (scene_of l paths) r) t

-- the automaton is that of the words of one symbol with P
unfoldable pub IsLetterAutomaton : List ℕ → (ℕ → Type 0) → Automaton → Type 0
IsLetterAutomaton blocks P a =
    IsBuilt (Unit {0}) blocks (λ w. (s : ℕ) × (w ≡ s ∷ [])
    × P s) (LetterPlaces P) (PartsApart NoParts NoParts) a
