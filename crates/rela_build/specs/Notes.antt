-- What is noted of the complements in a term, and why a term isn't built.
use Rattle.std.specs.Prelude.{◌≡◌, ℕ, ◌+◌, ◌<◌, ◌⊎◌, Bool, List, [], ◌∷◌, ◌++◌, length}
use Rattle.rela_nfa.specs.Automaton.{Automaton}
use Rattle.rela_rir.specs.Complements.{complemented_parts, complemented_parts_r}
use Rattle.rela_rir.specs.Limit.{ReachedInside, ReachedInsideR}
use Rattle.rela_rir.specs.declared.term.PathTerm.{PathTerm}
use Rattle.rela_rir.specs.declared.term.RelTerm.{RelTerm}
use Rattle.rela_build.specs.Lettering.{Lettering}
use Rattle.rela_build.specs.PathSets.{Paths, scene_of}
use Rattle.rela_build.specs.Reading.{HoldsJust}
use Rattle.rela_build.specs.Made.{IsMade}
use Rattle.rela_build.specs.declared.stop.Stop.{Stop}
use Rattle.rela_build.specs.declared.stop.Stop.TheVariants.{Limit, Refused, Memory}

-- the automaton is that of the part, and the letters are those of the path symbols
pub record IsPart (exactly : Type 0) (l : Lettering) (paths : Paths) (part : PathTerm)
    (a : Automaton) (over : List Bool) : Type 0 where
  pub made : IsMade exactly l paths part a
  pub of_path : HoldsJust l.blocks (λ s. s < l.path_symbols) over

-- What a way to make complements says of the complement with a number, of the automaton of a part over the letters of
-- the path symbols: of a note that it made, and where it refused.
module _ {N : Type 0} (answers : ℕ → Automaton → List Bool → N → Type 0) (exactly : Type 0)
    (l : Lettering) (paths : Paths) where
  -- the note is one of the complement of the part
  abbrev pub IsNoted : ℕ → PathTerm → N → Type 0
  IsNoted number part note = (a : Automaton) × (over : List Bool)
      × IsPart exactly l paths part a over × answers number a over note

  -- one note for each part, numbered on from the first
  abbrev pub AreNoted : ℕ → List PathTerm → List N → Type 0
  AreNoted first [] [] = Unit {0}
  AreNoted first (part ∷ parts) (note ∷ notes) = IsNoted first part note
      × AreNoted (first + 1) parts notes
  AreNoted first [] (note ∷ notes) = ⊥
  AreNoted first (part ∷ parts) [] = ⊥

  -- new is old, and then a note for each part
  abbrev pub Notes : List PathTerm → List N → List N → Type 0
  Notes parts old new = (more : List N) × (new ≡ old ++ more) × AreNoted (length old) parts more

  -- new is old, and then a note for each complement in the path term
  unfoldable pub Noted : PathTerm → List N → List N → Type 0
  Noted x old new = Notes (complemented_parts x) old new

  -- new is old, and then a note for each complement in the relation term
  unfoldable pub NotedR : RelTerm → List N → List N → Type 0
  NotedR r old new = Notes (complemented_parts_r r) old new

  -- the same of two terms, one after the other
  unfoldable pub NotedTwo : PathTerm → PathTerm → List N → List N → Type 0
  NotedTwo x y old new = Notes (complemented_parts x ++ complemented_parts y) old new

  unfoldable pub NotedTwoR : RelTerm → RelTerm → List N → List N → Type 0
  NotedTwoR r s old new = Notes (complemented_parts_r r ++ complemented_parts_r s) old new

-- the number is that of one of the parts, counted on from the first, and its complement was refused
pub record IsRefused (refuses : ℕ → Automaton → List Bool → Type 0) (exactly : Type 0)
    (l : Lettering) (paths : Paths) (first : ℕ) (parts : List PathTerm) (number : ℕ) : Type 0 where
  pub before : List PathTerm
  pub part : PathTerm
  pub later : List PathTerm
  pub whole : parts ≡ before ++ part ∷ later
  pub numbered : number ≡ first + length before
  pub automaton : Automaton
  pub over : List Bool
  pub is : IsPart exactly l paths part automaton over
  pub refused : refuses number automaton over

-- why a term wasn't built: it passed the limit inside, or a complement was refused, or memory was wanting
abbrev pub Explains : Type 0 → (ℕ → Type 0) → Stop → Type 0
Explains passed refused Limit = passed
Explains passed refused (Refused number) = refused number
Explains passed refused Memory = Unit {0}

-- Why a term wasn't built: `Limit` only where some counted term in it has more reached places than the limit, which
-- are pairwise apart, and `Refused` of the complement with a number, where those in the term are numbered on from the
-- first.
module _ (refuses : ℕ → Automaton → List Bool → Type 0) (exactly : Type 0) (l : Lettering)
    (paths : Paths) (limit first : ℕ) where
  abbrev pub Refuses : List PathTerm → ℕ → Type 0
  Refuses parts number = IsRefused refuses exactly l paths first parts number

  unfoldable pub Stopped : PathTerm → Stop → Type 0
  Stopped x e = Explains (ReachedInside (scene_of l paths) (limit + 1) x)
      (Refuses (complemented_parts x)) e

  unfoldable pub StoppedR : RelTerm → Stop → Type 0
  StoppedR r e = Explains (ReachedInsideR (scene_of l paths) (limit + 1) r)
      (Refuses (complemented_parts_r r)) e

  -- the same of two terms, one after the other
  unfoldable pub StoppedTwo : PathTerm → PathTerm → Stop → Type 0
  StoppedTwo x y e =
      Explains (ReachedInside (scene_of l paths) (limit + 1) x
      ⊎ ReachedInside (scene_of l paths) (limit + 1) y)
      (Refuses (complemented_parts x ++ complemented_parts y)) e

  unfoldable pub StoppedTwoR : RelTerm → RelTerm → Stop → Type 0
  StoppedTwoR r s e =
      Explains (ReachedInsideR (scene_of l paths) (limit + 1) r
      ⊎ ReachedInsideR (scene_of l paths) (limit + 1) s)
      (Refuses (complemented_parts_r r ++ complemented_parts_r s)) e

-- new is old and a note of the complement of the automaton over the letters of the path symbols, whose number is how many
-- notes were there before
abbrev pub NotesOne : {N : Type 0} → (ℕ → Automaton → List Bool → N → Type 0) → Lettering →
    Automaton → List N → List N → Type 0
NotesOne {N} answers l a old new =
    (note : N) × (new ≡ old ++ note ∷ [])
    × ((over : List Bool) × HoldsJust l.blocks (λ s. s < l.path_symbols) over
    × answers (length old) a over note)

-- that complement was refused, and its number is this one
abbrev pub RefusesOne : (ℕ → Automaton → List Bool → Type 0) → Lettering →
    Automaton → ℕ → ℕ → Type 0
RefusesOne refuses l a first number =
    (number ≡ first) × ((over : List Bool) × HoldsJust l.blocks (λ s. s < l.path_symbols) over
    × refuses number a over)
