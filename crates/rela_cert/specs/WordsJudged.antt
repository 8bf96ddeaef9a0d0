-- What the words of an images block tell of two automata over some letters.
use Rattle.std.specs.Prelude.{◌≡◌, ℕ, ◌<◌, ◌⊎◌, Bool, true, false, List, [], ◌∷◌, Contains, length}
use Rattle.std.specs.List.{slice_index_or}
use Rattle.rela_closed.specs.Closed.{IsClosed}
use Rattle.rela_nfa.specs.Automaton.{Automaton}
use Rattle.rela_nfa.specs.Runs.{Accepts}
use Rattle.rela_translate.specs.Verdict.{AreMet, Offends}
use Rattle.rela_cert.specs.declared.judgement.Judgement.{Judgement}
use Rattle.rela_cert.specs.declared.judgement.Judgement.TheVariants.{Met, OpenComplement, BadImages, TooLarge}

-- whether a word that is accepted so before and after the change offends, where only added words do or either
abbrev pub flag_offends : Bool → Bool → Bool → Bool
flag_offends at_most false true = true
flag_offends false true false = true
flag_offends true true false = false
flag_offends at_most true true = false
flag_offends at_most false false = false

-- the i-th word offends, by the flags of all words before and after the change
abbrev pub OffendsAt : Bool → List Bool → List Bool → ℕ → Type 0
OffendsAt at_most before after i =
    flag_offends at_most (slice_index_or before i false) (slice_index_or after i false) ≡ true

-- no word offends, or one does
abbrev pub JudgesFlags : Bool → List Bool → List Bool → Judgement → Type 0
JudgesFlags at_most before after Met = (i : ℕ) → i < length before →
    ¬ OffendsAt at_most before after i
JudgesFlags at_most before after BadImages =
    (i : ℕ) × (i < length before) × OffendsAt at_most before after i
JudgesFlags at_most before after (OpenComplement number) = ⊥
JudgesFlags at_most before after TooLarge = ⊥

-- the automata accept the words that they have to, whatever their length; or the words aren't closed for them, or one
-- of the words offends
abbrev pub JudgesWords : Bool → Automaton → Automaton → List Bool → List (List ℕ) →
    Judgement → Type 0
JudgesWords at_most a b over words Met = AreMet at_most (Accepts a) (Accepts b)
JudgesWords at_most a b over words BadImages = (¬ IsClosed over (a ∷ b ∷ []) words)
    ⊎ ((word : List ℕ) × Contains words word × Offends at_most (Accepts a) (Accepts b) word)
JudgesWords at_most a b over words (OpenComplement number) = ⊥
JudgesWords at_most a b over words TooLarge = ⊥
