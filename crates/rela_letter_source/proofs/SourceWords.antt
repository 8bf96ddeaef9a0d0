-- The words of a product: those that the automaton accepts, and for which the transducer writes the word.
use Rattle.std.proofs.Common.{◌≡◌, ℕ, ◌+◌, ◌<◌, ◌↔◌, List, [], ◌∷◌, ◌++◌, length, drop, get_or, Option, None, Some, refl, sym, ap, ◌∙◌, subst, inl, inr, arith}
use Rattle.std.proofs.Math.Seq.{drop-length}
use Rattle.std.specs.List.{slice_get}
use Rattle.std.specs.Option.{option_to_list}
use Rattle.std.proofs.lemmas.List.{drop_more}
use Rattle.std.proofs.lemmas.Option.{get_or_from_slice_get, slice_get_within, slice_get-get_or}
use Rattle.rela_letter_nfa.specs.LetterAutomaton.{LetterAutomaton}
use Rattle.rela_letter_nfa.specs.Runs.{Step, HasStep, Follow, spelled, Accepts}
use Rattle.rela_names.specs.Shortlex.{First}
use Rattle.rela_trans.specs.Machine.{Machine, Kind}
use Rattle.rela_trans.specs.declared.moves.MoveKind.TheVariants.{Silent, In, Out, Same}
use Rattle.rela_trans.specs.Runs.{Does, Step as Moved, HasStep as HasMove, Follow as Followed, inputs, outputs}
use Rattle.rela_letter_source.specs.Product.{Goes, IsProduct, StandsAt}
use Rattle.rela_letter_source.specs.Sources.{IsSourceOf}
use Rattle.rela_letter_source.specs.Steps.{standing}
use Rattle.rela_letter_source.specs.declared.configuration.Configuration.{Configuration}

-- ---- letters that stand in a word

-- one list of letters and then another
stands_both : (word u v : List ℕ) (n m l : ℕ) → StandsAt word n u m → StandsAt word m v l → StandsAt word n (u ++ v) l
stands_both word [] v n m l one two = subst (λ k. StandsAt word k v l) (sym one) two
stands_both word (k ∷ u) v n m l one two = (one.0, stands_both word u v (n + 1) m l one.1 two)

stands_parts : (word u v : List ℕ) (n l : ℕ) → StandsAt word n (u ++ v) l → (m : ℕ) × StandsAt word n u m × StandsAt word m v l
stands_parts word [] v n l both = (n, refl, both)
stands_parts word (k ∷ u) v n l both = let later = stands_parts word u v (n + 1) l both.1 in (later.0, (both.0, later.1), later.2)

-- those from a place up to the end
stands_rest : (word u : List ℕ) (n : ℕ) → StandsAt word n u (length word) → u ≡ drop n word
stands_rest word [] n here = sym (ap (λ k. drop k word) here ∙ drop-length word)
stands_rest word (k ∷ u) n stands =
    ap (λ l. k ∷ l) (stands_rest word u (n + 1) stands.1) ∙ ap (λ j. j ∷ drop (n + 1) word) (sym (get_or_from_slice_get word n k 0 stands.0))
    ∙ sym (drop_more word n 0 (slice_get_within word n k stands.0))

rest_stands : (word u : List ℕ) (n : ℕ) → n + length u ≡ length word → drop n word ≡ u → StandsAt word n u (length word)
rest_stands word [] n end rest = whole
  where
    whole : n ≡ length word
    whole = omega (arith, end)
rest_stands word (k ∷ u) n end rest =
    let below : n < length word = omega (arith, end) in
    let both : get_or word n 0 ∷ drop (n + 1) word ≡ k ∷ u = sym (drop_more word n 0 below) ∙ rest in
    let here : get_or word n 0 ≡ k = cc in
    let others : drop (n + 1) word ≡ u = cc in
    (slice_get-get_or word n 0 below ∙ ap (λ (j : ℕ). Some j) here, rest_stands word u (n + 1) (omega (arith, end)) others)

-- the whole word
stands_all : (word u : List ℕ) → StandsAt word 0 u (length word) → u ≡ word
stands_all word u stands = stands_rest word u 0 stands

all_stands : (word u : List ℕ) → u ≡ word → StandsAt word 0 u (length word)
all_stands word u same = subst (λ l. StandsAt word 0 l (length word)) (sym same) (rest_stands word word 0 (omega arith) refl)

-- ---- what a move reads

-- the letter that a move of this kind reads, if there is one
record Reads (input : List ℕ) : Type 0 where
  letter : Option ℕ
  is : input ≡ option_to_list letter

reads_by : (read : ℕ → ℕ) (kind : Kind) (input output : List ℕ) → Does read kind input output → Reads input
reads_by read Silent input output does = record { letter = None; is = does.0 }
reads_by read (In set) input output does = record { letter = Some does.0.0; is = does.0.2 }
reads_by read (Out set) input output does = record { letter = None; is = does.0 }
reads_by read (Same set) input output does = record { letter = Some does.0.0; is = does.0.2 }

module _ (read : ℕ → ℕ) (a : LetterAutomaton) (t : Machine) (word : List ℕ) where
  -- a run of each from one configuration to another, the second reading what the first spells
  record Runs (x : Configuration) (u : List ℕ) (y : Configuration) : Type 0 where
    first : List Step
    second : List Moved
    followed : Follow a x.path first y.path
    moved : Followed read t x.machine second y.machine
    spells : spelled first ≡ u
    reads : inputs second ≡ u
    writes : StandsAt word x.written (outputs second) y.written

  runs_none : (x : Configuration) → Runs x [] x
  runs_none x = record { first = []; second = []; followed = refl; moved = refl; spells = refl; reads = refl; writes = refl }

  -- a step and then runs
  runs_more : (x y z : Configuration) (letter : Option ℕ) (u : List ℕ) → Goes read a t word x letter y → Runs y u z → Runs x (option_to_list letter ++ u) z
  runs_more x y z None u goes runs = elim goes [
    | inl silent ↦ record {
      first = record { letter = None; to = y.path } ∷ runs.first;
      second = runs.second;
      followed = (silent.0, runs.followed);
      moved = subst (λ q. Followed read t q runs.second z.machine) (sym silent.1) runs.moved;
      spells = runs.spells;
      reads = runs.reads;
      writes = subst (λ n. StandsAt word n (outputs runs.second) z.written) (sym silent.2) runs.writes;
    }
    | inr alone ↦ record {
      first = runs.first;
      second = record { input = []; output = alone.1.0; to = y.machine } ∷ runs.second;
      followed = subst (λ p. Follow a p runs.first z.path) (sym alone.0) runs.followed;
      moved = (alone.1.1, runs.moved);
      spells = runs.spells;
      reads = runs.reads;
      writes = stands_both word alone.1.0 (outputs runs.second) x.written y.written z.written alone.1.2 runs.writes;
    }
  ]
  runs_more x y z (Some k) u goes runs = record {
    first = record { letter = Some k; to = y.path } ∷ runs.first;
    second = record { input = k ∷ []; output = goes.1.0; to = y.machine } ∷ runs.second;
    followed = (goes.0, runs.followed);
    moved = (goes.1.1, runs.moved);
    spells = ap (λ l. k ∷ l) runs.spells;
    reads = ap (λ l. k ∷ l) runs.reads;
    writes = stands_both word goes.1.0 (outputs runs.second) x.written y.written z.written goes.1.2 runs.writes;
  }

  module _ (found : List Configuration) (r : LetterAutomaton) (product : IsProduct read a t word found r) where
    -- steps of the product are runs of the two
    runs_from : (steps : List Step) (p q : ℕ) (x : Configuration) → slice_get found p ≡ Some x → Follow r p steps q → (y : Configuration) × (slice_get found q ≡ Some y) × Runs x (spelled steps) y
    runs_from [] p q x at here = (x, ap (slice_get found) (sym here) ∙ at, runs_none x)
    runs_from (step ∷ rest) p q x at follows =
        let next = product.only p step.to x step.letter at follows.0 in
        let later = runs_from rest step.to q next.0 next.1 follows.1 in
        (later.0, later.1, runs_more x next.0 later.0 step.letter (spelled rest) next.2 later.2)

    -- the product goes from the configuration of this number to another, and spells the word
    record Spells (p : ℕ) (u : List ℕ) (y : Configuration) : Type 0 where
      steps : List Step
      number : ℕ
      at : slice_get found number ≡ Some y
      followed : Follow r p steps number
      spells : spelled steps ≡ u

    spells_more : (p : ℕ) (x y z : Configuration) (letter : Option ℕ) (u : List ℕ) → slice_get found p ≡ Some x → Goes read a t word x letter y
        → ((q : ℕ) → slice_get found q ≡ Some y → Spells q u z) → Spells p (option_to_list letter ++ u) z
    spells_more p x y z letter u at goes later =
        let next = product.all p x y letter at goes in
        let rest = later next.0 next.1 in
        record {
          steps = record { letter = letter; to = next.0 } ∷ rest.steps;
          number = rest.number;
          at = rest.at;
          followed = (next.2, rest.followed);
          spells = ap (λ l. option_to_list letter ++ l) rest.spells;
        }

    -- from where a move of the transducer that reads nothing leads on
    spells_alone : (p : ℕ) (x z : Configuration) (step : Moved) (n : ℕ) (u : List ℕ) → slice_get found p ≡ Some x → HasMove read t x.machine step.input step.output step.to
        → step.input ≡ [] → StandsAt word x.written step.output n → ((q : ℕ) → slice_get found q ≡ Some (standing x.path step.to n) → Spells q u z) → Spells p u z
    spells_alone p x z step n u at moved nothing stands later =
        let reading : HasMove read t x.machine [] step.output step.to = subst (λ l. HasMove read t x.machine l step.output step.to) nothing moved in
        spells_more p x (standing x.path step.to n) z None u at (inr (refl, (step.output, reading, stands))) later

    -- runs in which the automaton stays
    spells_staying : (second : List Moved) (p : ℕ) (x z : Configuration) → slice_get found p ≡ Some x → x.path ≡ z.path → Followed read t x.machine second z.machine → inputs second ≡ []
        → StandsAt word x.written (outputs second) z.written → Spells p [] z
    spells_staying [] p x z at path machine reads written =
        record { steps = []; number = p; at = at ∙ ap (λ (y : Configuration). Some y) (λ i. standing (path i) (machine i) (written i)); followed = refl; spells = refl }
    spells_staying (step ∷ rest) p x z at path moved reads stands =
        let none = nothing step.input (inputs rest) reads in
        let parts = stands_parts word step.output (outputs rest) x.written z.written stands in
        spells_alone p x z step parts.0 [] at moved.0 none.0 parts.1
        (λ q there. spells_staying rest q (standing x.path step.to parts.0) z there path moved.1 none.1 parts.2)
      where
        nothing : (l m : List ℕ) → l ++ m ≡ [] → (l ≡ []) × (m ≡ [])
        nothing [] m e = (refl, e)
        nothing (k ∷ l) m e = absurd (cc)

    -- what the runs of the two spell from where the automaton follows these steps
    abbrev SpellsAlong : List Step → Type 0
    SpellsAlong first = (second : List Moved) (p : ℕ) (x z : Configuration) → slice_get found p ≡ Some x → Follow a x.path first z.path → Followed read t x.machine second z.machine
        → inputs second ≡ spelled first → StandsAt word x.written (outputs second) z.written → Spells p (spelled first) z

    along_silent : (to : ℕ) (rest : List Step) → SpellsAlong rest → SpellsAlong (record { letter = None; to = to } ∷ rest)
    along_silent to rest later second p x z at followed moved reads stands =
        spells_more p x (standing to x.machine x.written) z None (spelled rest) at (inl (followed.0, refl, refl))
        (λ q there. later second q (standing to x.machine x.written) z there followed.1 moved reads stands)

    -- a move, where the automaton goes by the letter k next: the move reads nothing, or k
    letter_step : (k to p n : ℕ) (x z : Configuration) (rest : List Step) (step : Moved) (more : List Moved) → slice_get found p ≡ Some x → HasStep a x.path (Some k) to
        → HasMove read t x.machine step.input step.output step.to → step.input ++ inputs more ≡ k ∷ spelled rest → StandsAt word x.written step.output n
        → (step.input ≡ [] → (q : ℕ) → slice_get found q ≡ Some (standing x.path step.to n) → Spells q (k ∷ spelled rest) z)
        → (inputs more ≡ spelled rest → (q : ℕ) → slice_get found q ≡ Some (standing to step.to n) → Spells q (spelled rest) z)
        → Reads step.input → Spells p (k ∷ spelled rest) z
    letter_step k to p n x z rest step more at goes moved reads stands staying going by = which by.letter by.is
      where
        reads_letter : (c : ℕ) → step.input ≡ c ∷ [] → Spells p (k ∷ spelled rest) z
        reads_letter c some =
            let both : c ∷ inputs more ≡ k ∷ spelled rest = ap (λ l. l ++ inputs more) (sym some) ∙ reads in
            let same : c ≡ k = cc in
            let others : inputs more ≡ spelled rest = cc in
            let letter : step.input ≡ k ∷ [] = some ∙ ap (λ (d : ℕ). d ∷ []) same in
            let reading : HasMove read t x.machine (k ∷ []) step.output step.to = subst (λ l. HasMove read t x.machine l step.output step.to) letter moved in
            spells_more p x (standing to step.to n) z (Some k) (spelled rest) at (goes, (step.output, reading, stands)) (going others)

        which : (letter : Option ℕ) → step.input ≡ option_to_list letter → Spells p (k ∷ spelled rest) z
        which None none = spells_alone p x z step n (k ∷ spelled rest) at moved none stands (staying none)
        which (Some c) some = reads_letter c some

    along_letter : (k to : ℕ) (rest : List Step) → SpellsAlong rest → SpellsAlong (record { letter = Some k; to = to } ∷ rest)
    along_letter k to rest later [] p x z at followed moved reads stands = absurd (cc)
    along_letter k to rest later (step ∷ more) p x z at followed moved reads stands =
        let parts = stands_parts word step.output (outputs more) x.written z.written stands in
        letter_step k to p parts.0 x z rest step more at followed.0 moved.0 reads parts.1
        (λ none q there. along_letter k to rest later more q (standing x.path step.to parts.0) z there followed moved.1 (ap (λ l. l ++ inputs more) (sym none) ∙ reads) parts.2)
        (λ others q there. later more q (standing to step.to parts.0) z there followed.1 moved.1 others parts.2)
        (reads_by read moved.0.0 step.input step.output moved.0.2)

    along : (letter : Option ℕ) (to : ℕ) (rest : List Step) → SpellsAlong rest → SpellsAlong (record { letter = letter; to = to } ∷ rest)
    along None to rest later = along_silent to rest later
    along (Some k) to rest later = along_letter k to rest later

    -- runs of the two are steps of the product
    spells_each : (first : List Step) → SpellsAlong first
    spells_each [] = λ second p x z at path moved reads stands. spells_staying second p x z at path moved reads stands
    spells_each (step ∷ rest) = along step.letter step.to rest (spells_each rest)

    -- the words of the product
    pub source_words : (u : List ℕ) → Accepts r u ↔ IsSourceOf read a t word u
    source_words u = (
      λ (q, (steps, follows, spells), final).
          let made = runs_from steps r.start q (standing a.start t.start 0) product.starts follows in
          let end = (product.final q made.0 made.1).0 final in
          let runs = made.2 in
          let written : StandsAt word 0 (outputs runs.second) (length word) = subst (λ n. StandsAt word 0 (outputs runs.second) n) end.2 runs.writes in (
            (made.0.path, (runs.first, runs.followed, runs.spells ∙ spells), end.0),
            (made.0.machine, (runs.second, runs.moved, runs.reads ∙ spells, stands_all word (outputs runs.second) written), end.1),
          ),
      λ ((p, (first, followed, spells), final), (q, (second, moved, reads, writes), ends)).
          let z = standing p q (length word) in
          let made =
          spells_each first second r.start (standing a.start t.start 0) z product.starts followed moved (reads ∙ sym spells) (all_stands word (outputs second) writes) in
          (made.number, (made.steps, made.followed, made.spells ∙ spells), (product.final made.number z made.at).1 (final, ends, refl)),
    )

-- ---- the first of the words

-- the first of those that one automaton alone accepts, where the other accepts none
pub first_of_sources : (P Q S : List ℕ → Type 0) (word : List ℕ) → ((u : List ℕ) → P u ↔ S u) → ((u : List ℕ) → ¬ Q u) → First (λ u. P u × ¬ Q u) word → First S word
first_of_sources P Q S word same none first = record { member = (same word).0 first.member.0; least = λ u source. first.least u ((same u).1 source, none u) }

-- none, where the one accepts only what the other does
pub none_of_sources : (P Q S : List ℕ → Type 0) → ((u : List ℕ) → P u ↔ S u) → ((u : List ℕ) → ¬ Q u) → ((u : List ℕ) → P u → Q u) → (u : List ℕ) → ¬ S u
none_of_sources P Q S same none agreed u source = none u (agreed u ((same u).1 source))
