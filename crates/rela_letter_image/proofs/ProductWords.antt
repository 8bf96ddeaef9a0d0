-- The words of a product: those that the transducer writes where it reads a word of the automaton.
use Rattle.std.proofs.Common.{◌≡◌, ℕ, ◌↔◌, List, [], ◌∷◌, ◌++◌, Option, None, Some, refl, sym, ap, ◌∙◌, subst, inl, inr}
use Rattle.std.specs.List.{slice_get}
use Rattle.std.specs.Option.{option_to_list}
use Rattle.rela_pairs.specs.declared.pair.Pair.{Pair}
use Rattle.rela_nfa.specs.Meeting.{pair_of}
use Rattle.rela_letter_nfa.specs.LetterAutomaton.{LetterAutomaton}
use Rattle.rela_letter_nfa.specs.Runs.{Step, HasStep, Follow, spelled, Accepts}
use Rattle.rela_trans.specs.Machine.{Machine, Kind, IsFinal as IsFinalMachine}
use Rattle.rela_trans.specs.declared.moves.MoveKind.TheVariants.{Silent, In, Out, Same}
use Rattle.rela_trans.specs.Runs.{Does, Step as Moved, HasStep as HasMove, Follow as Moves, inputs, outputs, Relates}
use Rattle.rela_letter_image.specs.Needs.{IsLive, TellsLive, Told}
use Rattle.rela_letter_image.specs.Product.{Goes, IsProduct}

-- the letter that a move of this kind reads and the one that it writes, if there are
record Letters (input output : List ℕ) : Type 0 where
  reads : Option ℕ
  writes : Option ℕ
  input_is : input ≡ option_to_list reads
  output_is : output ≡ option_to_list writes

letters_by : (read : ℕ → ℕ) (kind : Kind) (input output : List ℕ) → Does read kind input output → Letters input output
letters_by read Silent input output does = record { reads = None; writes = None; input_is = does.0; output_is = does.1 }
letters_by read (In set) input output does = record { reads = Some does.0.0; writes = None; input_is = does.0.2; output_is = does.1 }
letters_by read (Out set) input output does = record { reads = None; writes = Some does.1.0; input_is = does.0; output_is = does.1.2 }
letters_by read (Same set) input output does = record { reads = Some does.0.0; writes = Some does.0.0; input_is = does.0.2; output_is = does.1 ∙ does.0.2 }

module _ (read : ℕ → ℕ) (a : LetterAutomaton) (t : Machine) where
  -- a run of each from one pair to another, the second reading what the first spells
  record Runs (x : Pair) (v : List ℕ) (y : Pair) : Type 0 where
    first : List Step
    second : List Moved
    followed : Follow a x.left first y.left
    moved : Moves read t x.right second y.right
    reads : inputs second ≡ spelled first
    writes : outputs second ≡ v

  runs_none : (x : Pair) → Runs x [] x
  runs_none x = record { first = []; second = []; followed = refl; moved = refl; reads = refl; writes = refl }

  -- a step and then runs
  runs_more : (x y z : Pair) (letter : Option ℕ) (v : List ℕ) → Goes read a t x letter y → Runs y v z → Runs x (option_to_list letter ++ v) z
  runs_more x y z letter v goes runs = elim goes [
    | inl silent ↦ record {
      first = record { letter = None; to = y.left } ∷ runs.first;
      second = runs.second;
      followed = (silent.1.0, runs.followed);
      moved = subst (λ q. Moves read t q runs.second z.right) (sym silent.1.1) runs.moved;
      reads = runs.reads;
      writes = runs.writes ∙ ap (λ (l : Option ℕ). option_to_list l ++ v) (sym silent.0);
    }
    | inr others ↦ elim others [
      | inl alone ↦ record {
        first = runs.first;
        second = record { input = []; output = option_to_list letter; to = y.right } ∷ runs.second;
        followed = subst (λ p. Follow a p runs.first z.left) (sym alone.0) runs.followed;
        moved = (alone.1, runs.moved);
        reads = runs.reads;
        writes = ap (λ l. option_to_list letter ++ l) runs.writes;
      }
      | inr both ↦ record {
        first = record { letter = Some both.0; to = y.left } ∷ runs.first;
        second = record { input = both.0 ∷ []; output = option_to_list letter; to = y.right } ∷ runs.second;
        followed = (both.1, runs.followed);
        moved = (both.2, runs.moved);
        reads = ap (λ l. both.0 ∷ l) runs.reads;
        writes = ap (λ l. option_to_list letter ++ l) runs.writes;
      }
    ]
  ]

  module _ (told : Told) (tells : TellsLive read a t told) (pairs : List Pair) (r : LetterAutomaton) (product : IsProduct read a t told pairs r) where
    -- steps of the product are runs of the two
    runs_from : (steps : List Step) (p q : ℕ) (x : Pair) → slice_get pairs p ≡ Some x → Follow r p steps q → (y : Pair) × (slice_get pairs q ≡ Some y) × Runs x (spelled steps) y
    runs_from [] p q x at here = (x, ap (slice_get pairs) (sym here) ∙ at, runs_none x)
    runs_from (step ∷ rest) p q x at follows =
        let next = product.only p step.to x step.letter at follows.0 in
        let found = runs_from rest step.to q next.0 next.1 follows.1 in
        (found.0, found.1, runs_more x next.0 found.0 step.letter (spelled rest) next.2 found.2)

    -- the product goes from the pair of this number to another, and spells the word
    record Spells (p : ℕ) (v : List ℕ) (y : Pair) : Type 0 where
      steps : List Step
      number : ℕ
      at : slice_get pairs number ≡ Some y
      followed : Follow r p steps number
      spells : spelled steps ≡ v

    spells_more : (p : ℕ) (x y z : Pair) (letter : Option ℕ) (v : List ℕ) → slice_get pairs p ≡ Some x → Goes read a t x letter y
        → IsLive told y → ((q : ℕ) → slice_get pairs q ≡ Some y → Spells q v z) → Spells p (option_to_list letter ++ v) z
    spells_more p x y z letter v at goes live later =
        let next = product.all p x y letter at goes live in
        let rest = later next.0 next.1 in
        record {
          steps = record { letter = letter; to = next.0 } ∷ rest.steps;
          number = rest.number;
          at = rest.at;
          followed = (next.2, rest.followed);
          spells = ap (λ l. option_to_list letter ++ l) rest.spells;
        }

    -- from where a move of the transducer that reads nothing leads on
    spells_alone : (p : ℕ) (x z : Pair) (step : Moved) (writes : Option ℕ) (v : List ℕ) → slice_get pairs p ≡ Some x → HasMove read t x.right step.input step.output step.to
        → step.input ≡ [] → step.output ≡ option_to_list writes → IsLive told (pair_of x.left step.to) → ((q : ℕ) → slice_get pairs q ≡ Some (pair_of x.left step.to) → Spells q v z) → Spells p (step.output ++ v) z
    spells_alone p x z step writes v at moved nothing written live later =
        let alone = subst (λ l. HasMove read t x.right [] l step.to) written (subst (λ l. HasMove read t x.right l step.output step.to) nothing moved) in
        subst (λ l. Spells p (l ++ v) z) (sym written)
        (spells_more p x (pair_of x.left step.to) z writes v at (inr (inl (refl, alone))) live later)

    -- runs in which the automaton stays
    spells_staying : (second : List Moved) (p : ℕ) (x z : Pair) → slice_get pairs p ≡ Some x → x.left ≡ z.left → Moves read t x.right second z.right → inputs second ≡ []
        → IsFinalMachine t z.right → Spells p (outputs second) z
    spells_staying [] p x z at left right reads ends =
        record { steps = []; number = p; at = at ∙ ap Some (λ i. pair_of (left i) (right i)); followed = refl; spells = refl }
    spells_staying (step ∷ rest) p x z at left moved reads ends =
        let by = letters_by read moved.0.0 step.input step.output moved.0.2 in
        let none = nothing step.input (inputs rest) reads in
        spells_alone p x z step by.writes (outputs rest) at moved.0 none.0 by.output_is (tells (pair_of x.left step.to) [] x.left rest z.right refl moved.1 none.1 ends)
        (λ q there. spells_staying rest q (pair_of x.left step.to) z there left moved.1 none.1 ends)
      where
        nothing : (l m : List ℕ) → l ++ m ≡ [] → (l ≡ []) × (m ≡ [])
        nothing [] m e = (refl, e)
        nothing (k ∷ l) m e = absurd (cc)

    -- what the runs of the two spell from where the automaton follows these steps
    abbrev SpellsAlong : List Step → Type 0
    SpellsAlong first = (second : List Moved) (p : ℕ) (x z : Pair) → slice_get pairs p ≡ Some x → Follow a x.left first z.left → Moves read t x.right second z.right
        → inputs second ≡ spelled first → IsFinalMachine t z.right → Spells p (outputs second) z

    along_silent : (to : ℕ) (rest : List Step) → SpellsAlong rest → SpellsAlong (record { letter = None; to = to } ∷ rest)
    along_silent to rest later second p x z at followed moved reads ends =
        spells_more p x (pair_of to x.right) z None (outputs second) at (inl (refl, (followed.0, refl))) (tells (pair_of to x.right) rest z.left second z.right followed.1 moved reads ends)
        (λ q there. later second q (pair_of to x.right) z there followed.1 moved reads ends)

    -- a move, where the automaton goes by the letter k next: the move reads nothing, or k
    letter_step : (k to p : ℕ) (x z : Pair) (rest : List Step) (step : Moved) (more : List Moved) → slice_get pairs p ≡ Some x → HasStep a x.left (Some k) to
        → HasMove read t x.right step.input step.output step.to → step.input ++ inputs more ≡ k ∷ spelled rest
        → (step.input ≡ [] → IsLive told (pair_of x.left step.to)) → (inputs more ≡ spelled rest → IsLive told (pair_of to step.to))
        → (step.input ≡ [] → (q : ℕ) → slice_get pairs q ≡ Some (pair_of x.left step.to) → Spells q (outputs more) z)
        → (inputs more ≡ spelled rest → (q : ℕ) → slice_get pairs q ≡ Some (pair_of to step.to) → Spells q (outputs more) z)
        → Letters step.input step.output → Spells p (step.output ++ outputs more) z
    letter_step k to p x z rest step more at goes moved reads live_staying live_going staying going by = which by.reads by.input_is
      where
        reads_letter : (c : ℕ) → step.input ≡ c ∷ [] → Spells p (step.output ++ outputs more) z
        reads_letter c some =
            let both : c ∷ inputs more ≡ k ∷ spelled rest = ap (λ l. l ++ inputs more) (sym some) ∙ reads in
            let same : c ≡ k = cc in
            let others : inputs more ≡ spelled rest = cc in
            let letter : step.input ≡ k ∷ [] = some ∙ ap (λ (d : ℕ). d ∷ []) same in
            let reading : HasMove read t x.right (k ∷ []) (option_to_list by.writes) step.to =
            subst (λ l. HasMove read t x.right (k ∷ []) l step.to) by.output_is (subst (λ l. HasMove read t x.right l step.output step.to) letter moved) in
            subst (λ l. Spells p (l ++ outputs more) z) (sym by.output_is)
            (spells_more p x (pair_of to step.to) z by.writes (outputs more) at (inr (inr (k, goes, reading))) (live_going others) (going others))

        which : (reads : Option ℕ) → step.input ≡ option_to_list reads → Spells p (step.output ++ outputs more) z
        which None none = spells_alone p x z step by.writes (outputs more) at moved none by.output_is (live_staying none) (staying none)
        which (Some c) some = reads_letter c some

    along_letter : (k to : ℕ) (rest : List Step) → SpellsAlong rest → SpellsAlong (record { letter = Some k; to = to } ∷ rest)
    along_letter k to rest later [] p x z at followed moved reads ends = absurd (cc)
    along_letter k to rest later (step ∷ more) p x z at followed moved reads ends =
        letter_step k to p x z rest step more at followed.0 moved.0 reads
        (λ none. tells (pair_of x.left step.to) (record { letter = Some k; to = to } ∷ rest) z.left more z.right followed moved.1 (ap (λ l. l ++ inputs more) (sym none) ∙ reads) ends)
        (λ others. tells (pair_of to step.to) rest z.left more z.right followed.1 moved.1 others ends)
        (λ none q there. along_letter k to rest later more q (pair_of x.left step.to) z there followed moved.1 (ap (λ l. l ++ inputs more) (sym none) ∙ reads) ends)
        (λ others q there. later more q (pair_of to step.to) z there followed.1 moved.1 others ends)
        (letters_by read moved.0.0 step.input step.output moved.0.2)

    along : (letter : Option ℕ) (to : ℕ) (rest : List Step) → SpellsAlong rest → SpellsAlong (record { letter = letter; to = to } ∷ rest)
    along None to rest later = along_silent to rest later
    along (Some k) to rest later = along_letter k to rest later

    -- runs of the two are steps of the product
    spells_each : (first : List Step) → SpellsAlong first
    spells_each [] = λ second p x z at left moved reads ends. spells_staying second p x z at left moved reads ends
    spells_each (step ∷ rest) = along step.letter step.to rest (spells_each rest)

    -- the words of the product
    pub product_words : (v : List ℕ) → Accepts r v ↔ ((u : List ℕ) × Accepts a u × Relates read t u v)
    product_words v = (
      λ (q, (steps, follows, spells), final).
          let found = runs_from steps r.start q (pair_of a.start t.start) product.starts follows in
          let both = (product.final q found.0 found.1).0 final in
          let runs = found.2 in
          (spelled runs.first, (found.0.left, (runs.first, runs.followed, refl), both.0), (found.0.right, (runs.second, runs.moved, runs.reads, runs.writes ∙ spells), both.1)),
      λ (u, (p, (first, followed, spells), final), (q, (second, moved, reads, writes), ends)).
          let found = spells_each first second r.start (pair_of a.start t.start) (pair_of p q) product.starts followed moved (reads ∙ sym spells) ends in
          (found.number, (found.steps, found.followed, found.spells ∙ writes), (product.final found.number (pair_of p q) found.at).1 (final, ends)),
    )
