-- The edges out of the states of a set, sorted out: letters that are alike, and what follows by a letter.
use Rattle.std.proofs.Common.{Bor, ◌≡◌, ℕ, ◌+◌, ◌<◌, ◌≤◌, ◌↔◌, Bool, List, [], ◌∷◌, ◌++◌, length, get_or, map, take, Option, Some, IfSome, refl, sym, ap, ◌∙◌, subst, inl, inr, arith}
use Rattle.std.specs.List.{All, Contains}
use Rattle.std.specs.Option.{ForSome, option_map}
use Rattle.std.specs.List.Sorted.{IsNonDecreasingBy}
use Rattle.std.proofs.lemmas.List.{append-nil, get_or-map, length-map, take_all, take_more}
use Rattle.std.proofs.lemmas.List.Concat.{flat_map-append}
use Rattle.std.proofs.lemmas.List.Elements.{All-contains, All-nil}
use Rattle.rela_labels.specs.Letters.{has}
use Rattle.rela_nfa.specs.Automaton.{Automaton, IsAutomaton, IsMove, Move, moves_of, states}
use Rattle.rela_nfa.specs.Reading.{SilentlyFrom}
use Rattle.rela_nfa.specs.Runs.{StepIn}
use Rattle.rela_nfa.specs.StateSet.{Adds, Lists}
use Rattle.rela_nfa.specs.Stored.{move_of}
use Rattle.rela_nfa.specs.declared.edge.Edge.{Edge}
use Rattle.rela_subset.specs.Outgoing.{AreHeld, AreSortedOut, HasEnd, moves_from, Sorted}
use Rattle.rela_subset.specs.Sets.{NextFrom, StepFrom}
use Rattle.rela_subset.specs.Splitting.{Splitting}
use Rattle.rela_subset.specs.declared.letter_edge.LetterEdge.{LetterEdge}
use Rattle.rela_subset.proofs.Following.{lists_same, next_from}
use Rattle.rela_subset.proofs.Sets.{adds_all, adds_both, has_below}
use Rattle.rela_subset.proofs.Targets.{Contains-nil}
use Rattle.rela_subset.proofs.SortingOut.{all_among, contains_flat, step_flat, step_sorted}

pub moves_more : (a : Automaton) (set : List ℕ) (i : ℕ) → i < length set → moves_from a (take (i + 1) set) ≡ moves_from a (take i set) ++ moves_of a (get_or set i 0)
moves_more a set i below =
    ap (moves_from a) (take_more set i 0 below) ∙ flat_map-append (moves_of a) (take i set) (get_or set i 0 ∷ [])
    ∙ ap (λ ms. moves_from a (take i set) ++ ms) (append-nil (moves_of a (get_or set i 0)))

pub sorted_more : (a : Automaton) (set : List ℕ) (i : ℕ) (moves : List Move) (singles : List LetterEdge) (others : List Move) → i < length set → moves ≡ moves_of a (get_or set i 0)
    → AreSortedOut (moves_from a (take i set) ++ moves) singles others → AreSortedOut (moves_from a (take (i + 1) set)) singles others
sorted_more a set i moves singles others below is sorted =
    subst (λ ms. AreSortedOut ms singles others) (ap (λ ms. moves_from a (take i set) ++ ms) is ∙ sym (moves_more a set i below)) sorted

pub sorted_all : (a : Automaton) (set : List ℕ) (i : ℕ) (singles : List LetterEdge) (others : List Move) → length set ≤ i → AreSortedOut (moves_from a (take i set)) singles others
    → AreSortedOut (moves_from a set) singles others
sorted_all a set i singles others all sorted = subst (λ s. AreSortedOut (moves_from a s) singles others) (take_all i set all) sorted

-- what is sorted out are edges of the automaton
module _ (a : Automaton) (ok : IsAutomaton a) (set : List ℕ) (below : All (λ q. q < states a) set) (singles : List LetterEdge) (others : List Move)
    (sorted : AreSortedOut (moves_from a set) singles others) where
  moves_are : (move : Move) → Contains (moves_from a set) move → IsMove a.letters (states a) move
  moves_are move c =
      let (q, among, at) = (contains_flat (moves_of a) set move).0 c in
      All-contains (IsMove a.letters (states a)) (moves_of a q) move (ok.moves q [] (omega (arith, ok.each, All-contains (λ p. p < states a) set q below among))) at

  pub singles_below : All (λ edge. edge.letter < a.letters) singles
  singles_below = all_among (λ edge. edge.letter < a.letters) singles (λ edge c.
      let (label, alone, among) = sorted.single edge.letter edge.to c in
      subst (λ n. edge.letter < n) ((moves_are _ among).sized label refl) (has_below label edge.letter ((alone edge.letter).1 refl)))

  pub held : IsNonDecreasingBy (λ edge. edge.letter) singles → AreHeld a singles others
  held rising = record {
    automaton = ok;
    rising = rising;
    below = singles_below;
    lead = all_among (λ edge. edge.to < states a) singles (λ edge c. let (label, alone, among) = sorted.single edge.letter edge.to c in (moves_are _ among).leads);
    moves = all_among (IsMove a.letters (states a)) others (λ move c. moves_are move (sorted.other move c));
  }

-- no edges
pub none_sorted : (singles : List LetterEdge) (others : List Move) → singles ≡ [] → others ≡ [] → AreSortedOut [] singles others
none_sorted singles others no_singles no_others =
    subst (λ es. AreSortedOut [] es others) (sym no_singles) (subst (λ ms. AreSortedOut [] [] ms) (sym no_others) (record {
      each = λ move among. absurd (Contains-nil move among);
      single = λ letter q among. absurd (Contains-nil _ among);
      other = λ move among. absurd (Contains-nil move among);
    }))

pub none_held : (a : Automaton) → IsAutomaton a → (singles : List LetterEdge) (others : List Move) → singles ≡ [] → others ≡ [] → AreHeld a singles others
none_held a ok singles others no_singles no_others =
    held a ok [] (All-nil (λ q. q < states a)) singles others (none_sorted singles others no_singles no_others) (subst (λ es. IsNonDecreasingBy (λ (edge : LetterEdge). edge.letter) es) (sym no_singles) none_rising)
  where
    none_rising : IsNonDecreasingBy (λ (edge : LetterEdge). edge.letter) []
    none_rising i j edge before below = absurd (omega (arith, below))

-- the edges by the letter lead to states of the automaton
pub run_leads : (states letter : ℕ) (singles run : List LetterEdge) → All (λ edge. edge.to < states) singles → ((q : ℕ) → HasEnd singles letter q ↔ ((k : ℕ) × HasEnd run k q))
    → All (λ edge. edge.to < states) run
run_leads states letter singles run lead by_letter =
    all_among (λ edge. edge.to < states) run (λ edge c. All-contains (λ e. e.to < states) singles _ lead ((by_letter edge.to).1 (edge.letter, c)))

-- the ends of the edges by the letter, and of the others that have it, and where silent edges then lead
pub followers : (a : Automaton) (set : List ℕ) (letter : ℕ) (singles run : List LetterEdge) (others : List Move) (first mid ends now next : List ℕ) → first ≡ []
    → ((q : ℕ) → HasEnd singles letter q ↔ ((k : ℕ) × HasEnd run k q)) → Adds (λ q. (k : ℕ) × HasEnd run k q) first mid → Adds (StepIn others (Some letter)) mid ends
    → ((q : ℕ) → Contains now q ↔ SilentlyFrom a ends q) → Lists (Contains now) next → AreSortedOut (moves_from a set) singles others → Lists (NextFrom a set letter) next
followers a set letter singles run others first mid ends now next none by_letter by_run by_others closed is sorted =
    let step = λ (q : ℕ). step_sorted (moves_from a set) singles others sorted letter q in
    let all : Adds (StepFrom a set letter) [] ends =
    adds_both (λ q. (k : ℕ) × HasEnd run k q) (StepIn others (Some letter)) (StepFrom a set letter) [] mid ends
    (subst (λ l. Adds (λ q. (k : ℕ) × HasEnd run k q) l mid) none by_run) by_others
    (λ q at. (step_flat a set letter q).0 ((step q).1 (inl ((by_letter q).1 at))))
    (λ q at. (step_flat a set letter q).0 ((step q).1 (inr at)))
    (λ q at. elim ((step q).0 ((step_flat a set letter q).1 at)) [ inl single ↦ inl ((by_letter q).0 single) | inr other ↦ inr other ]) in
    lists_same (Contains now) (NextFrom a set letter) next (next_from a set ends now letter (adds_all (StepFrom a set letter) ends all) closed) is

-- the edges that are moves of the automaton, as they are read
module _ {L : Type 0} (letters : L → List Bool) (others read : List (Bor (Edge L))) (n states : ℕ) (is : read ≡ others)
    (moves : All (IsMove n states) (map (λ edge. move_of letters edge.now) others)) where
  move_read : (i : ℕ) (edge : Bor (Edge L)) → i < length read → IsMove n states (move_of letters (get_or read i edge).now)
  move_read i edge below =
      subst (λ es. IsMove n states (move_of letters (get_or es i edge).now)) (sym is)
      (let within : i < length others = subst (λ es. i < length es) is below in
      subst (IsMove n states) (get_or-map (λ e. move_of letters e.now) others i edge (move_of letters edge.now) within)
      (moves i (move_of letters edge.now) (omega (arith, within, length-map others (λ e. move_of letters e.now)))))

  pub labels_sized : (size : ℕ) → n ≡ size → All (λ edge. ForSome edge.now.label (λ set. length (letters set) ≡ size)) read
  labels_sized size same i edge below label has = (move_read i edge below).sized (letters label) (ap (option_map letters) has) ∙ same

  pub ends_below : (count : ℕ) → states ≡ count → All (λ edge. edge.now.to < count) read
  ends_below count same i edge below = subst (λ m. (get_or read i edge).now.to < m) same (move_read i edge below).leads

pub sorted_same : (moves : List Move) (singles singles' : List LetterEdge) (others others' : List Move) → singles' ≡ singles → others' ≡ others
    → AreSortedOut moves singles others → AreSortedOut moves singles' others'
sorted_same moves singles singles' others others' same_singles same_others sorted =
    subst (λ es. AreSortedOut moves es others') (sym same_singles) (subst (λ ms. AreSortedOut moves singles ms) (sym same_others) sorted)

-- what is said of a value that is there
pub some_is : {X : Type 0} {o : Option X} {x : X} → o ≡ Some x → (P : X → Type 0) → IfSome o P → P x
some_is is P holds = subst (λ v. IfSome v P) is holds

-- the same of the edges as they are held
module _ (a : Automaton) (out : Sorted) (set given : List ℕ) (same : out.automaton ≡ a) (is : given ≡ set) (sorted : AreSortedOut (moves_from a given) out.singles out.others) where
  sorted_held : AreSortedOut (moves_from out.automaton set) out.singles out.others
  sorted_held =
      subst (λ s. AreSortedOut (moves_from out.automaton s) out.singles out.others) is
      (subst (λ b. AreSortedOut (moves_from b given) out.singles out.others) (sym same) sorted)

  -- as they are taken in blocks
  pub sorted_in : (in_blocks : Splitting) → in_blocks.singles ≡ out.singles → in_blocks.others ≡ out.others → AreSortedOut (moves_from a set) in_blocks.singles in_blocks.others
  sorted_in in_blocks same_singles same_others =
      subst (λ s. AreSortedOut (moves_from a s) in_blocks.singles in_blocks.others) is
      (sorted_same (moves_from a given) out.singles in_blocks.singles out.others in_blocks.others same_singles same_others sorted)

  pub next_of : (letter : ℕ) (next : List ℕ)
      → ((s : List ℕ) → AreSortedOut (moves_from out.automaton s) out.singles out.others → Lists (NextFrom out.automaton s letter) next) → Lists (NextFrom a set letter) next
  next_of letter next follows = subst (λ b. Lists (NextFrom b set letter) next) same (follows set sorted_held)
