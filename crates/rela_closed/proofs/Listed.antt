-- The numbers of the sets that listed words reach.
use Rattle.std.proofs.Common.{◌≡◌, ℕ, ◌+◌, ◌<◌, ◌≤◌, Bool, List, [], ◌∷◌, ◌++◌, length, get_or, take, refl, sym, ap, ◌∙◌, subst, inl, inr, arith}
use Rattle.std.specs.List.{All, Contains}
use Rattle.std.proofs.lemmas.Bool.{cases_lt}
use Rattle.std.proofs.lemmas.List.{get_or_append_left, get_or_push, length_push, length-take-le, get_or_default}
use Rattle.std.proofs.lemmas.List.Elements.{All-from_get_or, Contains-get_or}
use Rattle.rela_nfa.specs.Automaton.{Automaton}
use Rattle.rela_closed.specs.Closed.{IsClosed}
use Rattle.rela_closed.specs.Listing.{AreFollowed, AreListed, IsLeft}
use Rattle.rela_closed.specs.Sets.{AreMet, AreNumbered, AreReached}
use Rattle.rela_closed.specs.Sets.{Leads}
use Rattle.rela_closed.specs.Words.{AreOrdered, words_of}
use Rattle.rela_closed.specs.declared.step.Step.{Step}
use Rattle.rela_closed.proofs.JointSets.{same_sets, sets_same}
use Rattle.rela_closed.proofs.WordLists.{word_by, words_of_length, words_of_more}

module _ (automata : List Automaton) where
  -- the first word alone
  pub listed_first : (first : List (List ℕ)) (old table : List (List (List ℕ))) (n : ℕ) (numbers : List ℕ) → old ≡ [] → AreReached automata [] first → AreNumbered first old table n
      → numbers ≡ n ∷ [] → AreListed automata ([] ∷ []) table numbers
  listed_first first old table n numbers none reached numbered one' = subst (AreListed automata ([] ∷ []) table) (sym one') (elim numbered.grown [
    | inl known ↦ let empty = ap length none in let below = known.1 in absurd (omega arith)
    | inr new ↦
        let zero' : n ≡ 0 = new.1 ∙ ap length none in
        let one : length table ≡ 1 = ap length (new.0 ∙ ap (λ (l : List (List (List ℕ))). l ++ first ∷ []) none) in
        record {
          each = refl;
          first = zero';
          within = λ i below. let here : i ≡ 0 = omega arith in subst (λ m. get_or (n ∷ []) m 0 < length table) (sym here) (omega arith);
          reached = λ i below. let here : i ≡ 0 = omega arith in
              subst (λ m. AreReached automata (get_or ([] ∷ []) m []) (get_or table (get_or (n ∷ []) m 0) [])) (sym here)
              (subst (λ s. AreReached automata [] s) (sym numbered.at) reached);
          met = λ m below. (0, omega arith, let here : n ≡ m = omega arith in here);
        }
  ])

  module _ (sets : List (List ℕ)) (table table' : List (List (List ℕ))) (n : ℕ) (numbered : AreNumbered sets table table' n) where
    pub table_kept : (m : ℕ) → m < length table → get_or table' m [] ≡ get_or table m []
    table_kept m below = elim numbered.grown [
      | inl old ↦ ap (λ l. get_or l m []) old.0
      | inr new ↦ ap (λ l. get_or l m []) new.0 ∙ get_or_append_left table (sets ∷ []) [] m below
    ]

    pub table_longer : length table ≤ length table'
    table_longer = elim numbered.grown [
      | inl old ↦ omega (arith, ap length old.0)
      | inr new ↦ omega (arith, ap length new.0, length_push table sets)
    ]

    -- by one at most
    pub table_one_longer : length table' ≤ length table + 1
    table_one_longer = elim numbered.grown [
      | inl old ↦ omega (arith, ap length old.0)
      | inr new ↦ omega (arith, ap length new.0, length_push table sets)
    ]

  -- one word more
  pub listed_more : (words : List (List ℕ)) (word : List ℕ) (sets : List (List ℕ)) (table table' : List (List (List ℕ))) (numbers : List ℕ) (n : ℕ) → 0 < length words
      → AreListed automata words table numbers → AreNumbered sets table table' n → AreReached automata word sets → AreListed automata (words ++ word ∷ []) table' (numbers ++ n ∷ [])
  listed_more words word sets table table' numbers n some listed numbered reached =
      let words_len = length_push words word in
      let numbers_len = length_push numbers n in
      let each = listed.each in
      let longer = table_longer sets table table' n numbered in
      let old_number = λ (i : ℕ) (below : i < length words). let at : get_or (numbers ++ n ∷ []) i 0 ≡ get_or numbers i 0 = get_or_append_left numbers (n ∷ []) 0 i (omega arith) in at in
      let new_number : get_or (numbers ++ n ∷ []) (length words) 0 ≡ n = get_or_push numbers n 0 (length words) each in
      let old_met = λ (m : ℕ) (below : m < length table).
      let at = listed.met m below in
      let found : (i : ℕ) × (i < length (words ++ word ∷ [])) × (get_or (numbers ++ n ∷ []) i 0 ≡ m) = (at.0, omega (arith, at.1), old_number at.0 at.1 ∙ at.2) in
      found in
      record {
        each = numbers_len ∙ ap (λ k. k + 1) each ∙ sym words_len;
        first = old_number 0 some ∙ listed.first;
        within = λ i below. elim (cases_lt i (length words)) [
          | inl old ↦ let before = listed.within i old in let at = old_number i old in omega arith
          | inr last ↦
              let here : length words ≡ i = omega arith in
              subst (λ m. get_or (numbers ++ n ∷ []) m 0 < length table') here (let within = numbered.within in omega arith)
        ];
        reached = λ i below. elim (cases_lt i (length words)) [
          | inl old ↦
              subst (λ w. AreReached automata w (get_or table' (get_or (numbers ++ n ∷ []) i 0) [])) (sym (get_or_append_left words (word ∷ []) [] i old))
              (subst (λ m. AreReached automata (get_or words i []) (get_or table' m [])) (sym (old_number i old))
              (subst (λ s. AreReached automata (get_or words i []) s) (sym (table_kept sets table table' n numbered (get_or numbers i 0) (listed.within i old))) (listed.reached i old)))
          | inr last ↦
              let here : length words ≡ i = omega arith in
              subst (λ m. AreReached automata (get_or (words ++ word ∷ []) m []) (get_or table' (get_or (numbers ++ n ∷ []) m 0) [])) here
              (subst (λ w. AreReached automata w (get_or table' (get_or (numbers ++ n ∷ []) (length words) 0) [])) (sym (get_or_push words word [] (length words) refl))
              (subst (λ m. AreReached automata word (get_or table' m [])) (sym new_number) (subst (λ s. AreReached automata word s) (sym numbered.at) reached)))
        ];
        met = λ m below. elim numbered.grown [
          | inl old ↦ old_met m (let len = ap length old.0 in omega arith)
          | inr new ↦ elim (cases_lt m (length table)) [
            | inl before ↦ old_met m before
            | inr last ↦
                let len = ap length new.0 in
                let pushed = length_push table sets in
                let at = new.1 in
                (length words, omega arith, new_number ∙ (let same : n ≡ m = omega arith in same))
          ]
        ];
      }

  module _ (words : List (List ℕ)) (table : List (List (List ℕ))) (numbers : List ℕ) (listed : AreListed automata words table numbers) where
    -- the listed word that first met the sets of a number
    pub met_by : (m : ℕ) → m < length table → (i : ℕ) × (i < length words) × AreReached automata (get_or words i []) (get_or table m [])
    met_by m below =
        let at = listed.met m below in
        (at.0, at.1, subst (λ n. AreReached automata (get_or words at.0 []) (get_or table n [])) at.2 (listed.reached at.0 at.1))

    pub all_met : All (AreMet automata) table
    all_met = All-from_get_or (AreMet automata) table [] (λ m below. let at = met_by m below in (get_or words at.0 [], at.2))

    -- a listed word reaches sets of the table
    pub listed_sets : (word : List ℕ) → Contains words word → (m : ℕ) × (m < length table) × AreReached automata word (get_or table m [])
    listed_sets word among =
        let i = among.0 in
        let here : get_or words i [] ≡ word = get_or_default words i [] word among.1 ∙ among.2 in
        (get_or numbers i 0, listed.within i among.1, subst (λ w. AreReached automata w (get_or table (get_or numbers i 0) [])) here (listed.reached i among.1))

    -- the words are closed where letters lead from the table to the table
    pub closed_list : (over : List Bool) → AreFollowed over automata table (length table) → IsClosed over automata words
    closed_list over followed word k among read =
        let (m, m_below, reached) = listed_sets word among in
        let (to, there) = followed m k m_below read in
        let (j, j_below, met) = met_by to there.below in
        (get_or words j [], Contains-get_or words j [] j_below, sets_same automata (get_or words j []) (word ++ k ∷ []) (get_or table to []) met (there.leads word reached))

    -- and open where one leads out of it
    pub open_list : (over : List Bool) → IsLeft over automata table → ¬ IsClosed over automata words
    open_list over left closed =
        let (i, i_below, reached) = met_by left.from left.within in
        let word = get_or words i [] in
        let (v, among, same) = closed word left.letter (Contains-get_or words i [] i_below) left.read in
        let (m, m_below, there) = listed_sets v among in
        left.out.lacking m m_below (same_sets automata v (word ++ left.letter ∷ []) (get_or table m []) left.out.next there (left.out.leads word reached) same)

-- the same for automata that equal those
pub all_met_by : (old mid : List Automaton) (words : List (List ℕ)) (table : List (List (List ℕ))) (numbers : List ℕ) → mid ≡ old → AreListed old words table numbers → All (AreMet mid) table
all_met_by old mid words table numbers same listed = subst (λ (l : List Automaton). All (AreMet l) table) (sym same) (all_met old words table numbers listed)

pub closed_by : (automata old mid : List Automaton) (words : List (List ℕ)) (table : List (List (List ℕ))) (numbers : List ℕ) (over : List Bool) → old ≡ automata → mid ≡ old
    → AreListed old words table numbers → AreFollowed over mid table (length table) → IsClosed over automata words
closed_by automata old mid words table numbers over first second listed followed =
    subst (λ (l : List Automaton). IsClosed over l words) first
    (closed_list old words table numbers listed over (subst (λ (l : List Automaton). AreFollowed over l table (length table)) second followed))

pub left_by : (automata old mid : List Automaton) (words : List (List ℕ)) (table : List (List (List ℕ))) (numbers : List ℕ) (over : List Bool) → old ≡ automata → mid ≡ old
    → AreListed old words table numbers → IsLeft over mid table → ¬ IsClosed over automata words
left_by automata old mid words table numbers over first second listed left closed =
    open_list old words table numbers listed over (subst (λ (l : List Automaton). IsLeft over l table) second left)
    (subst (λ (l : List Automaton). IsClosed over l words) (sym first) closed)

-- the word of one step more
module _ (automata : List Automaton) (steps : List Step) (i : ℕ) (d : Step) (table : List (List (List ℕ))) (numbers : List ℕ) (below : i < length steps) (ordered : AreOrdered steps)
    (listed : AreListed automata (words_of (take i steps)) table numbers) where
  step : Step
  step = get_or steps i d

  pub parent_below : (get_or steps i d).parent < length (words_of (take i steps))
  parent_below = omega (arith, ordered i d below, words_of_length (take i steps), length-take-le i steps (omega arith))

  pub parent_numbered : (get_or steps i d).parent < length numbers
  parent_numbered = let parent = parent_below in let each = listed.each in omega arith

  module _ (from : ℕ) (at : from ≡ get_or numbers (get_or steps i d).parent from) where
    from_is : from ≡ get_or numbers (get_or steps i d).parent 0
    from_is = at ∙ get_or_default numbers (get_or steps i d).parent from 0 parent_numbered

    pub from_below : from < length table
    from_below = subst (λ n. n < length table) (sym from_is) (listed.within (get_or steps i d).parent parent_below)

    pub from_reached : (sets : List (List ℕ)) → sets ≡ get_or table from [] → AreReached automata (get_or (words_of (take i steps)) (get_or steps i d).parent []) sets
    from_reached sets is =
        subst (λ s. AreReached automata (get_or (words_of (take i steps)) (get_or steps i d).parent []) s) (sym is)
        (subst (λ n. AreReached automata (get_or (words_of (take i steps)) (get_or steps i d).parent []) (get_or table n [])) (sym from_is) (listed.reached (get_or steps i d).parent parent_below))

    pub listed_step : (sets next : List (List ℕ)) (table' : List (List (List ℕ))) (n : ℕ) → sets ≡ get_or table from [] → Leads automata sets (get_or steps i d).letter next → AreNumbered next table table' n
        → AreListed automata (words_of (take (i + 1) steps)) table' (numbers ++ n ∷ [])
    listed_step sets next table' n is leads numbered =
        let words = words_of (take i steps) in
        subst (λ ws. AreListed automata ws table' (numbers ++ n ∷ [])) (sym (words_of_more steps i d below))
        (listed_more automata words (word_by words (get_or steps i d)) next table table' numbers n (omega (arith, words_of_length (take i steps))) listed numbered
        (leads (get_or words (get_or steps i d).parent []) (from_reached sets is)))
