-- The search for the first words, one block of letters after the other.
use Rattle.std.proofs.Common.{◌≡◌, ℕ, ◌+◌, ◌<◌, ◌≤◌, Bool, true, List, [], ◌∷◌, ◌++◌, length, get_or, sym, ap, ◌∙◌, subst, arith}
use Rattle.rela_labels.specs.Letters.{has}
use Rattle.rela_nfa.specs.Automaton.{Automaton}
use Rattle.rela_closed.specs.Listing.{IsLed, IsSearched}
use Rattle.rela_closed.specs.Sets.{AreNumbered, Leads}
use Rattle.rela_closed.specs.Splitting.{AreFewer, AreTold, IsBlock, LeadAlike, Splitting, remains}
use Rattle.rela_closed.specs.Words.{words_of}
use Rattle.rela_closed.specs.declared.step.Step.{Step}
use Rattle.rela_closed.proofs.LastLetters.{IsTransitive}
use Rattle.rela_closed.proofs.Leaving.{known_same, new_at, new_pushed}
use Rattle.rela_closed.proofs.Searching.{keeps, led_alike, search_known, search_new, search_step}
use Rattle.rela_closed.proofs.TakenBlocks.{AreDone, block_leads, done_taken, done_weaker, told_fewer}
use Rattle.rela_closed.proofs.WordLists.{words_of_push}

module _ (over : List Bool) (automata : List Automaton) (words : List (List ℕ)) (table : List (List (List ℕ))) (p letter : ℕ) (blocks blocks' : Splitting) (block : List Bool)
    (told : AreTold automata (get_or table p []) blocks) (within : (k : ℕ) → remains blocks k ≡ true → has over k ≡ true) (is : IsBlock blocks letter block) (fewer : AreFewer block blocks blocks')
    (done : AreDone over (λ k. IsLed automata words table p k) blocks letter)
    (words' : List (List ℕ)) (table' : List (List (List ℕ))) (kept : get_or table' p [] ≡ get_or table p []) where
  pub told_after : AreTold automata (get_or table' p []) blocks'
  told_after = subst (λ s. AreTold automata s blocks') (sym kept) (told_fewer block blocks blocks' fewer automata (get_or table p []) told)

  -- each letter of the block leads where this one does
  pub done_after : IsTransitive → IsSearched over automata words' table' p (letter + 1) → p < length words' → ((k : ℕ) → IsLed automata words table p k → IsLed automata words' table' p k)
      → AreDone over (λ k. IsLed automata words' table' p k) blocks' (letter + 1)
  done_after transitive searched p_in still =
      done_taken over (λ k. IsLed automata words' table' p k) blocks blocks' letter block is fewer
      (λ k read among. led_alike transitive over automata words' table' p (letter + 1) searched letter k p_in (omega arith) (within letter (is.within letter is.member)) read
      (subst (λ s. LeadAlike automata s letter k) (sym kept) (block_leads automata (get_or table p []) blocks letter block told is k among)))
      (done_weaker over (λ k. IsLed automata words table p k) (λ k. IsLed automata words' table' p k) blocks letter still done)

-- the sets that follow are new, and so is the step to them
module _ (over : List Bool) (automata : List Automaton) (steps steps' : List Step) (table table' : List (List (List ℕ))) (p letter n : ℕ) (sets : List (List ℕ))
    (pushed : steps' ≡ steps ++ record { parent = p; letter = letter } ∷ []) (searched : IsSearched over automata (words_of steps) table p letter) (p_in : p < length (words_of steps))
    (numbered : AreNumbered sets table table' n) (leads : Leads automata (get_or table p []) letter sets) (read : has over letter ≡ true) (past : length table ≤ n) where
  at : n ≡ length table
  at = new_at automata sets table table' n numbered past

  grown : table' ≡ table ++ sets ∷ []
  grown = new_pushed automata sets table table' n numbered at

  pub searched_new : IsTransitive → IsSearched over automata (words_of steps') table' p (letter + 1)
  searched_new transitive =
      search_step over automata steps steps' (record { parent = p; letter = letter }) table' p (letter + 1) pushed
      (search_new transitive over automata (words_of steps) table p letter searched p_in sets table' n numbered leads read grown at)

  pub led_new : IsTransitive → (k : ℕ) → IsLed automata (words_of steps) table p k → IsLed automata (words_of steps') table' p k
  led_new transitive k led =
      let step : Step = record { parent = p; letter = letter } in
      subst (λ ws. IsLed automata ws table' p k) (sym (ap words_of pushed ∙ words_of_push steps step))
      (keeps transitive over automata (words_of steps) table p letter searched p_in sets table' n numbered leads read grown at p k p_in led)

-- the sets that follow were found before
module _ (over : List Bool) (automata : List Automaton) (words : List (List ℕ)) (table table' : List (List (List ℕ))) (p letter n : ℕ) (sets : List (List ℕ))
    (searched : IsSearched over automata words table p letter) (p_in : p < length words) (numbered : AreNumbered sets table table' n) (leads : Leads automata (get_or table p []) letter sets)
    (known : n < length table) where
  pub same_table : table' ≡ table
  same_table = known_same automata sets table table' n numbered (λ last. omega arith)

  pub searched_known : IsTransitive → IsSearched over automata words table' p (letter + 1)
  searched_known transitive = search_known transitive over automata words table p letter searched p_in sets table' n numbered leads known same_table

-- what a letter leads to, for what equals the automata and the sets
pub leads_from : (automata automata' : List Automaton) (sets sets' next : List (List ℕ)) (letter : ℕ) → automata' ≡ automata → sets' ≡ sets → Leads automata' sets' letter next
    → Leads automata sets letter next
leads_from automata automata' sets sets' next letter one two leads =
    subst (λ l. Leads l sets letter next) one (subst (λ s. Leads automata' s letter next) two leads)
