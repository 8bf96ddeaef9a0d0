-- The search, where it begins.
use Rattle.std.proofs.Common.{◌≡◌, ℕ, ◌↔◌, Bool, true, false, List, [], ◌∷◌, ◌++◌, length, ap, ◌∙◌, subst, arith}
use Rattle.std.specs.List.{Contains}
use Rattle.rela_letter_nfa.specs.LetterAutomaton.{LetterAutomaton}
use Rattle.rela_letter_nfa.specs.Pair.{IsSoughtSet, Pair, joined, starts_of}
use Rattle.rela_letter_nfa.specs.Searching.{AreUnwanted, IsFound, IsSearched}
use Rattle.rela_letter_nfa.specs.Sets.{Adds, Enters, LeadsFrom, Lists}
use Rattle.rela_letter_nfa.specs.declared.arrival.Arrival.{Arrival}
use Rattle.rela_letter_nfa.specs.declared.difference.Sought.{Sought}
use Rattle.rela_letter_nfa.proofs.Growing.{adds_all}
use Rattle.rela_letter_nfa.proofs.Members.{Contains-nil}
use Rattle.rela_letter_nfa.proofs.Reached.{lists_same}
use Rattle.rela_letter_nfa.proofs.Searching.{searched_start, unwanted_more, wanted_last}

-- what the empty word reaches
pub start_reached : (a : LetterAutomaton) (starts none first now sorted : List ℕ) → none ≡ [] → Adds (Contains starts) none first → ((q : ℕ) → Contains now q ↔ LeadsFrom a first [] q)
    → Lists (Contains now) sorted → Lists (LeadsFrom a starts []) sorted
start_reached a starts none first now sorted empty adds closed is =
    let same = adds_all (Contains starts) first (subst (λ l. Adds (Contains starts) l first) empty adds) in
    lists_same (Contains now) (LeadsFrom a starts []) sorted (λ q. (
      λ c. let (p, among, silent) = (closed q).0 c in (p, (same p).0 among, silent),
      λ (p, among, silent). (closed q).1 (p, (same p).1 among, silent),
    )) is

enters_first : (set : List ℕ) (old new : List (List ℕ)) (is_new : Bool) → Enters set old new is_new → old ≡ [] → new ≡ old ++ set ∷ []
enters_first set old new false enters none = absurd (Contains-nil set (subst (λ (l : List (List ℕ)). Contains l set) none enters.1))
enters_first set old new true enters none = enters

module _ (sought : Sought) (pair : Pair) (old new : List (List ℕ)) (arrivals : List Arrival) (set lent : List ℕ) (is_new : Bool) (enters : Enters lent old new is_new) (none : old ≡ [])
    (lent_is : lent ≡ set) where
  grown : new ≡ old ++ set ∷ []
  grown = enters_first lent old new is_new enters none ∙ ap (λ s. old ++ s ∷ []) lent_is

  nothing : AreUnwanted (IsSoughtSet sought pair) old
  nothing i below = absurd (omega (arith, below, ap length none))

  pub begun : arrivals ≡ [] → Lists (LeadsFrom (joined pair) (starts_of pair) []) set → IsSearched (joined pair) (starts_of pair) new arrivals 0 0
  begun no_arrivals is = searched_start (joined pair) (starts_of pair) set new arrivals (grown ∙ ap (λ l. l ++ set ∷ []) none) no_arrivals is

  pub begun_found : arrivals ≡ [] → Lists (LeadsFrom (joined pair) (starts_of pair) []) set → IsSoughtSet sought pair set → IsFound sought pair new arrivals
  begun_found no_arrivals is here = record { searched = (0, 0, begun no_arrivals is); last = wanted_last (IsSoughtSet sought pair) old new set grown nothing here }

  pub begun_unwanted : ¬ IsSoughtSet sought pair set → AreUnwanted (IsSoughtSet sought pair) new
  begun_unwanted other = unwanted_more (IsSoughtSet sought pair) old new set grown nothing other
