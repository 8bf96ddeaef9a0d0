-- The sets of a table, left by one letter more.
use Rattle.std.proofs.Common.{◌≡◌, ◌≢◌, ℕ, ◌+◌, ◌<◌, ◌≤◌, Bool, true, false, List, [], ◌∷◌, ◌++◌, length, get_or, Option, None, Some, sym, ap, ◌∙◌, subst, inl, inr, arith}
use Rattle.std.specs.Option.{IfSome, is_some}
use Rattle.std.proofs.lemmas.Bool.{cases_lt, false≢true}
use Rattle.std.proofs.lemmas.List.{get_or_past}
use Rattle.rela_labels.specs.Letters.{has}
use Rattle.rela_nfa.specs.Automaton.{Automaton}
use Rattle.rela_closed.specs.Listing.{AreFollowed, IsFollowed, LeadsOut, LeadsTo}
use Rattle.rela_closed.specs.Sets.{AreDistinct, AreNumbered, Leads}
use Rattle.rela_closed.proofs.Listed.{table_kept}

module _ (automata : List Automaton) (sets : List (List ℕ)) (table table' : List (List (List ℕ))) (n : ℕ) (numbered : AreNumbered sets table table' n) where
  -- sets that were found before
  pub known_same : (n ≡ length table → ⊥) → table' ≡ table
  known_same other = elim numbered.grown [ inl old ↦ old.0 | inr new ↦ absurd (other new.1) ]

  pub known_below : (n ≡ length table → ⊥) → n < length table
  known_below other = elim numbered.grown [ inl old ↦ old.1 | inr new ↦ absurd (other new.1) ]

  pub known_at : (n ≡ length table → ⊥) → get_or table n [] ≡ sets
  known_at other = ap (λ t. get_or t n []) (sym (known_same other)) ∙ numbered.at

  -- sets that are new
  pub new_at : length table ≤ n → n ≡ length table
  new_at past = elim numbered.grown [ inl old ↦ absurd (let below = old.1 in omega arith) | inr new ↦ new.1 ]

  pub new_pushed : n ≡ length table → table' ≡ table ++ sets ∷ []
  new_pushed at = elim numbered.grown [ inl old ↦ absurd (let below = old.1 in omega arith) | inr new ↦ new.0 ]

  pub new_lacking : n ≡ length table → AreDistinct table' → (j : ℕ) → j < length table → get_or table j [] ≢ sets
  new_lacking at distinct j below same =
      distinct j n (omega arith) numbered.within (table_kept automata sets table table' n numbered j below ∙ same ∙ sym numbered.at)

  module _ (here : List (List ℕ)) (k : ℕ) (leads : Leads automata here k sets) where
    pub goes_on : (n ≡ length table → ⊥) → LeadsTo automata table here k n
    goes_on other = record { below = known_below other; leads = subst (λ s. Leads automata here k s) (sym (known_at other)) leads }

    pub goes_out : n ≡ length table → AreDistinct table' → LeadsOut automata table here k
    goes_out at distinct = record { next = sets; leads = leads; lacking = new_lacking at distinct }

pub no_more_letters : (over : List Bool) (k : ℕ) → length over ≤ k → (j : ℕ) → k ≤ j → has over j ≡ true → ⊥
no_more_letters over k all j past read = false≢true (sym (get_or_past over j false (omega arith)) ∙ read)

-- the sets of one number more have been left
pub left_more : (over : List Bool) (automata : List Automaton) (table : List (List (List ℕ))) (p : ℕ) → AreFollowed over automata table p
    → ((j : ℕ) → has over j ≡ true → IsFollowed automata table (get_or table p []) j) → AreFollowed over automata table (p + 1)
left_more over automata table p before here i k below read = elim (cases_lt i p) [
  | inl earlier ↦ before i k earlier read
  | inr last ↦ let same : p ≡ i = omega arith in subst (λ m. IsFollowed automata table (get_or table m []) k) same (here k read)
]

-- the same of what is equal
pub leads_as : (automata automata' : List Automaton) (table table' : List (List (List ℕ))) (p k to : ℕ) → automata' ≡ automata → table' ≡ table
    → LeadsTo automata' table' (get_or table' p []) k to → LeadsTo automata table (get_or table p []) k to
leads_as automata automata' table table' p k to one two is =
    subst (λ l. LeadsTo l table (get_or table p []) k to) one (subst (λ t. LeadsTo automata' t (get_or t p []) k to) two is)

pub followed_as : (automata automata' : List Automaton) (table table' : List (List (List ℕ))) (p k : ℕ) → automata' ≡ automata → table' ≡ table
    → IsFollowed automata' table' (get_or table' p []) k → IsFollowed automata table (get_or table p []) k
followed_as automata automata' table table' p k one two is =
    subst (λ l. IsFollowed l table (get_or table p []) k) one (subst (λ t. IsFollowed automata' t (get_or t p []) k) two is)

-- an option that has a value
pub some_of : {X : Type 0} (o : Option X) (P : X → Type 0) → is_some o ≡ true → IfSome o P → (x : X) × P x
some_of None P e holds = absurd (false≢true e)
some_of (Some x) P e holds = (x, holds)
