-- Letters of a set, and lists of states that grow at the end.
use Rattle.std.proofs.Common.{◌≡◌, ℕ, ◌<◌, ◌⊎◌, ◌↔◌, Bool, true, false, List, [], ◌∷◌, ◌++◌, Some, length, inl, inr, sym, ap, ◌∙◌, subst, append_assoc}
use Rattle.std.specs.List.{Contains}
use Rattle.std.proofs.lemmas.Bool.{cases_lt, false≢true}
use Rattle.std.proofs.lemmas.List.{append-nil, get_or_past}
use Rattle.std.proofs.lemmas.List.Elements.{Contains-append_cases, Contains-append_left, Contains-append_right}
use Rattle.rela_labels.specs.Letters.{has}
use Rattle.rela_nfa.specs.Automaton.{Move}
use Rattle.rela_nfa.specs.Runs.{StepIn}
use Rattle.rela_nfa.specs.StateSet.{Adds}
use Rattle.rela_subset.proofs.Targets.{Contains-nil}

pub has_below : (x : List Bool) (k : ℕ) → has x k ≡ true → k < length x
has_below x k among = elim (cases_lt k (length x)) [
  | inl below ↦ below
  | inr past ↦ absurd (false≢true (sym (get_or_past x k false past) ∙ among))
]

pub adds_nothing : (P : ℕ → Type 0) (now : List ℕ) → ((m : ℕ) → P m → ⊥) → Adds P now now
adds_nothing P now none = record { longer = ([], sym (append-nil now)); each = λ m c. inl c; all = λ m holds. absurd (none m holds) }

-- to no state just those of P were added
pub adds_all : (P : ℕ → Type 0) (now : List ℕ) → Adds P [] now → (q : ℕ) → Contains now q ↔ P q
adds_all P now adds q = (λ c. elim (adds.each q c) [ inl none ↦ absurd (Contains-nil q none) | inr holds ↦ holds ], adds.all q)

-- one after the other
pub adds_both : (P Q R : ℕ → Type 0) (old mid new : List ℕ) → Adds P old mid → Adds Q mid new → ((m : ℕ) → P m → R m) → ((m : ℕ) → Q m → R m)
    → ((m : ℕ) → R m → P m ⊎ Q m) → Adds R old new
adds_both P Q R old mid new first second left right cases = record {
  longer = (first.longer.0 ++ second.longer.0, second.longer.1 ∙ ap (λ l. l ++ second.longer.0) first.longer.1 ∙ append_assoc old first.longer.0 second.longer.0);
  each = λ m c. elim (second.each m c) [
    | inl before ↦ elim (first.each m before) [ inl there ↦ inl there | inr one ↦ inr (left m one) ]
    | inr two ↦ inr (right m two)
  ];
  all = λ m holds. elim (cases m holds) [
    | inl one ↦ subst (λ l. Contains l m) (sym second.longer.1) (Contains-append_left mid second.longer.0 m (first.all m one))
    | inr two ↦ second.all m two
  ];
}

-- by the edges of a list, and then by one more
pub adds_edge : (moves : List Move) (move : Move) (letter : ℕ) (old mid new : List ℕ) → Adds (StepIn moves (Some letter)) old mid
    → Adds (StepIn (move ∷ []) (Some letter)) mid new → Adds (StepIn (moves ++ move ∷ []) (Some letter)) old new
adds_edge moves move letter old mid new before one =
    adds_both (StepIn moves (Some letter)) (StepIn (move ∷ []) (Some letter)) (StepIn (moves ++ move ∷ []) (Some letter)) old mid new before one
    (λ m (set, among, has). (set, Contains-append_left moves (move ∷ []) (record { label = Some set; to = m }) among, has))
    (λ m (set, among, has). (set, Contains-append_right moves (move ∷ []) (record { label = Some set; to = m }) among, has))
    (λ m (set, among, has). elim (Contains-append_cases moves (move ∷ []) (record { label = Some set; to = m }) among) [
      | inl first ↦ inl (set, first, has)
      | inr last ↦ inr (set, last, has)
    ])
