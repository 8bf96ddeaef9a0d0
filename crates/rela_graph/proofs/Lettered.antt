-- What is read along the edges that are made for those of a graph.
use Rattle.std.proofs.Common.{◌≡◌, ℕ, ◌+◌, ◌<◌, ◌⊎◌, ◌↔◌, Bool, true, false, IsTrue, List, [], ◌∷◌, ◌++◌, length, map, Option, None, Some, refl, sym, ap, subst, inl, inr, arith}
use Rattle.std.specs.Prelude.{◌==◌, if◌then◌else◌}
use Rattle.std.specs.List.{All, Contains}
use Rattle.std.proofs.lemmas.List.Elements.{All-nil, All-cons, All-append, All-map, All-contains}
use Rattle.std.proofs.lemmas.List.FromFn.{length-map-range_with_len}
use Rattle.rela_labels.specs.Letters.{has}
use Rattle.rela_nfa.specs.Automaton.{Move, IsMove}
use Rattle.rela_nfa.specs.Construction.{silent, single}
use Rattle.rela_nfa.specs.Runs.{StepIn}
use Rattle.rela_graph.specs.Lettering.{letter_at, read_between, by_letter, only_if, link_move}
use Rattle.rela_graph.specs.Unrolled.{LeadOn}
use Rattle.rela_graph.specs.declared.letters.Letters.{Letters}
use Rattle.rela_graph.specs.declared.node.Link.{Link}
use Rattle.rela_graph.proofs.Stepping.{Contains-nil, Contains-cons_cases, Contains-map, Contains-map_back, step_left, step_right, step_cases, no_step, silent_only, single_only, single_has}

-- by an edge by one letter
module _ (count k to : ℕ) (below : k < count) where
  same_set : {set : List Bool} → Some (single count k) ≡ Some set → single count k ≡ set
  same_set e = cc

  letter_only : (letter : Option ℕ) (q : ℕ) → StepIn (by_letter count k to ∷ []) letter q → (letter ≡ Some k) × (q ≡ to)
  letter_only None q step = elim (Contains-cons_cases (by_letter count k to) [] _ step) [
    | inl same ↦ let never = ap (λ (move : Move). move.label) same in cc
    | inr none ↦ absurd (Contains-nil _ none)
  ]
  letter_only (Some j) q step = elim (Contains-cons_cases (by_letter count k to) [] _ step.1) [
    | inl same ↦
        let set : single count k ≡ step.0 = same_set (ap (λ (move : Move). move.label) same) in
        (ap Some (single_only count k j (subst (λ l. has l j ≡ true) (sym set) step.2)), sym (ap (λ (move : Move). move.to) same))
    | inr none ↦ absurd (Contains-nil _ none)
  ]

  letter_taken : (letter : Option ℕ) (q : ℕ) → (letter ≡ Some k) × (q ≡ to) → StepIn (by_letter count k to ∷ []) letter q
  letter_taken letter q (reads, leads) =
      subst (λ l. StepIn (by_letter count k to ∷ []) l q) (sym reads)
      (subst (λ n. StepIn (by_letter count k to ∷ []) (Some k) n) (sym leads) (single count k, (0, omega arith, refl), single_has count k below))

  letter_sized : (states : ℕ) → to < states → IsMove count states (by_letter count k to)
  letter_sized states leads = record {
    sized = λ set is. subst (λ l. length l ≡ count) (same_set is) (length-map-range_with_len (λ j. j == k) 0 count);
    leads = leads;
  }

-- by a silent edge
silent_taken : (to : ℕ) (letter : Option ℕ) (q : ℕ) → (letter ≡ None) × (q ≡ to) → StepIn (silent to ∷ []) letter q
silent_taken to letter q (reads, leads) =
    subst (λ l. StepIn (silent to ∷ []) l q) (sym reads) (subst (λ n. StepIn (silent to ∷ []) None n) (sym leads) (0, omega arith, refl))

silent_sized : (count states to : ℕ) → to < states → IsMove count states (silent to)
silent_sized count states to leads = record { sized = λ set is. let never : None ≡ Some set = is in cc; leads = leads }

-- by the edges of a list, each made of an element
module _ {X : Type 0} (f : X → Move) (xs : List X) where
  by_one : (letter : Option ℕ) (q : ℕ) → StepIn (map f xs) letter q → (x : X) × Contains xs x × StepIn (f x ∷ []) letter q
  by_one None q step = let found = Contains-map_back f xs _ step in (found.0, found.2, (0, omega arith, found.1))
  by_one (Some k) q step = let found = Contains-map_back f xs _ step.1 in (found.0, found.2, (step.0, (0, omega arith, found.1), step.2))

  from_one : (letter : Option ℕ) (q : ℕ) (x : X) → Contains xs x → StepIn (f x ∷ []) letter q → StepIn (map f xs) letter q
  from_one None q x among step = elim (Contains-cons_cases (f x) [] _ step) [
    | inl same ↦ subst (λ m. Contains (map f xs) m) same (Contains-map f xs x among)
    | inr none ↦ absurd (Contains-nil _ none)
  ]
  from_one (Some k) q x among step = elim (Contains-cons_cases (f x) [] _ step.1) [
    | inl same ↦ (step.0, subst (λ m. Contains (map f xs) m) same (Contains-map f xs x among), step.2)
    | inr none ↦ absurd (Contains-nil _ none)
  ]

-- by the edge for one of the graph's
module _ (letters : Letters) (link : Link) (below : letter_at letters link.b < letters.count) where
  abbrev here : ℕ
  here = letter_at letters link.a

  abbrev there : ℕ
  there = letter_at letters link.b

  abbrev made : Bool → Move
  made same = if same then silent (1 + link.b) else by_letter letters.count there (1 + link.b)

  abbrev read : Bool → Option ℕ
  read same = if same then None else Some there

  link_steps : (same : Bool) (letter : Option ℕ) (q : ℕ) → StepIn (made same ∷ []) letter q ↔ ((letter ≡ read same) × (q ≡ 1 + link.b))
  link_steps true letter q = (silent_only (1 + link.b) letter q, silent_taken (1 + link.b) letter q)
  link_steps false letter q = (letter_only letters.count there (1 + link.b) below letter q, letter_taken letters.count there (1 + link.b) below letter q)

  link_sized : (same : Bool) (states : ℕ) → 1 + link.b < states → IsMove letters.count states (made same)
  link_sized true states leads = silent_sized letters.count states (1 + link.b) leads
  link_sized false states leads = letter_sized letters.count there (1 + link.b) below states leads

  pub link_reads : (letter : Option ℕ) (q : ℕ) → StepIn (link_move letters link ∷ []) letter q ↔ ((letter ≡ read_between letters link.a link.b) × (q ≡ 1 + link.b))
  link_reads = link_steps (here == there)

  pub link_is_move : (states : ℕ) → 1 + link.b < states → IsMove letters.count states (link_move letters link)
  link_is_move = link_sized (here == there)

-- by the edges for some of the graph's
module _ (letters : Letters) (links : List Link) (states : ℕ) (below : All (λ link. (letter_at letters link.b < letters.count) × (1 + link.b < states)) links) where
  each_below : (link : Link) → Contains links link → (letter_at letters link.b < letters.count) × (1 + link.b < states)
  each_below link among = All-contains (λ link. (letter_at letters link.b < letters.count) × (1 + link.b < states)) links link below among

  pub links_lead : LeadOn letters.count states (map (link_move letters) links)
      (λ letter q. (link : Link) × Contains links link × (letter ≡ read_between letters link.a link.b) × (q ≡ 1 + link.b))
  links_lead = record {
    sized = All-map (IsMove letters.count states) (link_move letters) links (λ k d within. let at = below k d within in link_is_move letters _ at.0 states at.1);
    steps = λ letter q. (
      λ step.
          let found = by_one (link_move letters) links letter q step in
          let reads = (link_reads letters found.0 (each_below found.0 found.1).0 letter q).0 found.2 in
          (found.0, found.1, reads.0, reads.1),
      λ (link, among, reads, leads).
          from_one (link_move letters) links letter q link among ((link_reads letters link (each_below link among).0 letter q).1 (reads, leads)),
    );
  }

-- the same edges, told otherwise
pub lead_same : (letters states : ℕ) (moves : List Move) (P Q : Option ℕ → ℕ → Type 0) → ((letter : Option ℕ) (q : ℕ) → P letter q ↔ Q letter q)
    → LeadOn letters states moves P → LeadOn letters states moves Q
lead_same letters states moves P Q same leads = record {
  sized = leads.sized;
  steps = λ letter q. (λ step. (same letter q).0 ((leads.steps letter q).0 step), λ holds. (leads.steps letter q).1 ((same letter q).1 holds));
}

-- no edges
pub lead_none : (letters states : ℕ) (P : Option ℕ → ℕ → Type 0) → ((letter : Option ℕ) (q : ℕ) → ¬ P letter q) → LeadOn letters states [] P
lead_none letters states P none = record {
  sized = All-nil (IsMove letters states);
  steps = λ letter q. (λ step. absurd (no_step letter q step), λ holds. absurd (none letter q holds));
}

-- one edge more, if it is wanted
module _ (count states : ℕ) (moves : List Move) (P : Option ℕ → ℕ → Type 0) (leads : LeadOn count states moves P) (k to : ℕ) (below : k < count) (within : to < states) where
  added : (wanted : Bool) (letter : Option ℕ) (q : ℕ) → StepIn (only_if wanted (by_letter count k to)) letter q ↔ (IsTrue wanted × (letter ≡ Some k) × (q ≡ to))
  added true letter q = (
    λ step. let reads = letter_only count k to below letter q step in (refl, reads.0, reads.1),
    λ (wanted, reads, leads). letter_taken count k to below letter q (reads, leads),
  )
  added false letter q = (λ step. absurd (no_step letter q step), λ (wanted, reads, leads). let never : false ≡ true = wanted in cc)

  added_sized : (wanted : Bool) → All (IsMove count states) (only_if wanted (by_letter count k to))
  added_sized true = All-cons (IsMove count states) _ [] (letter_sized count k to below states within) (All-nil (IsMove count states))
  added_sized false = All-nil (IsMove count states)

  pub lead_if : (wanted : Bool) → LeadOn count states (moves ++ only_if wanted (by_letter count k to)) (λ letter q. P letter q ⊎ (IsTrue wanted × (letter ≡ Some k) × (q ≡ to)))
  lead_if wanted = record {
    sized = All-append (IsMove count states) moves (only_if wanted (by_letter count k to)) leads.sized (added_sized wanted);
    steps = λ letter q. (
      λ step. elim (step_cases moves (only_if wanted (by_letter count k to)) letter q step) [
        | inl old ↦ inl ((leads.steps letter q).0 old)
        | inr new ↦ inr ((added wanted letter q).0 new)
      ],
      λ holds. elim holds [
        | inl old ↦ step_left moves (only_if wanted (by_letter count k to)) letter q ((leads.steps letter q).1 old)
        | inr new ↦ step_right moves (only_if wanted (by_letter count k to)) letter q ((added wanted letter q).1 new)
      ],
    );
  }
