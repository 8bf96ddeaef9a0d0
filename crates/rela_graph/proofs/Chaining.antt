-- The chains of the edges into each node.
use Rattle.std.proofs.Common.{◌≡◌, ℕ, ◌+◌, ◌<◌, List, [], ◌∷◌, ◌++◌, Option, None, Some, length, get_or, set, replicate, refl, sym, ap, ◌∙◌, inl, inr, arith}
use Rattle.std.proofs.lemmas.Bool.{cases_lt, cases_eq}
use Rattle.std.proofs.lemmas.List.{get_or-replicate, get_or_past, get_or-set_same, get_or-set_other, get_or_append_left, get_or_push, length-replicate}
use Rattle.rela_graph.specs.declared.node.Link.{Link}

-- how far a chain goes at most
abbrev pub left_of_chain : Option ℕ → ℕ
left_of_chain None = 0
left_of_chain (Some k) = k + 1

-- the first i edges stand in the chains
pub record ChainedSoFar (edges : List Link) (i : ℕ) (last before : List (Option ℕ)) : Type 0 where
  pub into : (n k : ℕ) (d : Link) → get_or last n None ≡ Some k → (k < i) × ((get_or edges k d).b ≡ n)
  pub earlier : (j k : ℕ) (d : Link) → j < i → get_or before j None ≡ Some k → (k < j) × ((get_or edges k d).b ≡ (get_or edges j d).b)

none_in : (count n : ℕ) → get_or {A = Option ℕ} (replicate count None) n None ≡ None
none_in count n = elim (cases_lt n count) [
  | inl below ↦ get_or-replicate count n None None below
  | inr past ↦ get_or_past (replicate count None) n None (let len : length {A = Option ℕ} (replicate count None) ≡ count = length-replicate count None in omega arith)
]

pub no_chain : (edges : List Link) (count : ℕ) (last before : List (Option ℕ)) → last ≡ replicate count None → ChainedSoFar edges 0 last before
no_chain edges count last before none = record {
  into = λ n k d e. let no : None ≡ Some k = sym (none_in count n) ∙ ap (λ l. get_or l n None) (sym none) ∙ e in cc;
  earlier = λ j k d below. absurd (omega arith);
}

pub one_chained : (edges : List Link) (i n : ℕ) (last before : List (Option ℕ)) → ChainedSoFar edges i last before → i < length edges → n < length last → length before ≡ i
    → ((d : Link) → (get_or edges i d).b ≡ n) → ChainedSoFar edges (i + 1) (set last n (Some i)) (before ++ get_or last n None ∷ [])
one_chained edges i n last before so_far within node len target = record {
  into = λ m k d e. elim (cases_eq m n) [
    | inl same ↦
        let here : get_or (set last n (Some i)) m None ≡ Some i = rw same (get_or-set_same last n (Some i) None node) in
        let k_is : k ≡ i = cc in
        (omega arith, rw (k_is, same) (target d))
    | inr apart ↦ let old = so_far.into m k d (sym (get_or-set_other last n m (Some i) None apart) ∙ e) in (let b = old.0 in omega arith, old.1)
  ];
  earlier = λ j k d below e. elim (cases_lt j i) [
    | inl less ↦ so_far.earlier j k d less (sym (get_or_append_left before (get_or last n None ∷ []) None j (omega arith)) ∙ e)
    | inr more ↦
        let same : j ≡ i = omega arith in
        let was = so_far.into n k d (sym (get_or_push before (get_or last n None) None i len) ∙ ap (λ m. get_or (before ++ get_or last n None ∷ []) m None) (sym same) ∙ e) in
        (let b = was.0 in omega arith, was.1 ∙ sym (rw same (target d)))
  ];
}

-- a chain that goes on goes on by less
pub chain_falls : (at next : Option ℕ) (place : ℕ) → at ≡ Some place → ((k : ℕ) → next ≡ Some k → k < place) → left_of_chain next < left_of_chain at
chain_falls at next place is below = rw is (go next below)
  where
    go : (next : Option ℕ) → ((k : ℕ) → next ≡ Some k → k < place) → left_of_chain next < place + 1
    go None below = omega arith
    go (Some k) below = let b = below k refl in omega arith
