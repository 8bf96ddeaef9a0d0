-- Places that rows lead to.
use Rattle.std.proofs.Common.{◌≡◌, ℕ, ◌+◌, ◌<◌, ◌≤◌, ◌↔◌, ◌⊎◌, Bool, List, [], ◌∷◌, length, get_or, drop, inl, inr, arith, refl, sym, ap, subst, ◌∙◌}
use Rattle.std.proofs.lemmas.Bool.{cases_lt}
use Rattle.rela_branches.specs.Places.{AreBelow, AreNext, AreReached, Chain, Has, IsMarked, Leads}
use Rattle.rela_branches.proofs.Marks.{is_inside}
use Rattle.rela_branches.proofs.Members.{follow, has_next, has_none}

module _ (rows : List (List ℕ)) (from : List ℕ) where
  -- the row of one more place is marked
  pub next_more : (marks marks' : List Bool) (k : ℕ) → k < length from
      → ((j : ℕ) → IsMarked marks' j ↔ (IsMarked marks j ⊎ Leads rows (get_or from k 0) j))
      → ((j : ℕ) → (IsMarked marks j ⊎ ((i : ℕ) × Has (drop k from) i × Leads rows i j)) ↔ ((i : ℕ) × Has from i × Leads rows i j))
      → (j : ℕ) → (IsMarked marks' j ⊎ ((i : ℕ) × Has (drop (k + 1) from) i × Leads rows i j)) ↔ ((i : ℕ) × Has from i × Leads rows i j)
  next_more marks marks' k inside marked so_far j =
      follow (
        λ h. elim h [
          | inl is ↦ elim ((marked j).0 is) [
            | inl before ↦ inl before
            | inr leads ↦ inr (get_or from k 0, (has_next from k (get_or from k 0) inside).1 (inl refl), leads)
          ]
          | inr later ↦ inr (later.0, (has_next from k later.0 inside).1 (inr later.1), later.2)
        ],
        λ h. elim h [
          | inl before ↦ inl ((marked j).1 (inl before))
          | inr there ↦ elim ((has_next from k there.0 inside).0 there.1) [
            | inl e ↦ inl ((marked j).1 (inr (subst (λ (i : ℕ). Leads rows i j) e there.2)))
            | inr later ↦ inr (there.0, later, there.2)
          ]
        ],
      ) (so_far j)

  pub next_done : (marks : List Bool) (k : ℕ) → length from ≤ k
      → ((j : ℕ) → (IsMarked marks j ⊎ ((i : ℕ) × Has (drop k from) i × Leads rows i j)) ↔ ((i : ℕ) × Has from i × Leads rows i j))
      → (j : ℕ) → IsMarked marks j ↔ ((i : ℕ) × Has from i × Leads rows i j)
  next_done marks k past so_far j =
      follow (λ is. inl is, λ h. elim h [ inl is ↦ is | inr left ↦ absurd (has_none from k left.0 past left.1) ]) (so_far j)

  pub next_gathered : (shown marks : List Bool) (k : ℕ) → shown ≡ marks → length marks ≡ length rows → length from ≤ k
      → ((j : ℕ) → (IsMarked marks j ⊎ ((i : ℕ) × Has (drop k from) i × Leads rows i j)) ↔ ((i : ℕ) × Has from i × Leads rows i j))
      → (places : List ℕ) → AreBelow (length shown) places → ((j : ℕ) → Has places j ↔ IsMarked shown j) → AreNext rows from places
  next_gathered shown marks k same long past so_far places below has = record {
    below = subst (λ (n : ℕ). AreBelow n places) (ap length same ∙ long) below;
    has = λ j. follow (subst (λ (m : List Bool). Has places j ↔ IsMarked m j) same (has j)) (next_done marks k past so_far j);
  }

-- one more step behind a chain
pub chain_more : (rows : List (List ℕ)) (i : ℕ) (stops : List ℕ) (j k : ℕ) → Chain rows i stops j → Leads rows j k → (more : List ℕ) × Chain rows i more k
chain_more rows i [] j k e leads = (k ∷ [], (subst (λ (x : ℕ). Leads rows x k) (sym e) leads, refl))
chain_more rows i (stop ∷ stops) j k chain leads =
    let rest = chain_more rows stop stops j k chain.1 leads in (stop ∷ rest.0, (chain.0, rest.1))

abbrev pub Reached : List (List ℕ) → List ℕ → ℕ → Type 0
Reached rows from j = (i : ℕ) × (stops : List ℕ) × Has from i × Chain rows i stops j

-- what stays closed under the rows has all that is reached from a place of it
pub closed_has : (rows : List (List ℕ)) (marks : List Bool) → ((i j : ℕ) → IsMarked marks i → Leads rows i j → IsMarked marks j)
    → (i : ℕ) (stops : List ℕ) (j : ℕ) → IsMarked marks i → Chain rows i stops j → IsMarked marks j
closed_has rows marks closed i [] j is e = subst (IsMarked marks) e is
closed_has rows marks closed i (stop ∷ stops) j is chain = closed_has rows marks closed stop stops j (closed i stop is chain.0) chain.1

module _ (rows : List (List ℕ)) (from : List ℕ) (marks marks' : List Bool) (place : ℕ)
    (marked : (j : ℕ) → IsMarked marks' j ↔ (IsMarked marks j ⊎ (IsMarked marks place × Leads rows place j))) where
  pub reach_more : ((j : ℕ) → IsMarked marks j → Reached rows from j) → (j : ℕ) → IsMarked marks' j → Reached rows from j
  reach_more so_far j is =
      elim ((marked j).0 is) [
        | inl before ↦ so_far j before
        | inr both ↦
            let there = so_far place both.0 in
            let more = chain_more rows there.0 there.1 place j there.3 both.1 in (there.0, more.0, there.2, more.1)
      ]

  pub begin_more : ((i : ℕ) → Has from i → IsMarked marks i) → (i : ℕ) → Has from i → IsMarked marks' i
  begin_more begun i has = (marked i).1 (inl (begun i has))

  pub lead_more : ((i j : ℕ) → Leads rows i j → i ≤ j)
      → ((i j : ℕ) → i < place → IsMarked marks i → Leads rows i j → IsMarked marks j)
      → (i j : ℕ) → i < place + 1 → IsMarked marks' i → Leads rows i j → IsMarked marks' j
  lead_more onward led i j before is leads =
      -- a mark at this place or before it stood already
      let stood : IsMarked marks i = elim ((marked i).0 is) [
        | inl is ↦ is
        | inr both ↦ let on = onward place i both.1 in let e : place ≡ i = omega arith in subst (IsMarked marks) e both.0
      ] in
      (marked j).1 (elim (cases_lt i place) [
        | inl less ↦ inl (led i j less stood leads)
        | inr past ↦ let e : i ≡ place = omega arith in inr (subst (IsMarked marks) e stood, subst (λ (x : ℕ). Leads rows x j) e leads)
      ])

pub reach_gathered : (rows : List (List ℕ)) (from : List ℕ) (shown marks : List Bool) (k : ℕ) → shown ≡ marks → length marks ≡ length rows → length rows ≤ k
    → ((j : ℕ) → IsMarked marks j → Reached rows from j) → ((i : ℕ) → Has from i → IsMarked marks i)
    → ((i j : ℕ) → i < k → IsMarked marks i → Leads rows i j → IsMarked marks j)
    → (places : List ℕ) → AreBelow (length shown) places → ((j : ℕ) → Has places j ↔ IsMarked shown j) → AreReached rows from places
reach_gathered rows from shown marks k same long past reached begun led places below has = record {
  below = subst (λ (n : ℕ). AreBelow n places) (ap length same ∙ long) below;
  has = λ j. follow (subst (λ (m : List Bool). Has places j ↔ IsMarked m j) same (has j)) (
    λ is. reached j is,
    λ there. closed_has rows marks (λ i j is leads. let inside = is_inside marks i is in led i j (omega arith) is leads) there.0 there.1 j (begun there.0 there.2) there.3,
  );
}
