-- Two ways to split one word.
use Rattle.std.proofs.Common.{◌≡◌, ℕ, ◌⊎◌, inl, inr, List, [], ◌∷◌, ◌++◌, ◌∙◌, refl, sym, ap, append_assoc}
use Rattle.std.specs.List.{All, concat}
use Rattle.std.proofs.lemmas.List.Folds.{concat-append}
use Rattle.std.proofs.lemmas.List.Elements.{All-nil, All-cons, All-head, All-tail}

-- of two ways to split a word, one front is the other's with a middle part more
pub two_splits : (w z a b : List ℕ) → w ++ z ≡ a ++ b → ((k : List ℕ) × (a ≡ w ++ k) × (z ≡ k ++ b)) ⊎ ((k : List ℕ) × (w ≡ a ++ k) × (b ≡ k ++ z))
two_splits [] z a b same = inl (a, refl, same)
two_splits (x ∷ w) z [] b same = inr (x ∷ w, refl, sym same)
two_splits (x ∷ w) z (y ∷ a) b same =
    let heads : x ≡ y = cc in
    let rests : w ++ z ≡ a ++ b = cc in
    elim (two_splits w z a b rests) [
      | inl r ↦ inl (r.0, (let middle : a ≡ w ++ r.0 = r.1 in cc), r.2)
      | inr r ↦ inr (r.0, (let middle : w ≡ a ++ r.0 = r.1 in cc), r.2)
    ]

pub no_front : (w z : List ℕ) → w ++ z ≡ [] → w ≡ []
no_front [] z none = refl
no_front (x ∷ w) z none = cc

pub no_rest : (w z : List ℕ) → w ++ z ≡ [] → z ≡ []
no_rest [] z none = none
no_rest (x ∷ w) z none = cc

pub all_front : (P : ℕ → Type 0) (w z : List ℕ) → All P (w ++ z) → All P w
all_front P [] z all = All-nil P
all_front P (x ∷ w) z all = All-cons P x w (All-head P x (w ++ z) all) (all_front P w z (All-tail P x (w ++ z) all))

pub all_rest : (P : ℕ → Type 0) (w z : List ℕ) → All P (w ++ z) → All P z
all_rest P [] z all = all
all_rest P (x ∷ w) z all = all_rest P w z (All-tail P x (w ++ z) all)

-- pieces, a part of one more and its rest, and further pieces, regrouped
pub regroup : (u front part rest other : List ℕ) (before after : List (List ℕ)) → u ≡ front ++ part → front ≡ concat before → other ≡ rest ++ concat after →
    u ++ other ≡ concat (before ++ ((part ++ rest) ∷ after))
regroup u front part rest other before after start fronts others =
    ap (λ (v : List ℕ). v ++ other) start
    ∙ append_assoc front part other
    ∙ ap (λ (v : List ℕ). front ++ (part ++ v)) others
    ∙ ap (λ (v : List ℕ). front ++ v) (sym (append_assoc part rest (concat after)))
    ∙ ap (λ (v : List ℕ). v ++ ((part ++ rest) ++ concat after)) fronts
    ∙ sym (concat-append before ((part ++ rest) ∷ after))
