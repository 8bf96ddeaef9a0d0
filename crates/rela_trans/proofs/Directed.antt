-- Edges that are made one after the other, by their labels.
use Rattle.std.proofs.Common.{◌≡◌, ℕ, ◌+◌, ◌<◌, List, [], ◌∷◌, ◌++◌, length, get_or, take, drop, map, refl, sym, ap, ◌∙◌, append_assoc, length-append}
use Rattle.std.specs.List.{flat_map}
use Rattle.std.proofs.lemmas.List.{drop-drop}
use Rattle.rela_nfa.specs.Automaton.{Move as Edge}
use Rattle.rela_nfa.specs.Directing.{Label, directed, extended}
use Rattle.rela_trans.proofs.OneMore.{one_more}

directed_nil : (labels : List Label) → directed labels [] ≡ []
directed_nil [] = refl
directed_nil (label ∷ labels) = refl

directed_more : (xs ys : List Label) (targets : List ℕ) → directed (xs ++ ys) targets ≡ directed xs targets ++ directed ys (drop (length (directed xs targets)) targets)
directed_more [] ys targets = refl
directed_more (x ∷ xs) ys [] = sym (directed_nil ys)
directed_more (x ∷ xs) ys (t ∷ targets) = ap (λ l. record { label = x; to = t } ∷ l) (directed_more xs ys targets)

pub extended_more : (edges : List Edge) (xs ys : List Label) (targets : List ℕ) → extended (extended edges xs targets) ys targets ≡ extended edges (xs ++ ys) targets
extended_more edges xs ys targets =
    let left = drop (length edges) targets in
    let made = directed xs left in
    ap (λ n. (edges ++ made) ++ directed ys (drop n targets)) (length-append edges made)
    ∙ ap (λ l. (edges ++ made) ++ directed ys l) (sym (drop-drop (length made) (length edges) targets))
    ∙ append_assoc edges made (directed ys (drop (length made) left)) ∙ ap (λ l. edges ++ l) (sym (directed_more xs ys left))

-- by the labels that one element more gives
pub labels_more : {E M : Type 0} (v : E → M) (xs : List E) (i : ℕ) (x : E) → i < length xs → get_or xs i x ≡ x → (f : M → List Label) (old mid new : List Edge) (targets : List ℕ)
    → mid ≡ extended old (flat_map f (map v (take i xs))) targets → new ≡ extended mid (f (v x)) targets → new ≡ extended old (flat_map f (map v (take (i + 1) xs))) targets
labels_more v xs i x below at f old mid new targets so_far added =
    added ∙ ap (λ l. extended l (f (v x)) targets) so_far ∙ extended_more old (flat_map f (map v (take i xs))) (f (v x)) targets
    ∙ ap (λ l. extended old l targets) (sym (one_more v f xs i x below at))
