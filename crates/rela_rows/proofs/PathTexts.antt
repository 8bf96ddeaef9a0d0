-- Each symbol of a path has a text.
use Rattle.std.proofs.Common.{ℕ, zero, suc, ◌+◌, ◌<◌, true, false, List, [], ◌∷◌, ◌++◌, length, get_or, map, sym, subst, inl, inr, arith}
use Rattle.std.specs.Prelude.{◌==◌, if◌then◌else◌}
use Rattle.std.specs.List.{All}
use Rattle.std.proofs.lemmas.List.{append-nil}
use Rattle.std.proofs.lemmas.List.Elements.{All-nil, All-cons, All-push, All-map, All-head, All-tail}
use Rattle.rela_names.specs.declared.level.Level.{Level}
use Rattle.rela_graph.specs.Paths.{Paths, Arrives, locations, squeeze, squeeze_after}
use Rattle.rela_graph.specs.Topology.{Topology, symbol_at}
use Rattle.rela_report.specs.Text.{HasTexts}

-- what is written once is among what was there
module _ (P : ℕ → Type 0) where
  squeezed_after : (x : ℕ) (xs : List ℕ) → All P xs → All P (squeeze_after x xs)
  squeezed_after x [] each = All-nil P
  squeezed_after x (y ∷ ys) each =
      let rest : All P (squeeze_after y ys) = squeezed_after y ys (All-tail P y ys each) in
      elim (x == y) as (λ b. All P (if b then squeeze_after y ys else y ∷ squeeze_after y ys)) [
        | true ↦ rest
        | false ↦ All-cons P y (squeeze_after y ys) (All-head P y ys each) rest
      ]

  squeezed : (xs : List ℕ) → All P xs → All P (squeeze xs)
  squeezed [] each = All-nil P
  squeezed (x ∷ xs) each = All-cons P x (squeeze_after x xs) (All-head P x xs each) (squeezed_after x xs (All-tail P x xs each))

  -- what stands in a list has what each element has, and past its end what 0 has
  stands : (xs : List ℕ) (n : ℕ) → All P xs → P 0 → P (get_or xs n 0)
  stands [] n each none = none
  stands (x ∷ xs) zero each none = All-head P x xs each
  stands (x ∷ xs) (suc n) each none = stands xs n (All-tail P x xs each) none

module _ (g : Topology) (level : Level) (names : List (List ℕ)) (placed : All (λ node. symbol_at level node < length names) g.nodes) where
  abbrev HasText : ℕ → Type 0
  HasText s = s < length names + 2 + 20000

  located : All HasText (locations g level)
  located = All-map HasText (symbol_at level) g.nodes (λ k node within. let here = placed k node within in omega (arith, here))

  front_texts : (n : ℕ) (word : List ℕ) → Arrives g (locations g level) n word → All HasText word
  front_texts n word (before, walk, is_base) =
      let whole = before ++ n ∷ [] in
      subst (λ l. All HasText l) is_base
      (squeezed HasText (map (λ m. get_or (locations g level) m 0) whole)
      (All-map HasText (λ m. get_or (locations g level) m 0) whole
      (λ k m within. stands HasText (locations g level) (get_or whole k m) located (omega arith))))

  pub path_has_texts : (word : List ℕ) → Paths g level names word → HasTexts names word
  path_has_texts word (n, front, ending, arrives, ends, whole) =
      let texts = front_texts n front arrives in
      subst (λ l. All HasText l) (sym whole)
      (elim ends [
        | inl delivers ↦ subst (λ e. All HasText (front ++ e)) (sym delivers.1) (subst (λ l. All HasText l) (sym (append-nil front)) texts)
        | inr rest ↦ elim rest [
          | inl drops ↦ subst (λ e. All HasText (front ++ e)) (sym drops.1) (All-push HasText front (length names) texts (omega arith))
          | inr loops ↦ subst (λ e. All HasText (front ++ e)) (sym loops.1) (All-push HasText front (length names + 1) texts (omega arith))
        ]
      ])
