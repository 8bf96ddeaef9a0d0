-- What the image of one word accepts is what the word is related to.
use Rattle.std.proofs.Common.{◌≡◌, ℕ, ◌↔◌, List, [], ◌∷◌, map, refl, sym, ap, ◌∙◌, subst}
use Rattle.rela_nfa.specs.Automaton.{Automaton}
use Rattle.rela_nfa.specs.Runs.{Accepts}
use Rattle.rela_trans.specs.Composition.{Covers}
use Rattle.rela_trans.specs.Machine.{Machine}
use Rattle.rela_trans.specs.Runs.{Relates}

map_same : (w : List ℕ) → map (λ k. k) w ≡ w
map_same [] = refl
map_same (k ∷ w) = ap (λ l. k ∷ l) (map_same w)

pub related_by_image : (t : Machine) (word image : Automaton) (u v : List ℕ) → ((w : List ℕ) → Accepts word w ↔ (w ≡ u))
    → ((read : ℕ → ℕ) → Covers read word.letters → (w : List ℕ) → Accepts image (map read w) ↔ ((source : List ℕ) × Accepts word (map read source) × Relates read t source w))
    → Accepts image v ↔ Relates (λ k. k) t u v
related_by_image t word image u v only language = (
  λ accepted.
      let found = (language (λ k. k) (λ k below. (k, refl)) v).0 (subst (Accepts image) (sym (map_same v)) accepted) in
      subst (λ w. Relates (λ k. k) t w v) (sym (map_same found.0) ∙ (only (map (λ k. k) found.0)).0 found.1) found.2,
  λ related. subst (Accepts image) (map_same v) ((language (λ k. k) (λ k below. (k, refl)) v).1 (u, (only (map (λ k. k) u)).1 (map_same u), related)),
)
