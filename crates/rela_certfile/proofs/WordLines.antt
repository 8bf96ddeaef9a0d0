-- Word lines, cut at the blank.
use Rattle.std.proofs.Common.{◌≡◌, ℕ, ◌^◌, ◌<◌, ◌↔◌, None, Some, List, ◌∷◌, ◌++◌, refl, sym, ◌∙◌, ap, lit≤}
use Rattle.std.specs.Fmt.{decimal}
use Rattle.rela_certfile.specs.declared.rows.Step.{Step}
use Rattle.rela_certfile.specs.Cut.{IsCutAt, Lacks}
use Rattle.rela_certfile.specs.Text.{IsWordLine}
use Rattle.rela_certfile.proofs.Cuts.{cut_once, never_cut}
use Rattle.rela_certfile.proofs.Numerals.{decimal_lacks}

pub parts_of_word : (line front rest : List ℕ) (step : Step) → IsCutAt 32 line front rest → IsWordLine line step → (front ≡ decimal step.parent) × (rest ≡ decimal step.symbol)
parts_of_word line front rest step cut is = cut_once 32 front (decimal step.parent) rest (decimal step.symbol) cut.first (decimal_lacks 32 step.parent (lit≤ tt) is.parent) (sym cut.joined ∙ is.written)

pub uncut : (line : List ℕ) (step : Step) → Lacks 32 line → IsWordLine line step → ⊥
uncut line step lacks is = never_cut 32 line (decimal step.parent) (decimal step.symbol) lacks is.written

-- where a part is no number, there is no word line
pub no_parent : (line front rest : List ℕ) (step : Step) → IsCutAt 32 line front rest → ((n : ℕ) → (None ≡ Some n) ↔ ((n < 2 ^ 32) × (front ≡ decimal n))) → IsWordLine line step → ⊥
no_parent line front rest step cut none is =
    let some : None ≡ Some step.parent = (none step.parent).1 (is.parent, (parts_of_word line front rest step cut is).0) in cc

pub no_symbol : (line front rest : List ℕ) (step : Step) → IsCutAt 32 line front rest → ((n : ℕ) → (None ≡ Some n) ↔ ((n < 2 ^ 32) × (rest ≡ decimal n))) → IsWordLine line step → ⊥
no_symbol line front rest step cut none is =
    let some : None ≡ Some step.symbol = (none step.symbol).1 (is.symbol, (parts_of_word line front rest step cut is).1) in cc

abbrev pub step_with : ℕ → ℕ → Step
step_with p s = record { parent = p; symbol = s }

pub word_is : (line front rest : List ℕ) (p s : ℕ) → IsCutAt 32 line front rest → ((n : ℕ) → (Some p ≡ Some n) ↔ ((n < 2 ^ 32) × (front ≡ decimal n))) → ((n : ℕ) → (Some s ≡ Some n) ↔ ((n < 2 ^ 32) × (rest ≡ decimal n))) → IsWordLine line (step_with p s)
word_is line front rest p s cut parent symbol =
    let first : (p < 2 ^ 32) × (front ≡ decimal p) = (parent p).0 refl in
    let second : (s < 2 ^ 32) × (rest ≡ decimal s) = (symbol s).0 refl in
    record { parent = first.0; symbol = second.0; written = cut.joined ∙ ap (λ f. f ++ 32 ∷ rest) first.1 ∙ ap (λ r. decimal p ++ 32 ∷ r) second.1 }

pub word_only : (line front rest : List ℕ) (p s : ℕ) → IsCutAt 32 line front rest → ((n : ℕ) → (Some p ≡ Some n) ↔ ((n < 2 ^ 32) × (front ≡ decimal n))) → ((n : ℕ) → (Some s ≡ Some n) ↔ ((n < 2 ^ 32) × (rest ≡ decimal n))) → (step : Step) → IsWordLine line step → step ≡ step_with p s
word_only line front rest p s cut parent symbol step is =
    let parts : (front ≡ decimal step.parent) × (rest ≡ decimal step.symbol) = parts_of_word line front rest step cut is in
    let first : Some p ≡ Some step.parent = (parent step.parent).1 (is.parent, parts.0) in
    let second : Some s ≡ Some step.symbol = (symbol step.symbol).1 (is.symbol, parts.1) in
    let same : step.parent ≡ p = cc in
    let alike : step.symbol ≡ s = cc in
    ap (λ k. step_with k step.symbol) same ∙ ap (λ k. step_with p k) alike
