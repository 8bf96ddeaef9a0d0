-- Which item a line says.
use Rattle.std.proofs.Common.{◌≡◌, ◌≢◌, ℕ, ◌<◌, ◌≤◌, ◌↔◌, Option, None, Some, MatchOption, List, codes, refl, sym, ◌∙◌, ap, subst, arith}
use Rattle.rela_certfile.specs.declared.rows.Step.{Step}
use Rattle.rela_certfile.specs.declared.item.Item.{Item}
use Rattle.rela_certfile.specs.declared.item.Item.TheVariants.{Word, Complement, Images, Row}
use Rattle.rela_certfile.specs.declared.item.State.{State}
use Rattle.rela_certfile.specs.Layout.{Layout, IsLayout, IsRowLine}
use Rattle.rela_certfile.specs.Text.{IsWordLine, word_line}
use Rattle.rela_certfile.specs.Items.{item_line, Allowed, MayStep}
use Rattle.rela_certfile.proofs.Exactly.{given, refused}
use Rattle.rela_certfile.proofs.ItemLines.{Fits, first, first_word, first_row, same_item, word_once}

abbrev pub Says : Layout → State → List ℕ → Item → Type 0
Says l state line item = (line ≡ item_line l item) × Allowed l state item

pub says_once : (l : Layout) (state : State) (line : List ℕ) (i : Item) → IsLayout l → Fits state → Says l state line i → (j : Item) → Says l state line j → j ≡ i
says_once l state line i is fits says j other = same_item l state j i is fits other.1 says.1 (sym other.0 ∙ says.0)

word_first : (state : State) (step : Step) → Fits state → MayStep state step → (48 ≤ first (word_line step)) × (first (word_line step) ≤ 57)
word_first state step fits may = first_word step (omega (arith, may.0, fits.words))

pub no_complement : (l : Layout) (state : State) (line : List ℕ) → Fits state → line ≡ codes "complement" → state.heads ≤ 1 → (i : Item) → Says l state line i → ⊥
no_complement l state line fits is few (Word step) says =
    let digit : (48 ≤ first (word_line step)) × (first (word_line step) ≤ 57) = word_first state step fits says.1 in
    let other : first (word_line step) ≡ 99 = ap first (sym says.0 ∙ is) in omega (arith, other, digit.0, digit.1)
no_complement l state line fits is few Complement says = let more : 1 < state.heads = says.1 in omega arith
no_complement l state line fits is few Images says = let other : 105 ≡ 99 = ap first (sym says.0 ∙ is) in omega (arith, other)
no_complement l state line fits is few (Row place) says = let other : 114 ≡ 99 = sym (first_row l place says.1.2) ∙ ap first (sym says.0 ∙ is) in omega (arith, other)

pub no_images : (l : Layout) (state : State) (line : List ℕ) → Fits state → line ≡ codes "images" → state.heads ≢ 1 → (i : Item) → Says l state line i → ⊥
no_images l state line fits is none (Word step) says =
    let digit : (48 ≤ first (word_line step)) × (first (word_line step) ≤ 57) = word_first state step fits says.1 in
    let other : first (word_line step) ≡ 105 = ap first (sym says.0 ∙ is) in omega (arith, other, digit.0, digit.1)
no_images l state line fits is none Complement says = let other : 99 ≡ 105 = ap first (sym says.0 ∙ is) in omega (arith, other)
no_images l state line fits is none Images says = none says.1
no_images l state line fits is none (Row place) says = let other : 114 ≡ 105 = sym (first_row l place says.1.2) ∙ ap first (sym says.0 ∙ is) in omega (arith, other)

pub no_word : (l : Layout) (state : State) (line : List ℕ) (step : Step) → Fits state → IsWordLine line step → (MayStep state step → ⊥) → (i : Item) → Says l state line i → ⊥
no_word l state line step fits is none (Word other) says =
    let same : other ≡ step = word_once other step (omega (arith, says.1.0, fits.words)) (omega (arith, says.1.1, fits.bound)) is.parent is.symbol (sym says.0 ∙ is.written) in
    none (subst (λ s. MayStep state s) same says.1)
no_word l state line step fits is none Complement says =
    let digit : (48 ≤ first (word_line step)) × (first (word_line step) ≤ 57) = first_word step is.parent in
    let other : first (word_line step) ≡ 99 = ap first (sym is.written ∙ says.0) in omega (arith, other, digit.0, digit.1)
no_word l state line step fits is none Images says =
    let digit : (48 ≤ first (word_line step)) × (first (word_line step) ≤ 57) = first_word step is.parent in
    let other : first (word_line step) ≡ 105 = ap first (sym is.written ∙ says.0) in omega (arith, other, digit.0, digit.1)
no_word l state line step fits is none (Row place) says =
    let digit : (48 ≤ first (word_line step)) × (first (word_line step) ≤ 57) = first_word step is.parent in
    let other : first (word_line step) ≡ 114 = ap first (sym is.written ∙ says.0) ∙ first_row l place says.1.2 in omega (arith, other, digit.0, digit.1)

pub no_other : (l : Layout) (state : State) (line : List ℕ) → Fits state → line ≢ codes "complement" → line ≢ codes "images" → ((step : Step) → IsWordLine line step → ⊥) → ((place : ℕ) → state.heads ≡ 0 → state.next ≤ place → IsRowLine l place line → ⊥) → (i : Item) → Says l state line i → ⊥
no_other l state line fits c i w r (Word step) says = w step (record { parent = omega (arith, says.1.0, fits.words); symbol = omega (arith, says.1.1, fits.bound); written = says.0 })
no_other l state line fits c i w r Complement says = c says.0
no_other l state line fits c i w r Images says = i says.0
no_other l state line fits c i w r (Row place) says = r place says.1.0 says.1.1 (record { has_check = says.1.2; named = says.0 })

pub says_complement : (l : Layout) (state : State) (line : List ℕ) (r : Option Item) → IsLayout l → Fits state → line ≡ codes "complement" → MatchOption r (state.heads ≤ 1) (λ i. (i ≡ Complement) × (1 < state.heads)) → (i : Item) → (r ≡ Some i) ↔ Says l state line i
says_complement l state line None is fits same few = refused (Says l state line) None refl (no_complement l state line fits same few)
says_complement l state line (Some i) is fits same one =
    let says : Says l state line i = subst (λ k. Says l state line k) (sym one.0) (same, one.1) in
    given (Says l state line) (Some i) i refl says (says_once l state line i is fits says)

pub says_images : (l : Layout) (state : State) (line : List ℕ) (r : Option Item) → IsLayout l → Fits state → line ≡ codes "images" → MatchOption r (state.heads ≢ 1) (λ i. (i ≡ Images) × (state.heads ≡ 1)) → (i : Item) → (r ≡ Some i) ↔ Says l state line i
says_images l state line None is fits same none = refused (Says l state line) None refl (no_images l state line fits same none)
says_images l state line (Some i) is fits same one =
    let says : Says l state line i = subst (λ k. Says l state line k) (sym one.0) (same, one.1) in
    given (Says l state line) (Some i) i refl says (says_once l state line i is fits says)

pub says_word : (l : Layout) (state : State) (line : List ℕ) (step : Step) (r : Option Item) → IsLayout l → Fits state → IsWordLine line step → MatchOption r (MayStep state step → ⊥) (λ i. (i ≡ Word step) × MayStep state step) → (i : Item) → (r ≡ Some i) ↔ Says l state line i
says_word l state line step None is fits written none = refused (Says l state line) None refl (no_word l state line step fits written none)
says_word l state line step (Some i) is fits written one =
    let says : Says l state line i = subst (λ k. Says l state line k) (sym one.0) (written.written, one.1) in
    given (Says l state line) (Some i) i refl says (says_once l state line i is fits says)

pub says_row : (l : Layout) (state : State) (line : List ℕ) (place : ℕ) → IsLayout l → Fits state → state.heads ≤ 0 → state.next ≤ place → IsRowLine l place line → (i : Item) → (Some (Row place) ≡ Some i) ↔ Says l state line i
says_row l state line place is fits none from row =
    let allowed : Allowed l state (Row place) = ((let zero : state.heads ≡ 0 = omega arith in zero), from, row.has_check) in
    let says : Says l state line (Row place) = (row.named, allowed) in
    given (Says l state line) (Some (Row place)) (Row place) refl says (says_once l state line (Row place) is fits says)
