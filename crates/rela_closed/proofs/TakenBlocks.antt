-- Blocks of letters that are taken one after the other.
use Rattle.std.proofs.Common.{◌≡◌, ℕ, ◌+◌, ◌<◌, ◌≤◌, ◌⊎◌, ◌↔◌, ◌&&◌, not, Bool, true, false, List, length, refl, sym, ap, ◌∙◌, subst, inl, inr, arith}
use Rattle.std.proofs.lemmas.Bool.{cases_Bool, cases_lt, false≢true}
use Rattle.rela_labels.specs.Letters.{has}
use Rattle.rela_nfa.specs.Automaton.{Automaton}
use Rattle.rela_closed.specs.Splitting.{AreFewer, AreTogether, AreTold, IsBlock, LeadAlike, Splitting, remains}
use Rattle.rela_closed.proofs.Edges.{letter_below}

-- letters of a block lead alike
pub block_leads : (automata : List Automaton) (sets : List (List ℕ)) (blocks : Splitting) (letter : ℕ) (block : List Bool) → AreTold automata sets blocks → IsBlock blocks letter block
    → (k : ℕ) → has block k ≡ true → LeadAlike automata sets letter k
block_leads automata sets blocks letter block told is k h = elim (is.alike k h) [
  | inl same ↦ subst (λ n. LeadAlike automata sets letter n) (sym same) (λ next leads. leads)
  | inr both ↦ told letter k both.0 both.1 both.2
]

module _ (block : List Bool) (old new : Splitting) (fewer : AreFewer block old new) where
  pub told_fewer : (automata : List Automaton) (sets : List (List ℕ)) → AreTold automata sets old → AreTold automata sets new
  told_fewer automata sets told j k j_in k_in together = told j k (fewer.rest j j_in) (fewer.rest k k_in) (subst (λ ls. AreTogether ls j k) fewer.labels together)

  pub fewer_remain : (k : ℕ) → remains new k ≡ true → remains old k ≡ true
  fewer_remain = fewer.left

-- P holds of the letters before n and of those that don't remain
abbrev pub AreDone : List Bool → (ℕ → Type 0) → Splitting → ℕ → Type 0
AreDone over P blocks n = (k : ℕ) → has over k ≡ true → (k < n) ⊎ (remains blocks k ≡ false) → P k

module _ (over : List Bool) (P : ℕ → Type 0) where
  pub none_done : (blocks : Splitting) → ((k : ℕ) → remains blocks k ≡ has over k) → AreDone over P blocks 0
  none_done blocks all k read done = elim done [
    | inl below ↦ absurd (omega (arith, below))
    | inr gone ↦ absurd (false≢true (sym gone ∙ all k ∙ read))
  ]

  pub done_skipped : (blocks : Splitting) (letter : ℕ) → remains blocks letter ≡ false → AreDone over P blocks letter → AreDone over P blocks (letter + 1)
  done_skipped blocks letter none before k read done = elim done [
    | inl below ↦ elim (cases_lt k letter) [
      | inl earlier ↦ before k read (inl earlier)
      | inr last ↦ let same : letter ≡ k = omega arith in before k read (inr (ap (remains blocks) (sym same) ∙ none))
    ]
    | inr gone ↦ before k read (inr gone)
  ]

  pub done_taken : (blocks blocks' : Splitting) (letter : ℕ) (block : List Bool) → IsBlock blocks letter block → AreFewer block blocks blocks' → ((k : ℕ) → has over k ≡ true → has block k ≡ true → P k)
      → AreDone over P blocks letter → AreDone over P blocks' (letter + 1)
  done_taken blocks blocks' letter block is fewer here before k read done = elim done [
    | inl below ↦ elim (cases_lt k letter) [
      | inl earlier ↦ before k read (inl earlier)
      | inr last ↦ let same : letter ≡ k = omega arith in here k read (ap (has block) (sym same) ∙ is.member)
    ]
    | inr gone ↦ elim (cases_Bool (remains blocks k)) [
      | inl was ↦ here k read (fewer.gone k was gone)
      | inr before_gone ↦ before k read (inr before_gone)
    ]
  ]

  pub all_done : (blocks : Splitting) (n : ℕ) → length over ≤ n → AreDone over P blocks n → (k : ℕ) → has over k ≡ true → P k
  all_done blocks n all done k read = done k read (inl (let below = letter_below over k read in omega arith))

-- what follows from P holds too
pub done_weaker : (over : List Bool) (P Q : ℕ → Type 0) (blocks : Splitting) (n : ℕ) → ((k : ℕ) → P k → Q k) → AreDone over P blocks n → AreDone over Q blocks n
done_weaker over P Q blocks n on done k read which = on k (done k read which)

-- a letter by itself
module _ (blocks : Splitting) (letter : ℕ) (block : List Bool) (just : (k : ℕ) → (has block k ≡ true) ↔ (k ≡ letter)) where
  pub alone_block : length block ≡ length blocks.rest → remains blocks letter ≡ true → IsBlock blocks letter block
  alone_block size there = record {
    sized = size;
    member = (just letter).1 refl;
    within = λ k h. ap (remains blocks) ((just k).0 h) ∙ there;
    alike = λ k h. inl ((just k).0 h);
  }

  pub alone_fewer : AreFewer block blocks blocks
  alone_fewer = record { labels = refl; size = refl; left = λ k h. h; rest = λ k h. h; gone = λ k was gone. absurd (false≢true (sym gone ∙ was)) }

-- a block that is split off from the rest
module _ (blocks : Splitting) (letter : ℕ) (block : List Bool) (among : has blocks.rest letter ≡ true) (inside : (k : ℕ) → has blocks.rest k ≡ true → remains blocks k ≡ true)
    (narrow : (k : ℕ) → (has block k ≡ true) ↔ ((has blocks.rest k ≡ true) × AreTogether blocks.labels letter k)) where
  pub split_block : length block ≡ length blocks.rest → IsBlock blocks letter block
  split_block size = record {
    sized = size;
    member = (narrow letter).1 (among, λ i d below. refl);
    within = λ k h. inside k ((narrow k).0 h).0;
    alike = λ k h. inr (among, ((narrow k).0 h).0, ((narrow k).0 h).1);
  }

first : (x y : Bool) → (x && not y) ≡ true → x ≡ true
first true y e = refl
first false y e = absurd (false≢true e)

in_block : (x y : Bool) → x ≡ true → (x && not y) ≡ false → y ≡ true
in_block true true was gone = refl
in_block true false was gone = absurd (false≢true (sym gone))
in_block false y was gone = absurd (false≢true was)

-- the letters of the block are gone
pub split_fewer : (blocks new : Splitting) (block : List Bool) → new.labels ≡ blocks.labels → length new.rest ≡ length blocks.rest
    → ((k : ℕ) → has new.rest k ≡ (has blocks.rest k && not (has block k))) → ((k : ℕ) → has new.left k ≡ (has blocks.left k && not (has block k))) → AreFewer block blocks new
split_fewer blocks new block labels size cut cut_left = record {
  labels = labels;
  size = size;
  left = λ k h. first (has blocks.left k) (has block k) (sym (cut_left k) ∙ h);
  rest = λ k h. first (has blocks.rest k) (has block k) (sym (cut k) ∙ h);
  gone = λ k was gone. in_block (has blocks.left k) (has block k) was (sym (cut_left k) ∙ gone);
}
