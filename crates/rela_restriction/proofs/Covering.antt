-- What the excess of one transducer over another covers, and when it is empty.
use Rattle.std.proofs.Common.{◌≡◌, ℕ, ◌+◌, ◌<◌, ◌≤◌, ◌⊎◌, ◌↔◌, Bool, true, false, List, [], ◌∷◌, get_or, inl, inr, sym, ap, ◌∙◌, subst, arith}
use Rattle.std.specs.List.{All, Contains}
use Rattle.std.proofs.lemmas.Bool.{cases_Bool, false≢true}
use Rattle.std.proofs.lemmas.List.Elements.{All-nil, All-cons, All-head, All-tail, All-map, All-weaker}
use Rattle.rela_labels.specs.Letters.{has}
use Rattle.rela_nfa.specs.Automaton.{Automaton}
use Rattle.rela_nfa.specs.Runs.{Accepts}
use Rattle.rela_subset.specs.Deterministic.{Deterministic, IsAccepted, IsOver, state_after}
use Rattle.rela_trans.specs.Machine.{Machine, IsMachine}
use Rattle.rela_trans.specs.Runs.{Relates}
use Rattle.rela_restriction.specs.Acts.{Act, Reads, Writes, Keeps, symbol_of, act_letter, act_letters, AreOfLetters, input_of}
use Rattle.rela_restriction.specs.Automata.{act_automaton, act_count}
use Rattle.rela_restriction.specs.Excess.{Covers, Excess, IsInExcess, IsReadAs}
use Rattle.rela_restriction.proofs.ActWords.{Performed, performed, related}

-- ---- letters of acts

act_below : (read : ℕ → ℕ) (n : ℕ) (act : Act) → read (symbol_of act) < n → act_letter read n act < act_count n
act_below read n (Reads s) below = omega (arith, below)
act_below read n (Writes s) below = omega (arith, below)
act_below read n (Keeps s) below = omega (arith, below)

pub acts_below : (read : ℕ → ℕ) (n : ℕ) (acts : List Act) → AreOfLetters read n acts → All (λ k. k < act_count n) (act_letters read n acts)
acts_below read n acts below =
    All-map (λ k. k < act_count n) (act_letter read n) acts (λ k d within. act_below read n (get_or acts k d) (below k d within))

-- ---- what is not accepted by one is by the other

-- a word over the letters is accepted, or accepted by the complement
pub decided : (d o : Deterministic) (w : List ℕ) → IsOver d.over w → IsAccepted o w ↔ (IsOver d.over w × (¬ IsAccepted d w)) → IsAccepted d w ⊎ IsAccepted o w
decided d o w over opposite = elim (cases_Bool (get_or d.finals (state_after d w) false)) [
  | inl final ↦ inl (over, final)
  | inr other ↦ inr (opposite.1 (over, λ accepted. false≢true (sym other ∙ accepted.1)))
]

-- a set of all letters below a number
abbrev HasAll : List Bool → ℕ → Type 0
HasAll over count = (k : ℕ) → 0 ≤ k → k < count → has over k ≡ true

all_over : (over : List Bool) (count : ℕ) → HasAll over count → (w : List ℕ) → All (λ k. k < count) w → IsOver over w
all_over over count all = All-weaker (λ k. k < count) (λ k. has over k ≡ true) (λ k below. all k (omega arith) below)

-- a word over all letters is accepted by an automaton, or by the complement that was made of it
pub either_way : (a n : Automaton) (d o : Deterministic) (over : List Bool) (count : ℕ) → HasAll over count → d.over ≡ over
    → ((w : List ℕ) → IsAccepted d w ↔ (IsOver over w × Accepts a w)) → ((w : List ℕ) → IsAccepted o w ↔ (IsOver d.over w × (¬ IsAccepted d w)))
    → ((w : List ℕ) → Accepts n w ↔ IsAccepted o w) → (w : List ℕ) → All (λ k. k < count) w → Accepts a w ⊎ Accepts n w
either_way a n d o over count all same language opposite same_words w below =
    elim (decided d o w (subst (λ l. IsOver l w) (sym same) (all_over over count all w below)) (opposite w)) [
      | inl accepted ↦ inl ((language w).0 accepted).1
      | inr other ↦ inr ((same_words w).1 other)
    ]

-- a word over all letters that an automaton accepts is accepted by what was made of it
pub still_accepted : (a n : Automaton) (d m : Deterministic) (over : List Bool) (count : ℕ) → HasAll over count
    → ((w : List ℕ) → IsAccepted d w ↔ (IsOver over w × Accepts a w)) → ((w : List ℕ) → IsAccepted m w ↔ IsAccepted d w)
    → ((w : List ℕ) → Accepts n w ↔ IsAccepted m w) → (w : List ℕ) → All (λ k. k < count) w → Accepts a w → Accepts n w
still_accepted a n d m over count all language least same_words w below accepted =
    (same_words w).1 ((least w).1 ((language w).1 (all_over over count all w below, accepted)))

-- the words of acts that one transducer can do, and another can't
pub beyond : (first second acts others both : Automaton) → acts ≡ first → ((w : List ℕ) → Accepts both w ↔ (Accepts acts w × Accepts others w)) → (w : List ℕ)
    → Accepts second w ⊎ Accepts others w → Accepts first w → Accepts second w ⊎ Accepts both w
beyond first second acts others both acts_are meets w rest accepted = elim rest [
  | inl can ↦ inl can
  | inr other ↦ inr ((meets w).1 (subst (λ (m : Automaton). Accepts m w) (sym acts_are) accepted, other))
]

-- the acts of one transducer that another can't do, and what was made of these
module _ (a b : Machine) (ok_a : IsMachine a) (ok_b : IsMachine b) (same : a.letters ≡ b.letters) (both x : Automaton) (letters_are : both.letters ≡ act_count a.letters)
    (rest : (w : List ℕ) → All (λ k. k < act_count b.letters) w → Accepts (act_automaton a) w → Accepts (act_automaton b) w ⊎ Accepts both w)
    (least : (w : List ℕ) → All (λ k. k < both.letters) w → Accepts both w → Accepts x w) (read : ℕ → ℕ) where
  by_acts : (u v : List ℕ) → Performed read a ok_a u v → Relates read b u v ⊎ IsInExcess read (record { letters = a.letters; acts = x }) u v
  by_acts u v does =
      let w = act_letters read a.letters does.word in
      let below : All (λ k. k < act_count a.letters) w = acts_below read a.letters does.word does.letters in
      let in_both : All (λ k. k < both.letters) w = subst (λ (n : ℕ). All (λ k. k < n) w) (sym letters_are) below in
      elim (rest w (subst (λ (n : ℕ). All (λ k. k < act_count n) w) same below) does.accepted) [
        | inl second ↦
            inl (subst (λ l. Relates read b l v) does.input (subst (λ l. Relates read b (input_of does.word) l) does.output
            (related read b ok_b does.word (subst (λ (n : ℕ). AreOfLetters read n does.word) same does.letters)
            (subst (λ (n : ℕ). Accepts (act_automaton b) (act_letters read n does.word)) same second))))
        | inr other ↦ inr (record {
          word = does.word;
          input = does.input;
          output = does.output;
          letters = does.letters;
          accepted = least w in_both other;
        })
      ]

  pub covers : (n : ℕ) → n ≡ a.letters → Covers read (Relates read a) (Relates read b) (record { letters = n; acts = x })
  covers n same_n =
      subst (λ (m : ℕ). Covers read (Relates read a) (Relates read b) (record { letters = m; acts = x })) (sym same_n)
      (λ u v relates. by_acts u v (performed read a ok_a u v relates))

-- ---- where it is empty

-- the letters of acts that read nothing, or one of the inputs
pub record AreActsOn (n : ℕ) (inputs : List ℕ) (over : List Bool) : Type 0 where
  pub writes : (k : ℕ) → k < n → has over (n + k) ≡ true
  pub reads : (k : ℕ) → Contains inputs k → has over k ≡ true
  pub keeps : (k : ℕ) → Contains inputs k → has over (n + (n + k)) ≡ true

acts_over : (read : ℕ → ℕ) (n : ℕ) (inputs : List ℕ) (over : List Bool) → AreActsOn n inputs over
    → (acts : List Act) → AreOfLetters read n acts → IsReadAs read inputs (input_of acts) → IsOver over (act_letters read n acts)
acts_over read n inputs over are [] letters reads = All-nil (λ k. has over k ≡ true)
acts_over read n inputs over are (Reads s ∷ acts) letters reads =
    All-cons (λ k. has over k ≡ true) (read s) (act_letters read n acts) (are.reads (read s) (All-head (λ r. Contains inputs (read r)) s (input_of acts) reads))
    (acts_over read n inputs over are acts (All-tail (λ act. read (symbol_of act) < n) (Reads s) acts letters) (All-tail (λ r. Contains inputs (read r)) s (input_of acts) reads))
acts_over read n inputs over are (Writes s ∷ acts) letters reads =
    All-cons (λ k. has over k ≡ true) (n + read s) (act_letters read n acts) (are.writes (read s) (All-head (λ act. read (symbol_of act) < n) (Writes s) acts letters))
    (acts_over read n inputs over are acts (All-tail (λ act. read (symbol_of act) < n) (Writes s) acts letters) reads)
acts_over read n inputs over are (Keeps s ∷ acts) letters reads =
    All-cons (λ k. has over k ≡ true) (n + (n + read s)) (act_letters read n acts) (are.keeps (read s) (All-head (λ r. Contains inputs (read r)) s (input_of acts) reads))
    (acts_over read n inputs over are acts (All-tail (λ act. read (symbol_of act) < n) (Keeps s) acts letters) (All-tail (λ r. Contains inputs (read r)) s (input_of acts) reads))

-- no word over them is accepted, so there is no such pair
pub none_in_excess : (x : Excess) (inputs : List ℕ) (over : List Bool) → AreActsOn x.letters inputs over
    → ((w : List ℕ) → IsOver over w → ¬ Accepts x.acts w) → (read : ℕ → ℕ) (u v : List ℕ) → IsReadAs read inputs u → ¬ IsInExcess read x u v
none_in_excess x inputs over are none read u v reads excess =
    none (act_letters read x.letters excess.word)
    (acts_over read x.letters inputs over are excess.word excess.letters (subst (λ l. IsReadAs read inputs l) (sym excess.input) reads))
    excess.accepted
