-- The search back from the final states: the distances of its layers are right.
use Rattle.std.proofs.Common.{◌≡◌, ℕ, ◌+◌, ◌<◌, ◌≤◌, ◌↔◌, false, List, [], ◌∷◌, ◌++◌, length, replicate, Option, None, Some, refl, sym, ap, ◌∙◌, subst, inl, inr, arith, length-append}
use Rattle.std.specs.List.{Contains}
use Rattle.std.specs.Option.{option_to_list}
use Rattle.std.proofs.lemmas.Bool.{cases_lt, cases_eq, both_ways}
use Rattle.std.proofs.lemmas.List.{get_or_past}
use Rattle.rela_nfa.specs.Automaton.{Automaton, IsFinal, states}
use Rattle.rela_nfa.specs.Runs.{Step, HasStep, Follow, spelled}
use Rattle.rela_witness.specs.Finishing.{Finishes, AreDistances}
use Rattle.rela_witness.specs.Labels.{HasEdge}
use Rattle.rela_witness.specs.Linked.{IsLinked}
use Rattle.rela_witness.specs.Numbered.{number_of, HasNumber, unnumbered, IsLayer, Grows, Spread, here, step, After, IsDone}
use Rattle.rela_witness.specs.declared.sources.Kind.TheVariants.{Silent, Lettered}
use Rattle.rela_witness.proofs.Members.{Contains-nil}
use Rattle.rela_witness.proofs.Growing.{none_number, grows_not, grows_both, has_kept, layer_grown, no_shorter}

pub final_within : (a : Automaton) (q : ℕ) → IsFinal a q → q < states a
final_within a q final = elim (cases_lt q (states a)) [
  | inl below ↦ below
  | inr past ↦ absurd (both_ways _ (get_or_past a.finals q false past) final)
]

pub final_finishes : (a : Automaton) (q : ℕ) → IsFinal a q → Finishes a q 0
final_finishes a q final = ([], (q, ([], refl, refl), final), refl)

-- how many letters a step reads
abbrev pub cost : Option ℕ → ℕ
cost letter = length (option_to_list letter)

pub step_finishes : (a : Automaton) (p q n : ℕ) (letter : Option ℕ) → HasStep a p letter q → Finishes a q n → Finishes a p (cost letter + n)
step_finishes a p q n letter has (word, (r, (steps, follows, spells), final), len) = (
  option_to_list letter ++ word,
  (r, (record { letter = letter; to = q } ∷ steps, (has, follows), ap (λ w. option_to_list letter ++ w) spells), final),
  length-append (option_to_list letter) word ∙ ap (λ m. cost letter + m) len,
)

-- the final states among the first `done` have been entered
pub record Entering (a : Automaton) (old now : List (Option ℕ)) (before layer : List ℕ) (done : ℕ) : Type 0 where
  pub grows : Grows (IsFinal a) 0 old now before layer
  pub entered : (q : ℕ) → q < done → IsFinal a q → HasNumber now q

module _ (a : Automaton) (old : List (Option ℕ)) (before : List ℕ) where
  pub entering_none : Entering a old old before before 0
  entering_none = record { grows = grows_not (IsFinal a) 0 old before; entered = λ q below. absurd (omega arith) }

  pub entering_more : (now new : List (Option ℕ)) (layer after : List ℕ) (done : ℕ) → Entering a old now before layer done → IsFinal a done
      → Grows (λ p. done ≡ p) 0 now new layer after → HasNumber new done → Entering a old new before after (done + 1)
  entering_more now new layer after done so_far final grows has = record {
    grows = grows_both (IsFinal a) (λ p. done ≡ p) (IsFinal a) 0 old now new before layer after so_far.grows grows (λ q f. f) (λ q same. subst (IsFinal a) same final);
    entered = λ q below f. elim (cases_eq q done) [
      | inl same ↦ subst (λ n. HasNumber new n) (sym same) has
      | inr apart ↦ has_kept (λ p. done ≡ p) (IsFinal a) 0 now new layer after grows q (so_far.entered q (omega arith) f)
    ];
  }

  pub entering_past : (now : List (Option ℕ)) (layer : List ℕ) (done : ℕ) → Entering a old now before layer done → ¬ IsFinal a done → Entering a old now before layer (done + 1)
  entering_past now layer done so_far other = record {
    grows = so_far.grows;
    entered = λ q below f. elim (cases_eq q done) [
      | inl same ↦ absurd (other (subst (IsFinal a) same f))
      | inr apart ↦ so_far.entered q (omega arith) f
    ];
  }

  pub entered_all : (now : List (Option ℕ)) (layer : List ℕ) (done : ℕ) → states a ≤ done → Entering a old now before layer done → (q : ℕ) → IsFinal a q → HasNumber now q
  entered_all now layer done over so_far q f = so_far.entered q (omega (arith, final_within a q f, over)) f

-- q has a number that isn't above n
abbrev pub Within : List (Option ℕ) → ℕ → ℕ → Type 0
Within numbers q n = (m : ℕ) × (number_of numbers q ≡ Some m) × (m ≤ n)

-- the numbers up to the distance are right, and what leads to the states below it has been entered
pub record Searching (a : Automaton) (distance : ℕ) (numbers : List (Option ℕ)) (layer : List ℕ) : Type 0 where
  pub listed : IsLayer distance numbers layer
  pub sound : (q n : ℕ) → number_of numbers q ≡ Some n → Finishes a q n
  pub bounded : (q n : ℕ) → number_of numbers q ≡ Some n → n ≤ distance
  pub finals : (q : ℕ) → IsFinal a q → number_of numbers q ≡ Some 0
  pub settled : (p q n : ℕ) (letter : Option ℕ) → number_of numbers q ≡ Some n → n < distance → HasStep a p letter q → Within numbers p (n + cost letter)

pub no_layer : (number : ℕ) (numbers : List (Option ℕ)) → ((q : ℕ) → ¬ (number_of numbers q ≡ Some number)) → IsLayer number numbers []
no_layer number numbers none q = (λ c. absurd (Contains-nil q c), λ is. absurd (none q is))

pub searching_start : (a : Automaton) (count : ℕ) (old numbers : List (Option ℕ)) (layer : List ℕ) → old ≡ replicate count None → Grows (IsFinal a) 0 old numbers [] layer
    → ((q : ℕ) → IsFinal a q → HasNumber numbers q) → Searching a 0 numbers layer
searching_start a count old numbers layer none grows entered =
    let zero_or : (q n : ℕ) → number_of numbers q ≡ Some n → (n ≡ 0) × IsFinal a q =
    λ q n is. elim (grows.only q n is) [ inl was ↦ absurd (none_number count old none q n was) | inr (same, final, among) ↦ (same, final) ] in
    record {
      listed = layer_grown (IsFinal a) (IsFinal a) 0 old numbers [] layer grows (no_layer 0 old (λ q is. none_number count old none q 0 is));
      sound = λ q n is. subst (λ m. Finishes a q m) (sym (zero_or q n is).0) (final_finishes a q (zero_or q n is).1);
      bounded = λ q n is. let same = (zero_or q n is).0 in omega arith;
      finals = λ q final. let has = entered q final in subst (λ m. number_of numbers q ≡ Some m) (zero_or q has.0 has.1).0 has.1;
      settled = λ p q n letter is below. absurd (omega arith);
    }

module _ (a : Automaton) (distance : ℕ) (old : List (Option ℕ)) (layer : List ℕ) (is : Searching a distance old layer) (silent : List (List ℕ))
    (turned : (p q : ℕ) → IsLinked silent q p ↔ HasEdge a Silent p q) (mid : List (Option ℕ)) (half : List ℕ)
    (closes : Grows (Spread (IsLinked silent) (Contains layer)) distance old mid layer half) (closed : IsDone (IsLinked silent) mid half) where
  pub half_listed : IsLayer distance mid half
  half_listed = layer_grown (Spread (IsLinked silent) (Contains layer)) (Contains layer) distance old mid layer half closes is.listed

  spread_finishes : {q : ℕ} → Spread (IsLinked silent) (Contains layer) q → Finishes a q distance
  spread_finishes (here {q = q} c) = is.sound q distance ((is.listed q).0 c)
  spread_finishes (step {p = p} {q = q} s link) = subst (λ n. Finishes a q n) (let e : 0 + distance ≡ distance = omega arith in e) (step_finishes a q p distance None ((turned q p).0 link) (spread_finishes s))

  mid_sound : (q n : ℕ) → number_of mid q ≡ Some n → Finishes a q n
  mid_sound q n at = elim (closes.only q n at) [
    | inl was ↦ is.sound q n was
    | inr (same, spread, among) ↦ subst (λ m. Finishes a q m) (sym same) (spread_finishes spread)
  ]

  mid_bounded : (q n : ℕ) → number_of mid q ≡ Some n → n ≤ distance
  mid_bounded q n at = elim (closes.only q n at) [ inl was ↦ is.bounded q n was | inr (same, spread, among) ↦ omega arith ]

  module _ (lettered : List (List ℕ)) (turned_too : (p q : ℕ) → IsLinked lettered q p ↔ HasEdge a Lettered p q) (new : List (Option ℕ)) (next : List ℕ)
      (grows : Grows (After (IsLinked lettered) half) (distance + 1) mid new [] next) (done : IsDone (IsLinked lettered) new half) where
    new_sound : (q n : ℕ) → number_of new q ≡ Some n → Finishes a q n
    new_sound q n at = elim (grows.only q n at) [
      | inl was ↦ mid_sound q n was
      | inr (same, (p, among, link), listed) ↦
          let edge = (turned_too q p).0 link in
          subst (λ m. Finishes a q m) (let e : 1 + distance ≡ n = omega arith in e) (step_finishes a q p distance (Some edge.0) edge.1 (mid_sound p distance ((half_listed p).0 among)))
    ]

    new_bounded : (q n : ℕ) → number_of new q ≡ Some n → n ≤ distance + 1
    new_bounded q n at = elim (grows.only q n at) [ inl was ↦ let b = mid_bounded q n was in omega arith | inr (same, after, among) ↦ omega arith ]

    was_mid : (q n : ℕ) → number_of new q ≡ Some n → n < distance + 1 → number_of mid q ≡ Some n
    was_mid q n at below = elim (grows.only q n at) [ inl was ↦ was | inr (same, after, among) ↦ absurd (omega arith) ]

    was_old : (q n : ℕ) → number_of mid q ≡ Some n → n < distance → number_of old q ≡ Some n
    was_old q n at below = elim (closes.only q n at) [ inl was ↦ was | inr (same, spread, among) ↦ absurd (omega arith) ]

    later : (p n : ℕ) → Within mid p n → Within new p n
    later p n (m, at, below) = (m, grows.kept p m at, below)

    last_settled : (p q : ℕ) (letter : Option ℕ) → Contains half q → HasStep a p letter q → Within new p (distance + cost letter)
    last_settled p q None among edge =
        let has = closed q p among ((turned p q).1 edge) in
        later p (distance + 0) (has.0, has.1, (let b = mid_bounded p has.0 has.1 in omega arith))
    last_settled p q (Some k) among edge =
        let has = done q p among ((turned_too p q).1 (k, edge)) in
        (has.0, has.1, new_bounded p has.0 has.1)

    pub searching_more : Searching a (distance + 1) new next
    searching_more = record {
      listed =
          layer_grown (After (IsLinked lettered) half) (Contains half) (distance + 1) mid new [] next grows
          (no_layer (distance + 1) mid (λ q at. let b = mid_bounded q (distance + 1) at in omega arith));
      sound = new_sound;
      bounded = new_bounded;
      finals = λ q final. grows.kept q 0 (closes.kept q 0 (is.finals q final));
      settled = λ p q n letter at below edge.
          let at_mid = was_mid q n at below in
          elim (cases_lt n distance) [
            | inl less ↦
                let within = is.settled p q n letter (was_old q n at_mid less) less edge in
                later p (n + cost letter) (within.0, closes.kept p within.0 within.1, within.2)
            | inr more ↦
                let same : n ≡ distance = omega arith in
                subst (λ m. Within new p (m + cost letter)) (sym same)
                (last_settled p q letter ((half_listed q).1 (subst (λ m. number_of mid q ≡ Some m) same at_mid)) edge)
          ];
    }

    -- a layer that isn't empty leaves fewer states to enter
    pub fewer_left : 0 < length layer → (distance + 1) + length next + unnumbered new ≤ distance + length layer + unnumbered old
    fewer_left some =
        let first = closes.balance in
        let second = grows.balance in
        let longer = no_shorter (Spread (IsLinked silent) (Contains layer)) (Contains layer) distance old mid layer half closes in
        omega arith

-- no layer is left
module _ (a : Automaton) (distance : ℕ) (numbers : List (Option ℕ)) (is : Searching a distance numbers []) where
  all_settled : (p q n : ℕ) (letter : Option ℕ) → number_of numbers q ≡ Some n → HasStep a p letter q → Within numbers p (n + cost letter)
  all_settled p q n letter at edge = elim (cases_lt n distance) [
    | inl less ↦ is.settled p q n letter at less edge
    | inr more ↦
        let same : n ≡ distance = (let b = is.bounded q n at in omega arith) in
        absurd (Contains-nil q ((is.listed q).1 (subst (λ m. number_of numbers q ≡ Some m) same at)))
  ]

  within_by_steps : (steps : List Step) (p r : ℕ) → Follow a p steps r → IsFinal a r → Within numbers p (length (spelled steps))
  within_by_steps [] p r same final = (0, subst (λ n. number_of numbers n ≡ Some 0) (sym same) (is.finals r final), omega arith)
  within_by_steps (first ∷ rest) p r follows final =
      let later = within_by_steps rest first.to r follows.1 final in
      let now = all_settled p first.to later.0 first.letter later.1 follows.0 in
      (now.0, now.1, omega (arith, now.2, later.2, length-append (option_to_list first.letter) (spelled rest)))

  pub searched : AreDistances a numbers
  searched = record {
    finishes = is.sound;
    least = λ q n (word, (r, (steps, follows, spells), final), len).
        let within = within_by_steps steps q r follows final in
        (within.0, within.1, omega (arith, within.2, ap length spells, len));
  }
