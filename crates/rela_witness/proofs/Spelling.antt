-- The first word is spelled letter by letter, through states of falling distance.
use Rattle.std.proofs.Common.{◌≡◌, ℕ, ◌+◌, ◌≤◌, List, [], ◌∷◌, ◌++◌, length, replicate, Option, None, Some, refl, sym, ap, ◌∙◌, subst, inl, inr, arith, append_assoc}
use Rattle.std.specs.List.{Contains}
use Rattle.std.specs.Option.{option_to_list}
use Rattle.std.proofs.lemmas.Bool.{cases_lt}
use Rattle.std.proofs.lemmas.List.{append-nil, nil_from_length}
use Rattle.std.proofs.lemmas.Option.{none-some, same_Some}
use Rattle.rela_names.specs.Shortlex.{IsSmaller, IsBefore, First}
use Rattle.rela_nfa.specs.Automaton.{Automaton, IsFinal}
use Rattle.rela_nfa.specs.Runs.{Step, HasStep, Follow, spelled, Accepts}
use Rattle.rela_witness.specs.Finishing.{AcceptsFrom, Finishes, AreDistances, LeadsTo, Continues}
use Rattle.rela_witness.specs.Labels.{IsLeast}
use Rattle.rela_witness.specs.Numbered.{number_of, HasNumber, IsLayer, Grows, Spread, here, step, After, IsDone}
use Rattle.rela_witness.proofs.Growing.{none_number, layer_grown, all_spread}
use Rattle.rela_witness.proofs.Searching.{step_finishes, no_layer}

pub first_same : (X Y : List ℕ → Type 0) (w : List ℕ) → ((u : List ℕ) → X u → Y u) → ((u : List ℕ) → Y u → X u) → First X w → First Y w
first_same X Y w to back first = record { member = to w first.member; least = λ u holds. first.least u (back u holds) }

not_before_nil : (u : List ℕ) → ¬ IsBefore u []
not_before_nil [] before = elim before [ inl less ↦ omega arith | inr smaller ↦ smaller.1 ]
not_before_nil (x ∷ u) before = elim before [ inl less ↦ omega arith | inr smaller ↦ smaller.1 ]

-- a step is put before a word
pub step_accepts : (a : Automaton) (p q : ℕ) (letter : Option ℕ) (word : List ℕ) → HasStep a p letter q → AcceptsFrom a q word → AcceptsFrom a p (option_to_list letter ++ word)
step_accepts a p q letter word has (r, (steps, follows, spells), final) =
    (r, (record { letter = letter; to = q } ∷ steps, (has, follows), ap (λ w. option_to_list letter ++ w) spells), final)

module _ (a : Automaton) (d : List (Option ℕ)) (are : AreDistances a d) where
  one_distance : (q m n : ℕ) → number_of d q ≡ Some m → number_of d q ≡ Some n → m ≡ n
  one_distance q m n first second = same_Some m n (sym first ∙ second)

  no_nearer : (q n m : ℕ) → number_of d q ≡ Some n → Finishes a q m → n ≤ m
  no_nearer q n m at finishes =
      let least = are.least q m finishes in
      let same = one_distance q n least.0 at least.1 in
      omega (arith, least.2, same)

  -- the first letter of a word that is short enough leads to a lesser distance
  module _ (S : ℕ → Type 0) (left r : ℕ) (left_is : left ≡ r + 1) (S_at : (p : ℕ) → S p → number_of d p ≡ Some left)
      (closed : (p q : ℕ) → S p → LeadsTo a d left None p q → S q) where
    abbrev FirstLetter : List ℕ → Type 0
    FirstLetter word = (p : ℕ) × (q : ℕ) × (k : ℕ) × (u : List ℕ) × S p × LeadsTo a d r (Some k) p q × (word ≡ k ∷ u) × AcceptsFrom a q u

    first_letter : (steps : List Step) (s f : ℕ) → S s → Follow a s steps f → IsFinal a f → length (spelled steps) ≡ left → FirstLetter (spelled steps)
    first_letter [] s f from same final len = absurd (omega arith)
    first_letter (first ∷ rest) s f from follows final len = by_letter first.letter follows.0 len (λ in_layer more. first_letter rest first.to f in_layer follows.1 final more)
      where
        later : AcceptsFrom a first.to (spelled rest)
        later = (f, (rest, follows.1, refl), final)

        by_letter : (letter : Option ℕ) → HasStep a s letter first.to → length (option_to_list letter ++ spelled rest) ≡ left
            → (S first.to → length (spelled rest) ≡ left → FirstLetter (spelled rest)) → FirstLetter (option_to_list letter ++ spelled rest)
        by_letter None has short next =
            let near = are.least first.to left (spelled rest, later, short) in
            let far = no_nearer s left (0 + near.0) (S_at s from) (step_finishes a s first.to near.0 None has (are.finishes first.to near.0 near.1)) in
            let same : near.0 ≡ left = omega (arith, near.2, far) in
            next (closed s first.to from (has, subst (λ n. number_of d first.to ≡ Some n) same near.1)) short
        by_letter (Some k) has short next =
            let near = are.least first.to r (spelled rest, later, omega (arith, short)) in
            let far = no_nearer s left (1 + near.0) (S_at s from) (step_finishes a s first.to near.0 (Some k) has (are.finishes first.to near.0 near.1)) in
            let same : near.0 ≡ r = omega (arith, near.2, far) in
            (s, first.to, k, spelled rest, from, (has, subst (λ n. number_of d first.to ≡ Some n) same near.1), refl, later)

    -- some letter leads on
    pub some_letter : (p : ℕ) → S p → (k : ℕ) × ((p : ℕ) × (q : ℕ) × S p × LeadsTo a d r (Some k) p q)
    some_letter p from =
        let word = are.finishes p left (S_at p from) in
        let run = word.1.1 in
        let found = first_letter run.0 p word.1.0 from run.1 word.1.2 (ap length run.2 ∙ word.2) in
        (found.2, (found.0, found.1, found.4, found.5))

    module _ (T : ℕ → Type 0) (k : ℕ) (T_at : (q : ℕ) → T q → number_of d q ≡ Some r) (least : (j p q : ℕ) → S p → LeadsTo a d r (Some j) p q → k ≤ j)
        (onto : (p q : ℕ) → S p → LeadsTo a d r (Some k) p q → T q) (from : (q : ℕ) → T q → (p : ℕ) × S p × HasStep a p (Some k) q) where
      abbrev InS : List ℕ → Type 0
      InS word = (p : ℕ) × S p × AcceptsFrom a p word

      abbrev InT : List ℕ → Type 0
      InT word = (q : ℕ) × T q × AcceptsFrom a q word

      first_length : (v : List ℕ) → First InT v → length v ≡ r
      first_length v first =
          let q = first.member.0 in
          let at = T_at q first.member.1 in
          let far = no_nearer q r (length v) at (v, first.member.2, refl) in
          let short = are.finishes q r at in
          let near : length v ≤ r = elim (cases_lt r (length v)) [
            | inl more ↦ absurd (first.least short.0 (q, first.member.1, short.1) (inl (omega (arith, short.2, more))))
            | inr less ↦ less
          ] in
          omega arith

      none_smaller : (v : List ℕ) → First InT v → (u : List ℕ) → FirstLetter u → length u ≡ left → IsSmaller u (k ∷ v) → ⊥
      none_smaller v first u (p, q, j, rest, in_s, leads, is, accepts) len smaller =
          elim (subst (λ w. IsSmaller w (k ∷ v)) is smaller) [
            | inl less ↦ omega (arith, least j p q in_s leads, less)
            | inr (same, later) ↦
                first.least rest (q, onto p q in_s (subst (λ i. LeadsTo a d r (Some i) p q) same leads), accepts)
                (inr (omega (arith, first_length v first, ap length is, len), later))
          ]

      -- what is first from there on is first with the letter before it
      pub first_with_letter : (v : List ℕ) → First InT v → First InS (k ∷ v)
      first_with_letter v first = record {
        member =
            let source = from first.member.0 first.member.1 in
            (source.0, source.1, step_accepts a source.0 first.member.0 (Some k) v source.2 first.member.2);
        least = λ u (s, in_s, accepts) before.
            let far = no_nearer s left (length u) (S_at s in_s) (u, accepts, refl) in
            let len = first_length v first in
            elim before [
              | inl shorter ↦ omega (arith, far, len, shorter)
              | inr (same, smaller) ↦
                  let run = accepts.1 in
                  let whole : length u ≡ left = omega (arith, len, same) in
                  none_smaller v first u (subst FirstLetter run.2 (first_letter run.0 s accepts.0 in_s run.1 accepts.2 (ap length run.2 ∙ whole))) whole smaller
            ];
      }

-- the word leads from one of the states to some final state
abbrev pub AcceptsFromAny : Automaton → List ℕ → List ℕ → Type 0
AcceptsFromAny a states word = (p : ℕ) × Contains states p × AcceptsFrom a p word

-- the layer has states of the distance `left` alone, and with the word before it the first word from there on is the first of all
pub record Choosing (a : Automaton) (d : List (Option ℕ)) (word : List ℕ) (left : ℕ) (numbers : List (Option ℕ)) (layer : List ℕ) : Type 0 where
  pub listed : IsLayer left numbers layer
  pub apart : (q n : ℕ) → number_of numbers q ≡ Some n → (number_of d q ≡ Some n) × (left ≤ n)
  pub some : (q : ℕ) × Contains layer q
  pub completes : (v : List ℕ) → First (AcceptsFromAny a layer) v → First (Accepts a) (word ++ v)

pub choosing_start : (a : Automaton) (d : List (Option ℕ)) (word : List ℕ) (left count : ℕ) (old numbers : List (Option ℕ)) (layer : List ℕ) → word ≡ [] → old ≡ replicate count None
    → number_of d a.start ≡ Some left → Grows (λ p. a.start ≡ p) left old numbers [] layer → HasNumber numbers a.start → Choosing a d word left numbers layer
choosing_start a d word left count old numbers layer empty none at grows has =
    let the_start : (q n : ℕ) → number_of numbers q ≡ Some n → (n ≡ left) × (a.start ≡ q) =
    λ q n is. elim (grows.only q n is) [ inl was ↦ absurd (none_number count old none q n was) | inr (same, start, among) ↦ (same, start) ] in
    let listed : IsLayer left numbers layer =
    layer_grown (λ p. a.start ≡ p) (λ p. a.start ≡ p) left old numbers [] layer grows (no_layer left old (λ q is. none_number count old none q left is)) in
    let start_in : Contains layer a.start = (listed a.start).1 (subst (λ n. number_of numbers a.start ≡ Some n) (the_start a.start has.0 has.1).0 has.1) in
    record {
      listed = listed;
      apart = λ q n is.
          let one = the_start q n is in
          (subst (λ p. number_of d p ≡ Some n) one.1 (subst (λ m. number_of d a.start ≡ Some m) (sym one.0) at), (let same = one.0 in omega arith));
      some = (a.start, start_in);
      completes = λ v first.
          subst (First (Accepts a)) (ap (λ w. w ++ v) (sym empty))
          (first_same (AcceptsFromAny a layer) (Accepts a) v
          (λ u (p, among, accepts). subst (λ n. AcceptsFrom a n u) (sym (the_start p left ((listed p).0 among)).1) accepts)
          (λ u accepts. (a.start, start_in, accepts)) first);
    }

module _ (a : Automaton) (d : List (Option ℕ)) (are : AreDistances a d) (word : List ℕ) (left r : ℕ) (left_is : left ≡ r + 1) (old : List (Option ℕ)) (layer : List ℕ)
    (is : Choosing a d word left old layer) (mid : List (Option ℕ)) (half : List ℕ)
    (closes : Grows (Spread (LeadsTo a d left None) (Contains layer)) left old mid layer half) (closed : IsDone (LeadsTo a d left None) mid half) where
  pub half_listed : IsLayer left mid half
  half_listed = layer_grown (Spread (LeadsTo a d left None) (Contains layer)) (Contains layer) left old mid layer half closes is.listed

  spread_at : {q : ℕ} → Spread (LeadsTo a d left None) (Contains layer) q → number_of d q ≡ Some left
  spread_at (here {q = q} among) = (is.apart q left ((is.listed q).0 among)).0
  spread_at (step s leads) = leads.1

  spread_back : {q : ℕ} → Spread (LeadsTo a d left None) (Contains layer) q → (u : List ℕ) → AcceptsFrom a q u → AcceptsFromAny a layer u
  spread_back (here {q = q} among) u accepts = (q, among, accepts)
  spread_back (step {p = p} {q = q} s leads) u accepts = spread_back s u (step_accepts a p q None u leads.0 accepts)

  mid_apart : (q n : ℕ) → number_of mid q ≡ Some n → (number_of d q ≡ Some n) × (left ≤ n)
  mid_apart q n at = elim (closes.only q n at) [
    | inl was ↦ is.apart q n was
    | inr (same, spread, among) ↦ (subst (λ m. number_of d q ≡ Some m) (sym same) (spread_at spread), omega arith)
  ]

  half_at : (p : ℕ) → Contains half p → number_of d p ≡ Some left
  half_at p among = (mid_apart p left ((half_listed p).0 among)).0

  half_closed : (p q : ℕ) → Contains half p → LeadsTo a d left None p q → Contains half q
  half_closed p q among leads =
      let has = closed p q among leads in
      let same = one_distance a d are q has.0 left (mid_apart q has.0 has.1).0 leads.1 in
      (half_listed q).1 (subst (λ n. number_of mid q ≡ Some n) same has.1)

  -- some letter leads on
  pub some_continues : (k : ℕ) × Continues a d r half k
  some_continues =
      let start = is.some.0 in
      let among : Contains half start = (half_listed start).1 (closes.kept start left ((is.listed start).0 is.some.1)) in
      let found = some_letter a d are (Contains half) left r left_is half_at half_closed start among in
      (found.0, (found.1.0, found.1.2, (found.1.1, found.1.3)))

  module _ (k : ℕ) (least : IsLeast (Continues a d r half) (Some k)) (new : List (Option ℕ)) (next : List ℕ)
      (grows : Grows (After (LeadsTo a d r (Some k)) half) r mid new [] next) (done : IsDone (LeadsTo a d r (Some k)) new half) where
    not_yet : (q : ℕ) → ¬ (number_of mid q ≡ Some r)
    not_yet q at = let far = (mid_apart q r at).1 in omega arith

    next_listed : IsLayer r new next
    next_listed = layer_grown (After (LeadsTo a d r (Some k)) half) (Contains half) r mid new [] next grows (no_layer r mid not_yet)

    new_apart : (q n : ℕ) → number_of new q ≡ Some n → (number_of d q ≡ Some n) × (r ≤ n)
    new_apart q n at = elim (grows.only q n at) [
      | inl was ↦ let before = mid_apart q n was in (before.0, omega (arith, before.1))
      | inr (same, (p, among, leads), listed) ↦ (subst (λ m. number_of d q ≡ Some m) (sym same) leads.1, omega arith)
    ]

    next_from : (q : ℕ) → Contains next q → (p : ℕ) × Contains half p × HasStep a p (Some k) q
    next_from q c = elim (grows.only q r ((next_listed q).0 c)) [
      | inl was ↦ absurd (not_yet q was)
      | inr (same, (p, among, leads), listed) ↦ (p, among, leads.0)
    ]

    next_onto : (p q : ℕ) → Contains half p → LeadsTo a d r (Some k) p q → Contains next q
    next_onto p q among leads =
        let has = done p q among leads in
        let same = one_distance a d are q has.0 r (new_apart q has.0 has.1).0 leads.1 in
        (next_listed q).1 (subst (λ n. number_of new q ≡ Some n) same has.1)

    first_further : (v : List ℕ) → First (AcceptsFromAny a next) v → First (AcceptsFromAny a half) (k ∷ v)
    first_further =
        first_with_letter a d are (Contains half) left r left_is half_at half_closed (Contains next) k (λ q c. (new_apart q r ((next_listed q).0 c)).0)
        (λ j p q among leads. least.1 j (p, among, (q, leads))) next_onto next_from

    pub choosing_more : (longer : List ℕ) → longer ≡ word ++ k ∷ [] → Choosing a d longer r new next
    choosing_more longer pushed = record {
      listed = next_listed;
      apart = new_apart;
      some = let (p, among, (q, leads)) = least.0 in (q, next_onto p q among leads);
      completes = λ v first.
          subst (First (Accepts a)) (sym (ap (λ w. w ++ v) pushed ∙ append_assoc word (k ∷ []) v))
          (is.completes (k ∷ v) (first_same (AcceptsFromAny a half) (AcceptsFromAny a layer) (k ∷ v)
          (λ u (p, among, accepts). spread_back (all_spread (LeadsTo a d left None) left old layer mid half is.listed closes p among) u accepts)
          (λ u (p, among, accepts). (p, (half_listed p).1 (closes.kept p left ((is.listed p).0 among)), accepts))
          (first_further v first)));
    }

-- no letter is left
pub chosen : (a : Automaton) (d : List (Option ℕ)) → AreDistances a d → (word : List ℕ) (left : ℕ) (numbers : List (Option ℕ)) (layer : List ℕ) → left ≡ 0
    → Choosing a d word left numbers layer → First (Accepts a) word
chosen a d are word left numbers layer none is =
    let q = is.some.0 in
    let at = (is.apart q left ((is.listed q).0 is.some.1)).0 in
    let ends = are.finishes q left at in
    let empty : AcceptsFrom a q [] = subst (AcceptsFrom a q) (nil_from_length ends.0 (ends.2 ∙ none)) ends.1 in
    subst (First (Accepts a)) (append-nil word)
    (is.completes [] (record { member = (q, is.some.1, empty); least = λ u holds before. not_before_nil u before }))

-- where the start has no distance
pub none_accepted : (a : Automaton) (d : List (Option ℕ)) → AreDistances a d → number_of d a.start ≡ None → (word : List ℕ) → ¬ Accepts a word
none_accepted a d are none word accepts = let found = are.least a.start (length word) (word, accepts, refl) in absurd (none-some found.0 (sym none ∙ found.1))
