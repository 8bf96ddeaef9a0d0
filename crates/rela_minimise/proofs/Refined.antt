-- From one class of all states to classes that no round splits.
use Rattle.std.proofs.Common.{◌≡◌, ℕ, ◌<◌, ◌≤◌, ◌↔◌, Bool, true, false, List, [], ◌∷◌, length, get_or, Some, refl, sym, ap, ◌∙◌, subst, inl, inr, arith}
use Rattle.std.specs.List.{All, Contains}
use Rattle.std.proofs.lemmas.Bool.{cases_lt, false≢true}
use Rattle.std.proofs.lemmas.List.{get_or-replicate, get_or_default, get_or_past, length-replicate}
use Rattle.std.proofs.lemmas.List.Elements.{All-from_get_or, All-head, All-nil, All-tail}
use Rattle.std.proofs.lemmas.Cmp.{nat_eq_equiv}
use Rattle.std.proofs.lemmas.Map.Steps.{le-length_from_below}
use Rattle.std.proofs.lemmas.Map.Views.{list_any-from_Contains}
use Rattle.rela_labels.specs.Letters.{has}
use Rattle.rela_subset.specs.Deterministic.{Deterministic, IsDeterministic, IsOver, IsFinal, led_from, moves_of, next, states}
use Rattle.rela_minimise.specs.Classes.{AreClasses, finality}
use Rattle.rela_minimise.specs.Refining.{AreColumns, ArePredecessors, AreWaiting, IsAfter, IsCoarse, IsRefining, IsSound, IsStable, IsStart, Marks, PrecedesNew, Stage, class_of, is_stale}
use Rattle.rela_minimise.proofs.Alike.{truth_same}
use Rattle.rela_minimise.proofs.LetterTargets.{next_within, target_at, target_step}
use Rattle.rela_minimise.proofs.Signing.{same_final, same_leads, signature_same}

all_waiting : (n : ℕ) (stale : List Bool) (waiting : List ℕ) → length stale ≡ n → length waiting ≡ n → ((q : ℕ) → q < n → get_or waiting q 0 ≡ q) → AreWaiting n stale waiting
all_waiting n stale waiting flagged each own = record {
  listed = λ q is. elim (cases_lt q n) [
    | inl below ↦ (q, omega arith, get_or_default waiting q q 0 (omega arith) ∙ own q below)
    | inr past ↦ absurd (false≢true (sym (get_or_past stale q false (omega arith)) ∙ is))
  ];
  states = All-from_get_or (λ q. q < n) waiting 0 (λ i below. let at = own i (omega arith) in omega arith);
}

pub refining_first : (d : Deterministic) (columns : List (List ℕ)) (s : Stage) (waiting : List ℕ) → IsDeterministic d → IsStart (states d) s → length waiting ≡ states d → ((q : ℕ) → q < states d → get_or waiting q 0 ≡ q) → IsRefining d columns 0 s waiting
refining_first d columns s waiting ok is each own =
    let count : length s.members ≡ 1 = ap length is.members in
    let flagged : length s.stale ≡ states d = ap length is.stale ∙ length-replicate (states d) true in
    let class_zero = λ (q : ℕ) (below : q < states d). let at : class_of s q ≡ 0 = ap (λ cs. get_or cs q 0) is.classes ∙ get_or-replicate (states d) q 0 0 below in at in
    let stale = λ (q : ℕ) (below : q < states d). let at : is_stale s.stale q ≡ true = ap (λ st. get_or st q false) is.stale ∙ get_or-replicate (states d) q true false below in at in
    record {
      sound = record {
        each = ap length is.classes ∙ length-replicate (states d) 0;
        flagged = flagged;
        signed = ap length is.signatures ∙ sym count;
        counted = λ q below. let at = class_zero q below in omega arith;
        within = λ c. subst (All (λ q. q < states d)) (sym (ap (λ ms. get_or ms c []) is.members ∙ none c)) (All-nil (λ q. q < states d));
        held = λ q below fresh. absurd (false≢true (sym fresh ∙ stale q below));
        settled = λ q below fresh. absurd (false≢true (sym fresh ∙ stale q below));
      };
      coarse = record {
        accepting = λ p q p_in q_in same. class_zero p p_in ∙ sym (class_zero q q_in);
        signing = λ p q p_in q_in same. class_zero p p_in ∙ sym (class_zero q q_in);
        met = λ c below. (d.start, ok.automaton.starts, (let at = class_zero d.start ok.automaton.starts in omega arith));
      };
      waits = all_waiting (states d) s.stale waiting flagged each own;
      grown = omega arith;
      stable = λ same. absurd (omega (arith, same, count));
    }
  where
    none : (c : ℕ) → get_or {A = List ℕ} ([] ∷ []) c [] ≡ []
    none c = elim (cases_lt c 1) [
      | inl below ↦ let here : c ≡ 0 = omega arith in ap (λ n. get_or {A = List ℕ} ([] ∷ []) n []) here
      | inr past ↦ get_or_past ([] ∷ []) c [] past
    ]

module _ (d : Deterministic) (ok : IsDeterministic d) (columns : List (List ℕ)) (are : AreColumns d columns) where
  -- a state precedes those to which letters lead from it
  precedes : (lists : List (List ℕ)) → ArePredecessors d lists → (q k : ℕ) → q < states d → has d.over k ≡ true → Contains (get_or lists (next d q k) []) q
  precedes lists pred q k below over =
      let (set, among, has_k) = target_step (moves_of d q) k (next d q k) (target_at d ok q k below over) in
      pred.all q (record { label = Some set; to = next d q k }) below among

  module _ (start s : Stage) (stale : List Bool) (waiting : List ℕ) (lists : List (List ℕ)) (pred : ArePredecessors d lists) (after : IsAfter d columns start s)
      (marks : Marks (PrecedesNew lists s.members (length start.members) (length s.members)) s.stale [] stale waiting) where
    abbrev marked : Stage
    marked = record { classes = s.classes; members = s.members; signatures = s.signatures; stale = stale }

    -- from a state that has not been marked no letter leads to a new class
    leads_old : (q k : ℕ) → q < states d → is_stale stale q ≡ false → has d.over k ≡ true → class_of s (next d q k) ≡ class_of start (next d q k)
    leads_old q k below fresh over =
        let next_in = next_within d ok q k below over in
        elim (cases_lt (class_of s (next d q k)) (length start.members)) [
          | inl old ↦ after.kept (next d q k) next_in old
          | inr new ↦ absurd (false≢true (sym fresh ∙ marks.marked q (
            class_of s (next d q k),
            new,
            after.counted (next d q k) next_in,
            (next d q k, after.held (next d q k) next_in, precedes lists pred q k below over),
          )))
        ]

    none_stale : (q : ℕ) → is_stale s.stale q ≡ true → Contains [] q
    none_stale q is = elim (cases_lt q (states d)) [
      | inl below ↦ absurd (false≢true (sym (after.fresh q below) ∙ is))
      | inr past ↦ absurd (false≢true (sym (get_or_past s.stale q false (let flagged = after.flagged in omega arith)) ∙ is))
    ]

    pub refining_next : IsRefining d columns (length start.members) marked waiting
    refining_next = record {
      sound = record {
        each = after.each;
        flagged = marks.each ∙ after.flagged;
        signed = after.signed;
        counted = after.counted;
        within = after.within;
        held = λ q below fresh. after.held q below;
        settled = λ q below fresh. signature_same d ok columns are s.classes start.classes q q below below refl (λ k over. leads_old q k below fresh over) ∙ after.settled q below;
      };
      coarse = record { accepting = after.coarse.accepting; signing = after.coarse.signing; met = after.coarse.met };
      waits = record {
        listed = marks.listed none_stale;
        states = subst (λ n. All (λ q. q < n) waiting) (marks.each ∙ after.flagged) (marks.states (All-nil (λ q. q < length s.stale)));
      };
      grown = after.grown;
      stable = λ same. after.stable (sym same);
    }

  module _ (s : Stage) (coarse : IsCoarse d columns s) (sound : IsSound d columns s) where
    pub few_classes : length s.members ≤ states d
    few_classes =
        let few = le-length_from_below s.classes (length s.members) (λ c below.
        let (q, q_in, at) = coarse.met c below in
        let within : q < length s.classes = let each = sound.each in omega arith in
        list_any-from_Contains nat_eq_equiv c s.classes (q, within, sym (get_or_default s.classes q 0 c within) ∙ at)) in
        let each = sound.each in
        omega arith

    accept_stable : IsStable d columns s → (word : List ℕ) (p q : ℕ) → p < states d → q < states d → class_of s p ≡ class_of s q → IsOver d.over word → IsFinal d (led_from d p word) ↔ IsFinal d (led_from d q word)
    accept_stable stable [] p q p_in q_in same over = truth_same (finality d p) (finality d q) (same_final d ok columns are s.classes s.classes p q (stable p q p_in q_in same))
    accept_stable stable (k ∷ rest) p q p_in q_in same over =
        let read : has d.over k ≡ true = All-head (λ j. has d.over j ≡ true) k rest over in
        accept_stable stable rest (next d p k) (next d q k) (next_within d ok p k p_in read) (next_within d ok q k q_in read)
        (same_leads d ok columns are s.classes s.classes p q p_in q_in (stable p q p_in q_in same) k read) (All-tail (λ j. has d.over j ≡ true) k rest over)

    pub refined_classes : IsStable d columns s → AreClasses d (length s.members) s.classes
    refined_classes stable = record {
      each = sound.each;
      alike = λ p q p_in q_in. (λ same word over. accept_stable stable word p q p_in q_in same over, coarse.accepting p q p_in q_in);
      counted = sound.counted;
      met = coarse.met;
    }
