-- States that are put into classes.
use Rattle.std.proofs.Common.{◌≡◌, ℕ, ◌+◌, ◌<◌, ◌⊎◌, false, List, [], ◌∷◌, ◌++◌, length, get_or, set, refl, sym, ap, ◌∙◌, subst, inl, inr, arith}
use Rattle.std.specs.List.{All, Contains}
use Rattle.std.proofs.lemmas.Bool.{cases_Bool, cases_eq, cases_lt, false≢true}
use Rattle.std.proofs.lemmas.List.{get_or-set_other, get_or-set_same, get_or_default, length-set}
use Rattle.std.proofs.lemmas.List.Elements.{All-contains, All-from_get_or, Contains-get_or}
use Rattle.rela_subset.specs.Deterministic.{Deterministic, states}
use Rattle.rela_minimise.specs.Refining.{AreAssigned, AreWaiting, Goes, IsAssigned, IsOpened, IsSound, IsSplit, Stage, class_of, is_stale}
use Rattle.rela_minimise.proofs.Putting.{IsPut, is_put, put_here, put_kept, put_only}

pub assigned : (q class : ℕ) (s s' : Stage) → q < length s.classes → length s.stale ≡ length s.classes → class < length s.members
    → s'.classes ≡ set s.classes q class → s'.members ≡ set s.members class (get_or s.members class [] ++ q ∷ []) → s'.signatures ≡ s.signatures → s'.stale ≡ set s.stale q false → IsAssigned q class s s'
assigned q class s s' q_in flagged class_in classes members signatures stale =
    let put : IsPut s.members class q s'.members = is_put s.members class q s'.members class_in members in
    record {
      each = ap length classes ∙ length-set s.classes q class;
      flagged = ap length stale ∙ length-set s.stale q false;
      signatures = signatures;
      count = put.each;
      goes = ap (λ cs. get_or cs q 0) classes ∙ get_or-set_same s.classes q class 0 q_in;
      others = λ r other. ap (λ cs. get_or cs r 0) classes ∙ get_or-set_other s.classes q r class 0 other;
      fresh = ap (λ st. get_or st q false) stale ∙ get_or-set_same s.stale q false false (omega arith);
      others_stale = λ r other. ap (λ st. get_or st r false) stale ∙ get_or-set_other s.stale q r false false other;
      held = put_here s.members class q s'.members put;
      kept = put_kept s.members class q s'.members put;
      only = put_only s.members class q s'.members put;
    }

pub assigned_none : (waiting targets : List ℕ) (s : Stage) → AreAssigned waiting targets 0 s s
assigned_none waiting targets s = record {
  each = refl;
  flagged = refl;
  signatures = refl;
  count = refl;
  kept = λ c r among. among;
  only = λ c r among. inl among;
  done = λ k below. absurd (omega (arith, below));
  goes = λ r. inl (refl, refl);
}

module _ (waiting targets : List ℕ) (i : ℕ) (i_in : i < length waiting) (s before after : Stage) (are : AreAssigned waiting targets i s before) (is : IsAssigned (get_or waiting i 0) (get_or targets i 0) before after) where
  state_more : (r : ℕ) → ((class_of after r ≡ class_of s r) × (is_stale after.stale r ≡ is_stale s.stale r))
      ⊎ ((k : ℕ) × (k < i + 1) × (get_or waiting k 0 ≡ r) × (class_of after r ≡ get_or targets k 0) × (is_stale after.stale r ≡ false) × Contains (get_or after.members (class_of after r) []) r)
  state_more r = elim (cases_eq r (get_or waiting i 0)) [
    | inl here ↦ inr (
      i,
      omega arith,
      sym here,
      ap (class_of after) here ∙ is.goes,
      ap (is_stale after.stale) here ∙ is.fresh,
      subst (λ n. Contains (get_or after.members (class_of after n) []) n) (sym here) (subst (λ c. Contains (get_or after.members c []) (get_or waiting i 0)) (sym is.goes) is.held),
    )
    | inr other ↦ elim (are.goes r) [
      | inl (same, stale_same) ↦ inl (is.others r other ∙ same, is.others_stale r other ∙ stale_same)
      | inr (k, below, at, goes, fresh, held) ↦ inr (
        k,
        omega arith,
        at,
        is.others r other ∙ goes,
        is.others_stale r other ∙ fresh,
        subst (λ c. Contains (get_or after.members c []) r) (sym (is.others r other)) (is.kept (class_of before r) r held),
      )
    ]
  ]

  pub assigned_more : AreAssigned waiting targets (i + 1) s after
  assigned_more = record {
    each = is.each ∙ are.each;
    flagged = is.flagged ∙ are.flagged;
    signatures = is.signatures ∙ are.signatures;
    count = is.count ∙ are.count;
    kept = λ c r among. is.kept c r (are.kept c r among);
    only = λ c r among. elim (is.only c r among) [
      | inl earlier ↦ are.only c r earlier
      | inr last ↦ inr (subst (Contains waiting) (sym last) (Contains-get_or waiting i 0 i_in))
    ];
    done = λ k below. elim (cases_eq (get_or waiting k 0) (get_or waiting i 0)) [
      | inl here ↦ ap (is_stale after.stale) here ∙ is.fresh
      | inr other ↦ is.others_stale (get_or waiting k 0) other ∙ are.done k (elim (cases_lt k i) [
        | inl earlier ↦ earlier
        | inr not_earlier ↦ let last : k ≡ i = omega arith in absurd (other (ap (λ n. get_or waiting n 0) last))
      ])
    ];
    goes = state_more;
  }

-- a class to which a state goes is one of the old ones or of the new ones
pub goes_below : (d : Deterministic) (columns : List (List ℕ)) (s : Stage) (found : List (List ℕ)) (q class : ℕ) → class_of s q < length s.members → Goes d columns s found q class → class < length s.members + length found
goes_below d columns s found q class own (inl (same, stays)) = omega arith
goes_below d columns s found q class own (inr (other, (j, below, at, is))) = omega arith

pub targets_below : (d : Deterministic) (columns : List (List ℕ)) (s : Stage) (found : List (List ℕ)) (waiting targets : List ℕ) → IsSound d columns s → All (λ q. q < states d) waiting → length targets ≡ length waiting
    → ((i : ℕ) → i < length waiting → Goes d columns s found (get_or waiting i 0) (get_or targets i 0)) → All (λ class. class < length s.members + length found) targets
targets_below d columns s found waiting targets sound within each goes =
    All-from_get_or (λ class. class < length s.members + length found) targets 0 (λ i below.
    let i_in : i < length waiting = omega arith in
    goes_below d columns s found (get_or waiting i 0) (get_or targets i 0) (sound.counted (get_or waiting i 0) (within i 0 i_in)) (goes i i_in))

module _ (d : Deterministic) (columns : List (List ℕ)) (s opened s' : Stage) (found : List (List ℕ)) (waiting targets : List ℕ) (sound : IsSound d columns s) (are_waiting : AreWaiting (states d) s.stale waiting)
    (goes : (i : ℕ) → i < length waiting → Goes d columns s found (get_or waiting i 0) (get_or targets i 0)) (is : IsOpened s found opened) (are : AreAssigned waiting targets (length waiting) opened s') where
  -- a state that has not been put into a class was not stale
  not_stale : (q : ℕ) → is_stale s'.stale q ≡ is_stale opened.stale q → is_stale s.stale q ≡ false
  not_stale q same = elim (cases_Bool (is_stale s.stale q)) [
    | inl stale ↦
        let (k, below, at) = are_waiting.listed q stale in
        let at_zero : get_or waiting k 0 ≡ q = get_or_default waiting k 0 q below ∙ at in
        absurd (false≢true (sym (ap (is_stale s'.stale) (sym at_zero) ∙ are.done k below) ∙ same ∙ ap (λ st. get_or st q false) is.stale ∙ stale))
    | inr fresh ↦ fresh
  ]

  pub is_split : IsSplit d columns s found s'
  is_split = record {
    each = are.each ∙ ap length is.classes ∙ sound.each;
    flagged = are.flagged ∙ ap length is.stale ∙ sound.flagged;
    signatures = are.signatures ∙ is.signatures;
    count = are.count ∙ is.count;
    goes = λ q below. elim (are.goes q) [
      | inl (same, stale_same) ↦
          inl (sound.settled q below (not_stale q stale_same), same ∙ ap (λ cs. get_or cs q 0) is.classes)
      | inr (k, k_in, at, to, fresh, held) ↦
          subst (λ r. Goes d columns s found r (class_of s' q)) at (subst (Goes d columns s found (get_or waiting k 0)) (sym to) (goes k k_in))
    ];
    fresh = λ q below. elim (are.goes q) [
      | inl (same, stale_same) ↦ stale_same ∙ ap (λ st. get_or st q false) is.stale ∙ not_stale q stale_same
      | inr (k, k_in, at, to, fresh, held) ↦ fresh
    ];
    held = λ q below. elim (are.goes q) [
      | inl (same, stale_same) ↦
          subst (λ c. Contains (get_or s'.members c []) q) (sym (same ∙ ap (λ cs. get_or cs q 0) is.classes))
          (are.kept (class_of s q) q (subst (λ l. Contains l q) (sym (is.members (class_of s q))) (sound.held q below (not_stale q stale_same))))
      | inr (k, k_in, at, to, fresh, held) ↦ held
    ];
    within = λ c k e inside. elim (are.only c (get_or (get_or s'.members c []) k e) (Contains-get_or (get_or s'.members c []) k e inside)) as (λ _. get_or (get_or s'.members c []) k e < states d) [
      | inl earlier ↦ All-contains (λ q. q < states d) (get_or s.members c []) (get_or (get_or s'.members c []) k e) (sound.within c) (subst (λ l. Contains l (get_or (get_or s'.members c []) k e)) (is.members c) earlier)
      | inr among ↦ All-contains (λ q. q < states d) waiting (get_or (get_or s'.members c []) k e) are_waiting.states among
    ];
  }
