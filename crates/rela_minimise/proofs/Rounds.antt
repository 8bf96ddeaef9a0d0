-- A round of the refinement: each class is split by signatures.
use Rattle.std.proofs.Common.{◌≡◌, ◌≢◌, ℕ, ◌+◌, ◌-◌, ◌<◌, ◌≤◌, false, List, [], length, get_or, refl, sym, ap, ◌∙◌, subst, inl, inr, arith}
use Rattle.std.specs.List.{All, Contains}
use Rattle.std.proofs.lemmas.Bool.{cases_Bool, cases_lt, false≢true}
use Rattle.std.proofs.lemmas.List.{get_or-append-add, get_or_append_left, length-append}
use Rattle.std.proofs.lemmas.List.Elements.{All-contains, All-from_get_or}
use Rattle.rela_subset.specs.Deterministic.{Deterministic, IsDeterministic, next, states}
use Rattle.rela_subset.specs.Sets.{AreDistinct}
use Rattle.rela_minimise.specs.Classes.{AcceptSame}
use Rattle.rela_minimise.specs.Refining.{AreFrom, AreColumns, AreOrigins, AreWaiting, Goes, HasSettled, IsAfter, IsCoarse, IsHeld, IsSplit, IsStable, Settles, Stage, class_of, is_stale, signature}
use Rattle.rela_minimise.proofs.Alike.{accept_final, accept_next}
use Rattle.rela_minimise.proofs.Assigning.{goes_below}
use Rattle.rela_minimise.proofs.LetterTargets.{next_within}
use Rattle.rela_minimise.proofs.Signing.{same_final, same_leads, signature_same}

module _ (d : Deterministic) (ok : IsDeterministic d) (columns : List (List ℕ)) (are : AreColumns d columns) (start s s' : Stage) (found : List (List ℕ)) (waiting targets : List ℕ)
    (coarse : IsCoarse d columns start) (are_waiting : AreWaiting (states d) start.stale waiting) (settles : Settles d columns start s) (each_settled : All (HasSettled s) waiting)
    (goes : (i : ℕ) → i < length waiting → Goes d columns s found (get_or waiting i 0) (get_or targets i 0))
    (used : (j : ℕ) → j < length found → (i : ℕ) × (i < length waiting) × (get_or targets i 0 ≡ length s.members + j)) (distinct : AreDistinct found) (is : IsSplit d columns s found s') where
  sign : ℕ → List ℕ
  sign = signature d columns s.classes

  old_signature : (c : ℕ) → c < length s.members → get_or s'.signatures c [] ≡ get_or s.signatures c []
  old_signature c below = ap (λ l. get_or l c []) is.signatures ∙ get_or_append_left s.signatures found [] c (let signed = settles.sound.signed in omega arith)

  new_signature : (j : ℕ) → get_or s'.signatures (length s.members + j) [] ≡ get_or found j []
  new_signature j =
      ap (λ n. get_or s'.signatures (n + j) []) (sym settles.sound.signed)
      ∙ ap (λ l. get_or l (length s.signatures + j) []) is.signatures
      ∙ get_or-append-add s.signatures found j []

  settled_at : (q : ℕ) → q < states d → (class : ℕ) → Goes d columns s found q class → sign q ≡ get_or s'.signatures class []
  unfolding sign
  settled_at q below class (inl (same, stays)) = same ∙ sym (ap (λ c. get_or s'.signatures c []) stays ∙ old_signature (class_of s q) (settles.sound.counted q below))
  settled_at q below class (inr (other, (j, j_in, at, to))) = sym at ∙ sym (ap (λ c. get_or s'.signatures c []) to ∙ new_signature j)

  after_signed : (q : ℕ) → q < states d → sign q ≡ get_or s'.signatures (class_of s' q) []
  after_signed q below = settled_at q below (class_of s' q) (is.goes q below)

  stays_old : (q class : ℕ) → Goes d columns s found q class → class < length s.members → class ≡ class_of s q
  stays_old q class (inl (same, stays)) below = stays
  stays_old q class (inr (other, (j, j_in, at, to))) below = absurd (omega (arith, below, to))

  one_number : (i j : ℕ) → i < length found → j < length found → get_or found i [] ≡ get_or found j [] → i ≡ j
  one_number i j i_in j_in same = elim (cases_lt i j) [
    | inl below ↦ absurd (distinct i j below j_in same)
    | inr not_below ↦ elim (cases_lt j i) [ inl above ↦ absurd (distinct j i above i_in (sym same)) | inr not_above ↦ omega arith ]
  ]

  -- states of one class that have the same signature go to the same class
  go_together : (p q class class' : ℕ) → class_of s p ≡ class_of s q → sign p ≡ sign q → Goes d columns s found p class → Goes d columns s found q class' → class ≡ class'
  unfolding sign
  go_together p q class class' own same (inl (p_same, p_stays)) (inl (q_same, q_stays)) = p_stays ∙ own ∙ sym q_stays
  go_together p q class class' own same (inl (p_same, p_stays)) (inr (q_other, q_goes)) = absurd (q_other (sym same ∙ p_same ∙ ap (λ c. get_or s.signatures c []) own))
  go_together p q class class' own same (inr (p_other, p_goes)) (inl (q_same, q_stays)) = absurd (p_other (same ∙ q_same ∙ ap (λ c. get_or s.signatures c []) (sym own)))
  go_together p q class class' own same (inr (p_other, (i, i_in, p_at, p_to))) (inr (q_other, (j, j_in, q_at, q_to))) =
      let number = one_number i j i_in j_in (p_at ∙ same ∙ sym q_at) in
      p_to ∙ ap (λ n. length s.members + n) number ∙ sym q_to

  class_start : (q : ℕ) → class_of s q ≡ class_of start q
  class_start q = ap (λ cs. get_or cs q 0) settles.classes

  sign_start : (q : ℕ) → sign q ≡ signature d columns start.classes q
  unfolding sign
  sign_start q = ap (λ cs. signature d columns cs q) settles.classes

  one_class : (p q : ℕ) → p < states d → q < states d → sign p ≡ sign q → class_of s' p ≡ class_of s' q
  one_class p q p_in q_in same =
      go_together p q (class_of s' p) (class_of s' q)
      (class_start p ∙ coarse.signing p q p_in q_in (sym (sign_start p) ∙ same ∙ sign_start q) ∙ sym (class_start q)) same (is.goes p p_in) (is.goes q q_in)

  one_sign : (p q : ℕ) → p < states d → q < states d → class_of s' p ≡ class_of s' q → sign p ≡ sign q
  one_sign p q p_in q_in same = after_signed p p_in ∙ ap (λ c. get_or s'.signatures c []) same ∙ sym (after_signed q q_in)

  -- a class that was met keeps a state: one that is settled stays
  old_met : (c : ℕ) → c < length s.members → (q : ℕ) × (q < states d) × (class_of s' q ≡ c)
  old_met c below =
      let (q, q_in, at) = coarse.met c (let count = settles.count in omega arith) in
      elim (cases_Bool (is_stale s.stale q)) [
        | inl stale ↦
            let waits : Contains waiting q = are_waiting.listed q (elim (cases_Bool (is_stale start.stale q)) [
              | inl was ↦ was
              | inr was_not ↦ absurd (false≢true (sym (settles.fewer q was_not) ∙ stale))
            ]) in
            let (r, in_class) = All-contains (HasSettled s) waiting q each_settled waits in
            let r_in : r < states d = subst (λ n. r < n) settles.sound.each in_class.state in
            (r, r_in, stays_settled r r_in in_class.fresh ∙ in_class.own ∙ class_start q ∙ at)
        | inr fresh ↦ (q, q_in, stays_settled q q_in fresh ∙ class_start q ∙ at)
      ]
    where
      stays_settled : (r : ℕ) → r < states d → is_stale s.stale r ≡ false → class_of s' r ≡ class_of s r
      stays_settled r r_in fresh = elim (is.goes r r_in) [
        | inl stays ↦ stays.1
        | inr moves ↦ absurd (moves.0 (settles.sound.settled r r_in fresh))
      ]

  goes_new : (q class j : ℕ) → q < states d → Goes d columns s found q class → class ≡ length s.members + j → j < length found → (sign q ≢ get_or s.signatures (class_of s q) []) × (get_or found j [] ≡ sign q)
  unfolding sign
  goes_new q class j q_in (inl (same, stays)) to j_in = absurd (let counted = settles.sound.counted q q_in in omega (arith, stays, to, counted))
  goes_new q class j q_in (inr (other, (i, i_in, at, is_to))) to j_in = let number : i ≡ j = omega (arith, to, is_to) in (other, ap (λ n. get_or found n []) (sym number) ∙ at)

  stays_new : (q class j : ℕ) → sign q ≢ get_or s.signatures (class_of s q) [] → get_or found j [] ≡ sign q → j < length found → Goes d columns s found q class → class ≡ length s.members + j
  unfolding sign
  stays_new q class j other at j_in (inl (same, stays)) = absurd (other same)
  stays_new q class j other at j_in (inr (_, (i, i_in, i_at, to))) = to ∙ ap (λ n. length s.members + n) (one_number i j i_in j_in (i_at ∙ sym at))

  new_met : (j : ℕ) → j < length found → (q : ℕ) × (q < states d) × (class_of s' q ≡ length s.members + j)
  new_met j below =
      let (i, i_in, to) = used j below in
      let q : ℕ = get_or waiting i 0 in
      let q_in : q < states d = are_waiting.states i 0 i_in in
      let (other, at) = goes_new q (get_or targets i 0) j q_in (goes i i_in) to below in
      (q, q_in, stays_new q (class_of s' q) j other at below (is.goes q q_in))

  leads_same : (p q : ℕ) → p < states d → q < states d → signature d columns s'.classes p ≡ signature d columns s'.classes q → sign p ≡ sign q
  unfolding sign
  leads_same p q p_in q_in same =
      signature_same d ok columns are s.classes s.classes p q p_in q_in (same_final d ok columns are s'.classes s'.classes p q same) (λ k over.
      let p_next = next_within d ok p k p_in over in
      let q_next = next_within d ok q k q_in over in
      let one = one_sign (next d p k) (next d q k) p_next q_next (same_leads d ok columns are s'.classes s'.classes p q p_in q_in same k over) in
      class_start (next d p k)
      ∙ coarse.signing (next d p k) (next d q k) p_next q_next (sym (sign_start (next d p k)) ∙ one ∙ sign_start (next d q k))
      ∙ sym (class_start (next d q k)))

  accept_sign : (p q : ℕ) → p < states d → q < states d → AcceptSame d p q → sign p ≡ sign q
  unfolding sign
  accept_sign p q p_in q_in same =
      signature_same d ok columns are s.classes s.classes p q p_in q_in (accept_final d p q same) (λ k over.
      class_start (next d p k)
      ∙ coarse.accepting (next d p k) (next d q k) (next_within d ok p k p_in over) (next_within d ok q k q_in over) (accept_next d p q k over same)
      ∙ sym (class_start (next d q k)))

  after_coarse : IsCoarse d columns s'
  after_coarse = record {
    accepting = λ p q p_in q_in same. one_class p q p_in q_in (accept_sign p q p_in q_in same);
    signing = λ p q p_in q_in same. one_class p q p_in q_in (leads_same p q p_in q_in same);
    met = λ c below. elim (cases_lt c (length s.members)) [
      | inl old ↦ old_met c old
      | inr new ↦
          let (j, at) = above c (length s.members) (omega arith) in
          let (q, q_in, to) = new_met j (let count = is.count in omega arith) in
          (q, q_in, to ∙ sym at)
    ];
  }
    where
      above : (c n : ℕ) → n ≤ c → (j : ℕ) × (c ≡ n + j)
      above c n le = (c - n, omega arith)

  after_stable : length s'.members ≡ length start.members → IsStable d columns s'
  unfolding sign
  after_stable same p q p_in q_in one =
      let stays = λ (r : ℕ) (r_in : r < states d). let at : class_of s' r ≡ class_of s r = stays_old r (class_of s' r) (is.goes r r_in)
      (let below = goes_below d columns s found r (class_of s' r) (settles.sound.counted r r_in) (is.goes r r_in) in let grown = is.count in let count = settles.count in omega arith) in at in
      let as_before = λ (r : ℕ) (r_in : r < states d). let at : signature d columns s'.classes r ≡ signature d columns s.classes r = signature_same d ok columns are s'.classes s.classes r r r_in r_in refl (λ k over. stays (next d r k) (next_within d ok r k r_in over)) in at in
      as_before p p_in ∙ one_sign p q p_in q_in one ∙ sym (as_before q q_in)

  pub after_split : IsAfter d columns start s'
  unfolding sign
  after_split = record {
    each = is.each;
    flagged = is.flagged;
    signed = ap length is.signatures ∙ length-append s.signatures found ∙ ap (λ n. n + length found) settles.sound.signed ∙ sym is.count;
    counted = λ q below. subst (λ n. class_of s' q < n) (sym is.count) (goes_below d columns s found q (class_of s' q) (settles.sound.counted q below) (is.goes q below));
    within = is.within;
    held = is.held;
    fresh = is.fresh;
    settled = λ q below. sym (sign_start q) ∙ after_signed q below;
    kept = λ q below old. stays_old q (class_of s' q) (is.goes q below) (let count = settles.count in omega arith) ∙ class_start q;
    grown = let count = settles.count in let grown = is.count in omega arith;
    coarse = after_coarse;
    stable = after_stable;
  }

module _ (d : Deterministic) (columns : List (List ℕ)) (start s s' : Stage) (found : List (List ℕ)) (waiting targets origins : List ℕ) (coarse : IsCoarse d columns start) (within : All (λ q. q < states d) waiting) (settles : Settles d columns start s)
    (goes : (i : ℕ) → i < length waiting → Goes d columns s found (get_or waiting i 0) (get_or targets i 0)) (is : IsSplit d columns s found s') (are_origins : AreOrigins s waiting targets (length found) origins) where
  sign_new : (q class j : ℕ) → q < states d → Goes d columns s found q class → class ≡ length s.members + j → get_or found j [] ≡ signature d columns s.classes q
  sign_new q class j q_in (inl (same, stays)) to = absurd (let counted = settles.sound.counted q q_in in omega (arith, stays, to, counted))
  sign_new q class j q_in (inr (other, (i, i_in, at, is_to))) to = let number : i ≡ j = omega (arith, to, is_to) in ap (λ n. get_or found n []) (sym number) ∙ at

  -- the states of a new class were all of one
  pub are_from : AreFrom (states d) (length start.members) origins start s'
  are_from q j q_in j_in at =
      let below : j < length found = subst (λ n. j < n) are_origins.each j_in in
      let (i, i_in, to, own) = are_origins.own j below in
      let other : ℕ = get_or waiting i 0 in
      let other_in : other < states d = within i 0 i_in in
      let q_sign = sign_new q (class_of s' q) j q_in (is.goes q q_in) (let count = settles.count in omega arith) in
      let other_sign = sign_new other (get_or targets i 0) j other_in (goes i i_in) to in
      let same : signature d columns start.classes q ≡ signature d columns start.classes other =
      ap (λ cs. signature d columns cs q) (sym settles.classes) ∙ sym q_sign ∙ other_sign ∙ ap (λ cs. signature d columns cs other) settles.classes in
      coarse.signing q other q_in other_in same ∙ sym (ap (λ cs. get_or cs other 0) settles.classes) ∙ sym own

  pub origins_below : All (λ class. class < length s.members) origins
  origins_below = All-from_get_or (λ class. class < length s.members) origins 0 (λ j j_in.
      let below : j < length found = subst (λ n. j < n) are_origins.each j_in in
      let (i, i_in, to, own) = are_origins.own j below in
      let counted = settles.sound.counted (get_or waiting i 0) (within i 0 i_in) in
      omega arith)

  pub split_held : IsHeld (length s'.classes) s'
  split_held = record {
    each = refl;
    signed = ap length is.signatures ∙ length-append s.signatures found ∙ ap (λ n. n + length found) settles.sound.signed ∙ sym is.count;
    within = λ c. subst (λ n. All (λ q. q < n) (get_or s'.members c [])) (sym is.each) (is.within c);
    held = λ q below. is.held q (subst (λ n. q < n) is.each below);
  }
