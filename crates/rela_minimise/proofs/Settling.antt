-- Classes that are given a state that is not stale.
use Rattle.std.proofs.Common.{◌≡◌, ◌≢◌, ℕ, ◌+◌, ◌<◌, Bool, false, List, [], ◌∷◌, ◌++◌, length, get_or, set, take, refl, sym, ap, ◌∙◌, subst, inl, inr, arith}
use Rattle.std.specs.List.{All, Contains}
use Rattle.std.proofs.lemmas.Bool.{cases_Bool, cases_eq, false≢true}
use Rattle.std.proofs.lemmas.List.{get_or-set_other, get_or-set_same, length-set}
use Rattle.std.proofs.lemmas.List.Elements.{All-more, All-weaker}
use Rattle.rela_subset.specs.Deterministic.{Deterministic, states}
use Rattle.rela_minimise.specs.Refining.{AreWaiting, HasSettled, IsSettledIn, IsSound, Settles, Stage, class_of, is_stale, signature}
use Rattle.rela_minimise.proofs.Putting.{IsPut, is_put, put_here, put_kept, put_within}

module _ (d : Deterministic) (columns : List (List ℕ)) (s : Stage) (sound : IsSound d columns s) (class : ℕ) (class_in : class < length s.members) (list : List ℕ)
    (kept : (q : ℕ) → Contains (get_or s.members class []) q → IsSettledIn s.classes s.stale class q → Contains list q) (within : All (λ q. q < states d) list) where
  -- the same classes with fewer members that are stale
  abbrev fewer_members : Stage
  fewer_members = record { classes = s.classes; members = set s.members class list; signatures = s.signatures; stale = s.stale }

  list_here : get_or (set s.members class list) class [] ≡ list
  list_here = get_or-set_same s.members class list [] class_in

  still_held : (q : ℕ) → q < states d → is_stale s.stale q ≡ false → Contains (get_or (set s.members class list) (class_of s q) []) q
  still_held q below fresh = elim (cases_eq (class_of s q) class) [
    | inl here ↦
        subst (λ c. Contains (get_or (set s.members class list) c []) q) (sym here) (subst (λ l. Contains l q) (sym list_here)
        (kept q (subst (λ c. Contains (get_or s.members c []) q) here (sound.held q below fresh)) (record { state = let each = sound.each in omega arith; own = here; fresh = fresh })))
    | inr other ↦ subst (λ l. Contains l q) (sym (get_or-set_other s.members class (class_of s q) list [] other)) (sound.held q below fresh)
  ]

  still_within : (c : ℕ) → All (λ q. q < states d) (get_or (set s.members class list) c [])
  still_within c = elim (cases_eq c class) [
    | inl here ↦ subst (All (λ q. q < states d)) (sym (ap (λ n. get_or (set s.members class list) n []) here ∙ list_here)) within
    | inr other ↦ subst (All (λ q. q < states d)) (sym (get_or-set_other s.members class c list [] other)) (sound.within c)
  ]

  pub sound_with : (s' : Stage) → s'.classes ≡ s.classes → s'.members ≡ set s.members class list → s'.signatures ≡ s.signatures → s'.stale ≡ s.stale → Settles d columns s s'
  sound_with s' classes members signatures stale =
      let make = λ (cs : List ℕ) (ms : List (List ℕ)) (ss : List (List ℕ)) (st : List Bool). let made : Stage = record { classes = cs; members = ms; signatures = ss; stale = st } in made in
      let same : s' ≡ fewer_members =
      ap (λ cs. make cs s'.members s'.signatures s'.stale) classes
      ∙ ap (λ ms. make s.classes ms s'.signatures s'.stale) members
      ∙ ap (λ ss. make s.classes (set s.members class list) ss s'.stale) signatures
      ∙ ap (λ st. make s.classes (set s.members class list) s.signatures st) stale in
      subst (Settles d columns s) (sym same) (record {
        sound = record {
          each = sound.each;
          flagged = sound.flagged;
          signed = sound.signed ∙ sym (length-set s.members class list);
          counted = λ q below. subst (λ n. class_of s q < n) (sym (length-set s.members class list)) (sound.counted q below);
          within = still_within;
          held = still_held;
          settled = sound.settled;
        };
        classes = refl;
        count = length-set s.members class list;
        fewer = λ q fresh. fresh;
      })

  -- where no member of the class is settled, one is given the class's signature
  pub sound_first : (q : ℕ) → q < states d → class_of s q ≡ class → ((r : ℕ) → Contains (get_or s.members class []) r → ¬ IsSettledIn s.classes s.stale class r)
      → (s' : Stage) → s'.classes ≡ s.classes → s'.members ≡ set (set s.members class list) class (get_or (set s.members class list) class [] ++ q ∷ [])
      → s'.signatures ≡ set s.signatures class (signature d columns s.classes q) → s'.stale ≡ set s.stale q false → Settles d columns s s' × HasSettled s' q
  sound_first q q_in own none s' classes members signatures stale =
      let size = length-set s.members class list in
      let put : IsPut (set s.members class list) class q s'.members = is_put (set s.members class list) class q s'.members (omega arith) members in
      let stale_len : length s'.stale ≡ length s.stale = ap length stale ∙ length-set s.stale q false in
      let signs_len : length s'.signatures ≡ length s.signatures = ap length signatures ∙ length-set s.signatures class (signature d columns s.classes q) in
      let class_same = λ (r : ℕ). let at : class_of s' r ≡ class_of s r = ap (λ cs. get_or cs r 0) classes in at in
      let fresh_here : is_stale s'.stale q ≡ false = ap (λ st. get_or st q false) stale ∙ get_or-set_same s.stale q false false (let flagged = sound.flagged in omega arith) in
      let stale_others = λ (r : ℕ) (other : r ≢ q). let at : is_stale s'.stale r ≡ is_stale s.stale r = ap (λ st. get_or st r false) stale ∙ get_or-set_other s.stale q r false false other in at in
      let settled_here = λ (r : ℕ) (below : r < states d) (fresh : is_stale s.stale r ≡ false) (here : class_of s r ≡ class).
      let never : ⊥ = none r (subst (λ c. Contains (get_or s.members c []) r) here (sound.held r below fresh)) (record { state = let each = sound.each in omega arith; own = here; fresh = fresh }) in never in (
        record {
          sound = record {
            each = ap length classes ∙ sound.each;
            flagged = stale_len ∙ sound.flagged;
            signed = let signed = sound.signed in let each = put.each in omega arith;
            counted = λ r below. let counted = sound.counted r below in let each = put.each in let same = class_same r in omega arith;
            within = put_within (set s.members class list) class q s'.members put (states d) q_in still_within;
            held = λ r below fresh. elim (cases_eq r q) [
              | inl here ↦
                  subst (λ n. Contains (get_or s'.members (class_of s' n) []) n) (sym here)
                  (subst (λ c. Contains (get_or s'.members c []) q) (sym (class_same q ∙ own)) (put_here (set s.members class list) class q s'.members put))
              | inr other ↦
                  subst (λ c. Contains (get_or s'.members c []) r) (sym (class_same r))
                  (put_kept (set s.members class list) class q s'.members put (class_of s r) r (still_held r below (sym (stale_others r other) ∙ fresh)))
            ];
            settled = λ r below fresh. subst (λ cs. signature d columns cs r ≡ get_or s'.signatures (get_or cs r 0) []) (sym classes) (elim (cases_eq r q) [
              | inl here ↦
                  ap (signature d columns s.classes) here
                  ∙ sym (ap (λ ss. get_or ss (class_of s r) []) signatures
                  ∙ ap (λ c. get_or (set s.signatures class (signature d columns s.classes q)) c []) (ap (class_of s) here ∙ own)
                  ∙ get_or-set_same s.signatures class (signature d columns s.classes q) [] (let signed = sound.signed in omega arith))
              | inr other ↦
                  let still : is_stale s.stale r ≡ false = sym (stale_others r other) ∙ fresh in
                  sound.settled r below still
                  ∙ sym (ap (λ ss. get_or ss (class_of s r) []) signatures
                  ∙ get_or-set_other s.signatures class (class_of s r) (signature d columns s.classes q) [] (settled_here r below still))
            ]);
          };
          classes = classes;
          count = put.each ∙ size;
          fewer = λ r fresh. elim (cases_eq r q) [
            | inl here ↦ ap (is_stale s'.stale) here ∙ fresh_here
            | inr other ↦ stale_others r other ∙ fresh
          ];
        },
        (q, record { state = subst (λ cs. q < length cs) (sym classes) (let each = sound.each in omega arith); own = refl; fresh = fresh_here }),
      )

pub settles_nothing : (d : Deterministic) (columns : List (List ℕ)) (s : Stage) → IsSound d columns s → Settles d columns s s
settles_nothing d columns s sound = record { sound = sound; classes = refl; count = refl; fewer = λ q fresh. fresh }

pub settles_both : (d : Deterministic) (columns : List (List ℕ)) (s t u : Stage) → Settles d columns s t → Settles d columns t u → Settles d columns s u
settles_both d columns s t u first second = record {
  sound = second.sound;
  classes = second.classes ∙ first.classes;
  count = second.count ∙ first.count;
  fewer = λ q fresh. second.fewer q (first.fewer q fresh);
}

-- a class that has a settled state keeps it
pub settled_kept : (d : Deterministic) (columns : List (List ℕ)) (s s' : Stage) → Settles d columns s s' → (q : ℕ) → HasSettled s q → HasSettled s' q
settled_kept d columns s s' settles q (r, in_class) = (
  r,
  record {
    state = subst (λ cs. r < length cs) (sym settles.classes) in_class.state;
    own = ap (λ cs. get_or cs r 0) settles.classes ∙ in_class.own ∙ sym (ap (λ cs. get_or cs q 0) settles.classes);
    fresh = settles.fewer r in_class.fresh;
  },
)

pub settled_more : (d : Deterministic) (columns : List (List ℕ)) (s s' : Stage) (waiting : List ℕ) (i : ℕ) → i < length waiting → Settles d columns s s' → All (HasSettled s) (take i waiting) → HasSettled s' (get_or waiting i 0)
    → All (HasSettled s') (take (i + 1) waiting)
settled_more d columns s s' waiting i below settles before last =
    All-more (HasSettled s') waiting i 0 below (All-weaker (HasSettled s) (HasSettled s') (settled_kept d columns s s' settles) (take i waiting) before) last

-- the stale states still wait
pub still_waiting : (d : Deterministic) (columns : List (List ℕ)) (s s' : Stage) (n : ℕ) (waiting : List ℕ) → Settles d columns s s' → AreWaiting n s.stale waiting → AreWaiting n s'.stale waiting
still_waiting d columns s s' n waiting settles are = record {
  listed = λ q stale. are.listed q (elim (cases_Bool (is_stale s.stale q)) [
    | inl was ↦ was
    | inr was_not ↦ absurd (false≢true (sym (settles.fewer q was_not) ∙ stale))
  ]);
  states = are.states;
}
