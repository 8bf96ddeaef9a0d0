-- The alternatives of leads, and what one definition more does to them.
use Rattle.std.proofs.Common.{◌≡◌, ℕ, ◌+◌, ◌<◌, ◌≤◌, Some, List, [], ◌∷◌, ◌++◌, length, take, slice_get, refl, ap, sym, subst, ◌∙◌, arith, length-append}
use Rattle.std.proofs.lemmas.List.{append-nil, get_or_append_left}
use Rattle.std.proofs.lemmas.List.Elements.{All-head, All-push, All-tail}
use Rattle.std.proofs.lemmas.Grind.{flat_map-append}
use Rattle.std.proofs.Math.Seq.{get_or-append_seam}
use Rattle.std.specs.List.{All, fold}
use Rattle.rela_blame.specs.Leads.{IsBelow, alternatives, spread, value_at}
use Rattle.rela_blame.specs.Tables.{values_of}
use Rattle.rela_blame.specs.declared.leads.Lead.{Lead}
use Rattle.rela_blame.specs.declared.leads.Lead.TheVariants.{Unit as Unit', Every, First}
use Rattle.rela_blame.specs.declared.definitions.Definition.{Definition}

fold_last : {A B : Type 0} (f : B → A → B) (b : B) (xs : List A) (x : A) → fold f b (xs ++ x ∷ []) ≡ f (fold f b xs) x
fold_last f b [] x = refl
fold_last f b (y ∷ xs) x = fold_last f (f b y) xs x

pub values_last : (list : List Definition) (d : Definition) → values_of (list ++ d ∷ []) ≡ values_of list ++ spread (values_of list) d.leads.items ∷ []
unfolding values_of
values_last list d = fold_last (λ values d. values ++ spread values d.leads.items ∷ []) [] list d

fold_length : (values : List (List ℕ)) (list : List Definition)
    → length (fold (λ (values : List (List ℕ)) (d : Definition). values ++ spread values d.leads.items ∷ []) values list) ≡ length values + length list
fold_length values [] = omega arith
fold_length values (d ∷ list) =
    omega (arith, fold_length (values ++ spread values d.leads.items ∷ []) list, length-append values (spread values d.leads.items ∷ []))

pub as_many : (list : List Definition) → length (values_of list) ≡ length list
unfolding values_of
as_many list = let h = fold_length [] list in omega (arith, h)

pub values_none : values_of [] ≡ []
unfolding values_of
values_none = refl

module _ (values : List (List ℕ)) (v : List ℕ) (bound : ℕ) (inside : bound ≤ length values) where
  pub value_stays : (k : ℕ) → k < bound → value_at (values ++ v ∷ []) k ≡ value_at values k
  value_stays k h = get_or_append_left values (v ∷ []) [] k (omega arith)

  alternatives_stay : (lead : Lead) → IsBelow values bound lead → alternatives (values ++ v ∷ []) lead ≡ alternatives values lead
  alternatives_stay (Unit' at) below = refl
  alternatives_stay (Every k) below = value_stays k below.0
  alternatives_stay (First k) below = ap (λ (xs : List ℕ). take 1 xs) (value_stays k below.0)

  pub below_stays : (lead : Lead) → IsBelow values bound lead → IsBelow (values ++ v ∷ []) bound lead
  below_stays (Unit' at) below = tt
  below_stays (Every k) below = (below.0, subst (λ (xs : List ℕ). 1 ≤ length xs) (sym (value_stays k below.0)) below.1)
  below_stays (First k) below = (below.0, subst (λ (xs : List ℕ). 1 ≤ length xs) (sym (value_stays k below.0)) below.1)

  pub spread_stays : (leads : List Lead) → All (IsBelow values bound) leads → spread (values ++ v ∷ []) leads ≡ spread values leads
  spread_stays [] below = refl
  spread_stays (lead ∷ leads) below =
      rw (alternatives_stay lead (All-head (IsBelow values bound) lead leads below))
      (ap (λ (xs : List ℕ). alternatives values lead ++ xs) (spread_stays leads (All-tail (IsBelow values bound) lead leads below)))

-- the new definition's alternatives stand last
pub value_last : (values : List (List ℕ)) (v : List ℕ) → value_at (values ++ v ∷ []) (length values) ≡ v
value_last values v = get_or-append_seam values v [] []

-- what is below a bound is below a higher one
pub below_higher : (values : List (List ℕ)) (low high : ℕ) → low ≤ high → (lead : Lead) → IsBelow values low lead → IsBelow values high lead
below_higher values low high le (Unit' at) below = tt
below_higher values low high le (Every k) below = let b = below.0 in (omega arith, below.1)
below_higher values low high le (First k) below = let b = below.0 in (omega arith, below.1)

pub spread_push : (values : List (List ℕ)) (leads : List Lead) (lead : Lead) → spread values (leads ++ lead ∷ []) ≡ spread values leads ++ alternatives values lead
spread_push values leads lead =
    flat_map-append (alternatives values) leads (lead ∷ [])
    ∙ ap (λ (xs : List ℕ). spread values leads ++ xs) (append-nil (alternatives values lead))

-- the first of some leads
head_is : (parts : List Lead) (lead : Lead) → slice_get parts 0 ≡ Some lead → (others : List Lead) × (parts ≡ lead ∷ others)
head_is [] lead h = absurd (cc)
head_is (x ∷ others) lead h = let same : x ≡ lead = cc in (others, ap (λ (y : Lead). y ∷ others) same)

module _ (values : List (List ℕ)) (bound : ℕ) (old new parts : List Lead) (lead first : Lead) (head : slice_get parts 0 ≡ Some lead)
    (below : All (IsBelow values bound) parts) where
  head_below : IsBelow values bound lead
  head_below =
      let h = head_is parts lead head in
      All-head (IsBelow values bound) lead h.0 (subst (All (IsBelow values bound)) h.1 below)

  pub first_pushed : (IsBelow values bound lead → (others : List ℕ) → spread values (first ∷ []) ≡ take 1 (spread values (lead ∷ []) ++ others))
      → new ≡ old ++ first ∷ [] → spread values new ≡ spread values old ++ take 1 (spread values parts)
  first_pushed value is =
      let h = head_is parts lead head in
      ap (spread values) is
      ∙ flat_map-append (alternatives values) old (first ∷ [])
      ∙ ap (λ (xs : List ℕ). spread values old ++ xs) (value head_below (spread values h.0))
      ∙ ap (λ (xs : List ℕ). spread values old ++ take 1 (xs ++ spread values h.0)) (append-nil (alternatives values lead))
      ∙ ap (λ (xs : List Lead). spread values old ++ take 1 (spread values xs)) (sym h.1)

  pub first_below : All (IsBelow values bound) old → (IsBelow values bound lead → IsBelow values bound first) → new ≡ old ++ first ∷ []
      → All (IsBelow values bound) new
  first_below all value is = subst (All (IsBelow values bound)) (sym is) (All-push (IsBelow values bound) old first all (value head_below))
