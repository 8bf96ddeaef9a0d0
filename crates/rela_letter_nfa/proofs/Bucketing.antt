-- Sets of states in buckets.
use Rattle.std.proofs.Common.{◌≡◌, ◌≢◌, ℕ, suc, ◌+◌, ◌-◌, ◌<◌, ◌≤◌, List, [], ◌∷◌, ◌++◌, ◌&&◌, true, nat_eq, length, get_or, set, take, refl, sym, ap, ◌∙◌, subst, inl, inr, arith, length-append}
use Rattle.std.specs.Cmp.Lexicographic.{pointwise}
use Rattle.std.specs.List.{Contains}
use Rattle.std.proofs.Math.Seq.{drop-append_seam}
use Rattle.std.proofs.lemmas.Bool.{cases_eq, cases_lt}
use Rattle.std.proofs.lemmas.List.{get_or_append_left, get_or_at, get_or_default, get_or-map, get_or-set_other, get_or-set_same, length-map, length-set, length_push, map_push, take_all}
use Rattle.std.proofs.lemmas.List.Elements.{All-push}
use Rattle.rela_letter_nfa.specs.Buckets.{AreBucketed, AreWithin, IsLastIn, befores, bucket_of, sets_at}
use Rattle.rela_letter_nfa.specs.Parting.{part}
use Rattle.rela_letter_nfa.specs.Sets.{AreDistinct}
use Rattle.rela_letter_nfa.specs.declared.state_sets.Placed.{Placed}
use Rattle.rela_letter_nfa.proofs.Parting.{part_kept}

-- the sets below n alone matter
last_same : (sets new : List (List ℕ)) (count n k v : ℕ) → ((i : ℕ) → i < n → get_or new i [] ≡ get_or sets i []) → IsLastIn sets count n k v → IsLastIn new count n k v
last_same sets new count n k v same is = record {
  upto = is.upto;
  own = λ i e. ap (bucket_of count) (same i (omega (arith, e, is.upto))) ∙ is.own i e;
  all = λ i below e. is.all i below (ap (bucket_of count) (sym (same i below)) ∙ e);
}

pub bucketed_more : (sets : List (List ℕ)) (before lasts states : List ℕ) (k : ℕ) → k < length lasts → k ≡ bucket_of (length lasts) states → AreBucketed sets before lasts
    → AreBucketed (sets ++ states ∷ []) (before ++ get_or lasts k 0 ∷ []) (set lasts k (length sets + 1))
bucketed_more sets before lasts states k within is are = record {
  some = omega (arith, are.some, count);
  each = length_push before (get_or lasts k 0) ∙ ap (λ m. m + 1) are.each ∙ sym (length_push sets states);
  last_of = λ j below. subst (λ m. IsLastIn new m (length new) j (get_or (set lasts k (n + 1)) j 0)) (sym count)
      (subst (λ m. IsLastIn new (length lasts) m j (get_or (set lasts k (n + 1)) j 0)) (sym (length_push sets states)) (new_last j (omega (arith, below, count))));
  earlier = λ i below. subst (λ m. IsLastIn new m i (bucket_of m (get_or new i [])) (get_or (before ++ get_or lasts k 0 ∷ []) i 0)) (sym count)
      (before_of i (omega (arith, below, length_push sets states)));
}
  where
    n : ℕ
    n = length sets

    new : List (List ℕ)
    new = sets ++ states ∷ []

    count : length (set lasts k (n + 1)) ≡ length lasts
    count = length-set lasts k (n + 1)

    same : (i : ℕ) → i < n → get_or new i [] ≡ get_or sets i []
    same i below = get_or_append_left sets (states ∷ []) [] i below

    here : bucket_of (length lasts) (get_or new n []) ≡ k
    here = ap (bucket_of (length lasts)) (get_or_at sets states [] [] n refl) ∙ sym is

    last_here : IsLastIn new (length lasts) (n + 1) k (n + 1)
    last_here = record {
      upto = omega arith;
      own = λ i e. let at : i ≡ n = omega (arith, e) in ap (λ m. bucket_of (length lasts) (get_or new m [])) at ∙ here;
      all = λ i below e. below;
    }

    last_other : (j v : ℕ) → j ≢ k → IsLastIn sets (length lasts) n j v → IsLastIn new (length lasts) (n + 1) j v
    last_other j v other old = record {
      upto = omega (arith, old.upto);
      own = (last_same sets new (length lasts) n j v same old).own;
      all = λ i below e. elim (cases_lt i n) [
        | inl less ↦ (last_same sets new (length lasts) n j v same old).all i less e
        | inr past ↦ let at : i ≡ n = omega (arith, below, past) in absurd (other (sym e ∙ ap (λ m. bucket_of (length lasts) (get_or new m [])) at ∙ here))
      ];
    }

    new_last : (j : ℕ) → j < length lasts → IsLastIn new (length lasts) (n + 1) j (get_or (set lasts k (n + 1)) j 0)
    new_last j below = elim (cases_eq j k) [
      | inl e ↦ subst (λ m. IsLastIn new (length lasts) (n + 1) m (get_or (set lasts k (n + 1)) m 0)) (sym e)
          (subst (IsLastIn new (length lasts) (n + 1) k) (sym (get_or-set_same lasts k (n + 1) 0 within)) last_here)
      | inr other ↦ subst (IsLastIn new (length lasts) (n + 1) j) (sym (get_or-set_other lasts k j (n + 1) 0 other)) (last_other j (get_or lasts j 0) other (are.last_of j below))
    ]

    before_of : (i : ℕ) → i < n + 1 → IsLastIn new (length lasts) i (bucket_of (length lasts) (get_or new i [])) (get_or (before ++ get_or lasts k 0 ∷ []) i 0)
    before_of i below = elim (cases_lt i n) [
      | inl less ↦
          subst (IsLastIn new (length lasts) i (bucket_of (length lasts) (get_or new i []))) (sym (get_or_append_left before (get_or lasts k 0 ∷ []) 0 i (omega (arith, less, are.each))))
          (subst (λ b. IsLastIn new (length lasts) i b (get_or before i 0)) (ap (bucket_of (length lasts)) (sym (same i less)))
          (last_same sets new (length lasts) i _ _ (λ j lower. same j (omega (arith, lower, less))) (are.earlier i less)))
      | inr past ↦
          let at : i ≡ n = omega (arith, below, past) in
          subst (λ m. IsLastIn new (length lasts) m (bucket_of (length lasts) (get_or new m [])) (get_or (before ++ get_or lasts k 0 ∷ []) m 0)) (sym at)
          (subst (IsLastIn new (length lasts) n (bucket_of (length lasts) (get_or new n []))) (sym (get_or_at before (get_or lasts k 0) [] 0 n are.each))
          (subst (λ b. IsLastIn new (length lasts) n b (get_or lasts k 0)) (sym here) (last_same sets new (length lasts) n k (get_or lasts k 0) same (are.last_of k within))))
    ]

-- ---- a set is sought in its bucket

same_numbers : (n : ℕ) → nat_eq n n ≡ true
same_numbers n = grind arith

pub pointwise_same : (xs : List ℕ) → pointwise nat_eq xs xs ≡ true
pointwise_same [] = refl
pointwise_same (x ∷ xs) = ap (λ b. b && pointwise nat_eq xs xs) (same_numbers x) ∙ pointwise_same xs

-- the set is none of those from `at` on, and the one before that is of its bucket
pub record IsSeeking (sets : List (List ℕ)) (count : ℕ) (states : List ℕ) (at : ℕ) : Type 0 where
  pub upto : at ≤ length sets
  pub own : (i : ℕ) → at ≡ i + 1 → bucket_of count (get_or sets i []) ≡ bucket_of count states
  pub left : (i : ℕ) → i < length sets → get_or sets i [] ≡ states → i < at

module _ (sets : List (List ℕ)) (before lasts states : List ℕ) (are : AreBucketed sets before lasts) where
  pub seeking_on : (i : ℕ) → IsSeeking sets (length lasts) states (i + 1) → get_or sets i [] ≢ states → IsSeeking sets (length lasts) states (get_or before i 0)
  seeking_on i seeking other =
      let last = are.earlier i (omega (arith, seeking.upto)) in
      let here = seeking.own i refl in
      record {
        upto = omega (arith, last.upto, seeking.upto);
        own = λ j e. last.own j e ∙ here;
        left = λ j below same. elim (cases_eq j i) [
          | inl at ↦ absurd (other (ap (λ m. get_or sets m []) (sym at) ∙ same))
          | inr apart ↦ last.all j (let lower = seeking.left j below same in omega (arith, lower, apart)) (ap (bucket_of (length lasts)) same ∙ sym here)
        ];
      }

pub seeking_none : (sets : List (List ℕ)) (count : ℕ) (states : List ℕ) → IsSeeking sets count states 0 → Contains sets states → ⊥
seeking_none sets count states seeking (i, below, at) = absurd (let never = seeking.left i below (get_or_default sets i [] states below ∙ at) in omega (arith, never))

-- one more set, which is none of the others
pub distinct_more : (sets : List (List ℕ)) (states : List ℕ) → AreDistinct sets → ¬ Contains sets states → AreDistinct (sets ++ states ∷ [])
distinct_more sets states distinct lacking i j below within same = elim (cases_lt j (length sets)) [
  | inl less ↦ distinct i j below less (sym (get_or_append_left sets (states ∷ []) [] i (omega (arith, below, less))) ∙ same ∙ get_or_append_left sets (states ∷ []) [] j less)
  | inr past ↦
      let at : j ≡ length sets = omega (arith, past, within, length_push sets states) in
      let lower : i < length sets = omega (arith, below, at) in
      let is : get_or sets i [] ≡ states = sym (get_or_append_left sets (states ∷ []) [] i lower) ∙ same ∙ get_or_at sets states [] [] j (sym at) in
      lacking (i, lower, get_or_default sets i states [] lower ∙ is)
]

-- ---- where sets stand

pub before_at : (placed : List Placed) (i : ℕ) (d : Placed) → i < length placed → get_or (befores placed) i 0 ≡ (get_or placed i d).before
before_at placed i d below = get_or-map (λ (p : Placed). p.before) placed i d 0 below

pub sets_count : (items : List ℕ) (placed : List Placed) → length (sets_at items placed) ≡ length placed
sets_count items placed = length-map placed (λ (p : Placed). part items p.from p.to)

-- one more stands there
pub sets_push : (items : List ℕ) (placed after : List Placed) (place : Placed) → after ≡ placed ++ place ∷ [] → sets_at items after ≡ sets_at items placed ++ part items place.from place.to ∷ []
sets_push items placed after place is = ap (sets_at items) is ∙ map_push (λ (p : Placed). part items p.from p.to) placed place

pub bucketed_push : (items states : List ℕ) (placed after : List Placed) (lasts new : List ℕ) (place : Placed) (k : ℕ) → k < length lasts → k ≡ bucket_of (length lasts) states → place.before ≡ get_or lasts k 0
    → part items place.from place.to ≡ states → after ≡ placed ++ place ∷ [] → new ≡ set lasts k (length placed + 1) → AreBucketed (sets_at items placed) (befores placed) lasts → AreBucketed (sets_at items after) (befores after) new
bucketed_push items states placed after lasts new place k within bucket before at is lasts_are are =
    let sets = sets_at items placed in
    let more = bucketed_more sets (befores placed) lasts states k within bucket are in
    let sets_are : sets_at items after ≡ sets ++ states ∷ [] = sets_push items placed after place is ∙ ap (λ (l : List ℕ). sets ++ l ∷ []) at in
    let befores_are : befores after ≡ befores placed ++ get_or lasts k 0 ∷ [] = ap befores is ∙ map_push (λ (p : Placed). p.before) placed place ∙ ap (λ (n : ℕ). befores placed ++ n ∷ []) before in
    let new_are : new ≡ set lasts k (length sets + 1) = lasts_are ∙ ap (λ n. set lasts k (n + 1)) (sym (sets_count items placed)) in
    subst (λ l. AreBucketed l (befores after) new) (sym sets_are) (subst (λ l. AreBucketed (sets ++ states ∷ []) l new) (sym befores_are) (subst (AreBucketed (sets ++ states ∷ []) (befores placed ++ get_or lasts k 0 ∷ [])) (sym new_are) more))

-- the sets stand where they stood, where there are more items
sets_grown : (items more : List ℕ) (placed : List Placed) → AreWithin (length items) placed → sets_at (items ++ more) placed ≡ sets_at items placed
sets_grown items more [] within = refl
sets_grown items more (p ∷ placed) within =
    let first = within 0 p (omega arith) in
    ap (λ (l : List ℕ). l ∷ sets_at (items ++ more) placed) (part_kept items more p.from p.to first.0 first.1)
    ∙ ap (λ (l : List (List ℕ)). part items p.from p.to ∷ l) (sets_grown items more placed (λ k d below. within (suc k) d (omega (arith, below))))

part_new : (items more : List ℕ) → part (items ++ more) (length items) (length items + length more) ≡ more
part_new items more =
    ap (take (length items + length more - length items)) (drop-append_seam items more) ∙ take_all (length items + length more - length items) more (omega arith)

abbrev pub IsStored : List ℕ → List Placed → List ℕ → Type 0
IsStored items placed lasts = AreWithin (length items) placed × AreBucketed (sets_at items placed) (befores placed) lasts × AreDistinct (sets_at items placed)

pub stored_grown : (items more : List ℕ) (placed : List Placed) (lasts : List ℕ) → IsStored items placed lasts → IsStored (items ++ more) placed lasts
stored_grown items more placed lasts (within, bucketed, distinct) =
    let same = sets_grown items more placed within in (
      λ k d below. let is = within k d below in (is.0, omega (arith, is.1, length-append items more)),
      subst (λ l. AreBucketed l (befores placed) lasts) (sym same) bucketed,
      subst AreDistinct (sym same) distinct,
    )

module _ (items states : List ℕ) (placed after : List Placed) (lasts new : List ℕ) (from to k : ℕ) (stored : IsStored items placed lasts) (begins : from ≡ length items) (ends : to ≡ length items + length states)
    (is : after ≡ placed ++ record { from = from; to = to; before = get_or lasts k 0 } ∷ []) where
  abbrev place : Placed
  place = record { from = from; to = to; before = get_or lasts k 0 }

  here : part (items ++ states) from to ≡ states
  here = ap (λ n. part (items ++ states) n to) begins ∙ ap (part (items ++ states) (length items)) ends ∙ part_new items states

  pub stored_sets : sets_at (items ++ states) after ≡ sets_at items placed ++ states ∷ []
  stored_sets =
      sets_push (items ++ states) placed after place is ∙ ap (λ (l : List ℕ). sets_at (items ++ states) placed ++ l ∷ []) here
      ∙ ap (λ (l : List (List ℕ)). l ++ states ∷ []) (sets_grown items states placed stored.0)

  pub stored_more : k < length lasts → k ≡ bucket_of (length lasts) states → ¬ Contains (sets_at items placed) states → new ≡ set lasts k (length placed + 1) → IsStored (items ++ states) after new
  stored_more within bucket lacking lasts_are =
      let grown = stored_grown items states placed lasts stored in
      let whole : length (items ++ states) ≡ length items + length states = length-append items states in (
        subst (AreWithin (length (items ++ states))) (sym is)
            (All-push (λ (p : Placed). (p.from ≤ p.to) × (p.to ≤ length (items ++ states))) placed place grown.0 (omega (arith, begins, ends), omega (arith, ends, whole))),
        bucketed_push (items ++ states) states placed after lasts new place k within bucket refl here is lasts_are grown.1,
        subst AreDistinct (sym stored_sets) (distinct_more (sets_at items placed) states stored.2 lacking),
      )
