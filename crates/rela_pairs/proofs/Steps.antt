-- The steps of an exploration.
use Rattle.std.proofs.Common.{◌≡◌, ℕ, zero, suc, ◌+◌, ◌-◌, ◌<◌, ◌≤◌, ◌↔◌, List, [], ◌∷◌, ◌++◌, length, get_or, take, Some, refl, sym, ap, ◌∙◌, subst, inl, inr, arith, length-append}
use Rattle.std.specs.List.{All, Contains, slice_get}
use Rattle.std.proofs.lemmas.Bool.{cases_lt}
use Rattle.std.proofs.lemmas.List.{get_or_append_left, get_or_push, get_or-append_right, get_or-take, length-take-le}
use Rattle.std.proofs.lemmas.List.Elements.{All-nil, All-cons, All-append, All-contains, All-take, All-weaker}
use Rattle.std.proofs.lemmas.Option.{slice_get_within, slice_get-get_or, get_or_from_slice_get, same_Some}
use Rattle.rela_pairs.specs.Exploration.{NumbersNext, FoundEarlier}
use Rattle.rela_pairs.specs.Finding.{Finds, GrowsBy, AreNumbers, Passes}
use Rattle.rela_pairs.specs.Reachable.{Leads, Reachable, AreDistinct, MoreThan}
use Rattle.rela_pairs.specs.declared.pair.Pair.{Pair}
use Rattle.rela_pairs.proofs.Numbering.{slice_get_grown, slice_get_before, numbers_grown}

-- ---- what is reachable

leads_push : {X : Type 0} (next : X → List X) (s x y : X) (path : List X) → Leads next s path x → Contains (next x) y → Leads next s (path ++ y ∷ []) y
leads_push next s x y [] here among = (subst (λ z. Contains (next z) y) (sym here) among, refl)
leads_push next s x y (z ∷ rest) leads among = (leads.0, leads_push next z x y rest leads.1 among)

pub reachable_start : {X : Type 0} (next : X → List X) (start : X) → Reachable next start start
reachable_start next start = ([], refl)

pub reachable_next : {X : Type 0} (next : X → List X) (start x y : X) → Reachable next start x → Contains (next x) y → Reachable next start y
reachable_next next start x y reaches among = (reaches.0 ++ y ∷ [], leads_push next start x y reaches.0 reaches.1 among)

-- a list that has all that follows its members
pub reachable_within : {X : Type 0} (next : X → List X) (xs : List X) → ((x y : X) → Contains xs x → Contains (next x) y → Contains xs y)
    → (s : X) → Contains xs s → (x : X) → Reachable next s x → Contains xs x
reachable_within next xs closed s among x (path, leads) = along path s among leads
  where
    along : (path : List _) (s : _) → Contains xs s → Leads next s path x → Contains xs x
    along [] s among here = subst (λ z. Contains xs z) here among
    along (z ∷ rest) s among leads = along rest z (closed s z among leads.0) leads.1

-- ---- more than the limit

pub more_than : {X : Type 0} (limit : ℕ) (P : X → Type 0) (xs : List X) → AreDistinct xs → All P xs → limit < length xs → MoreThan limit P
more_than limit P xs distinct each past =
    let count : length (take (limit + 1) xs) ≡ limit + 1 = length-take-le (limit + 1) xs (omega arith) in
    record {
      some = take (limit + 1) xs;
      distinct = λ i j d before below equal.
          distinct i j d before (omega (arith, below, count, past))
          (sym (get_or-take (limit + 1) xs i d (omega (arith, before, below, count))) ∙ equal ∙ get_or-take (limit + 1) xs j d (omega (arith, below, count)));
      each = All-take P (limit + 1) xs each;
      count = count;
    }

-- what holds of those that were there, and of those that were put in
pub grown_all : {X : Type 0} (P : X → Type 0) (xs old new : List X) → GrowsBy xs old new → All P old → ((x : X) → Contains xs x → P x) → All P new
grown_all P xs old new grows before added =
    subst (λ l. All P l) (sym grows.1) (All-append P old grows.0 before (All-weaker (Contains xs) P added grows.0 grows.2))

pub passed_limit : {X : Type 0} (limit : ℕ) (P : X → Type 0) (xs old : List X) → Passes limit xs old → All P old → ((x : X) → Contains xs x → P x) → MoreThan limit P
passed_limit limit P xs old passes before added = more_than limit P passes.more passes.distinct (grown_all P xs old passes.more passes.grows before added) passes.past

pub only_start : {X : Type 0} (next : X → List X) (start x : X) → Contains (start ∷ []) x → Reachable next start x
only_start next start x (zero, below, is) = subst (λ y. Reachable next start y) is (reachable_start next start)
only_start next start x (suc k, below, is) = absurd (omega (arith, below))

-- ---- the loop

-- numbers of all of a list are places of each
numbers_contain : {X : Type 0} (found xs : List X) (numbers : List ℕ) → AreNumbers found xs numbers → (x : X) → Contains xs x → Contains found x
numbers_contain found [] numbers are x (k, below, is) = absurd (omega (arith, below))
numbers_contain found (y ∷ xs) [] are x among = cc
numbers_contain found (y ∷ xs) (n ∷ numbers) are x (zero, below, is) =
    let at : slice_get found n ≡ Some y = cc in
    let at_x : slice_get found n ≡ Some x = at ∙ ap Some is in
    (n, slice_get_within found n x at_x, get_or_from_slice_get found n x x at_x)
numbers_contain found (y ∷ xs) (n ∷ numbers) are x (suc k, below, is) =
    let rest : AreNumbers found xs numbers = cc in
    numbers_contain found xs numbers rest x (k, omega (arith, below), is)

module _ (next : Pair → List Pair) (start : Pair) (limit : ℕ) (IsPair : Pair → Type 0) where
  -- the pairs so far, those of which the first were asked for what follows
  pub record Exploring (pairs : List Pair) (targets : List (List ℕ)) : Type 0 where
    pub first : slice_get pairs 0 ≡ Some start
    pub few : length pairs ≤ limit
    pub behind : length targets ≤ length pairs
    pub valid : All IsPair pairs
    pub reached : All (Reachable next start) pairs
    pub numbered : (k : ℕ) (x : Pair) → k < length targets → slice_get pairs k ≡ Some x → AreNumbers pairs (next x) (get_or targets k [])
    pub earlier : FoundEarlier next (record { pairs = pairs; targets = targets })

  pub exploring_none : (pairs : List Pair) → IsPair start → Finds [] pairs start → length pairs ≤ limit → Exploring pairs []
  exploring_none pairs valid finds few =
      subst (λ l. Exploring l []) (sym only) (record {
        first = refl;
        few = subst (λ l. length l ≤ limit) only few;
        behind = omega arith;
        valid = All-cons IsPair start [] valid (All-nil IsPair);
        reached = All-cons (Reachable next start) start [] (reachable_start next start) (All-nil (Reachable next start));
        numbered = λ k x below. absurd (omega arith);
        earlier = λ k x after at. let below = slice_get_within (start ∷ []) k x at in absurd (omega (arith, after, below));
      })
    where
      only : pairs ≡ start ∷ []
      only = elim finds.1 [ inl same ↦ let at = subst (λ l. Contains l start) same finds.0 in absurd (omega (arith, at.1)) | inr more ↦ more ]

  pub exploring_more : (pairs new : List Pair) (targets : List (List ℕ)) (numbers : List ℕ) (pair : Pair) → Exploring pairs targets → length targets < length pairs
      → slice_get pairs (length targets) ≡ Some pair → GrowsBy (next pair) pairs new → AreNumbers new (next pair) numbers → length new ≤ limit → All IsPair (next pair)
      → Exploring new (targets ++ numbers ∷ [])
  exploring_more pairs new targets numbers pair so_far behind at grows are few valid = record {
    first = subst (λ l. slice_get l 0 ≡ Some start) (sym grows.1) (slice_get_grown pairs grows.0 0 start so_far.first);
    few = few;
    behind = omega (arith, behind, length-append targets (numbers ∷ []), ap length grows.1, length-append pairs grows.0);
    valid = grown_all IsPair (next pair) pairs new grows so_far.valid (λ x among. All-contains IsPair (next pair) x valid among);
    reached = grown_all (Reachable next start) (next pair) pairs new grows so_far.reached (λ x among. reachable_next next start pair x here among);
    numbered = λ k x below is. elim (cases_lt k (length targets)) [
      | inl less ↦
          let was : slice_get pairs k ≡ Some x =
          slice_get_before pairs grows.0 k x (omega (arith, less, behind)) (ap (λ l. slice_get l k) (sym grows.1) ∙ is) in
          subst (λ l. AreNumbers new (next x) l) (sym (get_or_append_left targets (numbers ∷ []) [] k less))
          (subst (λ l. AreNumbers l (next x) (get_or targets k [])) (sym grows.1) (numbers_grown pairs grows.0 (get_or targets k []) (next x) (so_far.numbered k x less was)))
      | inr last ↦
          let here_now : k ≡ length targets = omega (arith, below, last, length-append targets (numbers ∷ [])) in
          let was : slice_get pairs k ≡ Some x =
          slice_get_before pairs grows.0 k x (omega (arith, here_now, behind)) (ap (λ l. slice_get l k) (sym grows.1) ∙ is) in
          let same : pair ≡ x = same_Some pair x (sym at ∙ ap (λ j. slice_get pairs j) (sym here_now) ∙ was) in
          subst (λ l. AreNumbers new (next x) l) (sym (get_or_push targets numbers [] k (sym here_now)))
          (subst (λ y. AreNumbers new (next y) numbers) same are)
    ];
    earlier = λ k x after is. elim (cases_lt k (length pairs)) [
      | inl less ↦
          let old = so_far.earlier k x after (slice_get_before pairs grows.0 k x less (ap (λ l. slice_get l k) (sym grows.1) ∙ is)) in
          (old.0, old.1, old.2, subst (λ l. slice_get l old.0 ≡ Some old.1) (sym grows.1) (slice_get_grown pairs grows.0 old.0 old.1 old.3), old.4)
      | inr more ↦
          let below = slice_get_within new k x is in
          let place : k < length pairs + length grows.0 = omega (arith, below, ap length grows.1, length-append pairs grows.0) in
          let there : get_or grows.0 (k - length pairs) x ≡ x =
          sym (get_or-append_right pairs grows.0 (length pairs) k x refl more) ∙ ap (λ l. get_or l k x) (sym grows.1) ∙ get_or_from_slice_get new k x x is in
          let among = grows.2 (k - length pairs) x (omega (arith, place, more)) in (
            length targets,
            pair,
            omega (arith, behind, more),
            subst (λ l. slice_get l (length targets) ≡ Some pair) (sym grows.1) (slice_get_grown pairs grows.0 (length targets) pair at),
            subst (λ z. Contains (next pair) z) there among,
          )
    ];
  }
    where
      here : Reachable next start pair
      here =
          subst (λ z. Reachable next start z) (get_or_from_slice_get pairs (length targets) pair pair at) (so_far.reached (length targets) pair behind)

  pub explored_next : (pairs : List Pair) (targets : List (List ℕ)) → Exploring pairs targets → length pairs ≤ length targets → NumbersNext next (record { pairs = pairs; targets = targets })
  explored_next pairs targets so_far over = λ k x at. so_far.numbered k x (let below = slice_get_within pairs k x at in omega (arith, below, over)) at

  pub explored_all : (pairs : List Pair) (targets : List (List ℕ)) → Exploring pairs targets → length pairs ≤ length targets → (x : Pair) → Contains pairs x ↔ Reachable next start x
  explored_all pairs targets so_far over x = (
    All-contains (Reachable next start) pairs x so_far.reached,
    reachable_within next pairs closed start (0, slice_get_within pairs 0 start so_far.first, get_or_from_slice_get pairs 0 start start so_far.first) x,
  )
    where
      closed : (x y : Pair) → Contains pairs x → Contains (next x) y → Contains pairs y
      closed x y (k, below, is) among =
          let at : slice_get pairs k ≡ Some x = slice_get-get_or pairs k x below ∙ ap Some is in
          numbers_contain pairs (next x) (get_or targets k []) (so_far.numbered k x (omega (arith, below, over)) at) y among

-- ---- the pair that is asked for

pub asked_at : (found seen : List Pair) (n m : ℕ) (none : Pair) → seen ≡ found → m ≡ n → n < length found → slice_get found n ≡ Some (get_or seen m none)
asked_at found seen n m none same at below =
    slice_get-get_or found n none below ∙ ap Some (ap (λ l. get_or l n none) (sym same) ∙ ap (λ k. get_or seen k none) (sym at))

pub asked_valid : (IsPair : Pair → Type 0) (found seen : List Pair) (n m : ℕ) (none : Pair) → seen ≡ found → m ≡ n → n < length found → All IsPair found → IsPair (get_or seen m none)
asked_valid IsPair found seen n m none same at below valid =
    subst IsPair (get_or_from_slice_get found n (get_or seen m none) (get_or seen m none) (asked_at found seen n m none same at below)) (valid n (get_or seen m none) below)
