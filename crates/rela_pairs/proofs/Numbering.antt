-- Numbers in a list that grows at its end.
use Rattle.std.proofs.Common.{◌≡◌, ℕ, zero, suc, ◌+◌, ◌<◌, List, [], ◌∷◌, ◌++◌, length, get_or, take, map, Option, None, Some, ◌≢◌, ◌≤◌, ◌^◌, refl, sym, ap, ◌∙◌, subst, inl, inr, arith, append_assoc, length-append}
use Rattle.std.specs.Prelude.{IfErr, IsNone, ok_or}
use Rattle.std.specs.List.{All, Contains, slice_get}
use Rattle.std.proofs.lemmas.List.{append-nil, map-append, take_more, get_or_append_left}
use Rattle.std.proofs.lemmas.List.Elements.{All-nil, All-push, All-append, All-weaker, Contains-get_or}
use Rattle.std.proofs.lemmas.List.Quantifiers.{all_pairs_push}
use Rattle.std.proofs.lemmas.Option.{slice_get_within, slice_get-get_or, get_or_from_slice_get}
use Rattle.rela_pairs.specs.Finding.{Finds, GrowsBy, AreNumbers, Passes}
use Rattle.rela_pairs.specs.Reachable.{AreDistinct}

-- a place that was there stays
pub slice_get_grown : {X : Type 0} (old more : List X) (k : ℕ) (x : X) → slice_get old k ≡ Some x → slice_get (old ++ more) k ≡ Some x
slice_get_grown old more k x at =
    let below = slice_get_within old k x at in
    slice_get-get_or (old ++ more) k x (omega (arith, below, length-append old more)) ∙ ap Some (get_or_append_left old more x k below ∙ get_or_from_slice_get old k x x at)

-- a place in the old part was there
pub slice_get_before : {X : Type 0} (old more : List X) (k : ℕ) (x : X) → k < length old → slice_get (old ++ more) k ≡ Some x → slice_get old k ≡ Some x
slice_get_before old more k x below at =
    slice_get-get_or old k x below ∙ ap Some (sym (get_or_append_left old more x k below) ∙ get_or_from_slice_get (old ++ more) k x x at)

pub numbers_grown : {X : Type 0} (old more : List X) (numbers : List ℕ) (xs : List X) → AreNumbers old xs numbers → AreNumbers (old ++ more) xs numbers
numbers_grown old more [] [] are = refl
numbers_grown old more [] (x ∷ xs) are = cc
numbers_grown old more (n ∷ numbers) [] are = cc
numbers_grown old more (n ∷ numbers) (x ∷ xs) are =
    let head : slice_get old n ≡ Some x = cc in
    let tail : AreNumbers old xs numbers = cc in
    let one = slice_get_grown old more n x head in
    let rest = numbers_grown old more numbers xs tail in
    cc

-- one that was found
pub found_more : {X : Type 0} (old new : List X) (x : X) → Finds old new x → (more : List X) × (new ≡ old ++ more) × All (λ y. y ≡ x) more
found_more old new x finds = elim finds.1 [
  | inl same ↦ ([], same ∙ sym (append-nil old), All-nil (λ y. y ≡ x))
  | inr more ↦ (x ∷ [], more, All-push (λ y. y ≡ x) [] x (All-nil (λ y. y ≡ x)) refl)
]

pub grows_none : {X : Type 0} (xs now : List X) → GrowsBy xs now now
grows_none xs now = ([], sym (append-nil now), All-nil (Contains xs))

pub grows_more : {X : Type 0} (xs old mid new : List X) (x : X) → GrowsBy xs old mid → Contains xs x → Finds mid new x → GrowsBy xs old new
grows_more xs old mid new x grows among finds = elim finds.1 [
  | inl same ↦ (grows.0, same ∙ grows.1, grows.2)
  | inr more ↦ (grows.0 ++ x ∷ [], more ∙ ap (λ l. l ++ x ∷ []) grows.1 ∙ append_assoc old grows.0 (x ∷ []), All-push (Contains xs) grows.0 x grows.2 among)
]

pub numbers_more : {X : Type 0} (mid new : List X) (xs : List X) (numbers : List ℕ) (i n : ℕ) (x : X) → i < length xs → get_or xs i x ≡ x → AreNumbers mid (take i xs) numbers
    → Finds mid new x → slice_get new n ≡ Some x → AreNumbers new (take (i + 1) xs) (numbers ++ n ∷ [])
numbers_more mid new xs numbers i n x below at are finds numbered =
    let more = found_more mid new x finds in
    let kept : AreNumbers new (take i xs) numbers = subst (λ l. AreNumbers l (take i xs) numbers) (sym more.1) (numbers_grown mid more.0 numbers (take i xs) are) in
    map-append (slice_get new) numbers (n ∷ []) ∙ ap (λ l. l ++ slice_get new n ∷ []) kept ∙ ap (λ o. map Some (take i xs) ++ o ∷ []) numbered
    ∙ sym (ap (λ l. map Some l) (take_more xs i x below ∙ ap (λ y. take i xs ++ y ∷ []) at) ∙ map-append Some (take i xs) (x ∷ []))

-- one that was found is all that was added
pub grows_found : {X : Type 0} (old new : List X) (x : X) → Finds old new x → GrowsBy (x ∷ []) old new
grows_found old new x finds =
    let more = found_more old new x finds in
    (more.0, more.1, λ k d below. (0, omega arith, sym (more.2 k d below)))

pub grows_both : {X : Type 0} (xs ys old mid new : List X) → GrowsBy xs old mid → GrowsBy ys mid new → ((x : X) → Contains ys x → Contains xs x) → GrowsBy xs old new
grows_both xs ys old mid new first second within = (
  first.0 ++ second.0,
  second.1 ∙ ap (λ l. l ++ second.0) first.1 ∙ append_assoc old first.0 second.0,
  All-append (Contains xs) first.0 second.0 first.2 (All-weaker (Contains ys) (Contains xs) within second.0 second.2),
)

pub only_one : {X : Type 0} (x y : X) → Contains (x ∷ []) y → x ≡ y
only_one x y (zero, below, is) = is
only_one x y (suc k, below, is) = absurd (omega (arith, below))

pub passes_later : {X : Type 0} (limit : ℕ) (xs old mid : List X) (x : X) → GrowsBy xs old mid → Contains xs x → Passes limit (x ∷ []) mid → Passes limit xs old
passes_later limit xs old mid x grows among passes = record {
  more = passes.more;
  grows = grows_both xs (x ∷ []) old mid passes.more grows passes.grows (λ y c. subst (λ z. Contains xs z) (only_one x y c) among);
  distinct = passes.distinct;
  past = passes.past;
  small = passes.small;
}

-- to put in another one where there are as many as there may be
pub would_pass : {X : Type 0} (limit : ℕ) (x : X) (old : List X) → AreDistinct old → length old < 2 ^ 63 → limit ≤ length old → (Contains old x → ⊥) → Passes limit (x ∷ []) old
would_pass limit x old distinct few full absent = record {
  more = old ++ x ∷ [];
  grows = (x ∷ [], refl, All-push (Contains (x ∷ [])) [] x (All-nil (Contains (x ∷ []))) (0, omega arith, refl));
  distinct = all_pairs_push ◌≢◌ old x distinct (λ i d below equal. absent (subst (λ z. Contains old z) equal (Contains-get_or old i d below)));
  past = omega (arith, full, length-append old (x ∷ []));
  small = omega (arith, full, few);
}

-- what comes only where there is no number
pub unless_known : {E : Type 0} (P : Type 0) (Q : E → Type 0) (e : E) (o : Option ℕ) → (IsNone o → P) → IfErr (ok_or o e) (λ f. Q f → P)
unless_known P Q e None absent = λ q. absent refl
unless_known P Q e (Some n) absent = tt
