-- Lists that grow and in which no two are equal.
use Rattle.std.proofs.Common.{◌≡◌, ◌≢◌, ℕ, zero, suc, eqb, ◌&&◌, ◌+◌, ◌<◌, ◌≤◌, Bool, true, false, if◌then◌else◌, List, [], ◌∷◌, ◌++◌, length, get_or, Option, Some, None, take, drop, refl, sym, ap, ◌∙◌, subst, inl, inr, arith, length-append, length-drop}
use Rattle.std.specs.Bool.{Decides}
use Rattle.std.specs.Prelude.{IfSome}
use Rattle.std.specs.List.{Contains, list_any, position, slice_get}
use Rattle.std.proofs.lemmas.Bool.{cases_Bool, both_ways, and_parts, and_from, eqb-true, eq-eqb}
use Rattle.std.proofs.lemmas.List.{take-append-drop, drop_more, length-take-le}
use Rattle.std.proofs.lemmas.List.Elements.{All-contains, Contains-append_left, Contains-append_right, Contains-append_cases, Contains-push, Contains-get_or}
use Rattle.std.proofs.lemmas.List.Quantifiers.{all_pairs_push, position-Some}
use Rattle.std.proofs.lemmas.Option.{slice_get-get_or}
use Rattle.std.proofs.lemmas.Map.Made.{is_member-Decides}
use Rattle.indexmap.specs.IndexSet.{insert_key}
use Rattle.rela_pairs.specs.Finding.{Finds}
use Rattle.rela_pairs.specs.Reachable.{AreDistinct, MoreThan}
use Rattle.rela_pairs.specs.declared.pair.Pair.{Pair}

module _ {X : Type 0} (eq : X → X → Bool) (same : (a b : X) → Decides (eq a b) (a ≡ b)) (old : List X) (k : X) where
  old_key : list_any (eq k) old ≡ true → insert_key eq old k ≡ old
  old_key there = ap (λ b. if b then old else old ++ k ∷ []) there

  new_key : list_any (eq k) old ≡ false → insert_key eq old k ≡ old ++ k ∷ []
  new_key absent = ap (λ b. if b then old else old ++ k ∷ []) absent

  pub key_found : (new : List X) → new ≡ insert_key eq old k → Finds old new k
  key_found new is = elim (cases_Bool (list_any (eq k) old)) [
    | inl there ↦
        let stays = is ∙ old_key there in
        (subst (λ l. Contains l k) (sym stays) ((is_member-Decides same old k).0 there), inl stays)
    | inr absent ↦
        let more = is ∙ new_key absent in
        (subst (λ l. Contains l k) (sym more) (Contains-push old k), inr more)
  ]

  pub keys_distinct : (new : List X) → AreDistinct old → new ≡ insert_key eq old k → AreDistinct new
  keys_distinct new distinct is = elim (cases_Bool (list_any (eq k) old)) [
    | inl there ↦ subst AreDistinct (sym (is ∙ old_key there)) distinct
    | inr absent ↦
        subst AreDistinct (sym (is ∙ new_key absent))
        (all_pairs_push ◌≢◌ old k distinct (λ i d below equal.
        both_ways (list_any (eq k) old) absent ((is_member-Decides same old k).1 (subst (λ x. Contains old x) equal (Contains-get_or old i d below)))))
  ]

-- what a list has besides the one at a place
others : {X : Type 0} (ys : List X) (n : ℕ) (y : X) → n < length ys → get_or ys n y ≡ y → (z : X) → Contains ys z → (y ≡ z → ⊥) → Contains (take n ys ++ drop (n + 1) ys) z
others ys n y below at z among apart =
    let split : ys ≡ take n ys ++ y ∷ drop (n + 1) ys = sym (take-append-drop n ys) ∙ ap (λ l. take n ys ++ l) (drop_more ys n y below ∙ ap (λ x. x ∷ drop (n + 1) ys) at) in
    elim (Contains-append_cases (take n ys) (y ∷ drop (n + 1) ys) z (subst (λ l. Contains l z) split among)) [
      | inl before ↦ Contains-append_left (take n ys) (drop (n + 1) ys) z before
      | inr rest ↦ elim (Contains-append_cases (y ∷ []) (drop (n + 1) ys) z rest) [
        | inl here ↦ absurd (apart (only here))
        | inr after ↦ Contains-append_right (take n ys) (drop (n + 1) ys) z after
      ]
    ]
  where
    only : {z : _} → Contains (y ∷ []) z → y ≡ z
    only (zero, below, is) = is
    only (suc k, below, is) = absurd (omega (arith, below))

all_apart : {X : Type 0} (x : X) (xs : List X) → AreDistinct (x ∷ xs) → (z : X) → Contains xs z → x ≡ z → ⊥
all_apart x xs distinct z (k, below, is) equal = distinct 0 (suc k) z (omega arith) (omega (arith, below)) (equal ∙ sym is)

distinct_tail : {X : Type 0} (x : X) (xs : List X) → AreDistinct (x ∷ xs) → AreDistinct xs
distinct_tail x xs distinct i j d before below = distinct (suc i) (suc j) d (omega (arith, before)) (omega (arith, below))

-- what has no two equal and stands in another list is no longer than it
pub distinct_within : {X : Type 0} (xs ys : List X) → AreDistinct xs → ((z : X) → Contains xs z → Contains ys z) → length xs ≤ length ys
distinct_within [] ys distinct within = omega arith
distinct_within (x ∷ xs) ys distinct within =
    let at = within x (0, omega arith, refl) in
    let n = at.0 in
    let fewer : length xs ≤ length (take n ys ++ drop (n + 1) ys) =
    distinct_within xs (take n ys ++ drop (n + 1) ys) (distinct_tail x xs distinct) (λ z c.
    others ys n x at.1 at.2 z (within z (suc c.0, omega (arith, c.1), c.2)) (all_apart x xs distinct z c)) in
    omega (arith, fewer, at.1, length-append (take n ys) (drop (n + 1) ys), length-take-le n ys (omega (arith, at.1)), length-drop (n + 1) ys)

-- so where all that have the property are in a short list, there are not more
pub no_more_than : {X : Type 0} (limit : ℕ) (P : X → Type 0) (ys : List X) → ((z : X) → P z → Contains ys z) → length ys ≤ limit → MoreThan limit P → ⊥
no_more_than limit P ys all short more =
    omega (arith, short, more.count, distinct_within more.some ys more.distinct (λ z c. all z (All-contains P more.some z more.each c)))

-- two pairs are compared by their states
abbrev pub pair_eq : Pair → Pair → Bool
pair_eq a b = eqb a.left b.left && eqb a.right b.right

same_pair : (a b : Pair) → Decides (pair_eq a b) (a ≡ b)
same_pair a b = (
  λ both.
      let parts = and_parts (eqb a.left b.left) (eqb a.right b.right) both in
      let left = eqb-true a.left b.left parts.0 in
      let right = eqb-true a.right b.right parts.1 in
      (λ j. record { left = left j; right = right j }),
  λ equal. and_from (eqb a.left b.left) (eqb a.right b.right) (eq-eqb a.left b.left (ap (λ (x : Pair). x.left) equal)) (eq-eqb a.right b.right (ap (λ (x : Pair). x.right) equal)),
)

-- a pair that was put among the keys
pub pair_found : (old new : List Pair) (k : Pair) → new ≡ insert_key pair_eq old k → Finds old new k
pair_found old new k = key_found pair_eq same_pair old k new

pub pairs_distinct : (old new : List Pair) (k : Pair) → AreDistinct old → new ≡ insert_key pair_eq old k → AreDistinct new
pairs_distinct old new k = keys_distinct pair_eq same_pair old k new

-- a pair that was found among the keys
pub pair_at : (keys : List Pair) (k : Pair) (o : Option ℕ) → o ≡ position (pair_eq k) keys → IfSome o (λ n. slice_get keys n ≡ Some k)
pair_at keys k None is = tt
pair_at keys k (Some n) is =
    let at = position-Some (pair_eq k) keys n k (sym is) in
    slice_get-get_or keys n k at.0 ∙ ap Some (sym ((same_pair k (get_or keys n k)).0 at.1))
