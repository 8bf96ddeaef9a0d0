-- Pairs of classes that are numbered as they are found.
use Rattle.std.proofs.Common.{◌≡◌, ◌≢◌, ℕ, eqb, ◌&&◌, ◌+◌, ◌<◌, ◌⊎◌, Bool, true, if◌then◌else◌, List, [], ◌∷◌, ◌++◌, length, get_or, Some, refl, sym, ap, ◌∙◌, subst, inl, inr, arith}
use Rattle.std.specs.Bool.{Decides}
use Rattle.std.specs.List.{Contains, list_any, slice_get}
use Rattle.std.proofs.lemmas.Bool.{and_from, and_parts, both_ways, cases_Bool, cases_lt, eq-eqb, eqb-true}
use Rattle.std.proofs.lemmas.List.{get_or_push, length_push}
use Rattle.std.proofs.lemmas.List.Elements.{Contains-get_or}
use Rattle.std.proofs.lemmas.List.Quantifiers.{all_pairs_push}
use Rattle.std.proofs.lemmas.Map.Made.{is_member-Decides}
use Rattle.std.proofs.lemmas.Option.{get_or_from_slice_get}
use Rattle.indexmap.specs.IndexSet.{insert_key}
use Rattle.rela_minimise.specs.Cutting.{AreApart, no_pair}
use Rattle.rela_minimise.specs.declared.class_pairs.ClassPair.{ClassPair}

-- two pairs are compared by their classes
abbrev pub pair_eq : ClassPair → ClassPair → Bool
pair_eq a b = eqb a.class b.class && eqb a.onto b.onto

same_pair : (a b : ClassPair) → Decides (pair_eq a b) (a ≡ b)
same_pair a b = (
  λ both.
      let parts = and_parts (eqb a.class b.class) (eqb a.onto b.onto) both in
      let class = eqb-true a.class b.class parts.0 in
      let onto = eqb-true a.onto b.onto parts.1 in
      (λ j. record { class = class j; onto = onto j }),
  λ equal. and_from (eqb a.class b.class) (eqb a.onto b.onto) (eq-eqb a.class b.class (ap (λ (x : ClassPair). x.class) equal)) (eq-eqb a.onto b.onto (ap (λ (x : ClassPair). x.onto) equal)),
)

module _ (old new : List ClassPair) (k : ClassPair) (apart : AreApart old) (is : new ≡ insert_key pair_eq old k) where
  old_key : list_any (pair_eq k) old ≡ true → new ≡ old
  old_key there = is ∙ ap (λ b. if b then old else old ++ k ∷ []) there

  pub pairs_apart : AreApart new
  pairs_apart = elim (cases_Bool (list_any (pair_eq k) old)) [
    | inl there ↦ subst AreApart (sym (old_key there)) apart
    | inr absent ↦
        subst AreApart (sym (is ∙ ap (λ b. if b then old else old ++ k ∷ []) absent))
        (all_pairs_push ◌≢◌ old k apart (λ i d below equal.
        both_ways (list_any (pair_eq k) old) absent ((is_member-Decides same_pair old k).1 (subst (λ x. Contains old x) equal (Contains-get_or old i d below)))))
  ]

  pub pair_grown : (n : ℕ) → n < length new → get_or new n no_pair ≡ k → (new ≡ old) ⊎ ((new ≡ old ++ k ∷ []) × (n ≡ length old))
  pair_grown n within at = elim (cases_Bool (list_any (pair_eq k) old)) [
    | inl there ↦ inl (old_key there)
    | inr absent ↦
        let pushed : new ≡ old ++ k ∷ [] = is ∙ ap (λ b. if b then old else old ++ k ∷ []) absent in
        let len : length new ≡ length old + 1 = ap length pushed ∙ length_push old k in
        let last : get_or new (length old) no_pair ≡ k = ap (λ l. get_or l (length old) no_pair) pushed ∙ get_or_push old k no_pair (length old) refl in
        inr (
          pushed,
          elim (cases_lt n (length old)) [
            | inl below ↦ absurd (pairs_apart n (length old) no_pair below (omega arith) (at ∙ sym last))
            | inr above ↦ omega arith
          ],
        )
  ]

pub pair_at : (keys : List ClassPair) (n : ℕ) (value : ClassPair) → (k : ClassPair) × (slice_get keys n ≡ Some k) × (pair_eq value k ≡ true) → get_or keys n no_pair ≡ value
pair_at keys n value (k, at, same) = get_or_from_slice_get keys n k no_pair at ∙ sym ((same_pair value k).0 same)
