-- From states to the places that they stand for.
use Rattle.std.proofs.Common.{◌≡◌, ◌≢◌, ℕ, suc, inl, inr, List, [], ◌∷◌, length, refl, ap, arith}
use Rattle.std.specs.Prelude.{◌↔◌, Option, Some}
use Rattle.std.specs.List.{All, AllPairs}
use Rattle.std.proofs.lemmas.List.Elements.{All-nil, All-cons, All-head, All-tail}
use Rattle.std.proofs.lemmas.List.Kept.{AllPairs-cons}
use Rattle.rela_rir.specs.Places.{Place, Tells, JustOne}
use Rattle.rela_rir.specs.Tables.{IsTable, IsExact}

module _ {Q I : Type 0} {reach : Q → I → Type 0} {at : Place → I → Type 0} {tells : Tells} {table : Place → Option Q} (is : IsTable reach at tells table) where
  -- where a state is reached by just one of two, so is a place
  pub told_by_place : (q : Q) (i j : I) → JustOne (reach q i) (reach q j) → (p : Place) × JustOne (at p i) (at p j)
  told_by_place q i j (inl one) =
      let stands = (is.reached q i).0 one.0 in
      (stands.place, inl (stands.reached, λ bad. one.1 ((is.reached q j).1 (record { place = stands.place; entry = stands.entry; reached = bad }))))
  told_by_place q i j (inr one) =
      let stands = (is.reached q j).0 one.1 in
      (stands.place, inr ((λ bad. one.0 ((is.reached q i).1 (record { place = stands.place; entry = stands.entry; reached = bad }))), stands.reached))

  -- some of C reaches the state, or the place
  module _ (C : I → Type 0) where
    abbrev ReachedState : Q → Type 0
    ReachedState q = (i : I) × C i × reach q i

    abbrev pub ReachedPlace : Place → Type 0
    ReachedPlace p = (i : I) × C i × at p i

    -- a place is apart from each of the places if its state differs from each of theirs
    abbrev ApartFrom : Q → List Place → Type 0
    ApartFrom q places = (p : Place) → table p ≡ Some q → All (tells p) places

    -- as many reached places, each two of them apart
    pub record Chosen (states : List Q) : Type 0 where
      pub places : List Place
      pub many : length places ≡ length states
      pub apart : AllPairs tells places
      pub reached : All ReachedPlace places
      pub from_others : (q : Q) → All (λ r. q ≢ r) states → ApartFrom q places

    rest_differ : (q : Q) (states : List Q) → AllPairs ◌≢◌ (q ∷ states) → All (λ r. q ≢ r) states
    rest_differ q states pairs j d inside = pairs 0 (suc j) d (omega arith) (omega arith)

    rest_pairs : (q : Q) (states : List Q) → AllPairs ◌≢◌ (q ∷ states) → AllPairs ◌≢◌ states
    rest_pairs q states pairs i j d before inside = pairs (suc i) (suc j) d (omega arith) (omega arith)

    pub chosen : (states : List Q) → AllPairs ◌≢◌ states → All ReachedState states → Chosen states
    chosen [] different each = record { places = []; many = refl; apart = λ i j d before inside. absurd (omega (arith, inside)); reached = All-nil ReachedPlace; from_others = λ q all p entry. All-nil (tells p) }
    chosen (q ∷ states) different each =
        let first = All-head ReachedState q states each in
        let stands = (is.reached q first.0).0 first.2 in
        let others = chosen states (rest_pairs q states different) (All-tail ReachedState q states each) in
        record {
          places = stands.place ∷ others.places;
          many = ap suc others.many;
          apart = AllPairs-cons tells stands.place others.places (others.from_others q (rest_differ q states different) stands.place stands.entry) others.apart;
          reached = All-cons ReachedPlace stands.place others.places (first.0, first.1, stands.reached) others.reached;
          from_others = λ r all p entry. All-cons (tells p) stands.place others.places (is.apart p stands.place r q entry stands.entry (All-head (λ s. r ≢ s) q states all)) (others.from_others r (All-tail (λ s. r ≢ s) q states all) p entry);
        }

-- a table is one still where the states and the places are reached by the same, and what was apart is
pub table_of_same : {Q I : Type 0} {reach reach' : Q → I → Type 0} {at at' : Place → I → Type 0} {tells tells' : Tells} {table : Place → Option Q} →
    ((q : Q) (i : I) → reach q i ↔ reach' q i) → ((p : Place) (i : I) → at p i ↔ at' p i) → ((p r : Place) → tells p r → tells' p r) →
    IsTable reach at tells table → IsTable reach' at' tells' table
table_of_same {Q} {I} {reach} {reach'} {at} {at'} {tells} {tells'} {table} states places told is = record {
  reached = λ q i. (
    (λ has. (let stands = (is.reached q i).0 ((states q i).1 has) in record { place = stands.place; entry = stands.entry; reached = (places stands.place i).0 stands.reached })),
    λ stands. (states q i).0 ((is.reached q i).1 (record { place = stands.place; entry = stands.entry; reached = (places stands.place i).1 stands.reached })),
  );
  apart = λ p r k l one two differ. told p r (is.apart p r k l one two differ);
}

pub exact_of_same : {I : Type 0} {n : ℕ} {reach reach' : ℕ → I → Type 0} {at at' : Place → I → Type 0} {table : Place → Option ℕ} →
    ((q : ℕ) (i : I) → reach q i ↔ reach' q i) → ((p : Place) (i : I) → at p i ↔ at' p i) → IsExact n reach at table → IsExact n reach' at' table
exact_of_same {I} {n} {reach} {reach'} {at} {at'} {table} states places is = record {
  below = is.below;
  entered = λ p i has. is.entered p i ((places p i).1 has);
  only = λ p q i entry has. (places p i).0 (is.only p q i entry ((states q i).1 has));
}
