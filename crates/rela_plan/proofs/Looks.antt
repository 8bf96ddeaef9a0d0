-- Flows by how they look.
use Rattle.std.proofs.Common.{◌≡◌, ◌∙◌, ℕ, ◌<◌, Bool, cond, nat_eq, true, List, length, get_or, Some, inl, inr, refl, sym, ap, subst}
use Rattle.std.specs.Bool.{beq, Decides}
use Rattle.std.specs.Cmp.{booleans_Decides}
use Rattle.std.specs.Cmp.Lexicographic.{pointwise}
use Rattle.std.specs.HashMap.{HashMap, get}
use Rattle.std.proofs.lemmas.Bool.{and_parts, cases_Bool, cond-true, cond-false, eq-eqb, eqb-true}
use Rattle.std.proofs.lemmas.List.{get_or_default}
use Rattle.std.proofs.lemmas.Slice.Eq.{slice_eq-Decides, bytes_eq-Decides}
use Rattle.rela_graph.specs.Outline.{Outline, outline_of, same_link, same_outline}
use Rattle.rela_graph.specs.declared.node.Link.{Link}
use Rattle.rela_names.specs.declared.level.Level.{Level}
use Rattle.rela_snapshot.specs.declared.pairing.FlowPair.{FlowPair}
use Rattle.rela_plan.specs.Alike.{look_of, same_look, HasLook, AreNumbered, LooksAs}

-- edges with the same ends are one
links_decide : (x y : Link) → Decides (same_link x y) (x ≡ y)
links_decide x y = (equal, λ e. subst (λ z. same_link x z ≡ true) e itself)
  where
    equal : same_link x y ≡ true → x ≡ y
    equal same =
        let parts = and_parts (nat_eq x.a y.a) (nat_eq x.b y.b) same in
        let first : x.a ≡ y.a = eqb-true x.a y.a parts.0 in
        let second : x.b ≡ y.b = eqb-true x.b y.b parts.1 in
        λ i. record { a = first i; b = second i }

    itself : same_link x x ≡ true
    itself = rw (eq-eqb x.a x.a refl, eq-eqb x.b x.b refl) refl

same_flags : (xs ys : List Bool) → pointwise beq xs ys ≡ true → xs ≡ ys
same_flags xs ys = (slice_eq-Decides booleans_Decides xs ys (pointwise beq xs ys) refl).0

equal_outlines : (x y : Outline) → same_outline x y ≡ true → x ≡ y
equal_outlines x y same =
    let first = and_parts (pointwise nat_eq x.places y.places) _ same in
    let second = and_parts (pointwise same_link x.edges y.edges) _ first.1 in
    let third = and_parts (pointwise beq x.starts y.starts) _ second.1 in
    let fourth = and_parts (pointwise beq x.delivered y.delivered) (pointwise beq x.dropped y.dropped) third.1 in
    let places : x.places ≡ y.places = (bytes_eq-Decides x.places y.places).0 first.0 in
    let edges : x.edges ≡ y.edges = (slice_eq-Decides links_decide x.edges y.edges _ refl).0 second.0 in
    let starts : x.starts ≡ y.starts = same_flags x.starts y.starts third.0 in
    let delivered : x.delivered ≡ y.delivered = same_flags x.delivered y.delivered fourth.0 in
    let dropped : x.dropped ≡ y.dropped = same_flags x.dropped y.dropped fourth.1 in
    λ i. record { places = places i; edges = edges i; starts = starts i; delivered = delivered i; dropped = dropped i }

-- what `==` calls equal is equal
equal_looks : (x y : Outline × Outline) → same_look x y ≡ true → x ≡ y
equal_looks x y same =
    let parts = and_parts (same_outline x.0 y.0) (same_outline x.1 y.1) same in
    let first : x.0 ≡ y.0 = equal_outlines x.0 y.0 parts.0 in
    let second : x.1 ≡ y.1 = equal_outlines x.1 y.1 parts.1 in
    λ i. (first i, second i)

-- how a flow looks
pub own_look : (level : Level) (pairs : List FlowPair) (n : ℕ) (pair : FlowPair) (before after : Outline) → n < length pairs → pair ≡ get_or pairs n pair
    → before ≡ outline_of level pair.before → after ≡ outline_of level pair.after → HasLook level pairs n (before, after)
own_look level pairs n pair before after within pair_is before_is after_is =
    let first : outline_of level pair.before ≡ before = sym before_is in
    let second : outline_of level pair.after ≡ after = sym after_is in
    let look : look_of level pair ≡ (before, after) = λ i. (first i, second i) in
    (within, λ d. ap (look_of level) (get_or_default pairs n d pair within ∙ sym pair_is) ∙ look)

-- the number that a look has is that of a flow that looks so
pub number_found : {S : Type 0} (level : Level) (pairs : List FlowPair) (numbers : HashMap (Outline × Outline) ℕ S) (n number : ℕ) (look : Outline × Outline)
    → AreNumbered level pairs numbers → HasLook level pairs n look → get same_look numbers look ≡ Some number → LooksAs level pairs n number
number_found level pairs numbers n number look numbered own found =
    let has = numbered look number found in
    (has.0, λ d. own.1 d ∙ sym (has.1 d))

pub numbers_more : {S : Type 0} (level : Level) (pairs : List FlowPair) (old new : HashMap (Outline × Outline) ℕ S) (n : ℕ) (look : Outline × Outline)
    → AreNumbered level pairs old → HasLook level pairs n look
    → ((q : Outline × Outline) → get same_look new q ≡ cond (same_look look q) (Some n) (get same_look old q)) → AreNumbered level pairs new
numbers_more level pairs old new n look numbered own updates q m has = elim (cases_Bool (same_look look q)) [
  | inl same_key ↦
      let is : Some n ≡ Some m = sym (updates q ∙ cond-true (same_look look q) (Some n) (get same_look old q) same_key) ∙ has in
      let equal : n ≡ m = cc in
      subst (λ (k : ℕ). HasLook level pairs k q) equal (subst (HasLook level pairs n) (equal_looks look q same_key) own)
  | inr other_key ↦ numbered q m (sym (updates q ∙ cond-false (same_look look q) (Some n) (get same_look old q) other_key) ∙ has)
]

pub looks_as_itself : (level : Level) (pairs : List FlowPair) (n : ℕ) → n < length pairs → LooksAs level pairs n n
looks_as_itself level pairs n within = (within, λ d. refl)
