-- Classes that are numbered by their first states.
use Rattle.std.proofs.Common.{◌≡◌, ℕ, ◌+◌, ◌<◌, List, [], ◌∷◌, ◌++◌, length, get_or, set, Option, None, Some, refl, sym, ap, ◌∙◌, subst, inl, inr, arith}
use Rattle.std.specs.List.{All}
use Rattle.std.proofs.lemmas.List.Elements.{All-get_or}
use Rattle.std.proofs.lemmas.Bool.{cases_eq, cases_lt}
use Rattle.std.proofs.lemmas.List.{get_or-set_other, get_or-set_same, get_or_append_left, get_or_default, get_or_push, length-set, length_push}
use Rattle.std.proofs.lemmas.Option.{same_Some}
use Rattle.rela_minimise.specs.Classes.{AreInOrder}

-- the first i states have their numbers
pub record AreOrdered (count : ℕ) (classes : List ℕ) (renumbered : List (Option ℕ)) (numbers heads : List ℕ) (i : ℕ) : Type 0 where
  pub room : length renumbered ≡ count
  pub each : length numbers ≡ i
  pub has : (q : ℕ) → q < i → get_or renumbered (get_or classes q 0) None ≡ Some (get_or numbers q 0)
  pub from : (class number : ℕ) → get_or renumbered class None ≡ Some number → (number < length heads) × (get_or classes (get_or heads number 0) 0 ≡ class)
  pub state : (number : ℕ) → number < length heads → get_or heads number 0 < i
  pub own : (number : ℕ) → number < length heads → get_or numbers (get_or heads number 0) 0 ≡ number
  pub before : (q number : ℕ) → q < i → number < get_or numbers q 0 → get_or heads number 0 < q

pub ordered_none : (count : ℕ) (classes : List ℕ) (renumbered : List (Option ℕ)) → length renumbered ≡ count → ((class : ℕ) → get_or renumbered class None ≡ None) → AreOrdered count classes renumbered [] [] 0
ordered_none count classes renumbered room none = record {
  room = room;
  each = refl;
  has = λ q below. absurd (omega arith);
  from = λ class number is. let never : None ≡ Some number = sym (none class) ∙ is in absurd (cc);
  state = λ number below. absurd (omega arith);
  own = λ number below. absurd (omega arith);
  before = λ q number below. absurd (omega arith);
}

-- the number that is read for the class of the next state
module _ (count : ℕ) (classes list : List ℕ) (same : list ≡ classes) (all : All (λ class. class < count) classes) (q : ℕ) (within : q < length list) where
  class_is : get_or list q 0 ≡ get_or classes q 0
  class_is = ap (λ l. get_or l q 0) same

  pub class_low : get_or classes q 0 < count
  class_low = All-get_or (λ class. class < count) classes q 0 (subst (λ l. q < length l) same within) all

  pub number_read : (renumbered : List (Option ℕ)) → length renumbered ≡ count → (number : Option ℕ) → number ≡ get_or renumbered (get_or list q 0) number → get_or renumbered (get_or classes q 0) None ≡ number
  number_read renumbered room number is =
      get_or_default renumbered (get_or classes q 0) None number (let low = class_low in omega arith)
      ∙ ap (λ class. get_or renumbered class number) (sym class_is) ∙ sym is

  pub number_set : (renumbered : List (Option ℕ)) (number : Option ℕ) → set renumbered (get_or list q 0) number ≡ set renumbered (get_or classes q 0) number
  number_set renumbered number = ap (λ class. set renumbered class number) class_is

pub none_read : {X : Type 0} (read : Option X) → ((x : X) → ¬ (read ≡ Some x)) → read ≡ None
none_read None not = refl
none_read (Some x) not = absurd (not x refl)

pub ordered_as : (count : ℕ) (classes : List ℕ) (rs rs' : List (Option ℕ)) (ns ns' hs hs' : List ℕ) (i : ℕ) → rs' ≡ rs → ns' ≡ ns → hs' ≡ hs → AreOrdered count classes rs ns hs i → AreOrdered count classes rs' ns' hs' i
ordered_as count classes rs rs' ns ns' hs hs' i rs_is ns_is hs_is are =
    subst (λ r. AreOrdered count classes r ns' hs' i) (sym rs_is) (subst (λ n. AreOrdered count classes rs n hs' i) (sym ns_is) (subst (λ h. AreOrdered count classes rs ns h i) (sym hs_is) are))

module _ (count : ℕ) (classes : List ℕ) (renumbered : List (Option ℕ)) (numbers heads : List ℕ) (i : ℕ) (are : AreOrdered count classes renumbered numbers heads i) where
  counted : (q : ℕ) → q < i → get_or numbers q 0 < length heads
  counted q below = (are.from (get_or classes q 0) (get_or numbers q 0) (are.has q below)).0

  -- all states have
  pub ordered_all : length classes ≡ i → AreInOrder classes numbers heads
  ordered_all all = record {
    each = are.each ∙ sym all;
    same = λ p q p_in q_in. (
      λ same. sym (from_number p (omega arith)) ∙ ap (λ n. get_or classes (get_or heads n 0) 0) same ∙ from_number q (omega arith),
      λ same. same_Some (get_or numbers p 0) (get_or numbers q 0) (sym (are.has p (omega arith)) ∙ ap (λ c. get_or renumbered c None) same ∙ are.has q (omega arith)),
    );
    counted = λ q below. counted q (omega arith);
    first = record {
      state = λ c below. let at = are.state c below in omega arith;
      own = are.own;
      before = λ q c q_in below. are.before q c (omega arith) below;
    };
  }
    where
      from_number : (q : ℕ) → q < i → get_or classes (get_or heads (get_or numbers q 0) 0) 0 ≡ get_or classes q 0
      from_number q below = (are.from (get_or classes q 0) (get_or numbers q 0) (are.has q below)).1

  module _ (number : ℕ) where
    abbrev numbers' : List ℕ
    numbers' = numbers ++ number ∷ []

    each' : length numbers' ≡ i + 1
    each' = let each = are.each in let pushed = length_push numbers number in omega arith

    old : (q : ℕ) → q < i → get_or numbers' q 0 ≡ get_or numbers q 0
    old q below = get_or_append_left numbers (number ∷ []) 0 q (let each = are.each in omega arith)

    last : get_or numbers' i 0 ≡ number
    last = get_or_push numbers number 0 i are.each

    own' : (n : ℕ) → n < length heads → get_or numbers' (get_or heads n 0) 0 ≡ n
    own' n below = old (get_or heads n 0) (are.state n below) ∙ are.own n below

    -- one more, of a class that has a number
    pub ordered_known : get_or renumbered (get_or classes i 0) None ≡ Some number → AreOrdered count classes renumbered numbers' heads (i + 1)
    ordered_known known = record {
      room = are.room;
      each = each';
      has = λ q below. elim (cases_lt q i) [
        | inl earlier ↦ are.has q earlier ∙ ap Some (sym (old q earlier))
        | inr not_earlier ↦ let here : i ≡ q = omega arith in subst (λ n. get_or renumbered (get_or classes n 0) None ≡ Some (get_or numbers' n 0)) here (known ∙ ap Some (sym last))
      ];
      from = are.from;
      state = λ n below. let at = are.state n below in omega arith;
      own = own';
      before = λ q n q_in below. elim (cases_lt q i) [
        | inl earlier ↦ are.before q n earlier (subst (λ m. n < m) (old q earlier) below)
        | inr not_earlier ↦
            let here : i ≡ q = omega arith in
            let less : n < number = subst (λ m. n < m) (ap (λ m. get_or numbers' m 0) (sym here) ∙ last) below in
            let number_in = (are.from (get_or classes i 0) number known).0 in
            let at = are.state n (omega arith) in omega (arith, at, here)
      ];
    }

  -- one more, of a class that has none: it is the head
  module _ (class_in : get_or classes i 0 < count) (new : get_or renumbered (get_or classes i 0) None ≡ None) where
    abbrev class : ℕ
    class = get_or classes i 0

    abbrev renumbered' : List (Option ℕ)
    renumbered' = set renumbered class (Some (length heads))

    abbrev heads' : List ℕ
    heads' = heads ++ i ∷ []

    head_old : (n : ℕ) → n < length heads → get_or heads' n 0 ≡ get_or heads n 0
    head_old n below = get_or_append_left heads (i ∷ []) 0 n below

    head_last : get_or heads' (length heads) 0 ≡ i
    head_last = get_or_push heads i 0 (length heads) refl

    length' : length heads' ≡ length heads + 1
    length' = length_push heads i

    at_class : get_or renumbered' class None ≡ Some (length heads)
    at_class = get_or-set_same renumbered class (Some (length heads)) None (let room = are.room in omega arith)

    other : (q : ℕ) → q < i → get_or classes q 0 ≡ class → ⊥
    other q below same = let never : None ≡ Some (get_or numbers q 0) = sym new ∙ ap (λ c. get_or renumbered c None) (sym same) ∙ are.has q below in cc

    pub ordered_new : AreOrdered count classes renumbered' (numbers' (length heads)) heads' (i + 1)
    ordered_new = record {
      room = length-set renumbered class (Some (length heads)) ∙ are.room;
      each = each' (length heads);
      has = λ q below. elim (cases_lt q i) [
        | inl earlier ↦
            get_or-set_other renumbered class (get_or classes q 0) (Some (length heads)) None (other q earlier)
            ∙ are.has q earlier ∙ ap Some (sym (old (length heads) q earlier))
        | inr not_earlier ↦
            let here : i ≡ q = omega arith in
            subst (λ n. get_or renumbered' (get_or classes n 0) None ≡ Some (get_or (numbers' (length heads)) n 0)) here (at_class ∙ ap Some (sym (last (length heads))))
      ];
      from = λ c n is. elim (cases_eq c class) [
        | inl same ↦
            let number_is : length heads ≡ n = same_Some (length heads) n (sym at_class ∙ ap (λ m. get_or renumbered' m None) (sym same) ∙ is) in (
              let longer = length' in omega arith,
              ap (λ m. get_or classes (get_or heads' m 0) 0) (sym number_is) ∙ ap (λ q. get_or classes q 0) head_last ∙ sym same,
            )
        | inr differs ↦
            let before = are.from c n (sym (get_or-set_other renumbered class c (Some (length heads)) None differs) ∙ is) in (
              let longer = length' in let less = before.0 in omega arith,
              ap (λ q. get_or classes q 0) (head_old n before.0) ∙ before.1,
            )
      ];
      state = λ n below. elim (cases_lt n (length heads)) [
        | inl earlier ↦ let at = are.state n earlier in let same = head_old n earlier in omega arith
        | inr not_earlier ↦ let longer = length' in let here : length heads ≡ n = omega arith in let at : get_or heads' n 0 ≡ i = ap (λ m. get_or heads' m 0) (sym here) ∙ head_last in omega arith
      ];
      own = λ n below. elim (cases_lt n (length heads)) [
        | inl earlier ↦ ap (λ q. get_or (numbers' (length heads)) q 0) (head_old n earlier) ∙ own' (length heads) n earlier
        | inr not_earlier ↦
            let longer = length' in let here : length heads ≡ n = omega arith in
            ap (λ m. get_or (numbers' (length heads)) (get_or heads' m 0) 0) (sym here) ∙ ap (λ q. get_or (numbers' (length heads)) q 0) head_last ∙ last (length heads) ∙ here
      ];
      before = λ q n q_in below. elim (cases_lt q i) [
        | inl earlier ↦
            let less : n < get_or numbers q 0 = subst (λ m. n < m) (old (length heads) q earlier) below in
            let n_in : n < length heads = let high = counted q earlier in omega arith in
            let at = are.before q n earlier less in let same = head_old n n_in in omega arith
        | inr not_earlier ↦
            let here : i ≡ q = omega arith in
            let less : n < length heads = subst (λ m. n < m) (ap (λ m. get_or (numbers' (length heads)) m 0) (sym here) ∙ last (length heads)) below in
            let at = are.state n less in let same = head_old n less in omega arith
      ];
    }
