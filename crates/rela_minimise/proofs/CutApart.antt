-- Classes that are split by columns.
use Rattle.std.proofs.Common.{◌≡◌, ℕ, ◌+◌, ◌-◌, ◌<◌, ◌↔◌, true, List, [], ◌∷◌, ◌++◌, length, get_or, replicate, Option, None, Some, refl, sym, ap, ◌∙◌, subst, inl, inr, arith}
use Rattle.std.specs.List.{All}
use Rattle.std.proofs.lemmas.Bool.{cases_lt}
use Rattle.std.proofs.lemmas.List.{get_or-replicate, get_or_append_left, get_or_default, get_or_past, get_or_push, length_push}
use Rattle.std.proofs.lemmas.List.Elements.{All-get_or, All-head, All-tail}
use Rattle.rela_labels.specs.Letters.{has}
use Rattle.rela_subset.specs.Deterministic.{Deterministic, IsDeterministic, IsFinal, IsOver, led_from, next, states}
use Rattle.rela_minimise.specs.Classes.{AreClasses, finality}
use Rattle.rela_minimise.specs.Cutting.{AreApart, AreCoarse, AreCounted, GoesTo, IsCut, IsCutting, IsParted, IsPassed, LeadTogether, no_pair}
use Rattle.rela_minimise.specs.Refining.{AreColumns, IsColumn, IsMap}
use Rattle.rela_minimise.specs.declared.class_pairs.ClassPair.{ClassPair}
use Rattle.rela_minimise.proofs.Alike.{accept_next, truth_same}
use Rattle.rela_minimise.proofs.LetterTargets.{next_within}

-- no state has gone yet
pub cutting_none : (column : List ℕ) (count : ℕ) (classes : List ℕ) (firsts : List (Option ℕ)) (pairs : List ClassPair) (parts : List ℕ) → firsts ≡ replicate count None → pairs ≡ [] → parts ≡ []
    → length (replicate {A = Option ℕ} count None) ≡ count → IsCutting column count classes 0 firsts pairs parts
cutting_none column count classes firsts pairs parts all_none none empty long = record {
  each = ap length empty;
  opened = ap length all_none ∙ long;
  goes = λ q below. absurd (omega arith);
  first = λ c. inl (ap (λ (l : List (Option ℕ)). get_or l c None) all_none ∙ none_at c);
  used = λ j below. absurd (omega (arith, below, ap length none));
}
  where
    none_at : (c : ℕ) → get_or (replicate {A = Option ℕ} count None) c None ≡ None
    none_at c = elim (cases_lt c count) [
      | inl below ↦ get_or-replicate count c None None below
      | inr past ↦ get_or_past (replicate {A = Option ℕ} count None) c None (omega (arith, past, long))
    ]

-- where a state goes is still so when others have gone
still_goes : (class onto part class' part' : ℕ) (firsts firsts' : List (Option ℕ)) (pairs pairs' : List ClassPair) → IsParted class' part' firsts pairs firsts' pairs' → GoesTo firsts pairs class onto part → GoesTo firsts' pairs' class onto part
still_goes class onto part class' part' firsts firsts' pairs pairs' moved (inl (at, stays)) = inl (moved.firsts_kept class onto at, stays)
still_goes class onto part class' part' firsts firsts' pairs pairs' moved (inr (first, at, differ, (j, below, is, to))) =
    inr (first, moved.firsts_kept class first at, differ, (j, (let longer = moved.longer in omega arith), moved.pairs_kept j below ∙ is, to ∙ ap (λ n. n + j) (sym moved.each)))

pub cutting_more : (column : List ℕ) (count : ℕ) (classes : List ℕ) (i : ℕ) (firsts firsts' : List (Option ℕ)) (pairs pairs' : List ClassPair) (parts parts' : List ℕ) (part : ℕ)
    → IsCutting column count classes i firsts pairs parts → GoesTo firsts' pairs' (get_or classes i 0) (get_or classes (get_or column i 0) 0) part
    → IsParted (get_or classes i 0) part firsts pairs firsts' pairs' → parts' ≡ parts ++ part ∷ [] → IsCutting column count classes (i + 1) firsts' pairs' parts'
cutting_more column count classes i firsts firsts' pairs pairs' parts parts' part is goes moved pushed = record {
  each = ap length pushed ∙ length_push parts part ∙ ap (λ n. n + 1) is.each;
  opened = moved.each ∙ is.opened;
  goes = λ q below. elim (cases_lt q i) [
    | inl less ↦ subst (GoesTo firsts' pairs' (get_or classes q 0) (get_or classes (get_or column q 0) 0)) (sym (stays q less)) (still_goes (get_or classes q 0) (get_or classes (get_or column q 0) 0) (get_or parts q 0) (get_or classes i 0) part firsts firsts' pairs pairs' moved (is.goes q less))
    | inr not_less ↦
        let same : i ≡ q = omega arith in
        subst (λ n. GoesTo firsts' pairs' (get_or classes n 0) (get_or classes (get_or column n 0) 0) (get_or parts' n 0)) same (subst (GoesTo firsts' pairs' (get_or classes i 0) (get_or classes (get_or column i 0) 0)) (sym last) goes)
  ];
  first = λ c. elim (moved.firsts_new c) [
    | inl old ↦ elim (is.first c) [
      | inl none ↦ inl (old ∙ none)
      | inr (q, below, at) ↦ inr (q, omega arith, stays q below ∙ at)
    ]
    | inr new ↦ inr (i, omega arith, last ∙ new)
  ];
  used = λ j below. elim (moved.pairs_new j below) [
    | inl old ↦ let (q, less, at) = is.used j old in (q, omega arith, stays q less ∙ at)
    | inr new ↦ (i, omega arith, last ∙ new ∙ ap (λ n. n + j) (moved.each ∙ is.opened))
  ];
}
  where
    stays : (q : ℕ) → q < i → get_or parts' q 0 ≡ get_or parts q 0
    stays q less = ap (λ l. get_or l q 0) pushed ∙ get_or_append_left parts (part ∷ []) 0 q (let each = is.each in omega arith)

    last : get_or parts' i 0 ≡ part
    last = ap (λ l. get_or l i 0) pushed ∙ get_or_push parts part 0 i is.each

-- the part is the class, or past all classes
module _ (n : ℕ) (column : List ℕ) (count : ℕ) (classes : List ℕ) (firsts : List (Option ℕ)) (pairs : List ClassPair) (parts : List ℕ) (old : AreCounted n count classes) (apart : AreApart pairs)
    (is : IsCutting column count classes n firsts pairs parts) where
  abbrev onto : ℕ → ℕ
  onto q = get_or classes (get_or column q 0) 0

  one_place : (i j : ℕ) → i < length pairs → j < length pairs → get_or pairs i no_pair ≡ get_or pairs j no_pair → i ≡ j
  one_place i j i_in j_in same = elim (cases_lt i j) [
    | inl below ↦ absurd (apart i j no_pair below j_in same)
    | inr not_below ↦ elim (cases_lt j i) [ inl above ↦ absurd (apart j i no_pair above i_in (sym same)) | inr not_above ↦ omega arith ]
  ]

  pair_is : (j a b c e : ℕ) → get_or pairs j no_pair ≡ record { class = a; onto = b } → get_or pairs j no_pair ≡ record { class = c; onto = e } → (a ≡ c) × (b ≡ e)
  pair_is j a b c e one two =
      let same : ◌≡◌ {A = ClassPair} (record { class = a; onto = b }) (record { class = c; onto = e }) = sym one ∙ two in
      (ap (λ (x : ClassPair). x.class) same, ap (λ (x : ClassPair). x.onto) same)

  one_first : (c a b : ℕ) → get_or firsts c None ≡ Some a → get_or firsts c None ≡ Some b → a ≡ b
  one_first c a b one two = let same : Some a ≡ Some b = sym one ∙ two in cc

  parts_same : (p q a b : ℕ) → p < n → q < n → GoesTo firsts pairs (get_or classes p 0) (onto p) a → GoesTo firsts pairs (get_or classes q 0) (onto q) b → a ≡ b
      → (get_or classes p 0 ≡ get_or classes q 0) × (onto p ≡ onto q)
  parts_same p q a b p_in q_in (inl (p_at, p_stays)) (inl (q_at, q_stays)) same =
      let class : get_or classes p 0 ≡ get_or classes q 0 = sym p_stays ∙ same ∙ q_stays in
      (class, one_first (get_or classes q 0) (onto p) (onto q) (sym (ap (λ c. get_or firsts c None) class) ∙ p_at) q_at)
  parts_same p q a b p_in q_in (inl (p_at, p_stays)) (inr (first, q_at, differ, (j, below, q_is, to))) same =
      absurd (let counted = old.counted p p_in in let opens = is.opened in omega arith)
  parts_same p q a b p_in q_in (inr (first, p_at, differ, (j, below, p_is, to))) (inl (q_at, q_stays)) same =
      absurd (let counted = old.counted q q_in in let opens = is.opened in omega arith)
  parts_same p q a b p_in q_in (inr (first, p_at, differ, (i, i_in, p_is, p_to))) (inr (first', q_at, differ', (j, j_in, q_is, q_to))) same =
      let place : i ≡ j = omega arith in
      pair_is j (get_or classes p 0) (onto p) (get_or classes q 0) (onto q) (sym (ap (λ m. get_or pairs m no_pair) place) ∙ p_is) q_is

  same_parts : (p q a b : ℕ) → GoesTo firsts pairs (get_or classes p 0) (onto p) a → GoesTo firsts pairs (get_or classes q 0) (onto q) b → get_or classes p 0 ≡ get_or classes q 0 → onto p ≡ onto q → a ≡ b
  same_parts p q a b (inl (p_at, p_stays)) (inl (q_at, q_stays)) class to = p_stays ∙ class ∙ sym q_stays
  same_parts p q a b (inl (p_at, p_stays)) (inr (first, q_at, differ, q_goes)) class to =
      absurd (differ (one_first (get_or classes q 0) first (onto q) q_at (sym (ap (λ c. get_or firsts c None) class) ∙ p_at ∙ ap Some to)))
  same_parts p q a b (inr (first, p_at, differ, p_goes)) (inl (q_at, q_stays)) class to =
      absurd (differ (one_first (get_or classes p 0) first (onto p) p_at (ap (λ c. get_or firsts c None) class ∙ q_at ∙ ap Some (sym to))))
  same_parts p q a b (inr (first, p_at, differ, (i, i_in, p_is, p_to))) (inr (first', q_at, differ', (j, j_in, q_is, q_to))) class to =
      let pair : ◌≡◌ {A = ClassPair} (record { class = get_or classes p 0; onto = onto p }) (record { class = get_or classes q 0; onto = onto q }) = (λ k. record { class = class k; onto = to k }) in
      p_to ∙ ap (λ m. length firsts + m) (one_place i j i_in j_in (p_is ∙ pair ∙ sym q_is)) ∙ sym q_to

  -- a class has a first state
  has_first : (q : ℕ) → q < n → ¬ (get_or firsts (get_or classes q 0) None ≡ None)
  has_first q below none = which (is.goes q below)
    where
      which : GoesTo firsts pairs (get_or classes q 0) (onto q) (get_or parts q 0) → ⊥
      which (inl (at, stays)) = let never : None ≡ Some (onto q) = sym none ∙ at in absurd (cc)
      which (inr (first, at, differ, goes)) = let never : None ≡ Some first = sym none ∙ at in absurd (cc)

  stays_low : (q : ℕ) (part : ℕ) → GoesTo firsts pairs (get_or classes q 0) (onto q) part → length pairs ≡ 0 → (part ≡ get_or classes q 0) × (get_or firsts (get_or classes q 0) None ≡ Some (onto q))
  stays_low q part (inl (at, stays)) none = (stays, at)
  stays_low q part (inr (first, at, differ, (j, below, pair, to))) none = absurd (omega (arith, below, none))

  part_low : (q : ℕ) (part : ℕ) → q < n → GoesTo firsts pairs (get_or classes q 0) (onto q) part → part < count + length pairs
  part_low q part below (inl (at, stays)) = let counted = old.counted q below in omega arith
  part_low q part below (inr (first, at, differ, (j, j_in, pair, to))) = let opens = is.opened in omega arith

  pub cutting_all : (count' : ℕ) → count' ≡ count + length pairs → IsCut n column count classes count' parts
  cutting_all count' total = record {
    counted = record {
      each = is.each;
      counted = λ q below. let low = part_low q (get_or parts q 0) below (is.goes q below) in omega arith;
      met = λ c below. elim (cases_lt c count) [
        | inl old_class ↦
            let (q, q_in, at) = old.met c old_class in
            elim (is.first c) [
              | inl none ↦ absurd (has_first q q_in (ap (λ m. get_or firsts m None) at ∙ none))
              | inr found ↦ found
            ]
        | inr new ↦
            let j_is : c ≡ count + (c - count) = omega arith in
            let (q, q_in, at) = is.used (c - count) (omega arith) in
            (q, q_in, at ∙ sym j_is)
      ];
    };
    grown = omega arith;
    within = λ p q p_in q_in same. (parts_same p q (get_or parts p 0) (get_or parts q 0) p_in q_in (is.goes p p_in) (is.goes q q_in) same).0;
    together = λ p q p_in q_in class to. same_parts p q (get_or parts p 0) (get_or parts q 0) (is.goes p p_in) (is.goes q q_in) class to;
    same = λ none.
        let empty : length pairs ≡ 0 = omega arith in (
          λ q below. (stays_low q (get_or parts q 0) (is.goes q below) empty).0,
          λ p q p_in q_in class. one_first (get_or classes q 0) (onto p) (onto q) (sym (ap (λ c. get_or firsts c None) class) ∙ (stays_low p (get_or parts p 0) (is.goes p p_in) empty).1) (stays_low q (get_or parts q 0) (is.goes q q_in) empty).1,
        );
  }

-- no column has split the classes yet
pub passed_none : (n : ℕ) (columns : List (List ℕ)) (count : ℕ) (classes : List ℕ) → AreCounted n count classes → IsPassed n columns 0 count classes count classes
passed_none n columns count classes counted = record {
  counted = counted;
  grown = omega arith;
  coarse = λ d len ok are coarse. coarse;
  same = λ none. (λ q below. refl, λ j below. absurd (omega arith));
}

-- where a column splits classes that are coarse, they still are
cut_coarse : (d : Deterministic) (k : ℕ) (column : List ℕ) (count : ℕ) (classes : List ℕ) (count' : ℕ) (classes' : List ℕ) → IsDeterministic d → has d.over k ≡ true → IsColumn d k column → AreCoarse d count classes
    → IsCut (states d) column count classes count' classes' → AreCoarse d count' classes'
cut_coarse d k column count classes count' classes' ok over is coarse cut = record {
  counted = cut.counted;
  accepting = λ p q p_in q_in same.
      let class = coarse.accepting p q p_in q_in same in
      let onto = coarse.accepting (next d p k) (next d q k) (next_within d ok p k p_in over) (next_within d ok q k q_in over) (accept_next d p q k over same) in
      cut.together p q p_in q_in class (ap (λ m. get_or classes m 0) (is.leads p p_in) ∙ onto ∙ ap (λ m. get_or classes m 0) (sym (is.leads q q_in)));
  final = λ p q p_in q_in same. coarse.final p q p_in q_in (cut.within p q p_in q_in same);
}

-- classes as these lead together where these do
together_as : (n : ℕ) (column classes classes' : List ℕ) → IsMap n column → ((q : ℕ) → q < n → get_or classes' q 0 ≡ get_or classes q 0) → LeadTogether n classes' column → LeadTogether n classes column
together_as n column classes classes' is same together p q p_in q_in class =
    let onto = λ (m : ℕ) (m_in : m < n). let at : get_or column m 0 < n = All-get_or (λ r. r < n) column m 0 (let each = is.each in omega arith) is.within in at in
    sym (same (get_or column p 0) (onto p p_in)) ∙ together p q p_in q_in (same p p_in ∙ class ∙ sym (same q q_in)) ∙ same (get_or column q 0) (onto q q_in)

pub passed_more : (n : ℕ) (columns : List (List ℕ)) (i count : ℕ) (classes : List ℕ) (count' : ℕ) (classes' : List ℕ) (count'' : ℕ) (classes'' : List ℕ) → All (IsMap n) columns → i < length columns
    → IsPassed n columns i count classes count' classes' → IsCut n (get_or columns i []) count' classes' count'' classes'' → IsPassed n columns (i + 1) count classes count'' classes''
passed_more n columns i count classes count' classes' count'' classes'' maps below is cut = record {
  counted = cut.counted;
  grown = let before = is.grown in let after = cut.grown in omega arith;
  coarse = λ d len ok are coarse.
      let (k, over, column) = are.own i [] below in
      cut_coarse d k (get_or columns i []) count' classes' count'' classes'' ok over column (is.coarse d len ok are coarse) (subst (λ m. IsCut m (get_or columns i []) count' classes' count'' classes'') len cut);
  same = λ none.
      let before = is.grown in
      let after = cut.grown in
      let (old, earlier) = is.same (omega arith) in
      let (new, last) = cut.same (omega arith) in (
        λ q q_in. new q q_in ∙ old q q_in,
        λ j j_in. elim (cases_lt j i) [
          | inl less ↦ earlier j less
          | inr not_less ↦
              let at : i ≡ j = omega arith in
              subst (λ m. LeadTogether n classes (get_or columns m [])) at (together_as n (get_or columns i []) classes classes' (maps i [] below) old last)
        ],
      );
}

module _ (d : Deterministic) (ok : IsDeterministic d) (columns : List (List ℕ)) (are : AreColumns d columns) (count : ℕ) (classes : List ℕ) (coarse : AreCoarse d count classes)
    (together : (j : ℕ) → j < length columns → LeadTogether (states d) classes (get_or columns j [])) where
  next_together : (p q k : ℕ) → p < states d → q < states d → has d.over k ≡ true → get_or classes p 0 ≡ get_or classes q 0 → get_or classes (next d p k) 0 ≡ get_or classes (next d q k) 0
  next_together p q k p_in q_in over same =
      let (column, (j, below, at), is) = are.each k over in
      let leads = subst (λ c. LeadTogether (states d) classes c) (get_or_default columns j [] column below ∙ at) (together j below) in
      ap (λ m. get_or classes m 0) (sym (is.leads p p_in)) ∙ leads p q p_in q_in same ∙ ap (λ m. get_or classes m 0) (is.leads q q_in)

  one_class : (word : List ℕ) (p q : ℕ) → p < states d → q < states d → get_or classes p 0 ≡ get_or classes q 0 → IsOver d.over word → IsFinal d (led_from d p word) ↔ IsFinal d (led_from d q word)
  one_class [] p q p_in q_in same over = truth_same (finality d p) (finality d q) (coarse.final p q p_in q_in same)
  one_class (k ∷ rest) p q p_in q_in same over =
      let read : has d.over k ≡ true = All-head (λ j. has d.over j ≡ true) k rest over in
      one_class rest (next d p k) (next d q k) (next_within d ok p k p_in read) (next_within d ok q k q_in read) (next_together p q k p_in q_in read same) (All-tail (λ j. has d.over j ≡ true) k rest over)

  -- coarse classes that no column splits are those of states that accept the same words
  pub coarse_classes : AreClasses d count classes
  coarse_classes = record {
    each = coarse.counted.each;
    alike = λ p q p_in q_in. (λ same word over. one_class word p q p_in q_in same over, coarse.accepting p q p_in q_in);
    counted = coarse.counted.counted;
    met = coarse.counted.met;
  }

-- a pass that finds no new class leaves such classes
pub passed_classes : (d : Deterministic) (columns : List (List ℕ)) (n : ℕ) (count : ℕ) (classes : List ℕ) (count' : ℕ) (classes' : List ℕ) → IsDeterministic d → AreColumns d columns → n ≡ states d → AreCoarse d count classes
    → IsPassed n columns (length columns) count classes count' classes' → count' ≡ count → AreClasses d count' classes'
passed_classes d columns n count classes count' classes' ok are len coarse is none =
    let coarse' = is.coarse d len ok are coarse in
    let (same, together) = is.same none in
    let same_at = λ (q : ℕ) (below : q < states d). let at : get_or classes q 0 ≡ get_or classes' q 0 = sym (same q (omega (arith, below, len))) in at in
    coarse_classes d ok columns are count' classes' coarse' (λ j below.
    together_as (states d) (get_or columns j []) classes' classes (are.maps j [] below) same_at
    (subst (λ m. LeadTogether m classes (get_or columns j [])) len (together j below)))
