-- States that are marked one after the other.
use Rattle.std.proofs.Common.{◌≡◌, ℕ, ◌+◌, ◌<◌, ◌≤◌, ◌⊎◌, Bool, true, false, List, [], ◌∷◌, ◌++◌, length, get_or, set, take, refl, sym, ap, ◌∙◌, subst, inl, inr, arith}
use Rattle.std.specs.List.{All, Contains}
use Rattle.std.proofs.lemmas.Bool.{cases_eq, cases_lt}
use Rattle.std.proofs.lemmas.List.{get_or-map, get_or-set_other, get_or-set_same, length-set, take-append-le, take_all, take_more}
use Rattle.std.proofs.lemmas.List.Elements.{All-push, Contains-append_left, Contains-push, Contains-push_cases}
use Rattle.std.specs.declared.vec.Vec.{Vec}
use Rattle.rela_minimise.specs.Refining.{Marks, PrecedesNew, is_stale}
use Rattle.rela_minimise.specs.Stored.{lists_of}

pub none_among : (q : ℕ) → ¬ Contains [] q
none_among q among = omega (arith, among.1)

pub marks_none : (P : ℕ → Type 0) (stale : List Bool) (waiting : List ℕ) → ((q : ℕ) → ¬ P q) → Marks P stale waiting stale waiting
marks_none P stale waiting none = record {
  each = refl;
  kept = λ q marked. marked;
  marked = λ q holds. absurd (none q holds);
  listed = λ before. before;
  states = λ within. within;
}

-- first the states of P, then those of Q
pub marks_both : (P Q R : ℕ → Type 0) (stale : List Bool) (waiting : List ℕ) (stale' : List Bool) (waiting' : List ℕ) (stale'' : List Bool) (waiting'' : List ℕ) → Marks P stale waiting stale' waiting' → Marks Q stale' waiting' stale'' waiting''
    → ((q : ℕ) → R q → P q ⊎ Q q) → Marks R stale waiting stale'' waiting''
marks_both P Q R stale waiting stale' waiting' stale'' waiting'' first second covers = record {
  each = second.each ∙ first.each;
  kept = λ q was. second.kept q (first.kept q was);
  marked = λ q holds. elim (covers q holds) [
    | inl in_first ↦ second.kept q (first.marked q in_first)
    | inr in_second ↦ second.marked q in_second
  ];
  listed = λ before. second.listed (first.listed before);
  states = λ within. second.states (first.states within);
}

pub marks_fewer : (P R : ℕ → Type 0) (stale : List Bool) (waiting : List ℕ) (stale' : List Bool) (waiting' : List ℕ) → Marks P stale waiting stale' waiting' → ((q : ℕ) → R q → P q) → Marks R stale waiting stale' waiting'
marks_fewer P R stale waiting stale' waiting' marks covers = record {
  each = marks.each;
  kept = marks.kept;
  marked = λ q holds. marks.marked q (covers q holds);
  listed = marks.listed;
  states = marks.states;
}

-- a state that was stale
pub marks_again : (q : ℕ) (stale : List Bool) (waiting : List ℕ) → is_stale stale q ≡ true → Marks (λ p. p ≡ q) stale waiting stale waiting
marks_again q stale waiting was = record {
  each = refl;
  kept = λ p marked. marked;
  marked = λ p here. ap (is_stale stale) here ∙ was;
  listed = λ before. before;
  states = λ within. within;
}

pub marks_one : (q : ℕ) (stale : List Bool) (waiting : List ℕ) (waiting' : List ℕ) → q < length stale → waiting' ≡ waiting ++ q ∷ [] → Marks (λ p. p ≡ q) stale waiting (set stale q true) waiting'
marks_one q stale waiting waiting' below pushed =
    let size = length-set stale q true in
    let here : is_stale (set stale q true) q ≡ true = get_or-set_same stale q true false below in
    record {
      each = size;
      kept = λ p was. elim (cases_eq p q) [
        | inl same ↦ ap (is_stale (set stale q true)) same ∙ here
        | inr other ↦ get_or-set_other stale q p true false other ∙ was
      ];
      marked = λ p same. ap (is_stale (set stale q true)) same ∙ here;
      listed = λ before p is. subst (λ l. Contains l p) (sym pushed) (elim (cases_eq p q) [
        | inl same ↦ subst (Contains (waiting ++ q ∷ [])) (sym same) (Contains-push waiting q)
        | inr other ↦ Contains-append_left waiting (q ∷ []) p (before p (sym (get_or-set_other stale q p true false other) ∙ is))
      ]);
      states = λ within. subst (λ l. All (λ p. p < length (set stale q true)) l) (sym pushed)
          (subst (λ n. All (λ p. p < n) (waiting ++ q ∷ [])) (sym size) (All-push (λ p. p < length stale) waiting q within below));
    }

-- one element of a list more
pub in_take : (states : List ℕ) (i q : ℕ) → i < length states → Contains (take (i + 1) states) q → Contains (take i states) q ⊎ (q ≡ get_or states i 0)
in_take states i q below among =
    elim (Contains-push_cases (take i states) (get_or states i 0) q (subst (λ l. Contains l q) (take_more states i 0 below) among)) [
      | inl earlier ↦ inl earlier
      | inr last ↦ inr (sym last)
    ]

-- a list that was read is one of the lists
pub list_read : {A : Type 0} (lists : List (Vec ℕ A)) (i : ℕ) (v : Vec ℕ A) (read : List ℕ) → i < length lists → v ≡ get_or lists i v → read ≡ v.items → read ≡ get_or (lists_of lists) i []
list_read lists i v read below at is = is ∙ ap (λ (u : Vec ℕ _). u.items) at ∙ sym (get_or-map (λ (u : Vec ℕ _). u.items) lists i v [] below)

-- the state is in the list of one of the states
abbrev pub PrecedesOne : List (List ℕ) → List ℕ → ℕ → Type 0
PrecedesOne lists states p = (q : ℕ) × Contains states q × Contains (get_or lists q []) p

pub one_more : (lists : List (List ℕ)) (states : List ℕ) (i : ℕ) (read : List ℕ) → i < length states → read ≡ get_or lists (get_or states i 0) []
    → (p : ℕ) → PrecedesOne lists (take (i + 1) states) p → PrecedesOne lists (take i states) p ⊎ Contains read p
one_more lists states i read below is p (q, among, precedes) = elim (in_take states i q below among) [
  | inl earlier ↦ inl (q, earlier, precedes)
  | inr last ↦ inr (subst (λ l. Contains l p) (sym is) (subst (λ n. Contains (get_or lists n []) p) last precedes))
]

pub one_none : (lists : List (List ℕ)) (states : List ℕ) (p : ℕ) → ¬ PrecedesOne lists (take 0 states) p
one_none lists states p (q, among, precedes) = none_among q among

pub new_more : (lists members : List (List ℕ)) (first i : ℕ) (read : List ℕ) → read ≡ get_or members i [] → (p : ℕ) → PrecedesNew lists members first (i + 1) p → PrecedesNew lists members first i p ⊎ PrecedesOne lists read p
new_more lists members first i read is p (c, from, below, (q, among, precedes)) = elim (cases_lt c i) [
  | inl earlier ↦ inl (c, from, earlier, (q, among, precedes))
  | inr not_earlier ↦ let here : c ≡ i = omega arith in inr (q, subst (λ l. Contains l q) (sym is) (subst (λ n. Contains (get_or members n []) q) here among), precedes)
]

-- where the classes begin past the end, none precedes a new one; and else those before the end are all
pub new_all : (lists members : List (List ℕ)) (first i end : ℕ) → end ≤ i → (p : ℕ) → PrecedesNew lists members first end p → PrecedesNew lists members first i p
new_all lists members first i end all p (c, from, below, (q, among, precedes)) = (c, from, omega arith, (q, among, precedes))

-- marks as they are read of the fields
pub marks_read : (lists lists_now members members_now : List (List ℕ)) (first first_now end end_now : ℕ) (stale stale_now : List Bool) (waiting waiting_now : List ℕ) (stale' : List Bool) (waiting' : List ℕ)
    → lists_now ≡ lists → members_now ≡ members → first_now ≡ first → end_now ≡ end → stale_now ≡ stale → waiting_now ≡ waiting
    → Marks (PrecedesNew lists_now members_now first_now end_now) stale_now waiting_now stale' waiting' → Marks (PrecedesNew lists members first end) stale waiting stale' waiting'
marks_read lists lists_now members members_now first first_now end end_now stale stale_now waiting waiting_now stale' waiting' lists_is members_is first_is end_is stale_is waiting_is marks =
    subst (λ ls. Marks (PrecedesNew ls members first end) stale waiting stale' waiting') lists_is
    (subst (λ ms. Marks (PrecedesNew lists_now ms first end) stale waiting stale' waiting') members_is
    (subst (λ n. Marks (PrecedesNew lists_now members_now n end) stale waiting stale' waiting') first_is
    (subst (λ n. Marks (PrecedesNew lists_now members_now first_now n) stale waiting stale' waiting') end_is
    (subst (λ st. Marks (PrecedesNew lists_now members_now first_now end_now) st waiting stale' waiting') stale_is
    (subst (λ ws. Marks (PrecedesNew lists_now members_now first_now end_now) stale_now ws stale' waiting') waiting_is marks)))))

pub kept_flags : (n : ℕ) (xs ys : List Bool) → length xs ≡ n → take n (xs ++ ys) ≡ xs
kept_flags n xs ys each = take-append-le n xs ys (omega arith) ∙ take_all n xs (omega arith)
