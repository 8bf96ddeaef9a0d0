-- The flows of a block that predicates select.
use Rattle.std.proofs.Common.{◌≡◌, ◌≢◌, ◌∙◌, ℕ, ◌+◌, ◌<◌, ◌≤◌, List, [], ◌∷◌, ◌++◌, length, get_or, set, take, drop, Option, Some, IfSome, ◌⊎◌, ◌↔◌, inl, inr, arith, sym, ap, subst}
use Rattle.std.specs.List.{AllByRecursion}
use Rattle.std.proofs.lemmas.Bool.{cases_eq}
use Rattle.std.proofs.lemmas.List.{drop_more, drop_all, take_all, append-nil, length-set}
use Rattle.std.proofs.lemmas.List.Elements.{All-set}
use Rattle.rela_flows.specs.Selects.{Selects, SomeByRecursion}
use Rattle.rela_flows.specs.declared.predicate.Predicate.{Predicate}
use Rattle.rela_flows.specs.declared.predicate.Predicate.TheVariants as V
use Rattle.rela_plan.specs.declared.known.Known.{Known}
use Rattle.rela_plan.specs.Selection.{HasFlow, IsSelection, IsAnswer, AreKnown}
use Rattle.rela_plan.proofs.FlowBits.{no_bit, has_or_not}
use Rattle.rela_plan.proofs.Leaves.{SelectSame, selects_not, selects_and, selects_or}
use Rattle.rela_snapshot.specs.declared.pairing.FlowPair.{FlowPair}

-- what is answered of all flows of the block is their selection
pub all_answered : (block : List FlowPair) (p : Predicate) (asked flows : ℕ) → ((k : ℕ) → k < length block → HasFlow asked k)
    → IsAnswer block asked p flows → IsSelection block p flows
all_answered block p asked flows all right k d inside = (
  (λ h. ((right k d inside).0 h).1),
  (λ h. (right k d inside).1 (all k inside, h)),
)

-- ---- flows of a block, asked one after the other

-- of the flows that are asked and aren't left, those that the predicate selects; what is left is asked
pub record IsSofar (block : List FlowPair) (asked : ℕ) (p : Predicate) (left flows : ℕ) : Type 0 where
  pub left_asked : (k : ℕ) → k < 64 → HasFlow left k → HasFlow asked k
  pub right : (k : ℕ) (d : FlowPair) → k < length block →
      HasFlow flows k ↔ ((HasFlow asked k × (¬ HasFlow left k)) × Selects p (get_or block k d).class)

module _ (block : List FlowPair) (asked : ℕ) (p : Predicate) (left flows less place : ℕ) (few : length block ≤ 64) (low : place < 64)
    (member : HasFlow left place) (removed : ¬ HasFlow less place) (rest : (k : ℕ) → k < 64 → k ≢ place → HasFlow less k ↔ HasFlow left k)
    (sofar : IsSofar block asked p left flows) where
  less_asked : (k : ℕ) → k < 64 → HasFlow less k → HasFlow asked k
  less_asked k small h = elim (cases_eq k place) [
    | inl e ↦ absurd (removed (subst (HasFlow less) e h))
    | inr n ↦ sofar.left_asked k small ((rest k small n).0 h)
  ]

  pub one_sofar : (more : ℕ) → ((d : FlowPair) → place < length block → Selects p (get_or block place d).class)
      → HasFlow more place → ((k : ℕ) → k ≢ place → HasFlow more k ↔ HasFlow flows k) → IsSofar block asked p less more
  one_sofar more selects added others = record {
    left_asked = less_asked;
    right = λ k d inside. elim (cases_eq k place) [
      | inl e ↦ (
        (λ h. (
          (sofar.left_asked k (omega (arith, e, low)) (subst (HasFlow left) (sym e) member), (λ l. removed (subst (HasFlow less) e l))),
          subst (λ (j : ℕ). Selects p (get_or block j d).class) (sym e) (selects d (omega (arith, e, inside))),
        )),
        (λ h. subst (HasFlow more) (sym e) added),
      )
      | inr n ↦
          let same = rest k (omega (arith, inside, few)) n in (
            (λ h. let old = (sofar.right k d inside).0 ((others k n).0 h) in ((old.0.0, (λ l. old.0.1 (same.0 l))), old.1)),
            (λ h. (others k n).1 ((sofar.right k d inside).1 ((h.0.0, (λ l. h.0.1 (same.1 l))), h.1))),
          )
    ];
  }

  pub same_sofar : ((d : FlowPair) → place < length block → Selects p (get_or block place d).class → ⊥) → IsSofar block asked p less flows
  same_sofar fails = record {
    left_asked = less_asked;
    right = λ k d inside. elim (cases_eq k place) [
      | inl e ↦ (
        (λ h. let old = (sofar.right k d inside).0 h in absurd (old.0.1 (subst (HasFlow left) (sym e) member))),
        (λ h. absurd (fails d (omega (arith, e, inside)) (subst (λ (j : ℕ). Selects p (get_or block j d).class) e h.1))),
      )
      | inr n ↦
          let same = rest k (omega (arith, inside, few)) n in (
            (λ h. let old = (sofar.right k d inside).0 h in ((old.0.0, (λ l. old.0.1 (same.0 l))), old.1)),
            (λ h. (sofar.right k d inside).1 ((h.0.0, (λ l. h.0.1 (same.1 l))), h.1)),
          )
    ];
  }

pub all_sofar : (block : List FlowPair) (asked : ℕ) (p : Predicate) (left flows : ℕ) → ((k : ℕ) → ¬ HasFlow left k)
    → IsSofar block asked p left flows → IsAnswer block asked p flows
all_sofar block asked p left flows none sofar k d inside = (
  (λ h. let old = (sofar.right k d inside).0 h in (old.0.0, old.1)),
  (λ h. (sofar.right k d inside).1 ((h.0, none k), h.1)),
)

-- ---- what is known of leaves

pub known_more : (block : List FlowPair) (known : List (Option Known)) (place : ℕ) (one : Known) → AreKnown block known
    → IsAnswer block one.asked one.leaf.now one.flows → AreKnown block (set known place (Some one))
known_more block known place one are right = record {
  few = are.few;
  room = omega (arith, are.room, length-set known place (Some one));
  right = All-set (λ slot. IfSome slot (λ one. IsAnswer block one.asked one.leaf.now one.flows)) known place (Some one) right are.right;
}

pub known_at : (block : List FlowPair) (known : List (Option Known)) (place : ℕ) (d : Option Known) (one : Known) (leaf : Predicate) → AreKnown block known
    → place < length known → get_or known place d ≡ Some one → SelectSame one.leaf.now leaf → IsAnswer block one.asked leaf one.flows
known_at block known place d one leaf are within is same k pair inside =
    let right : IsAnswer block one.asked one.leaf.now one.flows =
    subst (λ (slot : Option Known). IfSome slot (λ one. IsAnswer block one.asked one.leaf.now one.flows)) is (are.right place d within) in
    let class = (get_or block k pair).class in (
      (λ h. let old = (right k pair inside).0 h in (old.0, (same class).0 old.1)),
      (λ h. (right k pair inside).1 (h.0, (same class).1 h.1)),
    )

-- the flows that were asked, and those that are asked now
pub joined : (block : List FlowPair) (p : Predicate) (old_asked old_flows missing own flows both : ℕ) → IsAnswer block old_asked p old_flows → IsAnswer block missing p own
    → ((k : ℕ) → HasFlow flows k ↔ (HasFlow old_flows k ⊎ HasFlow own k))
    → ((k : ℕ) → HasFlow both k ↔ (HasFlow old_asked k ⊎ HasFlow missing k)) → IsAnswer block both p flows
joined block p old_asked old_flows missing own flows both old new join join_asked k d inside = (
  (λ h. elim ((join k).0 h) [
    | inl one ↦ let is = (old k d inside).0 one in ((join_asked k).1 (inl is.0), is.1)
    | inr two ↦ let is = (new k d inside).0 two in ((join_asked k).1 (inr is.0), is.1)
  ]),
  (λ h. elim ((join_asked k).0 h.0) [
    | inl one ↦ (join k).1 (inl ((old k d inside).1 (one, h.1)))
    | inr two ↦ (join k).1 (inr ((new k d inside).1 (two, h.1)))
  ]),
)

-- of the flows of which it is known, those that are asked
pub asked_of : (block : List FlowPair) (p : Predicate) (old_asked asked missing both flows result : ℕ) → length block ≤ 64
    → ((k : ℕ) → k < 64 → HasFlow missing k ↔ (HasFlow asked k × (¬ HasFlow old_asked k)))
    → ((k : ℕ) → HasFlow both k ↔ (HasFlow old_asked k ⊎ HasFlow missing k)) → IsAnswer block both p flows
    → ((k : ℕ) → HasFlow result k ↔ (HasFlow flows k × HasFlow asked k)) → IsAnswer block asked p result
asked_of block p old_asked asked missing both flows result few lacks join right meet k d inside = (
  (λ h. let two = (meet k).0 h in (two.1, ((right k d inside).0 two.0).1)),
  (λ h. (meet k).1 (
    (right k d inside).1 (
      (join k).1 (elim (has_or_not old_asked k) [
        | inl known ↦ inl known
        | inr new ↦ inr ((lacks k (omega (arith, inside, few))).1 (h.0, new))
      ]),
      h.1,
    ),
    h.0,
  )),
)

-- what is written back into a vector is known
pub written_back : (block : List FlowPair) (items new : List (Option Known)) (n : ℕ) → length items ≡ n → length new ≡ n → AreKnown block new
    → AreKnown block (take n (new ++ drop (length new) items))
written_back block items new n long as_long are =
    let rest : drop (length new) items ≡ [] = drop_all (length new) items (omega (arith, long, as_long)) in
    let all : take n (new ++ drop (length new) items) ≡ new =
    ap (λ (xs : List (Option Known)). take n (new ++ xs)) rest ∙ ap (take n) (append-nil new) ∙ take_all n new (omega (arith, as_long)) in
    subst (AreKnown block) (sym all) are

-- ---- predicates with parts

pub answer_of_not : (block : List FlowPair) (p part : Predicate) (asked flows others : ℕ) → length block ≤ 64 → p ≡ V.Not part
    → IsAnswer block asked part flows → ((k : ℕ) → k < 64 → HasFlow others k ↔ (HasFlow asked k × (¬ HasFlow flows k))) → IsAnswer block asked p others
answer_of_not block p part asked flows others few is right bits k d inside =
    let class = (get_or block k d).class in
    let form : Selects p class ≡ (¬ Selects part class) = ap (λ (q : Predicate). Selects q class) is ∙ selects_not part class in
    let bit = bits k (omega (arith, few, inside)) in
    subst (λ (T : Type 0). HasFlow others k ↔ (HasFlow asked k × T)) (sym form) (
      (λ h. ((bit.0 h).0, (λ selected. (bit.0 h).1 ((right k d inside).1 ((bit.0 h).0, selected))))),
      (λ h. bit.1 (h.0, (λ own. h.1 ((right k d inside).0 own).1))),
    )

pub answer_of_and : (block : List FlowPair) (p : Predicate) (parts list : List Predicate) (asked flows : ℕ) → p ≡ V.And parts → list ≡ parts
    → ((k : ℕ) (d : FlowPair) → k < length block → HasFlow flows k ↔ (HasFlow asked k × AllByRecursion (λ q. Selects q (get_or block k d).class) list))
    → IsAnswer block asked p flows
answer_of_and block p parts list asked flows is same right k d inside =
    let class = (get_or block k d).class in
    let form : Selects p class ≡ AllByRecursion (λ q. Selects q class) list =
    ap (λ (q : Predicate). Selects q class) is ∙ selects_and parts class ∙ ap (λ (ps : List Predicate). AllByRecursion (λ q. Selects q class) ps) (sym same) in
    subst (λ (T : Type 0). HasFlow flows k ↔ (HasFlow asked k × T)) (sym form) (right k d inside)

pub answer_of_or : (block : List FlowPair) (p : Predicate) (parts list : List Predicate) (asked flows : ℕ) → p ≡ V.Or parts → list ≡ parts
    → ((k : ℕ) (d : FlowPair) → k < length block → HasFlow flows k ↔ (HasFlow asked k × SomeByRecursion (λ q. Selects q (get_or block k d).class) list))
    → IsAnswer block asked p flows
answer_of_or block p parts list asked flows is same right k d inside =
    let class = (get_or block k d).class in
    let form : Selects p class ≡ SomeByRecursion (λ q. Selects q class) list =
    ap (λ (q : Predicate). Selects q class) is ∙ selects_or parts class ∙ ap (λ (ps : List Predicate). SomeByRecursion (λ q. Selects q class) ps) (sym same) in
    subst (λ (T : Type 0). HasFlow flows k ↔ (HasFlow asked k × T)) (sym form) (right k d inside)

-- of the flows so far those that each part from the n-th on selects are those of the asked ones that all parts do
abbrev pub AllFrom : List FlowPair → List Predicate → ℕ → ℕ → ℕ → Type 0
AllFrom block parts asked n flows = (k : ℕ) (d : FlowPair) → k < length block →
    (HasFlow flows k × AllByRecursion (λ q. Selects q (get_or block k d).class) (drop n parts))
    ↔ (HasFlow asked k × AllByRecursion (λ q. Selects q (get_or block k d).class) parts)

pub all_from_more : (block : List FlowPair) (parts : List Predicate) (asked n flows own : ℕ) (part : Predicate) → part ≡ get_or parts n part → n < length parts
    → AllFrom block parts asked n flows → IsAnswer block flows part own → AllFrom block parts asked (n + 1) own
all_from_more block parts asked n flows own part is within from right k d inside =
    let class = (get_or block k d).class in
    let cut : drop n parts ≡ part ∷ drop (n + 1) parts =
    drop_more parts n part within ∙ ap (λ (q : Predicate). q ∷ drop (n + 1) parts) (sym is) in
    let opened : AllByRecursion (λ q. Selects q class) (drop n parts) ≡ (Selects part class × AllByRecursion (λ q. Selects q class) (drop (n + 1) parts)) =
    ap (λ (ps : List Predicate). AllByRecursion (λ q. Selects q class) ps) cut in
    let old : (HasFlow flows k × (Selects part class × AllByRecursion (λ q. Selects q class) (drop (n + 1) parts)))
    ↔ (HasFlow asked k × AllByRecursion (λ q. Selects q class) parts) =
    subst (λ (T : Type 0). (HasFlow flows k × T) ↔ (HasFlow asked k × AllByRecursion (λ q. Selects q class) parts)) opened (from k d inside) in (
      (λ h. let two = (right k d inside).0 h.0 in old.0 (two.0, (two.1, h.1))),
      (λ h. let three = old.1 h in ((right k d inside).1 (three.0, three.1.0), three.1.1)),
    )

pub none_from : (block : List FlowPair) (parts : List Predicate) (asked n flows : ℕ) → flows ≡ 0 → AllFrom block parts asked n flows
    → (k : ℕ) (d : FlowPair) → k < length block → HasFlow 0 k ↔ (HasFlow asked k × AllByRecursion (λ q. Selects q (get_or block k d).class) parts)
none_from block parts asked n flows none from k d inside = (
  (λ h. absurd (no_bit k h)),
  (λ h. subst (λ (w : ℕ). HasFlow w k) none (((from k d inside).1 h).0)),
)

pub all_from_end : (block : List FlowPair) (parts : List Predicate) (asked n flows : ℕ) → length parts ≤ n → AllFrom block parts asked n flows
    → (k : ℕ) (d : FlowPair) → k < length block → HasFlow flows k ↔ (HasFlow asked k × AllByRecursion (λ q. Selects q (get_or block k d).class) parts)
all_from_end block parts asked n flows past from k d inside =
    let class = (get_or block k d).class in
    let done : AllByRecursion (λ q. Selects q class) (drop n parts) ≡ Unit {0} =
    ap (λ (ps : List Predicate). AllByRecursion (λ q. Selects q class) ps) (drop_all n parts past) in
    let old : (HasFlow flows k × Unit {0}) ↔ (HasFlow asked k × AllByRecursion (λ q. Selects q class) parts) =
    subst (λ (T : Type 0). (HasFlow flows k × T) ↔ (HasFlow asked k × AllByRecursion (λ q. Selects q class) parts)) done (from k d inside) in
    ((λ h. old.0 (h, tt)), (λ h. (old.1 h).0))

-- the flows so far, and the asked ones that some part from the n-th on selects, are the asked ones that some part does
abbrev pub SomeFrom : List FlowPair → List Predicate → ℕ → ℕ → ℕ → Type 0
SomeFrom block parts asked n flows = (k : ℕ) (d : FlowPair) → k < length block →
    (HasFlow flows k ⊎ (HasFlow asked k × SomeByRecursion (λ q. Selects q (get_or block k d).class) (drop n parts)))
    ↔ (HasFlow asked k × SomeByRecursion (λ q. Selects q (get_or block k d).class) parts)

-- those that are left are asked, and aren't among the flows so far
abbrev pub AreLeft : ℕ → ℕ → ℕ → Type 0
AreLeft asked flows left = (k : ℕ) → k < 64 → HasFlow left k ↔ (HasFlow asked k × (¬ HasFlow flows k))

pub some_from_more : (block : List FlowPair) (parts : List Predicate) (asked n flows left own either : ℕ) (part : Predicate) → length block ≤ 64
    → part ≡ get_or parts n part → n < length parts → SomeFrom block parts asked n flows → AreLeft asked flows left → IsAnswer block left part own
    → ((k : ℕ) → HasFlow either k ↔ (HasFlow flows k ⊎ HasFlow own k)) → SomeFrom block parts asked (n + 1) either
some_from_more block parts asked n flows left own either part few is within from lacks right bits k d inside =
    let class = (get_or block k d).class in
    let low : k < 64 = omega (arith, inside, few) in
    let cut : drop n parts ≡ part ∷ drop (n + 1) parts =
    drop_more parts n part within ∙ ap (λ (q : Predicate). q ∷ drop (n + 1) parts) (sym is) in
    let opened : SomeByRecursion (λ q. Selects q class) (drop n parts) ≡ (Selects part class ⊎ SomeByRecursion (λ q. Selects q class) (drop (n + 1) parts)) =
    ap (λ (ps : List Predicate). SomeByRecursion (λ q. Selects q class) ps) cut in
    let old : (HasFlow flows k ⊎ (HasFlow asked k × (Selects part class ⊎ SomeByRecursion (λ q. Selects q class) (drop (n + 1) parts))))
    ↔ (HasFlow asked k × SomeByRecursion (λ q. Selects q class) parts) =
    subst (λ (T : Type 0). (HasFlow flows k ⊎ (HasFlow asked k × T)) ↔ (HasFlow asked k × SomeByRecursion (λ q. Selects q class) parts)) opened (from k d inside) in (
      (λ h. elim h [
        | inl bit ↦ elim ((bits k).0 bit) [
          | inl one ↦ old.0 (inl one)
          | inr two ↦ let is_own = (right k d inside).0 two in old.0 (inr (((lacks k low).0 is_own.0).0, inl is_own.1))
        ]
        | inr rest ↦ old.0 (inr (rest.0, inr rest.1))
      ]),
      (λ h. elim (old.1 h) [
        | inl one ↦ inl ((bits k).1 (inl one))
        | inr others ↦ elim others.1 [
          | inl two ↦ elim (has_or_not flows k) [
            | inl before ↦ inl ((bits k).1 (inl before))
            | inr new ↦ inl ((bits k).1 (inr ((right k d inside).1 ((lacks k low).1 (others.0, new), two))))
          ]
          | inr rest ↦ inr (others.0, rest)
        ]
      ]),
    )

-- where none is left, the flows so far are all
pub none_left : (block : List FlowPair) (parts : List Predicate) (asked n flows left : ℕ) → length block ≤ 64 → left ≡ 0
    → SomeFrom block parts asked n flows → AreLeft asked flows left
    → (k : ℕ) (d : FlowPair) → k < length block → HasFlow flows k ↔ (HasFlow asked k × SomeByRecursion (λ q. Selects q (get_or block k d).class) parts)
none_left block parts asked n flows left few none from lacks k d inside = (
  (λ h. (from k d inside).0 (inl h)),
  (λ h. elim (has_or_not flows k) [
    | inl before ↦ before
    | inr new ↦ absurd (no_bit k (subst (λ (w : ℕ). HasFlow w k) none ((lacks k (omega (arith, inside, few))).1 (h.0, new))))
  ]),
)

pub some_from_end : (block : List FlowPair) (parts : List Predicate) (asked n flows : ℕ) → length parts ≤ n → SomeFrom block parts asked n flows
    → (k : ℕ) (d : FlowPair) → k < length block → HasFlow flows k ↔ (HasFlow asked k × SomeByRecursion (λ q. Selects q (get_or block k d).class) parts)
some_from_end block parts asked n flows past from k d inside =
    let class = (get_or block k d).class in
    let done : SomeByRecursion (λ q. Selects q class) (drop n parts) ≡ ⊥ =
    ap (λ (ps : List Predicate). SomeByRecursion (λ q. Selects q class) ps) (drop_all n parts past) in
    let old : (HasFlow flows k ⊎ (HasFlow asked k × ⊥)) ↔ (HasFlow asked k × SomeByRecursion (λ q. Selects q class) parts) =
    subst (λ (T : Type 0). (HasFlow flows k ⊎ (HasFlow asked k × T)) ↔ (HasFlow asked k × SomeByRecursion (λ q. Selects q class) parts)) done (from k d inside) in (
      (λ h. old.0 (inl h)),
      (λ h. elim (old.1 h) [
        | inl bit ↦ bit
        | inr none ↦ absurd none.1
      ]),
    )
