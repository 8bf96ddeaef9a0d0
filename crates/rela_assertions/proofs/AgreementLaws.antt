-- Right rows of the same assertions for the same flows agree.
use Rattle.std.proofs.Common.{◌≡◌, ◌≢◌, ◌⊎◌, ◌∙◌, ℕ, nat_eq, inl, inr, List, [], ◌∷◌, ◌++◌, map, refl, sym, ap, subst, append_assoc}
use Rattle.std.specs.Prelude.{◌↔◌}
use Rattle.std.specs.Cmp.Lexicographic.{other_text, pointwise, same_text}
use Rattle.std.specs.List.{AllZip}
use Rattle.std.proofs.lemmas.Bool.{cases_Bool}
use Rattle.rela_claims.specs.declared.claim.Claim.{Claim}
use Rattle.rela_claims.specs.declared.claim.Tree.{Tree}
use Rattle.rela_claims.specs.declared.claim.Tree.TheOpen as T
use Rattle.rela_claims.specs.declared.claim.Tree.TheViews.{roll-Tree}
use Rattle.rela_claims.specs.declared.claim.Tree.TheFolds.{ind-Tree, map-Tree}
use Rattle.rela_compare.specs.declared.verdict.Which.{Which}
use Rattle.rela_compare.specs.declared.verdict.Which.TheVariants as side
use Rattle.rela_engine.specs.Leaves.{LeafOf, term_on, value_of}
use Rattle.rela_blocks.specs.Scenes.{paths_of}
use Rattle.rela_engine.specs.Scenes.{SamePathSets}
use Rattle.rela_engine.specs.declared.leaf.Leaf.{Leaf}
use Rattle.rela_engine.specs.declared.leaf.Leaf.TheVariants.{Holds, Fails, Undecided}
use Rattle.rela_names.specs.Shortlex.{First, IsBefore}
use Rattle.rela_names.specs.declared.level.Level.{Level}
use Rattle.rela_rir.specs.Assertions.{FailsBy, HoldsOnPaths, TellsAgainst, both_of, either_of, first_term, opposite_of, second_term}
use Rattle.rela_rir.specs.Meaning.{In}
use Rattle.rela_rir.specs.Places.{Scene}
use Rattle.rela_rir.specs.declared.assertion.Assertion.{Assertion}
use Rattle.rela_rir.specs.declared.assertion.Assertion.TheVariants.{Equal, Included}
use Rattle.rela_rir.specs.declared.set.SymbolSet.{SymbolSet}
use Rattle.rela_rir.specs.declared.term.PathTerm.{PathTerm}
use Rattle.rela_rir.specs.declared.value.Value.{Value}
use Rattle.rela_rir.specs.declared.value.Value.TheVariants as V
use Rattle.rela_snapshot.specs.declared.pairing.FlowPair.{FlowPair}
use Rattle.rela_assertions.specs.Agreement.{AgreeInLeaf, AgreeInRow, AgreeInRows, AgreeInValue, AreClaimsAlike, AreFlowsAlike}
use Rattle.rela_assertions.specs.Rows.{AreRowsOf, IsRowOf, each_with_each, scene_for}
use Rattle.rela_assertions.specs.Values.{HasValue, IsJoined, layer_value, leaves_of}
use Rattle.rela_assertions.specs.declared.row.AssertionRow.{AssertionRow}
use Rattle.rela_assertions.proofs.SameTerms.{same_words}
use Rattle.rela_assertions.proofs.ValueLaws.{value_roll}
use Rattle.rela_assertions.proofs.Zips.{append_none, zip_append}

-- ---- values

abbrev Near : Value → Value → Type 0
Near V.Undecided b = Unit {0}
Near V.Holds V.Fails = ⊥
Near V.Holds V.Holds = Unit {0}
Near V.Holds V.Undecided = Unit {0}
Near V.Fails V.Holds = ⊥
Near V.Fails V.Fails = Unit {0}
Near V.Fails V.Undecided = Unit {0}

near_self : (a : Value) → Near a a
near_self V.Undecided = tt
near_self V.Holds = tt
near_self V.Fails = tt

near_open : (a : Value) → Near a V.Undecided
near_open V.Undecided = tt
near_open V.Holds = tt
near_open V.Fails = tt

near_of : (a b : Value) → AgreeInValue a b → Near a b
near_of a b (inl same) = subst (Near a) same (near_self a)
near_of a b (inr (inl left)) = subst (λ (v : Value). Near v b) (sym left) tt
near_of a b (inr (inr left)) = subst (Near a) (sym left) (near_open a)

of_near : (a b : Value) → Near a b → AgreeInValue a b
of_near V.Undecided b near = inr (inl refl)
of_near V.Holds V.Fails near = absurd near
of_near V.Holds V.Holds near = inl refl
of_near V.Holds V.Undecided near = inr (inr refl)
of_near V.Fails V.Holds near = absurd near
of_near V.Fails V.Fails near = inl refl
of_near V.Fails V.Undecided near = inr (inr refl)

both_near : (a a' b b' : Value) → Near a a' → Near b b' → Near (both_of a b) (both_of a' b')
both_near V.Fails V.Fails b c x y = tt
both_near V.Fails V.Holds b c x y = absurd x
both_near V.Fails V.Undecided b V.Fails x y = tt
both_near V.Fails V.Undecided b V.Holds x y = tt
both_near V.Fails V.Undecided b V.Undecided x y = tt
both_near V.Holds V.Fails b c x y = absurd x
both_near V.Holds V.Holds b c x y = y
both_near V.Holds V.Undecided b V.Fails x y = y
both_near V.Holds V.Undecided b V.Holds x y = near_open b
both_near V.Holds V.Undecided b V.Undecided x y = near_open b
both_near V.Undecided V.Fails V.Fails c x y = tt
both_near V.Undecided V.Holds V.Fails c x y = y
both_near V.Undecided V.Undecided V.Fails V.Fails x y = tt
both_near V.Undecided V.Undecided V.Fails V.Holds x y = absurd y
both_near V.Undecided V.Undecided V.Fails V.Undecided x y = tt
both_near V.Undecided d V.Holds c x y = tt
both_near V.Undecided d V.Undecided c x y = tt

opposite_near : (a b : Value) → Near a b → Near (opposite_of a) (opposite_of b)
opposite_near V.Undecided b near = tt
opposite_near V.Holds V.Fails near = absurd near
opposite_near V.Holds V.Holds near = tt
opposite_near V.Holds V.Undecided near = tt
opposite_near V.Fails V.Holds near = absurd near
opposite_near V.Fails V.Fails near = tt
opposite_near V.Fails V.Undecided near = tt

twice : (a : Value) → a ≡ opposite_of (opposite_of a)
twice V.Holds = refl
twice V.Fails = refl
twice V.Undecided = refl

-- one of two holds just where not both opposites do
dual : (a b : Value) → either_of a b ≡ opposite_of (both_of (opposite_of a) (opposite_of b))
dual V.Holds b = refl
dual V.Fails b = twice b
dual V.Undecided V.Holds = refl
dual V.Undecided V.Fails = refl
dual V.Undecided V.Undecided = refl

abbrev KeepsAgreement : (Value → Value → Value) → Type 0
KeepsAgreement join = (a a' b b' : Value) → AgreeInValue a a' → AgreeInValue b b' → AgreeInValue (join a b) (join a' b')

both_agree : KeepsAgreement both_of
both_agree a a' b b' x y = of_near (both_of a b) (both_of a' b') (both_near a a' b b' (near_of a a' x) (near_of b b' y))

opposite_agree : (a b : Value) → AgreeInValue a b → AgreeInValue (opposite_of a) (opposite_of b)
opposite_agree a b x = of_near (opposite_of a) (opposite_of b) (opposite_near a b (near_of a b x))

either_agree : KeepsAgreement either_of
either_agree a a' b b' x y =
    subst (λ (v : Value). AgreeInValue v (either_of a' b')) (sym (dual a b))
    (subst (AgreeInValue (opposite_of (both_of (opposite_of a) (opposite_of b)))) (sym (dual a' b'))
    (opposite_agree (both_of (opposite_of a) (opposite_of b)) (both_of (opposite_of a') (opposite_of b'))
    (both_agree (opposite_of a) (opposite_of a') (opposite_of b) (opposite_of b') (opposite_agree a a' x) (opposite_agree b b' y))))

-- ---- trees

abbrev Agree : List Value → List Value → Type 0
Agree = AllZip AgreeInValue

moved : (xs xs' ys ys' : List Value) → xs ≡ xs' → ys ≡ ys' → Agree xs ys → Agree xs' ys'
moved xs xs' ys ys' x y each = subst (λ (l : List Value). Agree l ys') x (subst (Agree xs) y each)

-- what is known of the tree by the first of these values agrees, and so do the values that are left
abbrev IsSettled : Tree → Type 0
IsSettled tree =
    (front back others rest : List Value) (v w : Value) → Agree (front ++ back) (others ++ rest) → HasValue tree front v → HasValue tree others w → AgreeInValue v w × Agree back rest

abbrev Settled : Type 0
Settled = (tree : Tree) × IsSettled tree

opened : (y : T.Tree-F Tree) (values : List Value) (v : Value) → HasValue (roll-Tree y) values v → layer_value HasValue y values v
opened y values v has = subst (λ (H : List Value → Value → Type 0). H values v) (value_roll y) has

joined : (join : Value → Value → Value) → KeepsAgreement join → (a b : Settled) (front back others rest : List Value) (v w : Value) → Agree (front ++ back) (others ++ rest)
    → IsJoined join (HasValue a.0) (HasValue b.0) front v → IsJoined join (HasValue a.0) (HasValue b.0) others w → AgreeInValue v w × Agree back rest
joined join keeps a b front back others rest v w each one two =
    let split : Agree (one.front ++ (one.back ++ back)) (two.front ++ (two.back ++ rest)) =
    moved (front ++ back) (one.front ++ (one.back ++ back)) (others ++ rest) (two.front ++ (two.back ++ rest))
    (ap (λ (l : List Value). l ++ back) one.split ∙ append_assoc one.front one.back back) (ap (λ (l : List Value). l ++ rest) two.split ∙ append_assoc two.front two.back rest) each in
    let first = a.1 one.front (one.back ++ back) two.front (two.back ++ rest) one.first two.first split one.of_first two.of_first in
    let second = b.1 one.back back two.back rest one.second two.second first.1 one.of_second two.of_second in (
      subst (λ (x : Value). AgreeInValue x w) (sym one.is)
          (subst (AgreeInValue (join one.first one.second)) (sym two.is) (keeps one.first two.first one.second two.second first.0 second.0)),
      second.1,
    )

layer : (y : T.Tree-F Settled) → IsSettled (roll-Tree (map-Tree Settled Tree (λ e. e.0) y))
layer (T.Leaf assertion) front back others rest v w each one two =
    moved (front ++ back) (v ∷ back) (others ++ rest) (w ∷ rest) (ap (λ (l : List Value). l ++ back) (opened (T.Leaf assertion) front v one))
    (ap (λ (l : List Value). l ++ rest) (opened (T.Leaf assertion) others w two)) each
layer (T.And a b) front back others rest v w each one two =
    joined both_of both_agree a b front back others rest v w each (opened (T.And a.0 b.0) front v one) (opened (T.And a.0 b.0) others w two)
layer (T.Or a b) front back others rest v w each one two =
    joined either_of either_agree a b front back others rest v w each (opened (T.Or a.0 b.0) front v one) (opened (T.Or a.0 b.0) others w two)
layer (T.Not a) front back others rest v w each one two =
    let first = opened (T.Not a.0) front v one in
    let second = opened (T.Not a.0) others w two in
    let inner = a.1 front back others rest first.0 second.0 each first.1 second.1 in (
      subst (λ (x : Value). AgreeInValue x w) (sym first.2)
          (subst (AgreeInValue (opposite_of first.0)) (sym second.2) (opposite_agree first.0 second.0 inner.0)),
      inner.1,
    )

settled : (tree : Tree) → IsSettled tree
settled = ind-Tree IsSettled (λ x y is. subst (λ (z : T.Tree-F Tree). IsSettled (roll-Tree z)) is (layer y))

values_agree : (tree : Tree) (values others : List Value) (v w : Value) → Agree values others → HasValue tree values v → HasValue tree others w → AgreeInValue v w
values_agree tree values others v w each one two =
    (settled tree values [] others [] v w (moved values (values ++ []) others (others ++ []) (sym (append_none values)) (sym (append_none others)) each) one two).0

-- ---- leaves

value_agrees : (told other : Leaf) → AgreeInLeaf told other → AgreeInValue (value_of told) (value_of other)
value_agrees told other (inl same) = inl (ap value_of same)
value_agrees told other (inr (inl left)) = inr (inl (ap value_of left))
value_agrees told other (inr (inr left)) = inr (inr (ap value_of left))

value_each : (told others : List Leaf) → AllZip AgreeInLeaf told others → Agree (map value_of told) (map value_of others)
value_each [] [] each = tt
value_each [] (o ∷ others) each = absurd each
value_each (t ∷ told) [] each = absurd each
value_each (t ∷ told) (o ∷ others) each = (value_agrees t o each.0, value_each told others each.1)

-- of two different words one is before the other
abbrev IsTotal : Type 0
IsTotal = (u v : List ℕ) → u ≢ v → IsBefore u v ⊎ IsBefore v u

-- so a set of words has one first word
same_first : IsTotal → (X : List ℕ → Type 0) (u v : List ℕ) → First X u → First X v → u ≡ v
same_first total X u v one two = elim (cases_Bool (pointwise nat_eq u v)) [
  | inl same ↦ same_text u v (sym same)
  | inr apart ↦ elim (total u v (other_text u v (sym apart))) [
    | inl before ↦ absurd (two.least u one.member before)
    | inr after ↦ absurd (one.least v two.member after)
  ]
]

-- a word that tells against an assertion is in one of its terms alone
alone : (m : Scene) (assertion : Assertion) (w : List ℕ) → TellsAgainst m.setting assertion w → In m.setting (first_term assertion) w → In m.setting (second_term assertion) w → ⊥
alone m (Equal x y) w (path, inl tells) one two = tells.1 two
alone m (Equal x y) w (path, inr tells) one two = tells.0 one
alone m (Included x y) w tells one two = tells.2 two

-- an assertion that holds is told against by no word
not_told : (m : Scene) (assertion : Assertion) (w : List ℕ) → HoldsOnPaths m.setting assertion → TellsAgainst m.setting assertion w → ⊥
not_told m (Equal x y) w holds (path, inl tells) = tells.1 ((holds w path).0 tells.0)
not_told m (Equal x y) w holds (path, inr tells) = tells.0 ((holds w path).1 tells.1)
not_told m (Included x y) w holds tells = tells.2 (holds w tells.0 tells.1)

module _ (total : IsTotal) (names : List (List ℕ)) (level : Level) (classes : List SymbolSet) (p q : FlowPair)
    (same : SamePathSets (paths_of level names p.before p.after) (paths_of level names q.before q.after)) where
  abbrev m : Scene
  m = scene_for names level classes p

  abbrev n : Scene
  n = scene_for names level classes q

  words : (x : PathTerm) (w : List ℕ) → In m.setting x w ↔ In n.setting x w
  words = same_words classes m.setting.path_symbols m.setting.pre m.setting.post n.setting.pre n.setting.post same.pre same.post

  tells : (assertion : Assertion) (w : List ℕ) → TellsAgainst m.setting assertion w → TellsAgainst n.setting assertion w
  tells (Equal x y) w (path, inl is) = (path, inl ((words x w).0 is.0, λ h. is.1 ((words y w).1 h)))
  tells (Equal x y) w (path, inr is) = (path, inr ((λ h. is.0 ((words x w).1 h)), (words y w).0 is.1))
  tells (Included x y) w is = (is.0, (words x w).0 is.1, λ h. is.2 ((words y w).1 h))

  told_back : (assertion : Assertion) (w : List ℕ) → TellsAgainst n.setting assertion w → TellsAgainst m.setting assertion w
  told_back (Equal x y) w (path, inl is) = (path, inl ((words x w).1 is.0, λ h. is.1 ((words y w).0 h)))
  told_back (Equal x y) w (path, inr is) = (path, inr ((λ h. is.0 ((words x w).0 h)), (words y w).1 is.1))
  told_back (Included x y) w is = (is.0, (words x w).1 is.1, λ h. is.2 ((words y w).0 h))

  module _ (assertion : Assertion) where
    first_back : (w : List ℕ) → First (TellsAgainst n.setting assertion) w → First (TellsAgainst m.setting assertion) w
    first_back w is = record { member = told_back assertion w is.member; least = λ u told. is.least u (tells assertion u told) }

    one_side : (w : List ℕ) (s t : Which) → TellsAgainst m.setting assertion w → In m.setting (term_on s assertion) w → In m.setting (term_on t assertion) w → s ≡ t
    one_side w side.First side.First told one two = refl
    one_side w side.Second side.Second told one two = refl
    one_side w side.First side.Second told one two = absurd (alone m assertion w told one two)
    one_side w side.Second side.First told one two = absurd (alone m assertion w told two one)

    one_failure : (u v : List ℕ) (s t : Which) → FailsBy m.setting assertion (term_on s assertion) u → FailsBy n.setting assertion (term_on t assertion) v → Fails u s ≡ Fails v t
    one_failure u v s t one two =
        let word : u ≡ v = same_first total (TellsAgainst m.setting assertion) u v one.first (first_back v two.first) in
        let in_other : In m.setting (term_on t assertion) u = subst (λ (w : List ℕ). In m.setting (term_on t assertion) w) (sym word) ((words (term_on t assertion) v).1 two.in_term) in
        let sides : s ≡ t = one_side u s t one.first.member one.in_term in_other in
        ap (λ (w : List ℕ). Fails w s) word ∙ ap (λ (x : Which). Fails v x) sides

    leaf_agrees : (states : ℕ) (told other : Leaf) → LeafOf m assertion states told → LeafOf n assertion states other → AgreeInLeaf told other
    leaf_agrees states Undecided other one two = inr (inl refl)
    leaf_agrees states Holds Holds one two = inl refl
    leaf_agrees states Holds (Fails v t) one two = absurd (not_told m assertion v one (told_back assertion v two.first.member))
    leaf_agrees states Holds Undecided one two = inr (inr refl)
    leaf_agrees states (Fails u s) Holds one two = absurd (not_told n assertion u two (tells assertion u one.first.member))
    leaf_agrees states (Fails u s) (Fails v t) one two = inl (one_failure u v s t one two)
    leaf_agrees states (Fails u s) Undecided one two = inr (inr refl)

  leaves_agree : (states : ℕ) (leaves : List Assertion) (told others : List Leaf) → AllZip (λ leaf told. LeafOf m leaf states told) leaves told
      → AllZip (λ leaf told. LeafOf n leaf states told) leaves others → AllZip AgreeInLeaf told others
  leaves_agree states [] [] [] one two = tt
  leaves_agree states [] [] (o ∷ others) one two = absurd two
  leaves_agree states [] (t ∷ told) others one two = absurd one
  leaves_agree states (l ∷ leaves) [] others one two = absurd one
  leaves_agree states (l ∷ leaves) (t ∷ told) [] one two = absurd two
  leaves_agree states (l ∷ leaves) (t ∷ told) (o ∷ others) one two = (leaf_agrees l states t o one.0 two.0, leaves_agree states leaves told others one.1 two.1)

-- ---- rows

zip_three : {A B X Y : Type 0} (S : A → B → Type 0) (R : A → X → Type 0) (Q : B → Y → Type 0) (P : X → Y → Type 0)
    → ((a : A) (b : B) (x : X) (y : Y) → S a b → R a x → Q b y → P x y)
    → (first : List A) (second : List B) (xs : List X) (ys : List Y) → AllZip S first second → AllZip R first xs → AllZip Q second ys → AllZip P xs ys
zip_three S R Q P on [] [] [] [] s r q = tt
zip_three S R Q P on [] [] [] (y ∷ ys) s r q = absurd q
zip_three S R Q P on [] [] (x ∷ xs) ys s r q = absurd r
zip_three S R Q P on [] (b ∷ second) xs ys s r q = absurd s
zip_three S R Q P on (a ∷ first) [] xs ys s r q = absurd s
zip_three S R Q P on (a ∷ first) (b ∷ second) [] ys s r q = absurd r
zip_three S R Q P on (a ∷ first) (b ∷ second) (x ∷ xs) [] s r q = absurd q
zip_three S R Q P on (a ∷ first) (b ∷ second) (x ∷ xs) (y ∷ ys) s r q = (on a b x y s.0 r.0 q.0, zip_three S R Q P on first second xs ys s.1 r.1 q.1)

abbrev Asked : Type 0
Asked = FlowPair × Claim

module _ (total : IsTotal) (names : List (List ℕ)) (level : Level) (states : ℕ) where
  row_agrees : (p q : FlowPair) (c d : Claim) (row other : AssertionRow) → AreFlowsAlike names level p q → AreClaimsAlike c d → IsRowOf names level states p c row
      → IsRowOf names level states q d other → AgreeInRow row other
  row_agrees p q c d row other flows claims one two =
      let trees : AllZip (λ leaf told. LeafOf (scene_for names level d.classes.items q) leaf states told) (leaves_of c.tree) other.leaves.items =
      subst (λ (t : Tree). AllZip (λ leaf told. LeafOf (scene_for names level d.classes.items q) leaf states told) (leaves_of t) other.leaves.items) (sym claims.tree) two.leaves in
      let here : AllZip (λ leaf told. LeafOf (scene_for names level c.classes.items q) leaf states told) (leaves_of c.tree) other.leaves.items =
      subst (λ (cs : List SymbolSet). AllZip (λ leaf told. LeafOf (scene_for names level cs q) leaf states told) (leaves_of c.tree) other.leaves.items) (sym claims.classes) trees in
      let leaves = leaves_agree total names level c.classes.items p q flows.paths states (leaves_of c.tree) row.leaves.items other.leaves.items one.leaves here in
      let value : HasValue c.tree (map value_of other.leaves.items) other.value = subst (λ (t : Tree). HasValue t (map value_of other.leaves.items) other.value) (sym claims.tree) two.value in
      record {
        flow = one.flow ∙ ap (λ c. c.name) flows.class ∙ sym two.flow;
        assertion = one.assertion ∙ claims.name ∙ sym two.assertion;
        leaves = leaves;
        value = values_agree c.tree (map value_of row.leaves.items) (map value_of other.leaves.items) row.value other.value
            (value_each row.leaves.items other.leaves.items leaves) one.value value;
      }

  abbrev AskedAlike : Asked → Asked → Type 0
  AskedAlike a b = AreFlowsAlike names level a.0 b.0 × AreClaimsAlike a.1 b.1

  of_one : (p q : FlowPair) (cs ds : List Claim) → AreFlowsAlike names level p q → AllZip AreClaimsAlike cs ds → AllZip AskedAlike (map (λ c. (p, c)) cs) (map (λ c. (q, c)) ds)
  of_one p q [] [] flows claims = tt
  of_one p q [] (d ∷ ds) flows claims = absurd claims
  of_one p q (c ∷ cs) [] flows claims = absurd claims
  of_one p q (c ∷ cs) (d ∷ ds) flows claims = ((flows, claims.0), of_one p q cs ds flows claims.1)

  of_each : (ps qs : List FlowPair) (cs ds : List Claim) → AllZip (AreFlowsAlike names level) ps qs → AllZip AreClaimsAlike cs ds → AllZip AskedAlike (each_with_each ps cs) (each_with_each qs ds)
  of_each [] [] cs ds flows claims = tt
  of_each [] (q ∷ qs) cs ds flows claims = absurd flows
  of_each (p ∷ ps) [] cs ds flows claims = absurd flows
  of_each (p ∷ ps) (q ∷ qs) cs ds flows claims =
      zip_append AskedAlike (map (λ c. (p, c)) cs) (each_with_each ps cs) (map (λ c. (q, c)) ds) (each_with_each qs ds) (of_one p q cs ds flows.0 claims) (of_each ps qs cs ds flows.1 claims)

  pub rows_agree : (ps qs : List FlowPair) (cs ds : List Claim) (rows told : List AssertionRow) → AllZip (AreFlowsAlike names level) ps qs → AllZip AreClaimsAlike cs ds
      → AreRowsOf names level states ps cs rows → AreRowsOf names level states qs ds told → AgreeInRows rows told
  rows_agree ps qs cs ds rows told flows claims one two =
      zip_three AskedAlike (λ asked row. IsRowOf names level states asked.0 asked.1 row) (λ asked row. IsRowOf names level states asked.0 asked.1 row) AgreeInRow
      (λ a b x y alike is other_is. row_agrees a.0 b.0 a.1 b.1 x y alike.0 alike.1 is other_is) (each_with_each ps cs) (each_with_each qs ds) rows told (of_each ps qs cs ds flows claims) one two
