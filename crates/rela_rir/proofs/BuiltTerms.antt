-- The states of what is built of the machines of a term's parts stand for the places of the term, form by form.
use Rattle.std.proofs.Common.{◌≡◌, ℕ, ◌+◌, ◌<◌, List, [], ◌++◌, length, refl, subst, arith}
use Rattle.std.specs.Prelude.{◌↔◌, Option}
use Rattle.rela_rir.specs.Words.{WordSet, Relation, Concatenation, Star, PairConcatenation, PairStar}
use Rattle.rela_rir.specs.Meaning.{In, InR, IsInClass}
use Rattle.rela_rir.specs.Places.{Place, Begin, Left, Right, Inner, Scene, Places, PairPlaces, Tells, At, AtR, Apart, ApartR, UnionPlaces, ConcatPlaces, StarPlaces, ProductPlaces, PairUnionPlaces, PairConcatPlaces, PairStarPlaces, PartsApart, NoParts}
use Rattle.rela_rir.specs.Tables.{IsTable, IsExact, OnPairs, IsPlacedWhere, IsPlacedWhereR, ReachTogether, ReachFromSource, ReachByMiddle}
use Rattle.rela_rir.specs.Built.{IsEmptyPair, OneState, LetterStates, SideBySide, UnionStates, StarStates, NumberedPairs, PathStates, ComplementStates, TellsAll}
use Rattle.rela_rir.proofs.PlaceForms as forms
use Rattle.rela_rir.proofs.Tables.{table_of_same, exact_of_same}
use Rattle.rela_rir.proofs.ExactTables as exact
use Rattle.rela_rir.proofs.FormTables as built
use Rattle.rela_rir.proofs.FormTables.{same, SideAt, BegunAt, InnerAt}
use Rattle.rela_rir.proofs.LeafTables as leaf
use Rattle.rela_rir.proofs.JointTables as joint
use Rattle.rela_rir.proofs.NumberedTables.{numbered}
use Rattle.rela_rir.specs.declared.term.PathTerm.{PathTerm}
use Rattle.rela_rir.specs.declared.term.RelTerm.{RelTerm}
use Rattle.rela_rir.specs.declared.term.PathTerm.TheVariants as P
use Rattle.rela_rir.specs.declared.term.RelTerm.TheVariants as R

turned : {A B : Type 0} → A ↔ B → B ↔ A
turned both = (both.1, both.0)

-- a table, which is exact over n states where E holds
pub record Tabled {I : Type 0} (E : Type 0) (n : ℕ) (reach : ℕ → I → Type 0) (at : Place → I → Type 0) (tells : Tells) (table : Place → Option ℕ) : Type 0 where
  pub is_table : IsTable reach at tells table
  pub exact : E → IsExact n reach at table

tabled : {E : Type 0} {n : ℕ} {m : Scene} {x : PathTerm} {reach : ℕ → List ℕ → Type 0} → (is : IsPlacedWhere E n m x reach) → Tabled E n reach (At m x) (Apart m x) is.table
tabled is = record { is_table = is.is_table; exact = is.exact }

tabled_r : {E : Type 0} {n : ℕ} {m : Scene} {r : RelTerm} {reach : ℕ → List ℕ → List ℕ → Type 0} → (is : IsPlacedWhereR E n m r reach) →
    Tabled E n (OnPairs reach) (OnPairs (AtR m r)) (ApartR m r) is.table
tabled_r is = record { is_table = is.is_table; exact = is.exact }

tabled_of_same : {E : Type 0} {n : ℕ} {I : Type 0} {reach reach' : ℕ → I → Type 0} {at at' : Place → I → Type 0} {tells tells' : Tells} {table : Place → Option ℕ} →
    ((q : ℕ) (i : I) → reach q i ↔ reach' q i) → ((p : Place) (i : I) → at p i ↔ at' p i) → ((p r : Place) → tells p r → tells' p r) →
    Tabled E n reach at tells table → Tabled E n reach' at' tells' table
tabled_of_same states places told is = record { is_table = table_of_same states places told is.is_table; exact = λ e. exact_of_same states places (is.exact e) }

-- the places are the term's
placed : {E : Type 0} {n : ℕ} (m : Scene) (x : PathTerm) (r : ℕ → List ℕ → Type 0) (at : Places) (tells : Tells) (table : Place → Option ℕ) →
    At m x ≡ at → Apart m x ≡ tells → Tabled E n r at tells table → IsPlacedWhere E n m x r
placed m x r at tells table places apart is =
    let here = tabled_of_same (λ q w. same) (λ p w. turned (forms.at_place places p w)) (λ p q. (forms.told apart p q).1) is in
    record { table = table; is_table = here.is_table; exact = here.exact }

placed_r : {E : Type 0} {n : ℕ} (m : Scene) (t : RelTerm) (r : ℕ → List ℕ → List ℕ → Type 0) (at : PairPlaces) (tells : Tells) (table : Place → Option ℕ) →
    AtR m t ≡ at → ApartR m t ≡ tells → Tabled E n (OnPairs r) (OnPairs at) tells table → IsPlacedWhereR E n m t r
placed_r m t r at tells table places apart is =
    let here = tabled_of_same (λ q x. same) (λ p x. turned (forms.at_place_r places p x.0 x.1)) (λ p q. (forms.told apart p q).1) is in
    record { table = table; is_table = here.is_table; exact = here.exact }

module _ {E : Type 0} {n : ℕ} {I J : Type 0} {reach : ℕ → J → Type 0} {at : Place → J → Type 0} {tells : Tells} {table : Place → Option ℕ} (link : I → J → Type 0) (is : Tabled E n reach at tells table) where
  through : Tabled E n (λ q i. (j : J) × link i j × reach q j) (λ p i. (j : J) × link i j × at p j) tells table
  through = record { is_table = built.through link is.is_table; exact = λ e. exact.through link (is.exact e) }

module _ {E : Type 0} {n k : ℕ} {I : Type 0} {a b r : ℕ → I → Type 0} {x y : Place → I → Type 0} {tx ty : Tells} {t u : Place → Option ℕ} (first : Tabled E n a x tx t) (second : Tabled E k b y ty u) where
  side_by_side : SideBySide n a b r → Tabled E (n + k) r (SideAt x y) (PartsApart tx ty) (built.beside n t u)
  side_by_side side = record {
    is_table = built.side_by_side first.is_table second.is_table side;
    exact = λ e. exact.side_by_side (first.exact e) (second.exact e) side;
  }

begun : {E : Type 0} {n : ℕ} {I : Type 0} {start : I → Type 0} {a r : ℕ → I → Type 0} {at : Place → I → Type 0} {tx ty : Tells} {t : Place → Option ℕ} →
    Tabled E n a at (PartsApart tx ty) t → ((i : I) → at Begin i → ⊥) → StarStates start a r → Tabled E (1 + n) r (BegunAt start at) (PartsApart tx ty) (built.begun t)
begun is none states = record { is_table = built.with_start is.is_table none states; exact = λ e. exact.with_start (is.exact e) states }

beside_after_start : {E : Type 0} {n k : ℕ} {I : Type 0} {start : I → Type 0} {a b r : ℕ → I → Type 0} {x y : Place → I → Type 0} {tx ty : Tells} {t u : Place → Option ℕ} →
    Tabled E n a x tx t → Tabled E k b y ty u → UnionStates start n a b r → Tabled E (1 + (n + k)) r (BegunAt start (SideAt x y)) (PartsApart tx ty) (built.begun (built.beside n t u))
beside_after_start {E} {n} {k} {I} {start} {a} {b} {r} first second states =
    begun (side_by_side first second (record {
      count = states.count;
      first = λ q i below. states.first q i below;
      second = λ q i. subst (λ j. r j i ↔ b q i) (let regrouped : 1 + n + q ≡ 1 + (n + q) = omega arith in regrouped) (states.second q i);
    })) (λ i never. never) (record { begin = states.begin; copies = λ q i. same })

copies_after_start : {E : Type 0} {n : ℕ} {I : Type 0} {start : I → Type 0} {a r : ℕ → I → Type 0} {x : Place → I → Type 0} {tx : Tells} {t : Place → Option ℕ} →
    Tabled E n a x tx t → StarStates start a r → Tabled E (1 + n) r (BegunAt start (InnerAt x)) (PartsApart tx NoParts) (built.begun (built.inner t))
copies_after_start first states = begun (record { is_table = built.within first.is_table; exact = λ e. exact.within (first.exact e) }) (λ i never. never) states

numbered_alike : {I : Type 0} {pairs : List (ℕ × ℕ)} {reach reach' : ℕ × ℕ → I → Type 0} {r : ℕ → I → Type 0} → ((q : ℕ × ℕ) (i : I) → reach q i ↔ reach' q i) → NumberedPairs pairs reach' r → NumberedPairs pairs reach r
numbered_alike alike states = record {
  different = states.different;
  all = λ q i has. states.all q i ((alike q i).0 has);
  numbered = λ k i. (
    (λ has. (let from = (states.numbered k i).0 has in (from.0, from.1, (alike from.0 i).1 from.2))),
    λ from. (states.numbered k i).1 (from.0, from.1, (alike from.0 i).0 from.2),
  );
}

-- by the rest of a word whose front is one of the set
joins : {E : Type 0} {n : ℕ} (X : WordSet) (b : ℕ → List ℕ → Type 0) (y : Places) (ty : Tells) (u : Place → Option ℕ) → Tabled E n b y ty u →
    Tabled E n (λ q. Concatenation X (b q)) (λ p. Concatenation X (y p)) ty u
joins X b y ty u is = tabled_of_same (λ q w. joined (b q) w) (λ p w. joined (y p) w) (λ p q told. told) (through link is) where
  link : List ℕ → List ℕ → Type 0
  link w rest = (front : List ℕ) × (w ≡ front ++ rest) × X front

  joined : (Y : WordSet) (w : List ℕ) → ((rest : List ℕ) × link w rest × Y rest) ↔ Concatenation X Y w
  joined Y w = ((λ has. record { front = has.1.0; rest = has.0; split = has.1.1; in_front = has.1.2; in_rest = has.2 }), λ c. (c.rest, (c.front, c.split, c.in_front), c.in_rest))

-- by the rest of a pair whose front is one of the relation
joins_r : {E : Type 0} {n : ℕ} (X : Relation) (b : ℕ → List ℕ → List ℕ → Type 0) (y : PairPlaces) (ty : Tells) (u : Place → Option ℕ) → Tabled E n (OnPairs b) (OnPairs y) ty u →
    Tabled E n (OnPairs (λ q. PairConcatenation X (b q))) (OnPairs (λ p. PairConcatenation X (y p))) ty u
joins_r X b y ty u is = tabled_of_same (λ q x. joined (b q) x) (λ p x. joined (y p) x) (λ p q told. told) (through link is) where
  link : List ℕ × List ℕ → List ℕ × List ℕ → Type 0
  link x rest = (front : List ℕ × List ℕ) × (x.0 ≡ front.0 ++ rest.0) × (x.1 ≡ front.1 ++ rest.1) × X front.0 front.1

  joined : (Y : Relation) (x : List ℕ × List ℕ) → ((rest : List ℕ × List ℕ) × link x rest × Y rest.0 rest.1) ↔ PairConcatenation X Y x.0 x.1
  joined Y x = (
    (λ has. record { front_in = has.1.0.0; rest_in = has.0.0; front_out = has.1.0.1; rest_out = has.0.1; split_in = has.1.1; split_out = has.1.2; in_front = has.1.3; in_rest = has.2 }),
    λ c. ((c.rest_in, c.rest_out), ((c.front_in, c.front_out), c.split_in, c.split_out, c.in_front), c.in_rest),
  )

-- whether the tables of the parts are exact decides whether that of the term is
module _ (m : Scene) (E : Type 0) where
  pub none : (r : ℕ → List ℕ → Type 0) → OneState r → IsPlacedWhere E 1 m P.None r
  none r states = placed m _ r _ _ _ (forms.at_none m) (forms.apart_none m) (record { is_table = leaf.one_state r states; exact = λ e. exact.one_state r states })

  pub empty : (r : ℕ → List ℕ → Type 0) → OneState r → IsPlacedWhere E 1 m P.Empty r
  empty r states = placed m _ r _ _ _ (forms.at_empty m) (forms.apart_empty m) (record { is_table = leaf.one_state r states; exact = λ e. exact.one_state r states })

  pub class : (entry : ℕ) (r : ℕ → List ℕ → Type 0) → LetterStates (IsInClass m.setting entry) r → IsPlacedWhere E 2 m (P.Class entry) r
  class entry r states = placed m _ r _ _ _ (forms.at_class m entry) (forms.apart_class m entry) (record { is_table = leaf.letter_states _ r states; exact = λ e. exact.letter_states _ r states })

  pub one : (s : ℕ) (r : ℕ → List ℕ → Type 0) → LetterStates (λ t. t ≡ s) r → IsPlacedWhere E 2 m (P.One s) r
  one s r states = placed m _ r _ _ _ (forms.at_one m s) (forms.apart_one m s) (record { is_table = leaf.letter_states _ r states; exact = λ e. exact.letter_states _ r states })

  pub pre : (n : ℕ) (r : ℕ → List ℕ → Type 0) → PathStates n m.pre r → (E → (k : ℕ) (w : List ℕ) → m.pre.at_node k w → k < n) → IsPlacedWhere E (2 + n) m P.Pre r
  pre n r states nodes = placed m _ r _ _ _ (forms.at_pre m) (forms.apart_pre m) (record { is_table = leaf.path_states n m.pre r states; exact = λ e. exact.path_states n m.pre r states (nodes e) })

  pub post : (n : ℕ) (r : ℕ → List ℕ → Type 0) → PathStates n m.post r → (E → (k : ℕ) (w : List ℕ) → m.post.at_node k w → k < n) → IsPlacedWhere E (2 + n) m P.Post r
  post n r states nodes = placed m _ r _ _ _ (forms.at_post m) (forms.apart_post m) (record { is_table = leaf.path_states n m.post r states; exact = λ e. exact.path_states n m.post r states (nodes e) })

  module _ (x : PathTerm) (n : ℕ) (a r : ℕ → List ℕ → Type 0) (first : IsPlacedWhere E n m x a) where
    pub star : StarStates (λ w. w ≡ []) (λ q. Concatenation (Star (In m.setting x)) (a q)) r → IsPlacedWhere E (1 + n) m (P.Star x) r
    star states = placed m _ r _ _ _ (forms.at_star m x) (forms.apart_star m x) (tabled_of_same (λ q w. same) places (λ p q told. told) (copies_after_start (joins (Star (In m.setting x)) a (At m x) _ _ (tabled first)) states)) where
      places : (p : Place) (w : List ℕ) → BegunAt (λ (v : List ℕ). v ≡ []) (InnerAt (λ p. Concatenation (Star (In m.setting x)) (At m x p))) p w ↔ StarPlaces (In m.setting x) (At m x) p w
      places Begin w = same
      places (Inner p) w = same
      places _ w = same

    pub complement : (count : ℕ) (states : ComplementStates m.setting.path_symbols a r) → (E → TellsAll m.setting.path_symbols count states.after a) → IsPlacedWhere E count m (P.Complement x) r
    complement count states all = placed m _ r _ _ _ (forms.at_complement m x) (forms.apart_complement m x) (record {
      is_table = leaf.complement_states m.setting.path_symbols a r first.is_table states;
      exact = λ e. exact.complement_states m.setting.path_symbols n count a r first.is_table (first.exact e) states (all e).below (all e).alike;
    })

    pub image : (t : RelTerm) (k : ℕ) (b : ℕ → List ℕ → List ℕ → Type 0) (pairs : List (ℕ × ℕ)) → IsPlacedWhereR E k m t b → NumberedPairs pairs (ReachFromSource a b) r → IsPlacedWhere E (length pairs) m (P.Image x t) r
    image t k b pairs second states = placed m _ r _ _ _ (forms.at_image m x t) (forms.apart_image m x t) (record {
      is_table = numbered (joint.image b (AtR m t) first.is_table second.is_table) states;
      exact = λ e. exact_of_same (λ q w. same) (joint.image_places b (AtR m t) first.is_table second.is_table) (exact.pairs_exact first.is_table second.is_table (first.exact e) (second.exact e) joint.Source pairs r (numbered_alike (joint.image_states b (AtR m t) first.is_table second.is_table) states));
    })

  module _ (x y : PathTerm) (n k : ℕ) (a b r : ℕ → List ℕ → Type 0) (first : IsPlacedWhere E n m x a) (second : IsPlacedWhere E k m y b) where
    pub union : UnionStates (λ w. w ≡ []) n a b r → IsPlacedWhere E (1 + (n + k)) m (P.Union x y) r
    union states = placed m _ r _ _ _ (forms.at_union m x y) (forms.apart_union m x y) (tabled_of_same (λ q w. same) places (λ p q told. told) (beside_after_start (tabled first) (tabled second) states)) where
      places : (p : Place) (w : List ℕ) → BegunAt (λ (v : List ℕ). v ≡ []) (SideAt (At m x) (At m y)) p w ↔ UnionPlaces (At m x) (At m y) p w
      places Begin w = same
      places (Left p) w = same
      places (Right p) w = same
      places _ w = same

    pub joined : SideBySide n a (λ q. Concatenation (In m.setting x) (b q)) r → IsPlacedWhere E (n + k) m (P.Concat x y) r
    joined states = placed m _ r _ _ _ (forms.at_concat m x y) (forms.apart_concat m x y) (tabled_of_same (λ q w. same) places (λ p q told. told) (side_by_side (tabled first) (joins (In m.setting x) b (At m y) _ _ (tabled second)) states)) where
      places : (p : Place) (w : List ℕ) → SideAt (At m x) (λ p. Concatenation (In m.setting x) (At m y p)) p w ↔ ConcatPlaces (In m.setting x) (At m x) (At m y) p w
      places (Left p) w = same
      places (Right p) w = same
      places _ w = same

    pub meet : (pairs : List (ℕ × ℕ)) → NumberedPairs pairs (ReachTogether a b) r → IsPlacedWhere E (length pairs) m (P.Meet x y) r
    meet pairs states = placed m _ r _ _ _ (forms.at_meet m x y) (forms.apart_meet m x y) (record {
      is_table = numbered (joint.meet first.is_table second.is_table) states;
      exact = λ e. exact_of_same (λ q w. same) (joint.meet_places first.is_table second.is_table) (exact.pairs_exact first.is_table second.is_table (first.exact e) (second.exact e) joint.One pairs r (numbered_alike (joint.meet_states first.is_table second.is_table) states));
    })

  pub identity : (x : PathTerm) (n : ℕ) (a : ℕ → List ℕ → Type 0) (r : ℕ → List ℕ → List ℕ → Type 0) → IsPlacedWhere E n m x a → ((q : ℕ) (u v : List ℕ) → r q u v ↔ ((u ≡ v) × a q u)) → IsPlacedWhereR E n m (R.Identity x) r
  identity x n a r first states = placed_r m _ r _ _ _ (forms.at_identity_r m x) (forms.apart_identity_r m x) (tabled_of_same (λ q z. there (a q) z (r q z.0 z.1) (states q z.0 z.1)) (λ p z. at (At m x p) z) (λ p q told. told) (through link (tabled first))) where
    link : List ℕ × List ℕ → List ℕ → Type 0
    link z u = (z.0 ≡ z.1) × (u ≡ z.0)

    at : (Y : WordSet) (z : List ℕ × List ℕ) → ((u : List ℕ) × link z u × Y u) ↔ ((z.0 ≡ z.1) × Y z.0)
    at Y z = ((λ has. (has.1.0, subst Y has.1.1 has.2)), λ has. (z.0, (has.0, refl), has.1))

    there : (Y : WordSet) (z : List ℕ × List ℕ) (A : Type 0) → A ↔ ((z.0 ≡ z.1) × Y z.0) → ((u : List ℕ) × link z u × Y u) ↔ A
    there Y z A by = ((λ has. by.1 ((at Y z).0 has)), λ has. (at Y z).1 (by.0 has))

  pub product : (x y : PathTerm) (n k : ℕ) (a b : ℕ → List ℕ → Type 0) (r : ℕ → List ℕ → List ℕ → Type 0) → IsPlacedWhere E n m x a → IsPlacedWhere E k m y b →
      SideBySide n (OnPairs (λ q u v. a q u × (v ≡ []))) (OnPairs (λ q u v. In m.setting x u × b q v)) (OnPairs r) → IsPlacedWhereR E (n + k) m (R.Product x y) r
  product x y n k a b r first second states = placed_r m _ r _ _ _ (forms.at_product_r m x y) (forms.apart_product_r m x y) (tabled_of_same (λ q z. same) places (λ p q told. told) (side_by_side front rest states)) where
    at_front : (Y : WordSet) (z : List ℕ × List ℕ) → ((u : List ℕ) × ((u ≡ z.0) × (z.1 ≡ [])) × Y u) ↔ (Y z.0 × (z.1 ≡ []))
    at_front Y z = ((λ has. (subst Y has.1.0 has.2, has.1.1)), λ has. (z.0, (refl, has.1), has.0))

    front : Tabled E n (OnPairs (λ q u v. a q u × (v ≡ []))) (OnPairs (λ p u v. At m x p u × (v ≡ []))) (Apart m x) first.table
    front = tabled_of_same (λ q z. at_front (a q) z) (λ p z. at_front (At m x p) z) (λ p q told. told) (through (λ (z : List ℕ × List ℕ) (u : List ℕ). (u ≡ z.0) × (z.1 ≡ [])) (tabled first))

    at_rest : (Y : WordSet) (z : List ℕ × List ℕ) → ((v : List ℕ) × ((v ≡ z.1) × In m.setting x z.0) × Y v) ↔ (In m.setting x z.0 × Y z.1)
    at_rest Y z = ((λ has. (has.1.1, subst Y has.1.0 has.2)), λ has. (z.1, (refl, has.0), has.1))

    rest : Tabled E k (OnPairs (λ q u v. In m.setting x u × b q v)) (OnPairs (λ p u v. In m.setting x u × At m y p v)) (Apart m y) second.table
    rest = tabled_of_same (λ q z. at_rest (b q) z) (λ p z. at_rest (At m y p) z) (λ p q told. told) (through (λ (z : List ℕ × List ℕ) (v : List ℕ). (v ≡ z.1) × In m.setting x z.0) (tabled second))

    places : (p : Place) (z : List ℕ × List ℕ) → SideAt (OnPairs (λ p u v. At m x p u × (v ≡ []))) (OnPairs (λ p u v. In m.setting x u × At m y p v)) p z ↔ OnPairs (ProductPlaces (In m.setting x) (At m x) (At m y)) p z
    places (Left p) z = same
    places (Right p) z = same
    places _ z = same

  pub star_r : (t : RelTerm) (n : ℕ) (a r : ℕ → List ℕ → List ℕ → Type 0) → IsPlacedWhereR E n m t a → StarStates IsEmptyPair (OnPairs (λ q. PairConcatenation (PairStar (InR m.setting t)) (a q))) (OnPairs r) → IsPlacedWhereR E (1 + n) m (R.Star t) r
  star_r t n a r first states = placed_r m _ r _ _ _ (forms.at_star_r m t) (forms.apart_star_r m t) (tabled_of_same (λ q z. same) places (λ p q told. told) (copies_after_start (joins_r (PairStar (InR m.setting t)) a (AtR m t) _ _ (tabled_r first)) states)) where
    places : (p : Place) (z : List ℕ × List ℕ) → BegunAt IsEmptyPair (InnerAt (OnPairs (λ p. PairConcatenation (PairStar (InR m.setting t)) (AtR m t p)))) p z ↔ OnPairs (PairStarPlaces (InR m.setting t) (AtR m t)) p z
    places Begin z = same
    places (Inner p) z = same
    places _ z = same

  module _ (s t : RelTerm) (n k : ℕ) (a b r : ℕ → List ℕ → List ℕ → Type 0) (first : IsPlacedWhereR E n m s a) (second : IsPlacedWhereR E k m t b) where
    pub union_r : UnionStates IsEmptyPair n (OnPairs a) (OnPairs b) (OnPairs r) → IsPlacedWhereR E (1 + (n + k)) m (R.Union s t) r
    union_r states = placed_r m _ r _ _ _ (forms.at_union_r m s t) (forms.apart_union_r m s t) (tabled_of_same (λ q z. same) places (λ p q told. told) (beside_after_start (tabled_r first) (tabled_r second) states)) where
      places : (p : Place) (z : List ℕ × List ℕ) → BegunAt IsEmptyPair (SideAt (OnPairs (AtR m s)) (OnPairs (AtR m t))) p z ↔ OnPairs (PairUnionPlaces (AtR m s) (AtR m t)) p z
      places Begin z = same
      places (Left p) z = same
      places (Right p) z = same
      places _ z = same

    pub joined_r : SideBySide n (OnPairs a) (OnPairs (λ q. PairConcatenation (InR m.setting s) (b q))) (OnPairs r) → IsPlacedWhereR E (n + k) m (R.Concat s t) r
    joined_r states = placed_r m _ r _ _ _ (forms.at_concat_r m s t) (forms.apart_concat_r m s t) (tabled_of_same (λ q z. same) places (λ p q told. told) (side_by_side (tabled_r first) (joins_r (InR m.setting s) b (AtR m t) _ _ (tabled_r second)) states)) where
      places : (p : Place) (z : List ℕ × List ℕ) → SideAt (OnPairs (AtR m s)) (OnPairs (λ p. PairConcatenation (InR m.setting s) (AtR m t p))) p z ↔ OnPairs (PairConcatPlaces (InR m.setting s) (AtR m s) (AtR m t)) p z
      places (Left p) z = same
      places (Right p) z = same
      places _ z = same

    pub composed : (pairs : List (ℕ × ℕ)) → NumberedPairs pairs (OnPairs (ReachByMiddle a b)) (OnPairs r) → IsPlacedWhereR E (length pairs) m (R.Compose s t) r
    composed pairs states = placed_r m _ r _ _ _ (forms.at_compose_r m s t) (forms.apart_compose_r m s t) (record {
      is_table = numbered (joint.composed a b (AtR m s) (AtR m t) first.is_table second.is_table) states;
      exact = λ e. exact_of_same (λ q w. same) (joint.composed_places a b (AtR m s) (AtR m t) first.is_table second.is_table) (exact.pairs_exact first.is_table second.is_table (first.exact e) (second.exact e) joint.Through pairs (OnPairs r) (numbered_alike (joint.composed_states a b (AtR m s) (AtR m t) first.is_table second.is_table) states));
    })
