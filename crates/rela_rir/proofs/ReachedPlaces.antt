-- As many places are reached as states that stand for them.
use Rattle.std.proofs.Common.{◌∙◌, ℕ, ◌⊎◌, inl, inr, List, subst}
use Rattle.std.specs.Prelude.{◌↔◌, Option}
use Rattle.std.specs.Option.{ForSome}
use Rattle.std.proofs.lemmas.List.Elements.{All-weaker}
use Rattle.rela_names.specs.Shortlex.{IsBefore}
use Rattle.rela_rir.specs.Meaning.{IsPathWord}
use Rattle.rela_rir.specs.Places.{Place, Scene, At, AtR, Apart, ApartR}
use Rattle.rela_rir.specs.Limit.{IsCheckWord, IsReachedR, Reached, ReachedR, ToldByPlace, ReachedPair}
use Rattle.rela_rir.specs.Tables.{IsTable, IsExact, OnPairs, IsPlaced, IsPlacedR, IsPlacedWhere, IsPlacedWhereR, IsStateReached, IsStateReachedR, ReachTogether, ReachFromSource, ReachByMiddle, ManyStates, ToldByState, ManyWords}
use Rattle.rela_rir.specs.Agreement.{AgreeOn, AgreeOnR}
use Rattle.rela_rir.proofs.PlaceForms as forms
use Rattle.rela_rir.proofs.ScenesAlike.{carries, carries_r}
use Rattle.rela_rir.proofs.Licences.{seen_places}
use Rattle.rela_rir.proofs.Tables.{chosen, ReachedPlace, told_by_place, table_of_same, exact_of_same}
use Rattle.rela_rir.proofs.JointTables as joint
use Rattle.rela_rir.specs.declared.term.PathTerm.{PathTerm}
use Rattle.rela_rir.specs.declared.term.RelTerm.{RelTerm}
use Rattle.rela_rir.specs.declared.term.PathTerm.TheVariants as P
use Rattle.rela_rir.specs.declared.term.RelTerm.TheVariants as R

pub reached : {Q : Type 0} (m : Scene) (x : PathTerm) (reach : Q → List ℕ → Type 0) (table : Place → Option Q) → IsTable reach (At m x) (Apart m x) table →
    (k : ℕ) → ManyStates (IsStateReached m reach) k → Reached m x k
reached m x reach table is k has =
    let choice = chosen is (IsCheckWord m) has.states has.different has.each in
    record { places = choice.places; many = choice.many ∙ has.many; apart = choice.apart; reached = choice.reached }

-- both words of the pair are of path symbols and markers
abbrev Words : Scene → List ℕ × List ℕ → Type 0
Words m x = IsCheckWord m x.0 × IsCheckWord m x.1

-- some pair, taken as one, reaches the state
abbrev ReachedAsOne : {Q : Type 0} → Scene → (Q → List ℕ → List ℕ → Type 0) → Q → Type 0
ReachedAsOne m reach q = (x : List ℕ × List ℕ) × Words m x × OnPairs reach q x

as_one : {Q : Type 0} (m : Scene) (reach : Q → List ℕ → List ℕ → Type 0) (q : Q) → IsStateReachedR m reach q → ReachedAsOne m reach q
as_one m reach q is = ((is.0, is.1), (is.2, is.3), is.4)

pub reached_r : {Q : Type 0} (m : Scene) (r : RelTerm) (reach : Q → List ℕ → List ℕ → Type 0) (table : Place → Option Q) → IsTable (OnPairs reach) (OnPairs (AtR m r)) (ApartR m r) table →
    (k : ℕ) → ManyStates (IsStateReachedR m reach) k → ReachedR m r k
reached_r {Q} m r reach table is k has =
    let choice = chosen is (Words m) has.states has.different (All-weaker (IsStateReachedR m reach) (ReachedAsOne m reach) (as_one m reach) has.states has.each) in
    record {
      places = choice.places;
      many = choice.many ∙ has.many;
      apart = choice.apart;
      reached = All-weaker (ReachedPlace is (Words m)) (IsReachedR m r) (λ p one. (one.0.0, one.0.1, one.1.0, one.1.1, one.2)) choice.places choice.reached;
    }

turned : {A B : Type 0} → A ↔ B → B ↔ A
turned both = (both.1, both.0)

same : {A : Type 0} → A ↔ A
same = ((λ a. a), λ a. a)

module _ (m : Scene) where
  pub meet : (x y : PathTerm) (a b : ℕ → List ℕ → Type 0) → IsPlaced m x a → IsPlaced m y b → (k : ℕ) → ManyStates (IsStateReached m (ReachTogether a b)) k → Reached m (P.Meet x y) k
  meet x y a b first second =
      reached m (P.Meet x y) (ReachTogether a b) (joint.joint first.table second.table)
      (table_of_same (λ q w. same) (λ p w. turned (forms.at_place (forms.at_meet m x y) p w)) (λ p q. (forms.told (forms.apart_meet m x y) p q).1) (joint.meet first.is_table second.is_table))

  pub image : (x : PathTerm) (r : RelTerm) (a : ℕ → List ℕ → Type 0) (b : ℕ → List ℕ → List ℕ → Type 0) → IsPlaced m x a → IsPlacedR m r b → (k : ℕ) → ManyStates (IsStateReached m (ReachFromSource a b)) k → Reached m (P.Image x r) k
  image x r a b first second =
      reached m (P.Image x r) (ReachFromSource a b) (joint.joint first.table second.table)
      (table_of_same (λ q w. same) (λ p w. turned (forms.at_place (forms.at_image m x r) p w)) (λ p q. (forms.told (forms.apart_image m x r) p q).1) (joint.image b (AtR m r) first.is_table second.is_table))

  pub composed : (r s : RelTerm) (a b : ℕ → List ℕ → List ℕ → Type 0) → IsPlacedR m r a → IsPlacedR m s b → (k : ℕ) → ManyStates (IsStateReachedR m (ReachByMiddle a b)) k → ReachedR m (R.Compose r s) k
  composed r s a b first second =
      reached_r m (R.Compose r s) (ReachByMiddle a b) (joint.joint first.table second.table)
      (table_of_same (λ q x. same) (λ p x. turned (forms.at_place_r (forms.at_compose_r m r s) p x.0 x.1)) (λ p q. (forms.told (forms.apart_compose_r m r s) p q).1) (joint.composed a b (AtR m r) (AtR m s) first.is_table second.is_table))

  pub complement : (x : PathTerm) (a : ℕ → List ℕ → Type 0) → IsPlaced m x a → (k : ℕ) → ManyWords (IsPathWord m.setting.path_symbols) (ToldByState a) k → Reached m (P.Complement x) k
  complement x a placed k has =
      subst (λ (t : PathTerm). Reached m t k) (P.rolls-Complement x)
      (seen_places m x k has.words has.many has.each (λ i j d before inside. (let by = has.apart i j d before inside in told_by_place placed.is_table by.0 _ _ by.1)))

  pub comparison : (last : Option (List ℕ)) (x y : PathTerm) (a b : ℕ → List ℕ → Type 0) → IsPlaced m x a → IsPlaced m y b → (k : ℕ) →
      ManyWords (λ w. IsCheckWord m w × ForSome last (λ end. ¬ IsBefore end w)) (λ w z. ToldByState a w z ⊎ ToldByState b w z) k → ReachedPair m last x y k
  comparison last x y a b first second k has = record {
    words = has.words;
    many = has.many;
    symbols = All-weaker (λ w. IsCheckWord m w × ForSome last (λ end. ¬ IsBefore end w)) (IsCheckWord m) (λ w is. is.0) has.words has.each;
    early = λ e same. All-weaker (λ w. IsCheckWord m w × ForSome last (λ end. ¬ IsBefore end w)) (λ w. ¬ IsBefore e w) (λ w is. is.1 e same) has.words has.each;
    told = λ i j d before inside. told _ _ (has.apart i j d before inside);
  } where
    told : (w z : List ℕ) → ToldByState a w z ⊎ ToldByState b w z → ToldByPlace m x y w z
    told w z (inl by) = inl (told_by_place first.is_table by.0 w z by.1)
    told w z (inr by) = inr (told_by_place second.is_table by.0 w z by.1)

module _ (m n : Scene) where
  table_there : (x : PathTerm) (reach : ℕ → List ℕ → Type 0) → AgreeOn m n x → (table : Place → Option ℕ) → IsTable reach (At m x) (Apart m x) table → IsTable reach (At n x) (Apart n x) table
  table_there x reach agree table is =
      let both = carries m n agree.symbols.setting x agree.paths in
      table_of_same (λ q w. same) (λ p w. (both.0.places p w, both.1.places p w)) both.0.apart is

  table_there_r : (r : RelTerm) (reach : ℕ → List ℕ → List ℕ → Type 0) → AgreeOnR m n r → (table : Place → Option ℕ) →
      IsTable (OnPairs reach) (OnPairs (AtR m r)) (ApartR m r) table → IsTable (OnPairs reach) (OnPairs (AtR n r)) (ApartR n r) table
  table_there_r r reach agree table is =
      let both = carries_r m n agree.symbols.setting r agree.paths in
      table_of_same (λ q x. same) (λ p x. (both.0.places p x.0 x.1, both.1.places p x.0 x.1)) both.0.apart is

  pub placed : (x : PathTerm) (reach : ℕ → List ℕ → Type 0) → AgreeOn m n x → IsPlaced m x reach → IsPlaced n x reach
  placed x reach agree is = record { table = is.table; is_table = table_there x reach agree is.table is.is_table }

  pub placed_r : (r : RelTerm) (reach : ℕ → List ℕ → List ℕ → Type 0) → AgreeOnR m n r → IsPlacedR m r reach → IsPlacedR n r reach
  placed_r r reach agree is = record { table = is.table; is_table = table_there_r r reach agree is.table is.is_table }

  pub exact : (x : PathTerm) (reach : ℕ → List ℕ → Type 0) → AgreeOn m n x → (count : ℕ) (table : Place → Option ℕ) → IsExact count reach (At m x) table → IsExact count reach (At n x) table
  exact x reach agree count table is =
      let both = carries m n agree.symbols.setting x agree.paths in
      exact_of_same (λ q w. same) (λ p w. (both.0.places p w, both.1.places p w)) is

  pub exact_r : (r : RelTerm) (reach : ℕ → List ℕ → List ℕ → Type 0) → AgreeOnR m n r → (count : ℕ) (table : Place → Option ℕ) →
      IsExact count (OnPairs reach) (OnPairs (AtR m r)) table → IsExact count (OnPairs reach) (OnPairs (AtR n r)) table
  exact_r r reach agree count table is =
      let both = carries_r m n agree.symbols.setting r agree.paths in
      exact_of_same (λ q x. same) (λ p x. (both.0.places p x.0 x.1, both.1.places p x.0 x.1)) is

  pub counted : (x : PathTerm) (reach : ℕ → List ℕ → Type 0) (E : Type 0) (count : ℕ) → AgreeOn m n x → IsPlacedWhere E count m x reach → IsPlacedWhere E count n x reach
  counted x reach E count agree is =
      record { table = is.table; is_table = table_there x reach agree is.table is.is_table; exact = λ e. exact x reach agree count is.table (is.exact e) }

  pub counted_r : (r : RelTerm) (reach : ℕ → List ℕ → List ℕ → Type 0) (E : Type 0) (count : ℕ) → AgreeOnR m n r →
      IsPlacedWhereR E count m r reach → IsPlacedWhereR E count n r reach
  counted_r r reach E count agree is =
      record { table = is.table; is_table = table_there_r r reach agree is.table is.is_table; exact = λ e. exact_r r reach agree count is.table (is.exact e) }

pub placed_alike : (m : Scene) (x : PathTerm) (reach other : ℕ → List ℕ → Type 0) → ((q : ℕ) (w : List ℕ) → reach q w ↔ other q w) → IsPlaced m x reach → IsPlaced m x other
placed_alike m x reach other alike is = record { table = is.table; is_table = table_of_same alike (λ p w. same) (λ p q told. told) is.is_table }

pub placed_alike_r : (m : Scene) (r : RelTerm) (reach other : ℕ → List ℕ → List ℕ → Type 0) → ((q : ℕ) (u v : List ℕ) → reach q u v ↔ other q u v) → IsPlacedR m r reach → IsPlacedR m r other
placed_alike_r m r reach other alike is = record { table = is.table; is_table = table_of_same (λ q x. alike q x.0 x.1) (λ p x. same) (λ p q told. told) is.is_table }
