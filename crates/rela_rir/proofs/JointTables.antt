-- Tables of terms whose places are pairs of places: meets, images and compositions.
use Rattle.std.proofs.Common.{◌≡◌, ◌≢◌, ◌∙◌, ℕ, zero, suc, ◌⊎◌, inl, inr, List, refl, ap, subst, arith}
use Rattle.std.specs.Prelude.{◌↔◌, Option, Some, None}
use Rattle.rela_rir.specs.Places.{Place, Both, Places, PairPlaces, Tells, MeetPlaces, ImagePlaces, ComposePlaces, PartsApart}
use Rattle.rela_rir.specs.Tables.{StandsAt, IsTable, OnPairs}
use Rattle.rela_rir.proofs.Tables.{table_of_same}

-- both states, where there are both
abbrev pub both : Option ℕ → Option ℕ → Option (ℕ × ℕ)
both (Some q) (Some r) = Some (q, r)
both _ _ = None

-- a pair of places has the pair of their states
abbrev pub joint : (Place → Option ℕ) → (Place → Option ℕ) → Place → Option (ℕ × ℕ)
joint t u (Both p q) = both (t p) (u q)
joint t u _ = None

abbrev pair : ℕ → ℕ → ℕ × ℕ
pair a b = (a, b)

pub both_some : (a b : Option ℕ) (q r : ℕ) → a ≡ Some q → b ≡ Some r → both a b ≡ Some (q, r)
both_some (Some a) (Some b) q r one two = (let first : a ≡ q = cc in let second : b ≡ r = cc in cc)
both_some (Some a) None q r one two = absurd (let never : ⊥ = cc in never)
both_some None (Some b) q r one two = absurd (let never : ⊥ = cc in never)
both_some None None q r one two = absurd (let never : ⊥ = cc in never)

pub both_entries : (a b : Option ℕ) (x : ℕ × ℕ) → both a b ≡ Some x → (a ≡ Some x.0) × (b ≡ Some x.1)
both_entries (Some a) (Some b) x entry = (let is : pair a b ≡ x = cc in (ap (λ (y : ℕ × ℕ). Some y.0) is, ap (λ (y : ℕ × ℕ). Some y.1) is))
both_entries (Some a) None x entry = absurd (let never : ⊥ = cc in never)
both_entries None (Some b) x entry = absurd (let never : ⊥ = cc in never)
both_entries None None x entry = absurd (let never : ⊥ = cc in never)

same_or_not : (m n : ℕ) → (m ≡ n) ⊎ (m ≢ n)
same_or_not zero zero = inl refl
same_or_not zero (suc n) = inr (λ same. omega (arith, same))
same_or_not (suc m) zero = inr (λ same. omega (arith, same))
same_or_not (suc m) (suc n) = elim (same_or_not m n) [ inl same ↦ inl (ap suc same) | inr differ ↦ inr (λ same. differ (omega (arith, same))) ]

same_pair : (a b c d : ℕ) → a ≡ c → b ≡ d → pair a b ≡ pair c d
same_pair a b c d first second = ap (λ (e : ℕ). pair e b) first ∙ ap (λ (e : ℕ). pair c e) second

differ_in_one : (x y : ℕ × ℕ) → x ≢ y → (x.0 ≢ y.0) ⊎ (x.1 ≢ y.1)
differ_in_one x y differ = elim (same_or_not x.0 y.0) [
  | inl first ↦ inr (λ second. differ (same_pair x.0 x.1 y.0 y.1 first second))
  | inr first ↦ inl first
]

pub pair_or_not : (x y : ℕ × ℕ) → (x ≡ y) ⊎ (x ≡ y → ⊥)
pair_or_not x y = elim (same_or_not x.0 y.0) [
  | inl first ↦ elim (same_or_not x.1 y.1) [
    | inl second ↦ inl (same_pair x.0 x.1 y.0 y.1 first second)
    | inr differ ↦ inr (λ same. differ (ap (λ (z : ℕ × ℕ). z.1) same))
  ]
  | inr differ ↦ inr (λ same. differ (ap (λ (z : ℕ × ℕ). z.0) same))
]

-- Places of two terms go together where what reaches them is linked.
module _ {I J K : Type 0} {a : ℕ → I → Type 0} {x : Place → I → Type 0} {tx : Tells} {t : Place → Option ℕ} {b : ℕ → J → Type 0} {y : Place → J → Type 0} {ty : Tells} {u : Place → Option ℕ}
    (first : IsTable a x tx t) (second : IsTable b y ty u) (link : K → I → J → Type 0) where
  pub record Linked (X : I → Type 0) (Y : J → Type 0) (k : K) : Type 0 where
    pub left : I
    pub right : J
    pub linked : link k left right
    pub in_left : X left
    pub in_right : Y right

  abbrev pub JointPlaces : Place → K → Type 0
  JointPlaces (Both p q) k = Linked (x p) (y q) k
  JointPlaces _ k = ⊥

  abbrev pub Together : ℕ × ℕ → K → Type 0
  Together q k = Linked (a q.0) (b q.1) k

  there : (q : ℕ × ℕ) (k : K) → Together q k → StandsAt (joint t u) JointPlaces q k
  there q k has =
      let one = (first.reached q.0 has.left).0 has.in_left in
      let two = (second.reached q.1 has.right).0 has.in_right in
      record {
        place = Both one.place two.place;
        entry = both_some (t one.place) (u two.place) q.0 q.1 one.entry two.entry;
        reached = record { left = has.left; right = has.right; linked = has.linked; in_left = one.reached; in_right = two.reached };
      }

  back : (q : ℕ × ℕ) (k : K) (place : Place) → joint t u place ≡ Some q → JointPlaces place k → Together q k
  back q k (Both p r) entry at =
      let entries = both_entries (t p) (u r) q entry in
      record {
        left = at.left;
        right = at.right;
        linked = at.linked;
        in_left = (first.reached q.0 at.left).1 (record { place = p; entry = entries.0; reached = at.in_left });
        in_right = (second.reached q.1 at.right).1 (record { place = r; entry = entries.1; reached = at.in_right });
      }
  back q k _ entry at = absurd at

  apart : (p r : Place) (k l : ℕ × ℕ) → joint t u p ≡ Some k → joint t u r ≡ Some l → k ≢ l → PartsApart tx ty p r
  apart (Both p p') (Both r r') k l one two differ =
      let of_p = both_entries (t p) (u p') k one in
      let of_r = both_entries (t r) (u r') l two in
      elim (differ_in_one k l differ) [
        | inl left ↦ inl (first.apart p r k.0 l.0 of_p.0 of_r.0 left)
        | inr right ↦ inr (second.apart p' r' k.1 l.1 of_p.1 of_r.1 right)
      ]
  apart _ _ k l one two differ = absurd (let never : ⊥ = cc in never)

  pub joint_table : IsTable Together JointPlaces (PartsApart tx ty) (joint t u)
  joint_table = record { reached = λ q k. (there q k, λ stands. back q k stands.place stands.entry stands.reached); apart = apart }

-- one word reaches both
abbrev pub One : List ℕ → List ℕ → List ℕ → Type 0
One w left right = (left ≡ w) × (right ≡ w)

-- what reaches the first is the source of what reaches the second
abbrev pub Source : List ℕ → List ℕ → List ℕ × List ℕ → Type 0
Source v left right = right ≡ (left, v)

-- what the first writes the second reads
abbrev pub Through : List ℕ × List ℕ → List ℕ × List ℕ → List ℕ × List ℕ → Type 0
Through pair left right = (left ≡ (pair.0, left.1)) × (right ≡ (left.1, pair.1))

module _ {a b : ℕ → List ℕ → Type 0} {x y : Places} {tx ty : Tells} {t u : Place → Option ℕ} (first : IsTable a x tx t) (second : IsTable b y ty u) where
  pub meet_states : (q : ℕ × ℕ) (w : List ℕ) → Together first second One q w ↔ (a q.0 w × b q.1 w)
  meet_states q w = ((λ has. (rw has.linked.0 at has.in_left, rw has.linked.1 at has.in_right)), λ has. record { left = w; right = w; linked = (refl, refl); in_left = has.0; in_right = has.1 })

  pub meet_places : (p : Place) (w : List ℕ) → JointPlaces first second One p w ↔ MeetPlaces x y p w
  meet_places (Both p r) w = ((λ has. (rw has.linked.0 at has.in_left, rw has.linked.1 at has.in_right)), λ has. record { left = w; right = w; linked = (refl, refl); in_left = has.0; in_right = has.1 })
  meet_places _ w = ((λ never. never), λ never. never)

  pub meet : IsTable (λ (q : ℕ × ℕ) w. a q.0 w × b q.1 w) (MeetPlaces x y) (PartsApart tx ty) (joint t u)
  meet = table_of_same meet_states meet_places (λ p r told. told) (joint_table first second One)

module _ {a : ℕ → List ℕ → Type 0} {x : Places} {tx ty : Tells} {t u : Place → Option ℕ} (b : ℕ → List ℕ → List ℕ → Type 0) (y : PairPlaces) (first : IsTable a x tx t) (second : IsTable (OnPairs b) (OnPairs y) ty u) where
  pub image_states : (q : ℕ × ℕ) (v : List ℕ) → Together first second Source q v ↔ ((source : List ℕ) × a q.0 source × b q.1 source v)
  image_states q v = ((λ has. (has.left, has.in_left, rw has.linked at has.in_right)), λ has. record { left = has.0; right = (has.0, v); linked = refl; in_left = has.1; in_right = has.2 })

  pub image_places : (p : Place) (v : List ℕ) → JointPlaces first second Source p v ↔ ImagePlaces x y p v
  image_places (Both p r) v = ((λ has. record { source = has.left; in_set = has.in_left; related = rw has.linked at has.in_right }), λ has. record { left = has.source; right = (has.source, v); linked = refl; in_left = has.in_set; in_right = has.related })
  image_places _ v = ((λ never. never), λ never. never)

  pub image : IsTable (λ (q : ℕ × ℕ) v. (source : List ℕ) × a q.0 source × b q.1 source v) (ImagePlaces x y) (PartsApart tx ty) (joint t u)
  image = table_of_same image_states image_places (λ p r told. told) (joint_table first second Source)

front : (R : List ℕ → List ℕ → Type 0) (left pair : List ℕ × List ℕ) → left ≡ (pair.0, left.1) → R left.0 left.1 → R pair.0 left.1
front R left pair same has = subst (λ (u : List ℕ). R u left.1) (ap (λ (z : List ℕ × List ℕ). z.0) same) has

rest : (R : List ℕ → List ℕ → Type 0) (right : List ℕ × List ℕ) (middle v : List ℕ) → right ≡ (middle, v) → R right.0 right.1 → R middle v
rest R right middle v same has = subst (λ (z : List ℕ × List ℕ). R z.0 z.1) same has

module _ {tx ty : Tells} {t u : Place → Option ℕ} (a b : ℕ → List ℕ → List ℕ → Type 0) (x y : PairPlaces) (first : IsTable (OnPairs a) (OnPairs x) tx t) (second : IsTable (OnPairs b) (OnPairs y) ty u) where
  pub composed_states : (q : ℕ × ℕ) (pair : List ℕ × List ℕ) → Together first second Through q pair ↔ ((middle : List ℕ) × a q.0 pair.0 middle × b q.1 middle pair.1)
  composed_states q pair = (
    (λ has. (has.left.1, front (a q.0) has.left pair has.linked.0 has.in_left, rest (b q.1) has.right has.left.1 pair.1 has.linked.1 has.in_right)),
    λ has. record { left = (pair.0, has.0); right = (has.0, pair.1); linked = (refl, refl); in_left = has.1; in_right = has.2 },
  )

  pub composed_places : (p : Place) (pair : List ℕ × List ℕ) → JointPlaces first second Through p pair ↔ ComposePlaces x y p pair.0 pair.1
  composed_places (Both p r) pair = (
    (λ has. record { middle = has.left.1; first = front (x p) has.left pair has.linked.0 has.in_left; second = rest (y r) has.right has.left.1 pair.1 has.linked.1 has.in_right }),
    λ has. record { left = (pair.0, has.middle); right = (has.middle, pair.1); linked = (refl, refl); in_left = has.first; in_right = has.second },
  )
  composed_places _ pair = ((λ never. never), λ never. never)

  pub composed : IsTable (λ (q : ℕ × ℕ) (pair : List ℕ × List ℕ). (middle : List ℕ) × a q.0 pair.0 middle × b q.1 middle pair.1) (OnPairs (ComposePlaces x y)) (PartsApart tx ty) (joint t u)
  composed = table_of_same composed_states composed_places (λ p r told. told) (joint_table first second Through)
