-- The tables of machines that are built of others, from the tables of those.
use Rattle.std.proofs.Common.{◌≡◌, ◌≢◌, ◌∙◌, ℕ, zero, suc, ◌+◌, ◌<◌, ◌⊎◌, inl, inr, refl, sym, ap, subst, arith}
use Rattle.std.specs.Prelude.{◌↔◌, Option, Some, None}
use Rattle.std.specs.Option.{option_map}
use Rattle.rela_rir.specs.Places.{Place, Begin, Left, Right, Inner, Tells, PartsApart, NoParts}
use Rattle.rela_rir.specs.Tables.{StandsAt, IsTable}
use Rattle.rela_rir.specs.Built.{SideBySide, StarStates}

pub same : {A : Type 0} → A ↔ A
same = ((λ a. a), λ a. a)

-- what a mapped entry comes from
pub mapped : (f : ℕ → ℕ) (o : Option ℕ) (q : ℕ) → option_map f o ≡ Some q → (k : ℕ) × (o ≡ Some k) × (f k ≡ q)
mapped f None q entry = absurd (let never : ⊥ = cc in never)
mapped f (Some k) q entry = (k, refl, cc)

pub below_or_after : (q n : ℕ) → (q < n) ⊎ ((k : ℕ) × (q ≡ n + k))
below_or_after q zero = inr (q, omega arith)
below_or_after zero (suc n) = inl (omega arith)
below_or_after (suc q) (suc n) = elim (below_or_after q n) [ inl below ↦ inl (omega (arith, below)) | inr after ↦ inr (after.0, (let same : q ≡ n + after.0 = after.1 in omega arith)) ]

-- what is reached through a link from what the states of the part, or its places, are reached by
module _ {I J : Type 0} {reach : ℕ → J → Type 0} {at : Place → J → Type 0} {tells : Tells} {table : Place → Option ℕ} (link : I → J → Type 0) (is : IsTable reach at tells table) where
  abbrev pub Through : (J → Type 0) → I → Type 0
  Through P i = (j : J) × link i j × P j

  pub through : IsTable (λ q i. Through (reach q) i) (λ p i. Through (at p) i) tells table
  through = record {
    reached = λ q i. (
      (λ has. (let stands = (is.reached q has.0).0 has.2 in record { place = stands.place; entry = stands.entry; reached = (has.0, has.1, stands.reached) })),
      λ stands. (let has = stands.reached in (has.0, has.1, (is.reached q has.0).1 (record { place = stands.place; entry = stands.entry; reached = has.2 }))),
    );
    apart = is.apart;
  }

-- the places of two parts
abbrev pub SideAt : {I : Type 0} → (Place → I → Type 0) → (Place → I → Type 0) → Place → I → Type 0
SideAt x y (Left p) i = x p i
SideAt x y (Right p) i = y p i
SideAt x y _ i = ⊥

abbrev pub beside : ℕ → (Place → Option ℕ) → (Place → Option ℕ) → Place → Option ℕ
beside n t u (Left p) = t p
beside n t u (Right p) = option_map (λ k. n + k) (u p)
beside n t u _ = None

module _ {I : Type 0} {n : ℕ} {a b r : ℕ → I → Type 0} {x y : Place → I → Type 0} {tx ty : Tells} {t u : Place → Option ℕ}
    (first : IsTable a x tx t) (second : IsTable b y ty u) (side : SideBySide n a b r) where
  side_there : (q : ℕ) (i : I) → r q i → StandsAt (beside n t u) (SideAt x y) q i
  side_there q i has = elim (below_or_after q n) [
    | inl below ↦
        let stands = (first.reached q i).0 ((side.first q i below).0 has) in
        record { place = Left stands.place; entry = stands.entry; reached = stands.reached }
    | inr after ↦
        let stands = (second.reached after.0 i).0 ((side.second after.0 i).0 (subst (λ k. r k i) after.1 has)) in
        record { place = Right stands.place; entry = ap (option_map (λ k. n + k)) stands.entry ∙ ap Some (sym after.1); reached = stands.reached }
  ]

  side_back : (q : ℕ) (i : I) (place : Place) → beside n t u place ≡ Some q → SideAt x y place i → r q i
  side_back q i (Left p) entry at =
      let has = (first.reached q i).1 (record { place = p; entry = entry; reached = at }) in
      (side.first q i (side.count q i has)).1 has
  side_back q i (Right p) entry at =
      let from = mapped (λ k. n + k) (u p) q entry in
      subst (λ k. r k i) from.2 ((side.second from.0 i).1 ((second.reached from.0 i).1 (record { place = p; entry = from.1; reached = at })))
  side_back q i _ entry at = absurd at

  side_apart : (p s : Place) (k l : ℕ) → beside n t u p ≡ Some k → beside n t u s ≡ Some l → k ≢ l → PartsApart tx ty p s
  side_apart (Left p) (Left s) k l one two differ = first.apart p s k l one two differ
  side_apart (Right p) (Right s) k l one two differ =
      let of_p = mapped (λ k. n + k) (u p) k one in
      let of_s = mapped (λ k. n + k) (u s) l two in
      second.apart p s of_p.0 of_s.0 of_p.1 of_s.1 (λ same. differ (sym of_p.2 ∙ ap (λ j. n + j) same ∙ of_s.2))
  side_apart (Left p) (Right s) k l one two differ = refl
  side_apart (Right p) (Left s) k l one two differ = refl
  side_apart _ _ k l one two differ = absurd (let never : ⊥ = cc in never)

  pub side_by_side : IsTable r (SideAt x y) (PartsApart tx ty) (beside n t u)
  side_by_side = record { reached = λ q i. (side_there q i, λ stands. side_back q i stands.place stands.entry stands.reached); apart = side_apart }

-- the places of a part under its name for inner places
abbrev pub InnerAt : {I : Type 0} → (Place → I → Type 0) → Place → I → Type 0
InnerAt x (Inner p) i = x p i
InnerAt x _ i = ⊥

abbrev pub inner : (Place → Option ℕ) → Place → Option ℕ
inner t (Inner p) = t p
inner t _ = None

module _ {I : Type 0} {a : ℕ → I → Type 0} {x : Place → I → Type 0} {tx : Tells} {t : Place → Option ℕ} (is : IsTable a x tx t) where
  inner_back : (q : ℕ) (i : I) (place : Place) → inner t place ≡ Some q → InnerAt x place i → a q i
  inner_back q i (Inner p) entry at = (is.reached q i).1 (record { place = p; entry = entry; reached = at })
  inner_back q i _ entry at = absurd at

  inner_apart : (p s : Place) (k l : ℕ) → inner t p ≡ Some k → inner t s ≡ Some l → k ≢ l → PartsApart tx NoParts p s
  inner_apart (Inner p) (Inner s) k l one two differ = is.apart p s k l one two differ
  inner_apart _ _ k l one two differ = absurd (let never : ⊥ = cc in never)

  pub within : IsTable a (InnerAt x) (PartsApart tx NoParts) (inner t)
  within = record {
    reached = λ q i. ((λ has. (let stands = (is.reached q i).0 has in record { place = Inner stands.place; entry = stands.entry; reached = stands.reached })), λ stands. inner_back q i stands.place stands.entry stands.reached);
    apart = inner_apart;
  }

-- a start of its own besides
abbrev pub BegunAt : {I : Type 0} → (I → Type 0) → (Place → I → Type 0) → Place → I → Type 0
BegunAt start at Begin i = start i
BegunAt start at p i = at p i

abbrev pub begun : (Place → Option ℕ) → Place → Option ℕ
begun t Begin = Some 0
begun t p = option_map (λ k. 1 + k) (t p)

module _ {I : Type 0} {start : I → Type 0} {a r : ℕ → I → Type 0} {at : Place → I → Type 0} {tx ty : Tells} {t : Place → Option ℕ}
    (is : IsTable a at (PartsApart tx ty) t) (none : (i : I) → at Begin i → ⊥) (states : StarStates start a r) where
  begun_place : (q : ℕ) (i : I) (p : Place) → t p ≡ Some q → at p i → StandsAt (begun t) (BegunAt start at) (1 + q) i
  begun_place q i Begin entry has = absurd (none i has)
  begun_place q i p entry has = record { place = p; entry = ap (option_map (λ k. 1 + k)) entry; reached = has }

  begun_there : (q : ℕ) (i : I) → r q i → StandsAt (begun t) (BegunAt start at) q i
  begun_there zero i has = record { place = Begin; entry = refl; reached = (states.begin i).0 has }
  begun_there (suc q) i has =
      let one : suc q ≡ 1 + q = omega arith in
      let stands = (is.reached q i).0 ((states.copies q i).0 (subst (λ k. r k i) one has)) in
      subst (λ k. StandsAt (begun t) (BegunAt start at) k i) (sym one) (begun_place q i stands.place stands.entry stands.reached)

  begun_back : (q : ℕ) (i : I) (place : Place) → begun t place ≡ Some q → BegunAt start at place i → r q i
  begun_back q i Begin entry has = subst (λ k. r k i) (let zeros : 0 ≡ q = cc in zeros) ((states.begin i).1 has)
  begun_back q i p entry has =
      let from = mapped (λ k. 1 + k) (t p) q entry in
      subst (λ k. r k i) from.2 ((states.copies from.0 i).1 ((is.reached from.0 i).1 (record { place = p; entry = from.1; reached = has })))

  begun_apart : (p s : Place) (k l : ℕ) → begun t p ≡ Some k → begun t s ≡ Some l → k ≢ l → PartsApart tx ty p s
  begun_apart Begin Begin k l one two differ = absurd (differ (let zeros : k ≡ l = cc in zeros))
  begun_apart Begin _ k l one two differ = refl
  begun_apart _ Begin k l one two differ = refl
  begun_apart p s k l one two differ =
      let of_p = mapped (λ k. 1 + k) (t p) k one in
      let of_s = mapped (λ k. 1 + k) (t s) l two in
      is.apart p s of_p.0 of_s.0 of_p.1 of_s.1 (λ same. differ (sym of_p.2 ∙ ap (λ j. 1 + j) same ∙ of_s.2))

  pub with_start : IsTable r (BegunAt start at) (PartsApart tx ty) (begun t)
  with_start = record { reached = λ q i. (begun_there q i, λ stands. begun_back q i stands.place stands.entry stands.reached); apart = begun_apart }
