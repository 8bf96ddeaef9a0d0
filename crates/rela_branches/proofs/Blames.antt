-- Alternatives, and the one that claims a word.
use Rattle.std.proofs.Common.{zero, suc, ◌≡◌, ℕ, ◌+◌, ◌<◌, ◌≤◌, ◌↔◌, ◌⊎◌, List, [], ◌∷◌, ◌++◌, length, get_or, map, Bor, Result, Ok, Err, inl, inr, arith, refl, sym, ap, subst, ◌∙◌, append_assoc}
use Rattle.std.specs.Prelude.{Some, OnOk, slice_get, option_map}
use Rattle.std.proofs.lemmas.Bool.{cases_lt}
use Rattle.std.proofs.lemmas.List.{length-map, map-append}
use Rattle.std.proofs.lemmas.Option.{get_or_from_slice_get, slice_get_read, slice_get_within, slice_get-map}
use Rattle.rela_rir.specs.declared.set.SymbolSet.{SymbolSet}
use Rattle.rela_translate.specs.Zones.{Zone}
use Rattle.rela_translate.specs.declared.body.Change.{Change}
use Rattle.rela_translate.specs.declared.body.Expr.{Expr}
use Rattle.rela_translate.specs.declared.body.Core.{Core}
use Rattle.rela_translate.specs.declared.body.Core.TheOpen as C
use Rattle.rela_translate.specs.declared.body.Core.TheVariants as B
use Rattle.rela_translate.specs.declared.body.Core.TheViews.{roll-Core}
use Rattle.rela_translate.specs.declared.body.Core.TheFolds.{ind-Core, map-Core}
use Rattle.rela_branches.specs.Alternatives.{Claims, alternatives_of}
use Rattle.rela_branches.proofs.Forms.{alternatives_else, alternatives_then, alternatives_unit, zone_else}
use Rattle.rela_branches.proofs.Led.{WordSet}

-- the item that a loop has come to
pub item_at : (items shown : List (Bor Core)) (alternatives : List Core) (k : ℕ) (item : Bor Core) → shown ≡ items → map (λ (b : Bor Core). b.now) items ≡ alternatives
    → k < length shown → item ≡ get_or shown k item → slice_get alternatives k ≡ Some item.now
item_at items shown alternatives k item same whole inside at =
    let read : slice_get shown k ≡ Some item = slice_get_read shown (length shown) k item refl inside at in
    ap (λ (xs : List Core). slice_get xs k) (sym whole ∙ ap (map (λ (b : Bor Core). b.now)) (sym same)) ∙ slice_get-map (λ (b : Bor Core). b.now) shown k
    ∙ ap (option_map (λ (b : Bor Core). b.now)) read

pub items_long : (items shown : List (Bor Core)) (alternatives : List Core) → shown ≡ items → map (λ (b : Bor Core). b.now) items ≡ alternatives
    → length alternatives ≡ length shown
items_long items shown alternatives same whole =
    ap length (sym whole) ∙ length-map items (λ (b : Bor Core). b.now) ∙ ap length (sym same)

same_some : (xs : List Core) (k : ℕ) (a b : Core) → slice_get xs k ≡ Some a → slice_get xs k ≡ Some b → a ≡ b
same_some xs k a b one other = sym (get_or_from_slice_get xs k a a one) ∙ get_or_from_slice_get xs k b a other

module _ (classes : List SymbolSet) (n : ℕ) (body : Core) (word : List ℕ) where
  pub claims_it : (k : ℕ) (a : Core) → slice_get (alternatives_of body) k ≡ Some a → Zone classes n a word → Claims classes n body word k
  claims_it k a at is = (a, at, is)

  pub claims_not : (k : ℕ) (a : Core) → slice_get (alternatives_of body) k ≡ Some a → (Zone classes n a word → ⊥) → Claims classes n body word k → ⊥
  claims_not k a at is_not claims =
      is_not (subst (λ (b : Core). Zone classes n b word) (same_some (alternatives_of body) k claims.0 a claims.1 at) claims.2)

  pub one_more : (k : ℕ) → ((j : ℕ) → j < k → Claims classes n body word j → ⊥) → (Claims classes n body word k → ⊥)
      → (j : ℕ) → j < k + 1 → Claims classes n body word j → ⊥
  one_more k none not_here j before claims =
      elim (cases_lt j k) [
        | inl less ↦ none j less claims
        | inr past ↦ let e : j ≡ k = omega arith in not_here (subst (Claims classes n body word) e claims)
      ]

  pub none_claims : (k : ℕ) → length (alternatives_of body) ≤ k → ((j : ℕ) → j < k → Claims classes n body word j → ⊥) → (j : ℕ) → Claims classes n body word j → ⊥
  none_claims k past none j claims = let inside = slice_get_within (alternatives_of body) j claims.0 claims.1 in none j (omega arith) claims

-- reading a list that is joined
get_left : (xs ys : List Core) (k : ℕ) (a : Core) → slice_get xs k ≡ Some a → slice_get (xs ++ ys) k ≡ Some a
get_left [] ys k a at = let inside = slice_get_within (let none : List Core = [] in none) k a at in absurd (omega arith)
get_left (x ∷ xs) ys zero a at = at
get_left (x ∷ xs) ys (suc k) a at = get_left xs ys k a at

get_right : (xs ys : List Core) (k : ℕ) (a : Core) → slice_get ys k ≡ Some a → (j : ℕ) × (slice_get (xs ++ ys) j ≡ Some a)
get_right [] ys k a at = (k, at)
get_right (x ∷ xs) ys k a at = let later = get_right xs ys k a at in (suc later.0, later.1)

get_either : (xs ys : List Core) (k : ℕ) (a : Core) → slice_get (xs ++ ys) k ≡ Some a → (slice_get xs k ≡ Some a) ⊎ ((j : ℕ) × (slice_get ys j ≡ Some a))
get_either [] ys k a at = inr (k, at)
get_either (x ∷ xs) ys zero a at = inl at
get_either (x ∷ xs) ys (suc k) a at = get_either xs ys k a at

-- a word is in the zone of a body just where an alternative claims it
module _ (classes : List SymbolSet) (n : ℕ) where
  abbrev IsShared : Core → Type 0
  IsShared body = (w : List ℕ) → Zone classes n body w ↔ ((k : ℕ) × Claims classes n body w k)

  alone : (body : Core) → alternatives_of body ≡ body ∷ [] → IsShared body
  alone body is w = (
    λ z. (0, (body, ap (λ (xs : List Core). slice_get xs 0) is, z)),
    λ c. first c.0 c.1.0 (ap (λ (xs : List Core). slice_get xs c.0) (sym is) ∙ c.1.1) c.1.2,
  )
    where
      first : (k : ℕ) (a : Core) → slice_get (body ∷ []) k ≡ Some a → Zone classes n a w → Zone classes n body w
      first k a at z =
          let inside = slice_get_within (body ∷ []) k a at in
          let e : k ≡ 0 = omega arith in
          subst (λ (b : Core). Zone classes n b w)
          (same_some (body ∷ []) 0 a body (subst (λ (i : ℕ). slice_get (body ∷ []) i ≡ Some a) e at) refl) z

  split : (s t : Core) → IsShared s → IsShared t → IsShared (B.Else s t)
  split s t one two w =
      let list = alternatives_else s t in
      let zone : Zone classes n (B.Else s t) w ≡ (Zone classes n s w ⊎ Zone classes n t w) = ap (λ (X : WordSet). X w) (zone_else classes n s t) in (
        λ z. elim (subst (λ (T : Type 0). T) zone z) [
          | inl in_s ↦ let c = (one w).0 in_s in (
            c.0,
            (c.1.0, ap (λ (xs : List Core). slice_get xs c.0) list ∙ get_left (alternatives_of s) (alternatives_of t) c.0 c.1.0 c.1.1, c.1.2),
          )
          | inr in_t ↦
              let c = (two w).0 in_t in
              let at = get_right (alternatives_of s) (alternatives_of t) c.0 c.1.0 c.1.1 in (at.0, (c.1.0, ap (λ (xs : List Core). slice_get xs at.0) list ∙ at.1, c.1.2))
        ],
        λ c.
            subst (λ (T : Type 0). T) (sym zone)
            (elim (get_either (alternatives_of s) (alternatives_of t) c.0 c.1.0 (ap (λ (xs : List Core). slice_get xs c.0) (sym list) ∙ c.1.1)) [
              | inl in_s ↦ inl ((one w).1 (c.0, (c.1.0, in_s, c.1.2)))
              | inr in_t ↦ inr ((two w).1 (in_t.0, (c.1.0, in_t.1, c.1.2)))
            ]),
      )

  layer : (y : C.Core-F ((body : Core) × IsShared body)) → IsShared (roll-Core (map-Core ((body : Core) × IsShared body) Core (λ e. e.0) y))
  layer (C.Unit z c) = subst IsShared (sym (B.rolls-Unit z c)) (alone (B.Unit z c) (alternatives_unit z c))
  layer (C.Then s t) = subst IsShared (sym (B.rolls-Then s.0 t.0)) (alone (B.Then s.0 t.0) (alternatives_then s.0 t.0))
  layer (C.Else s t) = subst IsShared (sym (B.rolls-Else s.0 t.0)) (split s.0 t.0 s.1 t.1)

  pub shared : (body : Core) → IsShared body
  shared = ind-Core IsShared (λ x y is. subst (λ (z : C.Core-F Core). IsShared (roll-Core z)) is (layer y))

-- alternatives that are pushed
abbrev pub now_of : List (Bor Core) → List Core
now_of = map (λ (b : Bor Core). b.now)

pub else_pushed : (old middle new : List (Bor Core)) (body s t s' t' : Core) → body ≡ B.Else s t → s' ≡ s → t' ≡ t → now_of middle ≡ now_of old ++ alternatives_of s'
    → now_of new ≡ now_of middle ++ alternatives_of t' → now_of new ≡ now_of old ++ alternatives_of body
else_pushed old middle new body s t s' t' is one two first second =
    second ∙ ap (λ (xs : List Core). xs ++ alternatives_of t') first ∙ append_assoc (now_of old) (alternatives_of s') (alternatives_of t')
    ∙ ap (λ (xs : List Core). now_of old ++ xs)
    (sym (ap alternatives_of (is ∙ ap (λ (x : Core). B.Else x t) (sym one) ∙ ap (λ (y : Core). B.Else s' y) (sym two)) ∙ alternatives_else s' t'))

pub one_pushed : (old new : List (Bor Core)) (body : Bor Core) → new ≡ old ++ body ∷ [] → alternatives_of body.now ≡ body.now ∷ []
    → now_of new ≡ now_of old ++ alternatives_of body.now
one_pushed old new body is one =
    ap now_of is ∙ map-append (λ (b : Bor Core). b.now) old (body ∷ []) ∙ ap (λ (xs : List Core). now_of old ++ xs) (sym one)

pub one_alternative : (body : Core) → ((z : Expr) × (c : Change) × (body ≡ B.Unit z c)) ⊎ ((s : Core) × (t : Core) × (body ≡ B.Then s t))
    → alternatives_of body ≡ body ∷ []
one_alternative body (inl (z, c, is)) = ap alternatives_of is ∙ alternatives_unit z c ∙ ap (λ (b : Core). b ∷ (let none : List Core = [] in none)) (sym is)
one_alternative body (inr (s, t, is)) = ap alternatives_of is ∙ alternatives_then s t ∙ ap (λ (b : Core). b ∷ (let none : List Core = [] in none)) (sym is)

pub on_ok : {A E : Type 0} (P Q : Type 0) (r : Result A E) → (P → Q) → OnOk r P → OnOk r Q
on_ok P Q (Ok a) f p = f p
on_ok P Q (Err e) f p = tt
