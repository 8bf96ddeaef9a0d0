-- What holds as forms are gathered part by part.
use Rattle.std.proofs.Common.{◌≡◌, ℕ, ◌+◌, ◌<◌, List, [], ◌∷◌, ◌++◌, length, take, get_or, map, Option, Some, None, Result, Ok, Err, ◌⊎◌, inl, inr, refl, ap, sym, subst, ◌∙◌, arith, add-one, length-append}
use Rattle.std.proofs.Math.Seq.{take-suc, get_or-append_seam}
use Rattle.std.proofs.lemmas.List.{get_or_append_left}
use Rattle.std.specs.List.{All}
use Rattle.rela_json.specs.Results.{◌>>=◌, try_map}
use Rattle.rela_lex.specs.declared.error.SpecError.{SpecError}
use Rattle.rela_spec.specs.declared.tree.Member.{Member}
use Rattle.rela_spec.specs.declared.tree.PathExpr.{PathExpr}
use Rattle.rela_expand.specs.Forms.{shape_at, Extends, StandsAt}
use Rattle.rela_expand.specs.Gathers.{made_of, path_shape}
use Rattle.rela_expand.specs.Numbered.{or_none}
use Rattle.rela_expand.specs.Places.{Place, listed, symbols_of, in_some}
use Rattle.rela_expand.specs.Scopes.{meaning_of, path_at, paths_named, AreKnown, IsMade, AreMade}
use Rattle.rela_expand.specs.Shapes.{Shape, all_of, shape_of}
use Rattle.rela_expand.specs.declared.gathering.Scope.{Scope}
use Rattle.rela_expand.specs.declared.names.Definitions.{Definitions}
use Rattle.rela_expand.specs.declared.names.Meaning.{Meaning}
use Rattle.rela_expand.specs.declared.names.Meaning.TheVariants as meaning
use Rattle.rela_expand.proofs.TreeForms.{shapes_stay}
use Rattle.rela_expand.proofs.Tries.{try_more, try_stops, try_of_map}

map_last : {A B : Type 0} (f : A → B) (xs : List A) (x : A) → map f (xs ++ x ∷ []) ≡ map f xs ++ f x ∷ []
map_last f [] x = refl
map_last {A} {B} f (y ∷ xs) x = ap (λ (zs : List B). f y ∷ zs) (map_last f xs x)

pub all_last : {X : Type 0} (P : X → Type 0) (xs : List X) (x : X) → All P xs → P x → All P (xs ++ x ∷ [])
all_last P xs x all here k d h = by_place (let n = length-append xs (x ∷ []) in grind arith)
  where
    by_place : (k < length xs) ⊎ (k ≡ length xs) → P (get_or (xs ++ x ∷ []) k d)
    by_place (inl old) = subst P (sym (get_or_append_left xs (x ∷ []) d k old)) (all k d old)
    by_place (inr last) = subst (λ (n : ℕ). P (get_or (xs ++ x ∷ []) n d)) (sym last) (subst P (sym (get_or-append_seam xs x [] d)) here)

-- the members looked at so far
pub members_more : (place : Place) (ms : List Member) (i : ℕ) (d : Member) → i < length ms
    → try_map (symbols_of place) (take i ms) ≡ Ok (map (λ m. or_none (symbols_of place m)) (take i ms))
    → symbols_of place (get_or ms i d) ≡ Ok (or_none (symbols_of place (get_or ms i d)))
    → try_map (symbols_of place) (take (i + 1) ms) ≡ Ok (map (λ m. or_none (symbols_of place m)) (take (i + 1) ms))
members_more place ms i d h so here =
    let f = λ (m : Member). or_none (symbols_of place m) in
    rw (add-one i)
    (try_more (symbols_of place) ms i d (map f (take i ms)) (f (get_or ms i d)) h so here
    ∙ ap (λ (xs : List (List ℕ)). let r : Result (List (List ℕ)) SpecError = Ok xs in r)
    (sym (map_last f (take i ms) (get_or ms i d)) ∙ ap (map f) (sym (take-suc ms i d h))))

pub members_stop : (place : Place) (ms : List Member) (i : ℕ) (d : Member) (lists : List (List ℕ)) (e : SpecError) → i < length ms
    → try_map (symbols_of place) (take i ms) ≡ Ok lists → symbols_of place (get_or ms i d) ≡ Err e → listed place ms ≡ Err e
unfolding listed
members_stop place ms i d lists e h so here =
    ap (λ (r : Result (List (List ℕ)) SpecError). r >>= (λ xs. Ok (in_some place xs))) (try_stops (symbols_of place) ms i d lists e h so here)

pub known_longer : (old new : List Shape) (d : Definitions) → Extends old new → AreKnown old d → AreKnown new d
known_longer old new d more known name k is = let a = known name k is in let b = more.longer in omega arith

pub named_stays : (old new : List Shape) (d : Definitions) → Extends old new → AreKnown old d → paths_named new d ≡ paths_named old d
named_stays old new d more known = λ i name. by_meaning name (meaning_of d name) refl i
  where
    by_meaning : (name : List ℕ) (m : Option Meaning) → meaning_of d name ≡ m → path_at new m ≡ path_at old m
    by_meaning name None is = refl
    by_meaning name (Some (meaning.Path k)) is = ap (λ (s : Shape). Some s) (more.same k (known name k is))
    by_meaning name (Some (meaning.Spec k)) is = refl

-- what an expression is shaped to stays as forms are added
pub shaped_stays : (scope : Scope) (old new : List Shape) (path : PathExpr) → Extends old new → AreKnown old scope.names.now
    → path_shape scope new path ≡ path_shape scope old path
shaped_stays scope old new path more known =
    ap (λ (names : List ℕ → Option Shape). shape_of (record { network = scope.locations.now; level = scope.level }) names path)
    (named_stays old new scope.names.now more known)

pub none_made : (f : PathExpr → Result Shape SpecError) (shapes : List Shape) (parts : List PathExpr) (ks : List ℕ) → ks ≡ []
    → AreMade (try_map f (take 0 parts)) shapes ks
none_made f shapes parts ks none = subst (AreMade (try_map f (take 0 parts)) shapes) (sym none) (record { inside = λ k d h. absurd (omega arith); are = refl })

pub one_made : (scope : Scope) (start mid new : List Shape) (parts : List PathExpr) (i : ℕ) (d : PathExpr) (ks all : List ℕ) (k : ℕ)
    → AreKnown start scope.names.now → i < length parts → Extends start mid
    → AreMade (try_map (path_shape scope start) (take i parts)) mid ks
    → Extends mid new → IsMade (path_shape scope mid (get_or parts i d)) new k → all ≡ ks ++ k ∷ []
    → AreMade (try_map (path_shape scope start) (take (i + 1) parts)) new all
one_made scope start mid new parts i d ks all k known h more made more' one pushed =
    subst (AreMade (try_map (path_shape scope start) (take (i + 1) parts)) new) (sym pushed) (record {
      inside = all_last (λ (n : ℕ). n < length new) ks k (λ n b inside. let x = made.inside n b inside in let y = more'.longer in omega arith) one.inside;
      are =
          rw (add-one i)
          (try_more (path_shape scope start) parts i d (map (shape_at mid) ks) (shape_at new k) h made.are
          (sym (shaped_stays scope start mid (get_or parts i d) more known) ∙ one.is)
          ∙ ap (λ (xs : List Shape). let r : Result (List Shape) SpecError = Ok xs in r)
          (ap (λ (xs : List Shape). xs ++ shape_at new k ∷ []) (sym (shapes_stay mid new ks more' made.inside)) ∙ sym (map_last (shape_at new) ks k)));
    })

pub one_stops : (scope : Scope) (start mid : List Shape) (parts : List PathExpr) (i : ℕ) (d : PathExpr) (ks : List ℕ) (e : SpecError)
    → AreKnown start scope.names.now → i < length parts → Extends start mid
    → AreMade (try_map (path_shape scope start) (take i parts)) mid ks
    → path_shape scope mid (get_or parts i d) ≡ Err e → all_of (map (path_shape scope start) parts) ≡ Err e
one_stops scope start mid parts i d ks e known h more made one =
    try_of_map (path_shape scope start) parts
    ∙ try_stops (path_shape scope start) parts i d (map (shape_at mid) ks) e h made.are (sym (shaped_stays scope start mid (get_or parts i d) more known) ∙ one)

pub all_made : (f : PathExpr → Result Shape SpecError) (shapes : List Shape) (parts rest : List PathExpr) (ks : List ℕ) → rest ≡ parts
    → AreMade (try_map f rest) shapes ks → AreMade (all_of (map f parts)) shapes ks
all_made f shapes parts rest ks whole made = record { inside = made.inside; are = try_of_map f parts ∙ ap (try_map f) (sym whole) ∙ made.are }

-- what is made of a part, or of some
pub made_then : {A : Type 0} (f : A → Shape) (r : Result A SpecError) (a : A) (new : List Shape) (k : ℕ) → r ≡ Ok a → StandsAt new (f a) k → IsMade (made_of f r) new k
made_then f r a new k is stands = record { inside = stands.inside; is = ap (made_of f) is ∙ ap (λ (s : Shape). let r : Result Shape SpecError = Ok s in r) (sym stands.is) }

pub stopped_then : {A : Type 0} (f : A → Shape) (r : Result A SpecError) (e : SpecError) → r ≡ Err e → made_of f r ≡ Err e
stopped_then f r e is = ap (made_of f) is
