-- The symbols that each form of term names by itself, and that they are the ones of which its naming speaks.
use Rattle.std.proofs.Common.{◌≡◌, ◌∙◌, ◌↔◌, ℕ, List, [], ◌∷◌, ◌++◌, refl, sym, ap, subst}
use Rattle.std.specs.List.{All}
use Rattle.std.proofs.lemmas.List.Elements.{All-nil, All-cons, All-append, All-head, All-tail}
use Rattle.rela_build.specs.Named.{LayerNames, LayerNamesR, Names, NamesR}
use Rattle.rela_rir.specs.declared.term.PathTerm.{PathTerm}
use Rattle.rela_rir.specs.declared.term.RelTerm.{RelTerm}
use Rattle.rela_rir.specs.declared.term.PathTerm.TheOpen as F
use Rattle.rela_rir.specs.declared.term.PathTerm.TheVariants as P
use Rattle.rela_rir.specs.declared.term.RelTerm.TheVariants as R
use Rattle.rela_rir.specs.declared.term.PathTerm.TheViews.{roll-PathTerm, roll-RelTerm}
use Rattle.rela_rir.specs.declared.term.PathTerm.TheFolds.{map-PathTerm, map-RelTerm, fold-roll-PathTerm, fold-roll-RelTerm, rec-roll-PathTerm, rec-roll-RelTerm, ind-PathTerm}
use Rattle.rela_rir.specs.NamedSymbols.{layer_symbols, layer_symbols_rel, symbols_in, symbols_in_rel}

pub symbols_roll : (x : F.PathTerm-F PathTerm RelTerm)
    → symbols_in (roll-PathTerm x) ≡ layer_symbols (map-PathTerm PathTerm RelTerm (List ℕ) (List ℕ) symbols_in symbols_in_rel x)
symbols_roll x = fold-roll-PathTerm (List ℕ) (List ℕ) layer_symbols layer_symbols_rel x

pub symbols_roll_r : (x : F.RelTerm-F PathTerm RelTerm)
    → symbols_in_rel (roll-RelTerm x) ≡ layer_symbols_rel (map-RelTerm PathTerm RelTerm (List ℕ) (List ℕ) symbols_in symbols_in_rel x)
symbols_roll_r x = fold-roll-RelTerm (List ℕ) (List ℕ) layer_symbols layer_symbols_rel x

pub symbols_none : symbols_in P.None ≡ []
symbols_none = ap symbols_in (sym P.rolls-None) ∙ symbols_roll F.None

pub symbols_empty : symbols_in P.Empty ≡ []
symbols_empty = ap symbols_in (sym P.rolls-Empty) ∙ symbols_roll F.Empty

pub symbols_class : (k : ℕ) → symbols_in (P.Class k) ≡ []
symbols_class k = ap symbols_in (sym (P.rolls-Class k)) ∙ symbols_roll (F.Class k)

pub symbols_one : (s : ℕ) → symbols_in (P.One s) ≡ s ∷ []
symbols_one s = ap symbols_in (sym (P.rolls-One s)) ∙ symbols_roll (F.One s)

pub symbols_union : (x y : PathTerm) → symbols_in (P.Union x y) ≡ symbols_in x ++ symbols_in y
symbols_union x y = ap symbols_in (sym (P.rolls-Union x y)) ∙ symbols_roll (F.PathTerm::Union x y)

pub symbols_concat : (x y : PathTerm) → symbols_in (P.Concat x y) ≡ symbols_in x ++ symbols_in y
symbols_concat x y = ap symbols_in (sym (P.rolls-Concat x y)) ∙ symbols_roll (F.PathTerm::Concat x y)

pub symbols_star : (x : PathTerm) → symbols_in (P.Star x) ≡ symbols_in x
symbols_star x = ap symbols_in (sym (P.rolls-Star x)) ∙ symbols_roll (F.PathTerm::Star x)

pub symbols_meet : (x y : PathTerm) → symbols_in (P.Meet x y) ≡ symbols_in x ++ symbols_in y
symbols_meet x y = ap symbols_in (sym (P.rolls-Meet x y)) ∙ symbols_roll (F.Meet x y)

pub symbols_complement : (x : PathTerm) → symbols_in (P.Complement x) ≡ symbols_in x
symbols_complement x = ap symbols_in (sym (P.rolls-Complement x)) ∙ symbols_roll (F.Complement x)

pub symbols_pre : symbols_in P.Pre ≡ []
symbols_pre = ap symbols_in (sym P.rolls-Pre) ∙ symbols_roll F.Pre

pub symbols_post : symbols_in P.Post ≡ []
symbols_post = ap symbols_in (sym P.rolls-Post) ∙ symbols_roll F.Post

pub symbols_image : (x : PathTerm) (r : RelTerm) → symbols_in (P.Image x r) ≡ symbols_in x ++ symbols_in_rel r
symbols_image x r = ap symbols_in (sym (P.rolls-Image x r)) ∙ symbols_roll (F.Image x r)

pub symbols_identity : (x : PathTerm) → symbols_in_rel (R.Identity x) ≡ symbols_in x
symbols_identity x = ap symbols_in_rel (sym (R.rolls-Identity x)) ∙ symbols_roll_r (F.Identity x)

pub symbols_product : (x y : PathTerm) → symbols_in_rel (R.Product x y) ≡ symbols_in x ++ symbols_in y
symbols_product x y = ap symbols_in_rel (sym (R.rolls-Product x y)) ∙ symbols_roll_r (F.Product x y)

pub symbols_union_r : (r s : RelTerm) → symbols_in_rel (R.Union r s) ≡ symbols_in_rel r ++ symbols_in_rel s
symbols_union_r r s = ap symbols_in_rel (sym (R.rolls-Union r s)) ∙ symbols_roll_r (F.RelTerm::Union r s)

pub symbols_concat_r : (r s : RelTerm) → symbols_in_rel (R.Concat r s) ≡ symbols_in_rel r ++ symbols_in_rel s
symbols_concat_r r s = ap symbols_in_rel (sym (R.rolls-Concat r s)) ∙ symbols_roll_r (F.RelTerm::Concat r s)

pub symbols_star_r : (r : RelTerm) → symbols_in_rel (R.Star r) ≡ symbols_in_rel r
symbols_star_r r = ap symbols_in_rel (sym (R.rolls-Star r)) ∙ symbols_roll_r (F.RelTerm::Star r)

pub symbols_compose : (r s : RelTerm) → symbols_in_rel (R.Compose r s) ≡ symbols_in_rel r ++ symbols_in_rel s
symbols_compose r s = ap symbols_in_rel (sym (R.rolls-Compose r s)) ∙ symbols_roll_r (F.Compose r s)

pub ruleset symbol_forms =
    (symbols_none, symbols_empty, symbols_class, symbols_one, symbols_union, symbols_concat, symbols_star, symbols_meet, symbols_complement, symbols_pre, symbols_post, symbols_image, symbols_identity, symbols_product, symbols_union_r, symbols_concat_r, symbols_star_r, symbols_compose)

-- ---- what is said of each of these symbols is what the naming says

pub front : (Q : ℕ → Type 0) (u v : List ℕ) → All Q (u ++ v) → All Q u
front Q [] v each = All-nil Q
front Q (s ∷ u) v each = All-cons Q s u (All-head Q s (u ++ v) each) (front Q u v (All-tail Q s (u ++ v) each))

pub rest : (Q : ℕ → Type 0) (u v : List ℕ) → All Q (u ++ v) → All Q v
rest Q [] v each = each
rest Q (s ∷ u) v each = rest Q u v (All-tail Q s (u ++ v) each)

module _ (Q : ℕ → Type 0) where
  natural : (X Y : Type 0) (v : X → PathTerm) (v' : Y → RelTerm) (k : PathTerm → Type 0) (k' : RelTerm → Type 0) (x : F.PathTerm-F X Y) →
      LayerNames Q (λ p. k (v p)) (λ p. k' (v' p)) x ≡ LayerNames Q k k' (map-PathTerm X Y PathTerm RelTerm v v' x)
  natural X Y v v' k k' F.None = refl
  natural X Y v v' k k' F.Empty = refl
  natural X Y v v' k k' (F.Class n) = refl
  natural X Y v v' k k' (F.One s) = refl
  natural X Y v v' k k' (F.PathTerm::Union a b) = refl
  natural X Y v v' k k' (F.PathTerm::Concat a b) = refl
  natural X Y v v' k k' (F.PathTerm::Star a) = refl
  natural X Y v v' k k' (F.Meet a b) = refl
  natural X Y v v' k k' (F.Complement a) = refl
  natural X Y v v' k k' F.Pre = refl
  natural X Y v v' k k' F.Post = refl
  natural X Y v v' k k' (F.Image a r) = refl

  natural_r : (X Y : Type 0) (v : X → PathTerm) (v' : Y → RelTerm) (k : PathTerm → Type 0) (k' : RelTerm → Type 0) (x : F.RelTerm-F X Y) →
      LayerNamesR Q (λ p. k (v p)) (λ p. k' (v' p)) x ≡ LayerNamesR Q k k' (map-RelTerm X Y PathTerm RelTerm v v' x)
  natural_r X Y v v' k k' (F.Identity a) = refl
  natural_r X Y v v' k k' (F.Product a b) = refl
  natural_r X Y v v' k k' (F.RelTerm::Union r t) = refl
  natural_r X Y v v' k k' (F.RelTerm::Concat r t) = refl
  natural_r X Y v v' k k' (F.RelTerm::Star r) = refl
  natural_r X Y v v' k k' (F.Compose r t) = refl

  names_roll : (x : F.PathTerm-F PathTerm RelTerm) → Names Q (roll-PathTerm x) ≡ LayerNames Q (Names Q) (NamesR Q) x
  unfolding Names NamesR
  names_roll x = rec-roll-PathTerm (Type 0) (Type 0) (λ X Y _ _ part part_r layer. LayerNames Q part part_r layer) (λ X Y _ _ part part_r layer. LayerNamesR Q part part_r layer) natural x

  names_roll_r : (x : F.RelTerm-F PathTerm RelTerm) → NamesR Q (roll-RelTerm x) ≡ LayerNamesR Q (Names Q) (NamesR Q) x
  unfolding Names NamesR
  names_roll_r x = rec-roll-RelTerm (Type 0) (Type 0) (λ X Y _ _ part part_r layer. LayerNames Q part part_r layer) (λ X Y _ _ part part_r layer. LayerNamesR Q part part_r layer) natural_r x

  -- the fact is that each of the symbols has Q
  abbrev Tells : Type 0 → List ℕ → Type 0
  Tells T symbols = T ↔ All Q symbols

  by_equals : (T U : Type 0) (symbols part : List ℕ) → T ≡ U → symbols ≡ part → Tells U part → Tells T symbols
  by_equals T U symbols part same is told = (
    λ t. subst (All Q) (sym is) (told.0 (subst (λ (V : Type 0). V) same t)),
    λ each. subst (λ (V : Type 0). V) (sym same) (told.1 (subst (All Q) is each)),
  )

  nothing : Tells (Unit {0}) []
  nothing = (λ _. All-nil Q, λ _. tt)

  single : (s : ℕ) → Tells (Q s) (s ∷ [])
  single s = (λ q. All-cons Q s [] q (All-nil Q), λ each. All-head Q s [] each)

  joined : (U V : Type 0) (a b : List ℕ) → Tells U a → Tells V b → Tells (U × V) (a ++ b)
  joined U V a b first second = (
    λ both. All-append Q a b (first.0 both.0) (second.0 both.1),
    λ each. (first.1 (front Q a b each), second.1 (rest Q a b each)),
  )

  abbrev IsTold : PathTerm → Type 0
  IsTold x = Tells (Names Q x) (symbols_in x)

  abbrev IsToldR : RelTerm → Type 0
  IsToldR r = Tells (NamesR Q r) (symbols_in_rel r)

  abbrev Path : Type 0
  Path = (x : PathTerm) × IsTold x

  abbrev Relation : Type 0
  Relation = (r : RelTerm) × IsToldR r

  abbrev plain : F.PathTerm-F Path Relation → F.PathTerm-F PathTerm RelTerm
  plain y = map-PathTerm Path Relation PathTerm RelTerm (λ e. e.0) (λ e. e.0) y

  abbrev plain_r : F.RelTerm-F Path Relation → F.RelTerm-F PathTerm RelTerm
  plain_r y = map-RelTerm Path Relation PathTerm RelTerm (λ e. e.0) (λ e. e.0) y

  by_layer : (x : F.PathTerm-F PathTerm RelTerm)
      → Tells (LayerNames Q (Names Q) (NamesR Q) x) (layer_symbols (map-PathTerm PathTerm RelTerm (List ℕ) (List ℕ) symbols_in symbols_in_rel x))
      → IsTold (roll-PathTerm x)
  by_layer x told = by_equals _ _ _ _ (names_roll x) (symbols_roll x) told

  by_layer_r : (x : F.RelTerm-F PathTerm RelTerm)
      → Tells (LayerNamesR Q (Names Q) (NamesR Q) x) (layer_symbols_rel (map-RelTerm PathTerm RelTerm (List ℕ) (List ℕ) symbols_in symbols_in_rel x))
      → IsToldR (roll-RelTerm x)
  by_layer_r x told = by_equals _ _ _ _ (names_roll_r x) (symbols_roll_r x) told

  layer_told : (y : F.PathTerm-F Path Relation) → IsTold (roll-PathTerm (plain y))
  layer_told F.None = by_layer F.None nothing
  layer_told F.Empty = by_layer F.Empty nothing
  layer_told (F.Class k) = by_layer (F.Class k) nothing
  layer_told (F.One s) = by_layer (F.One s) (single s)
  layer_told (F.PathTerm::Union a b) = by_layer (F.PathTerm::Union a.0 b.0) (joined (Names Q a.0) (Names Q b.0) (symbols_in a.0) (symbols_in b.0) a.1 b.1)
  layer_told (F.PathTerm::Concat a b) = by_layer (F.PathTerm::Concat a.0 b.0) (joined (Names Q a.0) (Names Q b.0) (symbols_in a.0) (symbols_in b.0) a.1 b.1)
  layer_told (F.PathTerm::Star a) = by_layer (F.PathTerm::Star a.0) a.1
  layer_told (F.Meet a b) = by_layer (F.Meet a.0 b.0) (joined (Names Q a.0) (Names Q b.0) (symbols_in a.0) (symbols_in b.0) a.1 b.1)
  layer_told (F.Complement a) = by_layer (F.Complement a.0) a.1
  layer_told F.Pre = by_layer F.Pre nothing
  layer_told F.Post = by_layer F.Post nothing
  layer_told (F.Image a r) = by_layer (F.Image a.0 r.0) (joined (Names Q a.0) (NamesR Q r.0) (symbols_in a.0) (symbols_in_rel r.0) a.1 r.1)

  layer_told_r : (y : F.RelTerm-F Path Relation) → IsToldR (roll-RelTerm (plain_r y))
  layer_told_r (F.Identity a) = by_layer_r (F.Identity a.0) a.1
  layer_told_r (F.Product a b) = by_layer_r (F.Product a.0 b.0) (joined (Names Q a.0) (Names Q b.0) (symbols_in a.0) (symbols_in b.0) a.1 b.1)
  layer_told_r (F.RelTerm::Union r s) = by_layer_r (F.RelTerm::Union r.0 s.0) (joined (NamesR Q r.0) (NamesR Q s.0) (symbols_in_rel r.0) (symbols_in_rel s.0) r.1 s.1)
  layer_told_r (F.RelTerm::Concat r s) = by_layer_r (F.RelTerm::Concat r.0 s.0) (joined (NamesR Q r.0) (NamesR Q s.0) (symbols_in_rel r.0) (symbols_in_rel s.0) r.1 s.1)
  layer_told_r (F.RelTerm::Star r) = by_layer_r (F.RelTerm::Star r.0) r.1
  layer_told_r (F.Compose r s) = by_layer_r (F.Compose r.0 s.0) (joined (NamesR Q r.0) (NamesR Q s.0) (symbols_in_rel r.0) (symbols_in_rel s.0) r.1 s.1)

  -- the symbols that a term names have Q where each of the list has, and only there
  pub told : (x : PathTerm) → Names Q x ↔ All Q (symbols_in x)
  told = ind-PathTerm IsTold IsToldR (λ x y is. subst (λ z. IsTold (roll-PathTerm z)) is (layer_told y)) (λ x y is. subst (λ z. IsToldR (roll-RelTerm z)) is (layer_told_r y))
