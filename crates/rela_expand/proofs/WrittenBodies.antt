-- The shape of a specification has its zone and its units.
use Rattle.std.proofs.Common.{◌≡◌, ℕ, ◌≤◌, ◌⊎◌, Bool, true, List, [], ◌∷◌, ◌++◌, length, map, Some, Result, Ok, refl, ap, sym, subst, ◌∙◌, arith, append_assoc}
use Rattle.std.specs.Prelude.{nat_le}
use Rattle.std.specs.List.{AllZip, flat_map, list_all}
use Rattle.std.proofs.lemmas.List.{append-nil}
use Rattle.rela_json.specs.Results.{◌>>=◌}
use Rattle.rela_lex.specs.declared.error.SpecError.{SpecError}
use Rattle.rela_lex.specs.declared.error.SpecError.TheVariants.{UnknownName}
use Rattle.rela_rir.specs.Words.{WordSet, Concatenation}
use Rattle.rela_spec.specs.Full.{are_full, is_full_path, is_full_change, full_spec_layer, is_full_spec}
use Rattle.rela_spec.specs.declared.tree.Modifier.{Modifier}
use Rattle.rela_spec.specs.declared.tree.Modifier.TheVariants as m
use Rattle.rela_spec.specs.declared.tree.PathExpr.{PathExpr}
use Rattle.rela_spec.specs.declared.tree.SpecExpr.{SpecExpr}
use Rattle.rela_spec.specs.declared.tree.SpecExpr.TheOpen as s
use Rattle.rela_spec.specs.declared.tree.SpecExpr.TheViews.{roll-SpecExpr}
use Rattle.rela_spec.specs.declared.tree.SpecExpr.TheFolds.{map-SpecExpr, fold-roll-SpecExpr, rec-roll-SpecExpr, ind-SpecExpr}
use Rattle.rela_expand.specs.Expansions.{tree_of}
use Rattle.rela_expand.specs.Faithful.{kind_of, paths_of}
use Rattle.rela_expand.specs.LangW.{InOrder, OfSome, LangW}
use Rattle.rela_expand.specs.Places.{Place, locations_at}
use Rattle.rela_expand.specs.Shapes.{Shape, BodyShape, Unit as Unit', Then, Else, Shapes, all_of, shape_of, change_shape, no_body, layer_body_shape, body_shape_of}
use Rattle.rela_translate.specs.Zones.{Single, drop_symbol}
use Rattle.rela_expand.specs.ZonesW.{NamesW, UnitZoneW, LayerZoneW, ZoneW, UnitW, layer_units_w, units_w}
use Rattle.rela_expand.proofs.ListWords as words
use Rattle.rela_expand.proofs.ListWords.{Equal, told, itself, through, turned}
use Rattle.rela_expand.proofs.Membership.{and_left, and_right, bound, from_ok, parts_of, present}
use Rattle.rela_expand.proofs.ShapeBodies.{UnitZoneOf, ZoneOf, ShapeUnit, units_of_shape, zip_append}
use Rattle.rela_expand.proofs.ShapeWords.{WordsOf, shape_words}

-- a shape with the words of a path expression
abbrev pub ShapeShows : Place → (List ℕ → WordSet) → PathExpr → Shape → Type 0
ShapeShows place named p t = Equal (WordsOf place t) (LangW place named p)

-- a unit of a shape with the words of a written one
pub record UnitShows (place : Place) (named : List ℕ → List ℕ → Type 0) (written : UnitW) (unit : ShapeUnit) : Type 0 where
  pub zone : Equal (WordsOf place unit.zone) (LangW place named written.zone)
  pub kind : kind_of written.modifier ≡ kind_of unit.modifier
  pub paths : AllZip (ShapeShows place named) (paths_of written.modifier) (paths_of unit.modifier)

-- what names stand for: the zones' words go by the one meaning of names, and the units' by the other
pub record Agreement (place : Place) (shapes : Shapes) (names : NamesW) (named : List ℕ → List ℕ → Type 0) (units_for : List ℕ → List UnitW) : Type 0 where
  pub paths : (name : List ℕ) (t : Shape) → shapes.paths name ≡ Some t → Equal (WordsOf place t) (names.paths name)
  pub zones : (name : List ℕ) (b : BodyShape) → shapes.specs name ≡ Some b → Equal (ZoneOf place b) (names.zones name)
  pub unit_paths : (name : List ℕ) (t : Shape) → shapes.paths name ≡ Some t → Equal (WordsOf place t) (named name)
  pub units : (name : List ℕ) (b : BodyShape) → shapes.specs name ≡ Some b → AllZip (UnitShows place named) (units_for name) (units_of_shape b)

full_roll : (y : s.SpecExpr-F SpecExpr) → is_full_spec (roll-SpecExpr y) ≡ full_spec_layer (map-SpecExpr SpecExpr Bool is_full_spec y)
unfolding is_full_spec
full_roll y = fold-roll-SpecExpr Bool full_spec_layer y

shape_roll : (place : Place) (shapes : Shapes) (y : s.SpecExpr-F SpecExpr)
    → body_shape_of place shapes (roll-SpecExpr y) ≡ layer_body_shape place shapes (map-SpecExpr SpecExpr (Result BodyShape SpecError) (body_shape_of place shapes) y)
unfolding body_shape_of
shape_roll place shapes y = fold-roll-SpecExpr (Result BodyShape SpecError) (layer_body_shape place shapes) y

natural : (place : Place) (names : NamesW) (X : Type 0) (v : X → SpecExpr) (k : SpecExpr → WordSet) (y : s.SpecExpr-F X)
    → LayerZoneW (λ p. k (v p)) place names y ≡ LayerZoneW k place names (map-SpecExpr X SpecExpr v y)
natural place names X v k (s.Unit zone c) = refl
natural place names X v k (s.Reference name at) = refl
natural place names X v k (s.Then parts) = words.in_order_map v k parts
natural place names X v k (s.Else parts) = words.of_some_map v k parts

zone_roll : (place : Place) (names : NamesW) (y : s.SpecExpr-F SpecExpr) → ZoneW place names (roll-SpecExpr y) ≡ LayerZoneW (ZoneW place names) place names y
zone_roll place names y = rec-roll-SpecExpr WordSet (λ X _ part layer. LayerZoneW part place names layer) (natural place names) y

units_roll : (units : List ℕ → List UnitW) (y : s.SpecExpr-F SpecExpr) → units_w units (roll-SpecExpr y) ≡ layer_units_w units (map-SpecExpr SpecExpr (List UnitW) (units_w units) y)
units_roll units y = fold-roll-SpecExpr (List UnitW) (layer_units_w units) y

-- the tree of some shapes has the zone and the units of their list
module _ (place : Place) where
  abbrev zone : BodyShape → WordSet
  zone = ZoneOf place

  in_order : (bs : List BodyShape) → 1 ≤ length bs → Equal (zone (tree_of Then no_body bs)) (InOrder zone bs)
  in_order bs some =
      words.tree_tells Then no_body (λ b cs. Equal (zone b) (InOrder zone cs)) (words.in_order_one zone)
      (λ b c xs ys same also.
      through (Concatenation (zone b) (zone c)) (Concatenation (InOrder zone xs) (InOrder zone ys)) (InOrder zone (xs ++ ys))
      (words.joined (zone b) (InOrder zone xs) (zone c) (InOrder zone ys) same also) (words.in_order_joined zone xs ys))
      (length bs) bs some (omega arith)

  of_some : (bs : List BodyShape) → 1 ≤ length bs → Equal (zone (tree_of Else no_body bs)) (OfSome zone bs)
  of_some bs some =
      words.tree_tells Else no_body (λ b cs. Equal (zone b) (OfSome zone cs)) (words.of_some_one zone)
      (λ b c xs ys same also.
      through (λ w. zone b w ⊎ zone c w) (λ w. OfSome zone xs w ⊎ OfSome zone ys w) (OfSome zone (xs ++ ys))
      (words.either (zone b) (OfSome zone xs) (zone c) (OfSome zone ys) same also) (words.of_some_joined zone xs ys))
      (length bs) bs some (omega arith)

-- the units of some shapes, one list after another
abbrev all_units : List BodyShape → List ShapeUnit
all_units [] = []
all_units (b ∷ bs) = units_of_shape b ++ all_units bs

units_append : (bs cs : List BodyShape) → all_units (bs ++ cs) ≡ all_units bs ++ all_units cs
units_append [] cs = refl
units_append (b ∷ bs) cs = ap (λ (us : List ShapeUnit). units_of_shape b ++ us) (units_append bs cs) ∙ sym (append_assoc (units_of_shape b) (all_units bs) (all_units cs))

module _ (join : BodyShape → BodyShape → BodyShape) (joins : (b c : BodyShape) → units_of_shape (join b c) ≡ units_of_shape b ++ units_of_shape c) where
  tree_units : (bs : List BodyShape) → 1 ≤ length bs → units_of_shape (tree_of join no_body bs) ≡ all_units bs
  tree_units bs some =
      words.tree_tells join no_body (λ b cs. units_of_shape b ≡ all_units cs) (λ b. sym (append-nil (units_of_shape b)))
      (λ b c xs ys same also.
      joins b c ∙ ap (λ (us : List ShapeUnit). us ++ units_of_shape c) same ∙ ap (λ (us : List ShapeUnit). all_units xs ++ us) also ∙ sym (units_append xs ys))
      (length bs) bs some (omega arith)

module _ (place : Place) (shapes : Shapes) (names : NamesW) (named : List ℕ → List ℕ → Type 0) (units_for : List ℕ → List UnitW)
    (agree : Agreement place shapes names named units_for) where
  abbrev written : PathExpr → WordSet
  written = LangW place names.paths

  abbrev of : Shape → WordSet
  of = WordsOf place

  path_words : (p : PathExpr) → is_full_path p ≡ true → (t : Shape) → shape_of place shapes.paths p ≡ Ok t → Equal (of t) (written p)
  path_words p full t is = shape_words place shapes.paths names.paths agree.paths p full t is

  unit_words : (p : PathExpr) → is_full_path p ≡ true → (t : Shape) → shape_of place shapes.paths p ≡ Ok t → ShapeShows place named p t
  unit_words p full t is = shape_words place shapes.paths named agree.unit_paths p full t is

  record ChangeShows (Z Z' : List ℕ → Type 0) (c : Modifier PathExpr) (d : Modifier Shape) : Type 0 where
    zone : Equal (UnitZoneOf place Z d) (UnitZoneW place names.paths Z' c)
    kind : kind_of c ≡ kind_of d
    paths : AllZip (ShapeShows place named) (paths_of c) (paths_of d)

  module _ (Z Z' : List ℕ → Type 0) (same : Equal Z Z') where
    change_shows : (c : Modifier PathExpr) → is_full_change c ≡ true → (d : Modifier Shape) → change_shape place shapes.paths c ≡ Ok d → ChangeShows Z Z' c d
    change_shows m.Preserve full d is = subst (ChangeShows Z Z' m.Preserve) (from_ok m.Preserve d is) (record { zone = same; kind = refl; paths = tt })
    change_shows (m.Add p) full d is =
        let a = bound (shape_of place shapes.paths p) (λ a. Ok (m.Add a)) d is in
        subst (ChangeShows Z Z' (m.Add p)) (from_ok (m.Add a.0) d a.2)
        (record { zone = words.either Z Z' (of a.0) (written p) same (path_words p full a.0 a.1); kind = refl; paths = (unit_words p full a.0 a.1, tt) })
    change_shows (m.Remove p) full d is =
        let a = bound (shape_of place shapes.paths p) (λ a. Ok (m.Remove a)) d is in
        subst (ChangeShows Z Z' (m.Remove p)) (from_ok (m.Remove a.0) d a.2) (record { zone = same; kind = refl; paths = (unit_words p full a.0 a.1, tt) })
    change_shows (m.Replace p q) full d is =
        let a = bound (shape_of place shapes.paths p) (λ a. shape_of place shapes.paths q >>= (λ b. Ok (m.Replace a b))) d is in
        let b = bound (shape_of place shapes.paths q) (λ b. Ok (m.Replace a.0 b)) d a.2 in
        let first = and_left (is_full_path p) (is_full_path q) full in
        let second = and_right (is_full_path p) (is_full_path q) full in
        subst (ChangeShows Z Z' (m.Replace p q)) (from_ok (m.Replace a.0 b.0) d b.2) (record {
          zone = words.either Z Z' (of b.0) (written q) same (path_words q second b.0 b.1);
          kind = refl;
          paths = (unit_words p first a.0 a.1, (unit_words q second b.0 b.1, tt));
        })
    change_shows m.Drop full d is = subst (ChangeShows Z Z' m.Drop) (from_ok m.Drop d is) (record {
      zone = words.either Z Z' (Single (drop_symbol (locations_at place))) (Single (drop_symbol (locations_at place))) same (itself (Single (drop_symbol (locations_at place))));
      kind = refl;
      paths = tt;
    })
    change_shows (m.AnyOf p) full d is =
        let a = bound (shape_of place shapes.paths p) (λ a. Ok (m.AnyOf a)) d is in
        subst (ChangeShows Z Z' (m.AnyOf p)) (from_ok (m.AnyOf a.0) d a.2)
        (record { zone = words.either Z Z' (of a.0) (written p) same (path_words p full a.0 a.1); kind = refl; paths = (unit_words p full a.0 a.1, tt) })
    change_shows (m.Ignore p) full d is =
        let a = bound (shape_of place shapes.paths p) (λ a. Ok (m.Ignore a)) d is in
        subst (ChangeShows Z Z' (m.Ignore p)) (from_ok (m.Ignore a.0) d a.2) (record { zone = same; kind = refl; paths = (unit_words p full a.0 a.1, tt) })

  -- the shape has the zone and the units of what is written
  pub record BodyShows (p : SpecExpr) (b : BodyShape) : Type 0 where
    pub zone : Equal (ZoneOf place b) (ZoneW place names p)
    pub units : AllZip (UnitShows place named) (units_w units_for p) (units_of_shape b)

  abbrev shaped : SpecExpr → Result BodyShape SpecError
  shaped = body_shape_of place shapes

  abbrev zone_w : SpecExpr → WordSet
  zone_w = ZoneW place names

  abbrev shows : List UnitW → List ShapeUnit → Type 0
  shows us vs = AllZip (UnitShows place named) us vs

  abbrev Told : SpecExpr → Type 0
  Told p = is_full_spec p ≡ true → (b : BodyShape) → shaped p ≡ Ok b → BodyShows p b

  abbrev Part : Type 0
  Part = (p : SpecExpr) × Told p

  abbrev plain : List Part → List SpecExpr
  plain qs = map (λ q. q.0) qs

  abbrev whole : List Bool → Bool
  whole fulls = list_all (λ (full : Bool). full) fulls

  parts_told : (qs : List Part) → whole (map is_full_spec (plain qs)) ≡ true → (bs : List BodyShape) → all_of (map shaped (plain qs)) ≡ Ok bs → AllZip (λ b p. BodyShows p b) bs (plain qs)
  parts_told [] full bs is = subst (λ (cs : List BodyShape). AllZip (λ b p. BodyShows p b) cs []) (from_ok [] bs is) tt
  parts_told (q ∷ qs) full bs is =
      let parts = parts_of (λ (r : Result BodyShape SpecError). r) (shaped q.0) (map shaped (plain qs)) bs is in
      subst (λ (cs : List BodyShape). AllZip (λ b p. BodyShows p b) cs (q.0 ∷ plain qs)) parts.4 (
        q.1 (and_left (is_full_spec q.0) (whole (map is_full_spec (plain qs))) full) parts.0 parts.2,
        parts_told qs (and_right (is_full_spec q.0) (whole (map is_full_spec (plain qs))) full) parts.1 parts.3,
      )

  some_part : (qs : List Part) (bs : List BodyShape) → AllZip (λ b p. BodyShows p b) bs (plain qs) → are_full (map is_full_spec (plain qs)) ≡ true → 1 ≤ length bs
  some_part [] bs same full = absurd (cc)
  some_part (q ∷ qs) [] same full = absurd same
  some_part (q ∷ qs) (b ∷ bs) same full = omega arith

  zones_told : (bs : List BodyShape) (ps : List SpecExpr) → AllZip (λ b p. BodyShows p b) bs ps → AllZip (λ b p. Equal (ZoneOf place b) (zone_w p)) bs ps
  zones_told [] [] same = tt
  zones_told [] (p ∷ ps) same = absurd same
  zones_told (b ∷ bs) [] same = absurd same
  zones_told (b ∷ bs) (p ∷ ps) same = (same.0.zone, zones_told bs ps same.1)

  units_told : (bs : List BodyShape) (ps : List SpecExpr) → AllZip (λ b p. BodyShows p b) bs ps → shows (flat_map (λ us. us) (map (units_w units_for) ps)) (all_units bs)
  units_told [] [] same = tt
  units_told [] (p ∷ ps) same = absurd same
  units_told (b ∷ bs) [] same = absurd same
  units_told (b ∷ bs) (p ∷ ps) same =
      zip_append (UnitShows place named) (units_w units_for p) (flat_map (λ us. us) (map (units_w units_for) ps)) (units_of_shape b) (all_units bs) same.0.units (units_told bs ps same.1)

  record LayerShows (y : s.SpecExpr-F SpecExpr) (b : BodyShape) : Type 0 where
    zone : Equal (ZoneOf place b) (LayerZoneW zone_w place names y)
    units : shows (layer_units_w units_for (map-SpecExpr SpecExpr (List UnitW) (units_w units_for) y)) (units_of_shape b)

  of_list : (qs : List Part) → are_full (map is_full_spec (plain qs)) ≡ true → (make : List BodyShape → BodyShape) (b : BodyShape)
      → (all_of (map shaped (plain qs)) >>= (λ bs. Ok (make bs))) ≡ Ok b → (y : s.SpecExpr-F SpecExpr)
      → ((bs : List BodyShape) → 1 ≤ length bs → AllZip (λ b p. BodyShows p b) bs (plain qs) → LayerShows y (make bs)) → LayerShows y b
  of_list qs full make b is y tells =
      let bs = bound (all_of (map shaped (plain qs))) (λ bs. Ok (make bs)) b is in
      let same = parts_told qs (and_right (nat_le 2 (length (map is_full_spec (plain qs)))) (whole (map is_full_spec (plain qs))) full) bs.0 bs.1 in
      subst (LayerShows y) (from_ok (make bs.0) b bs.2) (tells bs.0 (some_part qs bs.0 same full) same)

  units_by : (us : List UnitW) (b : BodyShape) (vs : List ShapeUnit) → units_of_shape b ≡ vs → shows us vs → shows us (units_of_shape b)
  units_by us b vs is zip = subst (shows us) (sym is) zip

  by_layer : (y : s.SpecExpr-F Part)
      → full_spec_layer (map-SpecExpr SpecExpr Bool is_full_spec (map-SpecExpr Part SpecExpr (λ q. q.0) y)) ≡ true → (b : BodyShape)
      → layer_body_shape place shapes (map-SpecExpr SpecExpr (Result BodyShape SpecError) shaped (map-SpecExpr Part SpecExpr (λ q. q.0) y)) ≡ Ok b
      → LayerShows (map-SpecExpr Part SpecExpr (λ q. q.0) y) b
  by_layer (s.Unit z c) full b is =
      let a = bound (shape_of place shapes.paths z) (λ a. change_shape place shapes.paths c >>= (λ d. Ok (Unit' a d))) b is in
      let d = bound (change_shape place shapes.paths c) (λ d. Ok (Unit' a.0 d)) b a.2 in
      let first = and_left (is_full_path z) (is_full_change c) full in
      let same = path_words z first a.0 a.1 in
      let change = change_shows (of a.0) (written z) same c (and_right (is_full_path z) (is_full_change c) full) d.0 d.1 in
      let unit : UnitShows place named (record { zone = z; modifier = c }) (record { zone = a.0; modifier = d.0 }) = record { zone = unit_words z first a.0 a.1; kind = change.kind; paths = change.paths } in
      subst (LayerShows (s.Unit z c)) (from_ok (Unit' a.0 d.0) b d.2) (record { zone = change.zone; units = (unit, tt) })
  by_layer (s.Reference name at) full b is =
      let has = present (UnknownName at) (shapes.specs name) b is in
      record { zone = agree.zones name b has; units = agree.units name b has }
  by_layer (s.Then qs) full b is =
      of_list qs full (tree_of Then no_body) b is (s.Then (plain qs)) (λ bs some same. record {
        zone = through (ZoneOf place (tree_of Then no_body bs)) (InOrder (ZoneOf place) bs) (InOrder zone_w (plain qs)) (in_order place bs some)
            (words.in_order_same (ZoneOf place) zone_w bs (plain qs) (zones_told bs (plain qs) same));
        units = units_by (flat_map (λ us. us) (map (units_w units_for) (plain qs))) (tree_of Then no_body bs) (all_units bs) (tree_units Then (λ b c. refl) bs some) (units_told bs (plain qs) same);
      })
  by_layer (s.Else qs) full b is =
      of_list qs full (tree_of Else no_body) b is (s.Else (plain qs)) (λ bs some same. record {
        zone = through (ZoneOf place (tree_of Else no_body bs)) (OfSome (ZoneOf place) bs) (OfSome zone_w (plain qs)) (of_some place bs some)
            (words.of_some_same (ZoneOf place) zone_w bs (plain qs) (zones_told bs (plain qs) same));
        units = units_by (flat_map (λ us. us) (map (units_w units_for) (plain qs))) (tree_of Else no_body bs) (all_units bs) (tree_units Else (λ b c. refl) bs some) (units_told bs (plain qs) same);
      })

  told_layer : (y : s.SpecExpr-F Part) → Told (roll-SpecExpr (map-SpecExpr Part SpecExpr (λ q. q.0) y))
  told_layer y full b is =
      let z = map-SpecExpr Part SpecExpr (λ q. q.0) y in
      let layer = by_layer y (sym (full_roll z) ∙ full) b (sym (shape_roll place shapes z) ∙ is) in record {
        zone = turned (zone_w (roll-SpecExpr z)) (ZoneOf place b)
            (told (zone_w (roll-SpecExpr z)) (LayerZoneW zone_w place names z) (ZoneOf place b) (zone_roll place names z)
            (turned (ZoneOf place b) (LayerZoneW zone_w place names z) layer.zone));
        units = subst (λ (us : List UnitW). shows us (units_of_shape b)) (sym (units_roll units_for z)) layer.units;
      }

  pub body_shows : (p : SpecExpr) → is_full_spec p ≡ true → (b : BodyShape) → body_shape_of place shapes p ≡ Ok b → BodyShows p b
  body_shows = ind-SpecExpr Told (λ p y is. subst (λ z. Told (roll-SpecExpr z)) is (told_layer y))
