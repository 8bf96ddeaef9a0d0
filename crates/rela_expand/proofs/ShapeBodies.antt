-- The zone and the units of a body's shape, and that numbering keeps them.
use Rattle.std.proofs.Common.{◌≡◌, ℕ, ◌⊎◌, List, [], ◌∷◌, ◌++◌, map, refl, ap, sym, subst, ◌∙◌}
use Rattle.std.specs.List.{AllZip}
use Rattle.rela_rir.specs.Words.{WordSet, Concatenation}
use Rattle.rela_rir.specs.declared.set.SymbolSet.{SymbolSet}
use Rattle.rela_spec.specs.declared.tree.Modifier.{Modifier}
use Rattle.rela_spec.specs.declared.tree.Modifier.TheVariants as m
use Rattle.rela_expand.specs.Expand.{listing_of}
use Rattle.rela_expand.specs.Faithful.{ExpandedUnit, layer_units, units_of, asked, kind_of, paths_of}
use Rattle.rela_translate.specs.Lang.{Lang}
use Rattle.rela_expand.specs.Numbering.{Numbering}
use Rattle.rela_expand.specs.Numbered.{numbered, numbered_change, numbered_body}
use Rattle.rela_expand.specs.Places.{Place, locations_at, path_symbols_at}
use Rattle.rela_expand.specs.Shapes.{Shape, BodyShape, Unit as Unit', Then, Else}
use Rattle.rela_translate.specs.Zones.{Either, Meaning, Single, Zone, drop_symbol, layer_meaning, meaning_of, unit_meaning}
use Rattle.rela_translate.specs.declared.body.Expr.{Expr}
use Rattle.rela_translate.specs.declared.body.Change.{Change}
use Rattle.rela_translate.specs.declared.body.Core.{Core}
use Rattle.rela_translate.specs.declared.body.Core.TheOpen as C
use Rattle.rela_translate.specs.declared.body.Core.TheVariants as core
use Rattle.rela_translate.specs.declared.body.Core.TheViews.{roll-Core}
use Rattle.rela_translate.specs.declared.body.Core.TheFolds.{map-Core, fold-roll-Core}
use Rattle.rela_expand.proofs.ListWords as words
use Rattle.rela_expand.proofs.ListWords.{Equal, told, itself}
use Rattle.rela_expand.proofs.Layers.{meaning_roll}
use Rattle.rela_expand.proofs.Numberings.{Grown, grown_same, grown_twice, numbered_grows}
use Rattle.rela_expand.proofs.NumberedWords.{numbered_words}
use Rattle.rela_expand.proofs.ShapeWords.{WordsOf}

-- the words that a unit speaks of, by the words of its zone
abbrev pub UnitZoneOf : Place → WordSet → Modifier Shape → WordSet
UnitZoneOf place Z m.Preserve = Z
UnitZoneOf place Z (m.Add p) = Either Z (WordsOf place p)
UnitZoneOf place Z (m.Remove p) = Z
UnitZoneOf place Z (m.Replace p q) = Either Z (WordsOf place q)
UnitZoneOf place Z m.Drop = Either Z (Single (drop_symbol (locations_at place)))
UnitZoneOf place Z (m.AnyOf p) = Either Z (WordsOf place p)
UnitZoneOf place Z (m.Ignore p) = Z

-- the words that a shape speaks of
abbrev pub ZoneOf : Place → BodyShape → WordSet
ZoneOf place (Unit' z c) w = UnitZoneOf place (WordsOf place z) c w
ZoneOf place (Then a b) w = Concatenation (ZoneOf place a) (ZoneOf place b) w
ZoneOf place (Else a b) w = ZoneOf place a w ⊎ ZoneOf place b w

pub record ShapeUnit : Type 0 where
  pub zone : Shape
  pub modifier : Modifier Shape

-- the units of a shape from left to right
abbrev pub units_of_shape : BodyShape → List ShapeUnit
units_of_shape (Unit' z c) = record { zone = z; modifier = c } ∷ []
units_of_shape (Then a b) = units_of_shape a ++ units_of_shape b
units_of_shape (Else a b) = units_of_shape a ++ units_of_shape b

change_grows : (place : Place) (c : Modifier Shape) (n : Numbering) → Grown n (numbered_change place c n).after
change_grows place m.Preserve n = grown_same n
change_grows place (m.Add p) n = numbered_grows place p n
change_grows place (m.Remove p) n = numbered_grows place p n
change_grows place (m.Replace p q) n = grown_twice (numbered_grows place p n) (numbered_grows place q (numbered place p n).after)
change_grows place m.Drop n = grown_same n
change_grows place (m.AnyOf p) n = let g = numbered_grows place p n in record { more = g.more; is = g.is }
change_grows place (m.Ignore p) n = numbered_grows place p n

body_grows : (place : Place) (b : BodyShape) (n : Numbering) → Grown n (numbered_body place b n).after
body_grows place (Unit' z c) n = grown_twice (numbered_grows place z n) (change_grows place c (numbered place z n).after)
body_grows place (Then a b) n = grown_twice (body_grows place a n) (body_grows place b (numbered_body place a n).after)
body_grows place (Else a b) n = grown_twice (body_grows place a n) (body_grows place b (numbered_body place a n).after)

-- pairs one after another
pub zip_append : {A B : Type 0} (R : A → B → Type 0) (xs xs' : List A) (ys ys' : List B) → AllZip R xs ys → AllZip R xs' ys' → AllZip R (xs ++ xs') (ys ++ ys')
zip_append R [] xs' [] ys' zip also = also
zip_append R [] xs' (y ∷ ys) ys' zip also = absurd zip
zip_append R (x ∷ xs) xs' [] ys' zip also = absurd zip
zip_append R (x ∷ xs) xs' (y ∷ ys) ys' zip also = (zip.0, zip_append R xs xs' ys ys' zip.1 also)

module _ (place : Place) (classes : List SymbolSet) (whole : Numbering) (table : map listing_of classes ≡ whole.classes) where
  abbrev lang : Expr → WordSet
  lang e = Lang classes (path_symbols_at place) e

  abbrev of : Shape → WordSet
  of = WordsOf place

  -- an expression with the words of a shape
  abbrev pub Numbers : Shape → Expr → Type 0
  Numbers s e = Equal (Lang classes (path_symbols_at place) e) (WordsOf place s)

  -- a unit with the words of one of a shape
  pub record UnitNumbers (unit : ShapeUnit) (e : ExpandedUnit) : Type 0 where
    pub zone : Equal (Lang classes (path_symbols_at place) e.zone) (WordsOf place unit.zone)
    pub kind : kind_of unit.modifier ≡ kind_of (asked e.change)
    pub paths : AllZip Numbers (paths_of unit.modifier) (paths_of (asked e.change))

  record ChangeNumbers (Z Z' : List ℕ → Type 0) (c : Modifier Shape) (d : Change) : Type 0 where
    zone : Equal (unit_meaning classes (locations_at place) Z d).zone (UnitZoneOf place Z' c)
    kind : kind_of c ≡ kind_of (asked d)
    paths : AllZip Numbers (paths_of c) (paths_of (asked d))

  change_numbers : (Z Z' : WordSet) → Equal Z Z' → (c : Modifier Shape) (n : Numbering) → Grown (numbered_change place c n).after whole → ChangeNumbers Z Z' c (numbered_change place c n).value
  change_numbers Z Z' same m.Preserve n g = record { zone = same; kind = refl; paths = tt }
  change_numbers Z Z' same (m.Add p) n g =
      let v = numbered_words place classes whole table p n g in
      record { zone = words.either Z Z' (lang (numbered place p n).value) (of p) same v; kind = refl; paths = (v, tt) }
  change_numbers Z Z' same (m.Remove p) n g =
      let v = numbered_words place classes whole table p n g in record { zone = same; kind = refl; paths = (v, tt) }
  change_numbers Z Z' same (m.Replace p q) n g =
      let k = (numbered place p n).after in
      let v = numbered_words place classes whole table p n (grown_twice (numbered_grows place q k) g) in
      let u = numbered_words place classes whole table q k g in
      record { zone = words.either Z Z' (lang (numbered place q k).value) (of q) same u; kind = refl; paths = (v, (u, tt)) }
  change_numbers Z Z' same m.Drop n g = record {
    zone = words.either Z Z' (Single (drop_symbol (locations_at place))) (Single (drop_symbol (locations_at place))) same (itself (Single (drop_symbol (locations_at place))));
    kind = refl;
    paths = tt;
  }
  change_numbers Z Z' same (m.AnyOf p) n g =
      let v = numbered_words place classes whole table p n (record { more = g.more; is = g.is }) in
      record { zone = words.either Z Z' (lang (numbered place p n).value) (of p) same v; kind = refl; paths = (v, tt) }
  change_numbers Z Z' same (m.Ignore p) n g =
      let v = numbered_words place classes whole table p n g in record { zone = same; kind = refl; paths = (v, tt) }

  abbrev zone : Core → WordSet
  zone body = Zone classes (locations_at place) body

  zone_rolled : (v : Core) (y : C.Core-F Core) → v ≡ roll-Core y → (X : WordSet) → Equal (layer_meaning classes (locations_at place) (meaning_of classes (locations_at place)) y).zone X → Equal (zone v) X
  zone_rolled v y is X same =
      told (zone v) (layer_meaning classes (locations_at place) (meaning_of classes (locations_at place)) y).zone X
      (ap (λ (body : Core). zone body) is ∙ ap (λ (M : Meaning). M.zone) (meaning_roll classes (locations_at place) y)) same

  units_rolled : (v : Core) (y : C.Core-F Core) → v ≡ roll-Core y → units_of v ≡ layer_units (map-Core Core (List ExpandedUnit) units_of y)
  units_rolled v y is = ap units_of is ∙ fold-roll-Core (List ExpandedUnit) layer_units y

  -- a body with the words and the units of a shape
  pub record BodyNumbers (b : BodyShape) (body : Core) : Type 0 where
    pub zone : Equal (Zone classes (locations_at place) body) (ZoneOf place b)
    pub units : AllZip UnitNumbers (units_of_shape b) (units_of body)

  units_by : (us : List ShapeUnit) (body : Core) (es : List ExpandedUnit) → units_of body ≡ es → AllZip UnitNumbers us es → AllZip UnitNumbers us (units_of body)
  units_by us body es is zip = subst (AllZip UnitNumbers us) (sym is) zip

  pub body_numbers : (b : BodyShape) (n : Numbering) → Grown (numbered_body place b n).after whole → BodyNumbers b (numbered_body place b n).value
  body_numbers (Unit' z c) n g =
      let k = (numbered place z n).after in
      let v = (numbered place z n).value in
      let d = (numbered_change place c k).value in
      let first : Equal (lang v) (of z) = numbered_words place classes whole table z n (grown_twice (change_grows place c k) g) in
      let change = change_numbers (lang v) (of z) first c k g in
      let unit : UnitNumbers (record { zone = z; modifier = c }) (record { zone = v; change = d }) = record { zone = first; kind = change.kind; paths = change.paths } in
      let rolls = sym (core.rolls-Unit v d) in record {
        zone = zone_rolled (core.Unit v d) (C.Unit v d) rolls (ZoneOf place (Unit' z c)) change.zone;
        units = units_by (units_of_shape (Unit' z c)) (core.Unit v d) (record { zone = v; change = d } ∷ []) (units_rolled (core.Unit v d) (C.Unit v d) rolls) (unit, tt);
      }
  body_numbers (Then a b) n g =
      let k = (numbered_body place a n).after in
      let s = (numbered_body place a n).value in
      let t = (numbered_body place b k).value in
      let first = body_numbers a n (grown_twice (body_grows place b k) g) in
      let second = body_numbers b k g in
      let rolls = sym (core.rolls-Then s t) in record {
        zone = zone_rolled (core.Then s t) (C.Then s t) rolls (ZoneOf place (Then a b)) (words.joined (zone s) (ZoneOf place a) (zone t) (ZoneOf place b) first.zone second.zone);
        units = units_by (units_of_shape (Then a b)) (core.Then s t) (units_of s ++ units_of t) (units_rolled (core.Then s t) (C.Then s t) rolls)
            (zip_append UnitNumbers (units_of_shape a) (units_of_shape b) (units_of s) (units_of t) first.units second.units);
      }
  body_numbers (Else a b) n g =
      let k = (numbered_body place a n).after in
      let s = (numbered_body place a n).value in
      let t = (numbered_body place b k).value in
      let first = body_numbers a n (grown_twice (body_grows place b k) g) in
      let second = body_numbers b k g in
      let rolls = sym (core.rolls-Else s t) in record {
        zone = zone_rolled (core.Else s t) (C.Else s t) rolls (ZoneOf place (Else a b)) (words.either (zone s) (ZoneOf place a) (zone t) (ZoneOf place b) first.zone second.zone);
        units = units_by (units_of_shape (Else a b)) (core.Else s t) (units_of s ++ units_of t) (units_rolled (core.Else s t) (C.Else s t) rolls)
            (zip_append UnitNumbers (units_of_shape a) (units_of_shape b) (units_of s) (units_of t) first.units second.units);
      }
