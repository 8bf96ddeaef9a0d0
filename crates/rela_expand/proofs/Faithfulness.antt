-- An expanded body says what the written one says.
use Rattle.std.proofs.Common.{◌≡◌, ℕ, ◌↔◌, inl, inr, true, ◌&&◌, List, [], ◌∷◌, ◌++◌, map, None, Some, Ok, refl, ap, sym, subst, ◌∙◌, append_assoc}
use Rattle.std.specs.Prelude.{fold}
use Rattle.std.specs.List.{AllZip, list_all}
use Rattle.std.proofs.lemmas.List.{append-nil}
use Rattle.rela_json.specs.Results.{try_fold}
use Rattle.rela_locations.specs.Names.{has_name}
use Rattle.rela_locations.specs.Network.{Network}
use Rattle.rela_spec.specs.Full.{IsFull, is_full_item, is_full_path, is_full_predicate, is_full_spec}
use Rattle.rela_spec.specs.declared.tree.Item.{Item}
use Rattle.rela_spec.specs.declared.tree.Item.TheVariants.{Path, Spec, Check}
use Rattle.rela_spec.specs.declared.tree.PathExpr.{PathExpr}
use Rattle.rela_spec.specs.declared.tree.SpecExpr.{SpecExpr}
use Rattle.rela_spec.specs.declared.tree.SpecFile.{SpecFile}
use Rattle.rela_translate.specs.Checked.{Checked}
use Rattle.rela_expand.specs.Expand.{Expanded, Sofar, at_first, expanded, listing_of, outcome_of, with_item}
use Rattle.rela_expand.specs.Faithful.{ExpandedUnit, IsFaithful, SameUnit, SameWords, asked, paths_of, units_of}
use Rattle.rela_expand.specs.LangW.{LangW}
use Rattle.rela_expand.specs.Numbering.{Numbering, nothing_numbered}
use Rattle.rela_expand.specs.Numbered.{numbered_body}
use Rattle.rela_expand.specs.Places.{Place, locations_at}
use Rattle.rela_expand.specs.Shapes.{Shape, BodyShape, Shapes, body_shape_of, shape_of}
use Rattle.rela_translate.specs.Zones.{Zone}
use Rattle.rela_expand.specs.ZonesW.{NamesW, UnitW, ZoneW, bodies_of, names_from, units_w, with_item_units, with_item_w, with_words}
use Rattle.rela_translate.specs.declared.body.Core.{Core}
use Rattle.rela_expand.proofs.Lasting.{either_name, lasts, now_taken, other_units, other_words, still_taken, these_units, these_words}
use Rattle.rela_expand.proofs.ListWords.{Equal, through, turned}
use Rattle.rela_expand.proofs.Membership.{and_left, and_right, bound, from_ok}
use Rattle.rela_expand.proofs.Numberings.{grown_same}
use Rattle.rela_expand.proofs.ShapeBodies.{Numbers, ShapeUnit, UnitNumbers, ZoneOf, body_numbers, units_of_shape}
use Rattle.rela_expand.proofs.ShapeWords.{WordsOf, shape_words}
use Rattle.rela_expand.proofs.Steps.{check_step, path_step, shapes_with_path, shapes_with_spec, spec_step, state}
use Rattle.rela_expand.proofs.WrittenBodies.{Agreement, ShapeShows, UnitShows, body_shows}

-- pairs with what is between them
zip_through : {A B C : Type 0} (R : A → B → Type 0) (S : B → C → Type 0) (T : A → C → Type 0) → ((a : A) (b : B) (c : C) → R a b → S b c → T a c)
    → (xs : List A) (ys : List B) (zs : List C) → AllZip R xs ys → AllZip S ys zs → AllZip T xs zs
zip_through R S T f [] [] [] r s = tt
zip_through R S T f [] [] (z ∷ zs) r s = absurd s
zip_through R S T f [] (y ∷ ys) zs r s = absurd r
zip_through R S T f (x ∷ xs) [] zs r s = absurd r
zip_through R S T f (x ∷ xs) (y ∷ ys) [] r s = absurd s
zip_through R S T f (x ∷ xs) (y ∷ ys) (z ∷ zs) r s = (f x y z r.0 s.0, zip_through R S T f xs ys zs r.1 s.1)

-- the check's body says what is written, under what names stand for
record Says (place : Place) (names : NamesW) (units_for : List ℕ → List UnitW) (written : SpecExpr) (check : Checked) : Type 0 where
  zone : (w : List ℕ) → Zone check.classes (locations_at place) check.body w ↔ ZoneW place names written w
  units : AllZip (SameUnit place names.paths check) (units_w units_for written) (units_of check.body)

module _ (place : Place) (named : List ℕ → List ℕ → Type 0) (check : Checked) (whole : Numbering) (table : map listing_of check.classes ≡ whole.classes) where
  same_unit : (written : UnitW) (unit : ShapeUnit) (e : ExpandedUnit) → UnitShows place named written unit → UnitNumbers place check.classes whole table unit e → SameUnit place named check written e
  same_unit written unit e shows numbers = record {
    zone = λ w. (λ h. shows.zone.0 w (numbers.zone.0 w h), λ h. numbers.zone.1 w (shows.zone.1 w h));
    kind = shows.kind ∙ numbers.kind;
    paths = zip_through (ShapeShows place named) (Numbers place check.classes whole table) (SameWords place named check)
        (λ p t v to from w. (λ h. to.0 w (from.0 w h), λ h. from.1 w (to.1 w h)))
        (paths_of written.modifier) (paths_of unit.modifier) (paths_of (asked e.change)) shows.paths numbers.paths;
  }

says : (place : Place) (shapes : Shapes) (names : NamesW) (units_for : List ℕ → List UnitW) → Agreement place shapes names names.paths units_for
    → (written : SpecExpr) → is_full_spec written ≡ true → (b : BodyShape) → body_shape_of place shapes written ≡ Ok b → (check : Checked)
    → map listing_of check.classes ≡ (numbered_body place b nothing_numbered).after.classes → check.body ≡ (numbered_body place b nothing_numbered).value
    → Says place names units_for written check
says place shapes names units_for agree written full b is check table body =
    let shows = body_shows place shapes names names.paths units_for agree written full b is in
    let whole = (numbered_body place b nothing_numbered).after in
    let numbers = body_numbers place check.classes whole table b nothing_numbered (grown_same whole) in record {
      zone = subst (λ (c : Core). (w : List ℕ) → Zone check.classes (locations_at place) c w ↔ ZoneW place names written w) (sym body)
          (λ w. (λ h. shows.zone.0 w (numbers.zone.0 w h), λ h. numbers.zone.1 w (shows.zone.1 w h)));
      units = subst (λ (c : Core). AllZip (SameUnit place names.paths check) (units_w units_for written) (units_of c)) (sym body)
          (zip_through (UnitShows place names.paths) (UnitNumbers place check.classes whole table) (SameUnit place names.paths check)
          (same_unit place names.paths check whole table)
          (units_w units_for written) (units_of_shape b) (units_of (numbered_body place b nothing_numbered).value) shows.units numbers.units);
    }

-- names and units_for: what names stand for after all items
module _ (place : Place) (names : NamesW) (units_for : List ℕ → List UnitW) where
  -- what names stand for after some items, where the units' paths are those of all items
  record Reads (now : NamesW) (units_now : List ℕ → List UnitW) (taken : List (List ℕ)) (shapes : Shapes) : Type 0 where
    paths : (name : List ℕ) (t : Shape) → shapes.paths name ≡ Some t → Equal (WordsOf place t) (now.paths name)
    zones : (name : List ℕ) (b : BodyShape) → shapes.specs name ≡ Some b → Equal (ZoneOf place b) (now.zones name)
    units : (name : List ℕ) (b : BodyShape) → shapes.specs name ≡ Some b → AllZip (UnitShows place names.paths) (units_now name) (units_of_shape b)
    known_paths : (name : List ℕ) (t : Shape) → shapes.paths name ≡ Some t → has_name taken name ≡ true
    known_specs : (name : List ℕ) (b : BodyShape) → shapes.specs name ≡ Some b → has_name taken name ≡ true

  -- the checks of further items say what is written
  abbrev SaidBy : SpecExpr → Expanded → Type 0
  SaidBy written outcome = (check : Checked) → outcome_of check ≡ outcome → Says place names units_for written check

  record Walked (items : List Item) (checks : List Expanded) (final : Sofar) : Type 0 where
    more : List Expanded
    are : final.checks ≡ checks ++ more
    say : AllZip SaidBy (bodies_of items) more

  module _ (now : NamesW) (units_now : List ℕ → List UnitW) (taken : List (List ℕ)) (shapes : Shapes) (reads : Reads now units_now taken shapes) where
    -- a path item more
    path_read : (name : List ℕ) (at : ℕ) (body : PathExpr) → is_full_path body ≡ true → (t : Shape) → shape_of place shapes.paths body ≡ Ok t
        → Reads (with_item_w place now (Path name at body)) units_now (name ∷ taken) (shapes_with_path name t shapes)
    path_read name at body full t is = record {
      paths = words;
      zones = reads.zones;
      units = reads.units;
      known_paths = known;
      known_specs = λ other b had. still_taken taken name other (reads.known_specs other b had);
    }
      where
        words : (other : List ℕ) (u : Shape) → (shapes_with_path name t shapes).paths other ≡ Some u → Equal (WordsOf place u) (with_words name (LangW place now.paths body) now.paths other)
        words other u has = elim (either_name name t shapes.paths other u has) [
          | inl same ↦
              subst (λ (o : List ℕ). Equal (WordsOf place u) (with_words name (LangW place now.paths body) now.paths o)) same.0
              (subst (λ (v : Shape). Equal (WordsOf place v) (with_words name (LangW place now.paths body) now.paths name)) same.1
              (through (WordsOf place t) (LangW place now.paths body) (with_words name (LangW place now.paths body) now.paths name)
              (shape_words place shapes.paths now.paths reads.paths body full t is)
              (turned (with_words name (LangW place now.paths body) now.paths name) (LangW place now.paths body) (these_words name (LangW place now.paths body) now.paths))))
          | inr old ↦
              through (WordsOf place u) (now.paths other) (with_words name (LangW place now.paths body) now.paths other) (reads.paths other u old.1)
              (turned (with_words name (LangW place now.paths body) now.paths other) (now.paths other) (other_words name (LangW place now.paths body) now.paths other old.0))
        ]

        known : (other : List ℕ) (u : Shape) → (shapes_with_path name t shapes).paths other ≡ Some u → has_name (name ∷ taken) other ≡ true
        known other u has = elim (either_name name t shapes.paths other u has) [
          | inl same ↦ subst (λ (o : List ℕ). has_name (name ∷ taken) o ≡ true) same.0 (now_taken taken name)
          | inr old ↦ still_taken taken name other (reads.known_paths other u old.1)
        ]

    -- a specification item more
    spec_read : (name : List ℕ) (at : ℕ) (body : SpecExpr) (b : BodyShape) → Equal (ZoneOf place b) (ZoneW place now body)
        → AllZip (UnitShows place names.paths) (units_w units_now body) (units_of_shape b)
        → Reads (with_item_w place now (Spec name at body)) (with_item_units units_now (Spec name at body)) (name ∷ taken) (shapes_with_spec name b shapes)
    spec_read name at body b same_zone same_units = record {
      paths = reads.paths;
      zones = zones;
      units = units;
      known_paths = λ other t had. still_taken taken name other (reads.known_paths other t had);
      known_specs = known;
    }
      where
        zones : (other : List ℕ) (c : BodyShape) → (shapes_with_spec name b shapes).specs other ≡ Some c → Equal (ZoneOf place c) (with_words name (ZoneW place now body) now.zones other)
        zones other c has = elim (either_name name b shapes.specs other c has) [
          | inl same ↦
              subst (λ (o : List ℕ). Equal (ZoneOf place c) (with_words name (ZoneW place now body) now.zones o)) same.0
              (subst (λ (d : BodyShape). Equal (ZoneOf place d) (with_words name (ZoneW place now body) now.zones name)) same.1
              (through (ZoneOf place b) (ZoneW place now body) (with_words name (ZoneW place now body) now.zones name) same_zone
              (turned (with_words name (ZoneW place now body) now.zones name) (ZoneW place now body) (these_words name (ZoneW place now body) now.zones))))
          | inr old ↦
              through (ZoneOf place c) (now.zones other) (with_words name (ZoneW place now body) now.zones other) (reads.zones other c old.1)
              (turned (with_words name (ZoneW place now body) now.zones other) (now.zones other) (other_words name (ZoneW place now body) now.zones other old.0))
        ]

        units : (other : List ℕ) (c : BodyShape) → (shapes_with_spec name b shapes).specs other ≡ Some c
            → AllZip (UnitShows place names.paths) (with_item_units units_now (Spec name at body) other) (units_of_shape c)
        units other c has = elim (either_name name b shapes.specs other c has) [
          | inl same ↦
              subst (λ (o : List ℕ). AllZip (UnitShows place names.paths) (with_item_units units_now (Spec name at body) o) (units_of_shape c)) same.0
              (subst (λ (d : BodyShape). AllZip (UnitShows place names.paths) (with_item_units units_now (Spec name at body) name) (units_of_shape d)) same.1
              (subst (λ (us : List UnitW). AllZip (UnitShows place names.paths) us (units_of_shape b)) (sym (these_units name body units_now at)) same_units))
          | inr old ↦
              subst (λ (us : List UnitW). AllZip (UnitShows place names.paths) us (units_of_shape c)) (sym (other_units name body units_now at other old.0)) (reads.units other c old.1)
        ]

        known : (other : List ℕ) (c : BodyShape) → (shapes_with_spec name b shapes).specs other ≡ Some c → has_name (name ∷ taken) other ≡ true
        known other c has = elim (either_name name b shapes.specs other c has) [
          | inl same ↦ subst (λ (o : List ℕ). has_name (name ∷ taken) o ≡ true) same.0 (now_taken taken name)
          | inr old ↦ still_taken taken name other (reads.known_specs other c old.1)
        ]

    module _ (items : List Item) (checks : List Expanded) (final : Sofar) (goes : try_fold (with_item place) (state place shapes taken checks) items ≡ Ok final)
        (all : names ≡ names_from place now items) (all_units : units_for ≡ fold with_item_units units_now items) where
      paths_last : (name : List ℕ) (t : Shape) → shapes.paths name ≡ Some t → Equal (WordsOf place t) (names.paths name)
      paths_last name t has =
          let last = lasts place items (state place shapes taken checks) final goes name (reads.known_paths name t has) now units_now in
          through (WordsOf place t) (now.paths name) (names.paths name) (reads.paths name t has)
          (turned (names.paths name) (now.paths name) (subst (λ (M : NamesW). Equal (M.paths name) (now.paths name)) (sym all) last.paths))

      zones_last : (name : List ℕ) (b : BodyShape) → shapes.specs name ≡ Some b → Equal (ZoneOf place b) (names.zones name)
      zones_last name b has =
          let last = lasts place items (state place shapes taken checks) final goes name (reads.known_specs name b has) now units_now in
          through (ZoneOf place b) (now.zones name) (names.zones name) (reads.zones name b has)
          (turned (names.zones name) (now.zones name) (subst (λ (M : NamesW). Equal (M.zones name) (now.zones name)) (sym all) last.zones))

      units_last : (name : List ℕ) (b : BodyShape) → shapes.specs name ≡ Some b → AllZip (UnitShows place names.paths) (units_for name) (units_of_shape b)
      units_last name b has =
          let last = lasts place items (state place shapes taken checks) final goes name (reads.known_specs name b has) now units_now in
          subst (λ (us : List UnitW). AllZip (UnitShows place names.paths) us (units_of_shape b))
          (sym (ap (λ (f : List ℕ → List UnitW). f name) all_units ∙ last.units)) (reads.units name b has)

      agree_now : Agreement place shapes now names.paths units_now
      agree_now = record { paths = reads.paths; zones = reads.zones; unit_paths = paths_last; units = reads.units }

      agree_last : Agreement place shapes names names.paths units_for
      agree_last = record { paths = paths_last; zones = zones_last; unit_paths = paths_last; units = units_last }

  walk : (items : List Item) (now : NamesW) (units_now : List ℕ → List UnitW) (taken : List (List ℕ)) (shapes : Shapes) (checks : List Expanded) (final : Sofar)
      → list_all is_full_item items ≡ true → names ≡ names_from place now items → units_for ≡ fold with_item_units units_now items → Reads now units_now taken shapes
      → try_fold (with_item place) (state place shapes taken checks) items ≡ Ok final → Walked items checks final
  walk [] now units_now taken shapes checks final full all all_units reads goes = record {
    more = [];
    are = sym (ap (λ (s : Sofar). s.checks) (from_ok (state place shapes taken checks) final goes)) ∙ sym (append-nil checks);
    say = tt;
  }
  walk (Path name at body ∷ items) now units_now taken shapes checks final full all all_units reads goes =
      let next = bound (with_item place (state place shapes taken checks) (Path name at body)) (λ s. try_fold (with_item place) s items) final goes in
      let step = path_step place shapes taken checks next.0 name at body next.1 in
      let more = path_read now units_now taken shapes reads name at body (and_left (is_full_path body) (list_all is_full_item items) full) step.0 step.2 in
      let later = walk items (with_item_w place now (Path name at body)) units_now (name ∷ taken) (shapes_with_path name step.0 shapes) checks final
      (and_right (is_full_path body) (list_all is_full_item items) full) all all_units more
      (subst (λ (s : Sofar). try_fold (with_item place) s items ≡ Ok final) step.3 next.2) in
      record { more = later.more; are = later.are; say = later.say }
  walk (Spec name at body ∷ items) now units_now taken shapes checks final full all all_units reads goes =
      let next = bound (with_item place (state place shapes taken checks) (Spec name at body)) (λ s. try_fold (with_item place) s items) final goes in
      let step = spec_step place shapes taken checks next.0 name at body next.1 in
      let shows = body_shows place shapes now names.paths units_now (agree_now now units_now taken shapes reads (Spec name at body ∷ items) checks final goes all all_units)
      body (and_left (is_full_spec body) (list_all is_full_item items) full) step.0 step.2 in
      let more = spec_read now units_now taken shapes reads name at body step.0 shows.zone shows.units in
      let later = walk items (with_item_w place now (Spec name at body)) (with_item_units units_now (Spec name at body)) (name ∷ taken) (shapes_with_spec name step.0 shapes) checks final
      (and_right (is_full_spec body) (list_all is_full_item items) full) all all_units more
      (subst (λ (s : Sofar). try_fold (with_item place) s items ≡ Ok final) step.3 next.2) in
      record { more = later.more; are = later.are; say = later.say }
  walk (Check at_most name at when body ∷ items) now units_now taken shapes checks final full all all_units reads goes =
      let next = bound (with_item place (state place shapes taken checks) (Check at_most name at when body)) (λ s. try_fold (with_item place) s items) final goes in
      let step = check_step place shapes taken checks next.0 at_most name at when body next.1 in
      let here = and_left (is_full_predicate when && is_full_spec body) (list_all is_full_item items) full in
      let agree = agree_last now units_now taken shapes reads (Check at_most name at when body ∷ items) checks final goes all all_units in
      let said : SaidBy body step.check = λ check is.
      says place shapes names units_for agree body (and_right (is_full_predicate when) (is_full_spec body) here) step.shape step.shapes_to check
      (ap (λ (e : Expanded). e.classes) is ∙ step.classes) (ap (λ (e : Expanded). e.body) is ∙ step.body_is) in
      let later = walk items now units_now taken shapes (checks ++ step.check ∷ []) final
      (and_right (is_full_predicate when && is_full_spec body) (list_all is_full_item items) full) all all_units reads
      (subst (λ (s : Sofar). try_fold (with_item place) s items ≡ Ok final) step.gives next.2) in
      record { more = step.check ∷ later.more; are = later.are ∙ append_assoc checks (step.check ∷ []) later.more; say = (said, later.say) }

  each_says : (ps : List SpecExpr) (checks : List Checked) → AllZip SaidBy ps (map outcome_of checks) → AllZip (Says place names units_for) ps checks
  each_says [] [] say = tt
  each_says [] (c ∷ cs) say = absurd say
  each_says (p ∷ ps) [] say = absurd say
  each_says (p ∷ ps) (c ∷ cs) say = (say.0 c refl, each_says ps cs say.1)

abbrev no_words : NamesW
no_words = record { paths = λ _ _. ⊥; zones = λ _ _. ⊥ }

abbrev no_units : List ℕ → List UnitW
no_units = λ _. []

abbrev no_shapes : Shapes
no_shapes = record { paths = λ _. None; specs = λ _. None }

nothing_read : (place : Place) (names : NamesW) (units_for : List ℕ → List UnitW) → Reads place names units_for no_words no_units [] no_shapes
nothing_read place names units_for = record {
  paths = λ name t has. absurd (cc);
  zones = λ name b has. absurd (cc);
  units = λ name b has. absurd (cc);
  known_paths = λ name t has. absurd (cc);
  known_specs = λ name b has. absurd (cc);
}

all_faithful : (place : Place) (items : List Item) (ps : List SpecExpr) (checks : List Checked)
    → AllZip (Says place (names_from place no_words items) (fold with_item_units no_units items)) ps checks → AllZip (IsFaithful place items) ps checks
all_faithful place items [] [] say = tt
all_faithful place items [] (c ∷ cs) say = absurd say
all_faithful place items (p ∷ ps) [] say = absurd say
all_faithful place items (p ∷ ps) (c ∷ cs) say = (record { zone = say.0.zone; units = say.0.units }, all_faithful place items ps cs say.1)

-- the checks of a specification say what their written bodies say
pub checks_are_faithful : (network : Network) (file : SpecFile) (checks : List Checked) → IsFull file → expanded network file ≡ Ok (map outcome_of checks)
    → AllZip (IsFaithful (record { network = network; level = file.level }) file.items) (bodies_of file.items) checks
unfolding expanded
checks_are_faithful network file checks full is =
    let place : Place = record { network = network; level = file.level } in
    let final = bound (try_fold (with_item place) at_first file.items) (λ sofar. Ok sofar.checks) (map outcome_of checks) is in
    let names = names_from place no_words file.items in
    let units = fold with_item_units no_units file.items in
    let walked = walk place names units file.items no_words no_units [] no_shapes [] final.0 full refl refl (nothing_read place names units) final.1 in
    let same : walked.more ≡ map outcome_of checks = sym walked.are ∙ from_ok final.0.checks (map outcome_of checks) final.2 in
    all_faithful place file.items (bodies_of file.items) checks
    (each_says place names units (bodies_of file.items) checks
    (subst (λ (es : List Expanded). AllZip (SaidBy place names units) (bodies_of file.items) es) same walked.say))
