-- The classes of what a specification expands to list path symbols alone.
use Rattle.std.proofs.Common.{◌≡◌, ℕ, suc, ◌<◌, None, Bool, true, false, cond, List, [], ◌∷◌, ◌++◌, map, Ok, ap, sym, subst, ◌∙◌, arith}
use Rattle.std.specs.Prelude.{nat_eq}
use Rattle.std.specs.List.{All, list_any, range_with_len}
use Rattle.std.proofs.lemmas.List.FromFn.{length-range_with_len, get_or-range_with_len}
use Rattle.std.proofs.lemmas.List.Elements.{All-nil, All-cons, All-push, All-filter, All-weaker}
use Rattle.rela_json.specs.Results.{try_fold}
use Rattle.rela_locations.specs.Network.{Network, alphabet_of}
use Rattle.rela_spec.specs.declared.tree.Item.{Item}
use Rattle.rela_spec.specs.declared.tree.Item.TheVariants.{Path, Spec, Check}
use Rattle.rela_spec.specs.declared.tree.Member.{Member}
use Rattle.rela_spec.specs.declared.tree.Modifier.{Modifier}
use Rattle.rela_spec.specs.declared.tree.Modifier.TheVariants as m
use Rattle.rela_spec.specs.declared.tree.SpecFile.{SpecFile}
use Rattle.rela_translate.specs.Checked.{Checked}
use Rattle.rela_expand.specs.Expand.{Expanded, Sofar, at_first, expanded, listing_of, outcome_of, with_item}
use Rattle.rela_expand.specs.Numbered.{found, listing, named_by, numbered, numbered_body, numbered_change}
use Rattle.rela_expand.specs.Numbering.{Listing, Numbering, nothing_numbered, same_listing, with_class}
use Rattle.rela_expand.specs.Places.{Place, path_symbols_at}
use Rattle.rela_expand.specs.Shapes.{Shape, Empty, Class, Seq, Alt, Meet, Not, Star, BodyShape, Unit as Unit', Then, Else, Shapes}
use Rattle.rela_expand.proofs.Membership.{bound, from_ok}
use Rattle.rela_expand.proofs.Steps.{state, shapes_with_path, shapes_with_spec, path_step, spec_step, check_step}
use Rattle.rela_expand.specs.Listed.{ListsPathSymbols}

module _ (place : Place) where
  abbrev IsPath : ℕ → Type 0
  IsPath s = s < path_symbols_at place

  abbrev ListsPaths : Listing → Type 0
  ListsPaths c = All IsPath c.members

  abbrev ListPaths : List Listing → Type 0
  ListPaths classes = All ListsPaths classes

  in_range : (n : ℕ) → All (λ s. s < n) (range_with_len 0 n)
  in_range n k d inside =
      let below : k < n = omega (arith, inside, length-range_with_len 0 n) in
      let at : _ = get_or-range_with_len 0 n k d below in
      omega (arith, below, at)

  members_listed : (members : List Member) → All IsPath (found place members)
  members_listed members =
      let lists = map (named_by place) members in
      All-filter (λ s. list_any (λ list. list_any (nat_eq s) list) lists) IsPath (range_with_len 0 (path_symbols_at place)) (in_range (path_symbols_at place))

  class_added : (classes : List Listing) (c : Listing) → ListPaths classes → ListsPaths c → ListPaths (with_class classes c)
  class_added classes c each one = by_test (list_any (same_listing c) classes)
    where
      by_test : (b : Bool) → ListPaths (cond b classes (classes ++ c ∷ []))
      by_test true = each
      by_test false = All-push ListsPaths classes c each one

  path_listed : (s : Shape) (n : Numbering) → ListPaths n.classes → ListPaths (numbered place s n).after.classes
  path_listed Empty n each = each
  path_listed (Class negated members) n each = class_added n.classes (listing place negated members) each (members_listed members)
  path_listed (Seq a b) n each = path_listed b (numbered place a n).after (path_listed a n each)
  path_listed (Alt a b) n each = path_listed b (numbered place a n).after (path_listed a n each)
  path_listed (Meet a b) n each = path_listed b (numbered place a n).after (path_listed a n each)
  path_listed (Not a) n each = path_listed a n each
  path_listed (Star a) n each = path_listed a n each

  change_listed : (c : Modifier Shape) (n : Numbering) → ListPaths n.classes → ListPaths (numbered_change place c n).after.classes
  change_listed m.Preserve n each = each
  change_listed (m.Add p) n each = path_listed p n each
  change_listed (m.Remove p) n each = path_listed p n each
  change_listed (m.Replace p q) n each = path_listed q (numbered place p n).after (path_listed p n each)
  change_listed m.Drop n each = each
  change_listed (m.AnyOf p) n each = path_listed p n each
  change_listed (m.Ignore p) n each = path_listed p n each

  body_listed : (b : BodyShape) (n : Numbering) → ListPaths n.classes → ListPaths (numbered_body place b n).after.classes
  body_listed (Unit' zone c) n each = change_listed c (numbered place zone n).after (path_listed zone n each)
  body_listed (Then a b) n each = body_listed b (numbered_body place a n).after (body_listed a n each)
  body_listed (Else a b) n each = body_listed b (numbered_body place a n).after (body_listed a n each)

  abbrev CheckLists : Expanded → Type 0
  CheckLists check = ListPaths check.classes

  items_listed : (items : List Item) (shapes : Shapes) (taken : List (List ℕ)) (checks : List Expanded) (final : Sofar)
      → try_fold (with_item place) (state place shapes taken checks) items ≡ Ok final → All CheckLists checks → All CheckLists final.checks
  items_listed [] shapes taken checks final is each = subst (λ (s : Sofar). All CheckLists s.checks) (from_ok (state place shapes taken checks) final is) each
  items_listed (Path name at body ∷ items) shapes taken checks final is each =
      let next = bound (with_item place (state place shapes taken checks) (Path name at body)) (λ t. try_fold (with_item place) t items) final is in
      let step = path_step place shapes taken checks next.0 name at body next.1 in
      items_listed items (shapes_with_path name step.0 shapes) (name ∷ taken) checks final
      (ap (λ (s : Sofar). try_fold (with_item place) s items) (sym step.3) ∙ next.2) each
  items_listed (Spec name at body ∷ items) shapes taken checks final is each =
      let next = bound (with_item place (state place shapes taken checks) (Spec name at body)) (λ t. try_fold (with_item place) t items) final is in
      let step = spec_step place shapes taken checks next.0 name at body next.1 in
      items_listed items (shapes_with_spec name step.0 shapes) (name ∷ taken) checks final
      (ap (λ (s : Sofar). try_fold (with_item place) s items) (sym step.3) ∙ next.2) each
  items_listed (Check at_most name at when body ∷ items) shapes taken checks final is each =
      let next = bound (with_item place (state place shapes taken checks) (Check at_most name at when body)) (λ t. try_fold (with_item place) t items) final is in
      let step = check_step place shapes taken checks next.0 at_most name at when body next.1 in
      let one : CheckLists step.check = subst ListPaths (sym step.classes) (body_listed step.shape nothing_numbered (All-nil ListsPaths)) in
      items_listed items shapes taken (checks ++ step.check ∷ []) final
      (ap (λ (s : Sofar). try_fold (with_item place) s items) (sym step.gives) ∙ next.2) (All-push CheckLists checks step.check each one)

-- what each element of a mapped list has, each element has by way of what it is mapped to
All-unmap : {X Y : Type 0} (P : Y → Type 0) (f : X → Y) (xs : List X) → All P (map f xs) → All (λ x. P (f x)) xs
All-unmap P f [] each = All-nil (λ x. P (f x))
All-unmap P f (x ∷ xs) each = All-cons (λ x. P (f x)) x xs (each 0 (f x) (omega arith)) (All-unmap P f xs (λ i d inside. each (suc i) d (omega (arith, inside))))

abbrev no_shapes : Shapes
no_shapes = record { paths = λ _. None; specs = λ _. None }

all_listed : (network : Network) (file : SpecFile) (checks : List Expanded) → expanded network file ≡ Ok checks
    → All (λ check. All (λ c. All (λ s. s < path_symbols_at (record { network = network; level = file.level })) c.members) check.classes) checks
unfolding expanded
all_listed network file checks is =
    let place : Place = record { network = network; level = file.level } in
    let sofar = bound (try_fold (with_item place) at_first file.items) (λ sofar. Ok sofar.checks) checks is in
    subst (λ (cs : List Expanded). All (CheckLists place) cs) (from_ok sofar.0.checks checks sofar.2)
    (items_listed place file.items no_shapes [] [] sofar.0 sofar.1 (All-nil (CheckLists place)))

-- the checks of a specification list path symbols of the locations at its level
pub checks_listed : (network : Network) (file : SpecFile) (checks : List Checked) → expanded network file ≡ Ok (map outcome_of checks)
    → All (ListsPathSymbols (alphabet_of file.level network)) checks
checks_listed network file checks is =
    let place : Place = record { network = network; level = file.level } in
    All-weaker (λ (check : Checked). CheckLists place (outcome_of check)) (ListsPathSymbols (alphabet_of file.level network))
    (λ check each. All-unmap (ListsPaths place) listing_of check.classes each) checks
    (All-unmap (CheckLists place) outcome_of checks (all_listed network file (map outcome_of checks) is))
