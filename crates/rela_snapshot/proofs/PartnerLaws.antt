-- The flows of a second snapshot, put to those of their names in a first one after another.
use Rattle.std.proofs.Common.{◌-◌, drop, ◌⊎◌, inl, inr, zero, suc, set, append_assoc, ◌||◌, ◌≤◌, IsNone, All, option_map, ◌≡◌, ◌≢◌, ◌∙◌, refl, sym, ap, ℕ, ◌+◌, ◌<◌, Bool, true, false, not, cond, List, [], ◌∷◌, ◌++◌, length, map, reverse, get_or, Option, Some, None, arith, subst}
use Rattle.std.specs.Prelude.{slice_get}
use Rattle.std.specs.List.{AllByRecursion, IsDistinct}
use Rattle.std.specs.Option.{option_or}
use Rattle.std.specs.Str.{bytes_eq}
use Rattle.std.proofs.lemmas.Bool.{cases_order}
use Rattle.std.proofs.lemmas.Grind.{get_or-set_at}
use Rattle.std.proofs.lemmas.List.{append-nil, drop_more, length-append, length-drop, length-map, ext_get_or, get_or_past, get_or-set_other, reverse-append, reverse-reverse}
use Rattle.std.proofs.lemmas.Map.Keys.{apart_from_distinct}
use Rattle.std.proofs.lemmas.Option.{slice_get_within, get_or_from_slice_get, slice_get-map}
use Rattle.rela_snapshot.specs.declared.snapshot.Flow.{Flow}
use Rattle.rela_snapshot.specs.Names.{AreDistinct, has_name, place_of, with_name}
use Rattle.rela_snapshot.specs.Pair.{flow_named, flows_without}
use Rattle.rela_snapshot.specs.Partners.{with_flow}
use Rattle.rela_snapshot.specs.SnapshotFlows.{names_of}
use Rattle.rela_snapshot.proofs.Distinct.{distinct_apart, name_is_itself, same_name}
use Rattle.rela_snapshot.proofs.Places.{place_some, place_none}

-- the flow, if it has the name
abbrev pub if_named : List ℕ → Flow → Option Flow
if_named name flow = cond (bytes_eq name flow.class.name) (Some flow) None

-- the last flow of a name
abbrev pub last_named : List ℕ → List Flow → Option Flow
last_named name [] = None
last_named name (flow ∷ flows) = option_or (last_named name flows) (if_named name flow)

-- ---- where names differ, the last flow of a name is the first

absent : (name : List ℕ) (flow : Flow) (flows : List Flow) → bytes_eq name flow.class.name ≡ true → AllByRecursion (λ y. bytes_eq flow.class.name y ≡ false) (names_of flows) → last_named name flows ≡ None
absent name flow [] same apart = refl
absent name flow (other ∷ flows) same apart =
    let is : name ≡ flow.class.name = same_name name flow.class.name same in
    let no : bytes_eq name other.class.name ≡ false = ap (λ (n : List ℕ). bytes_eq n other.class.name) is ∙ apart.0 in
    rw (absent name flow flows same apart.1, no) refl

last_by : (name : List ℕ) (flow : Flow) (flows : List Flow) (b : Bool) → bytes_eq name flow.class.name ≡ b → AllByRecursion (λ y. bytes_eq flow.class.name y ≡ false) (names_of flows) → last_named name flows ≡ flow_named name flows
    → option_or (last_named name flows) (cond b (Some flow) None) ≡ cond b (Some flow) (flow_named name flows)
last_by name flow flows true is apart rest = rw (absent name flow flows is apart) refl
last_by name flow flows false is apart rest = rw rest (or_none (flow_named name flows))
  where
    or_none : (o : Option Flow) → option_or o None ≡ o
    or_none None = refl
    or_none (Some x) = refl

pub last_is_first : (name : List ℕ) (flows : List Flow) → AreDistinct (names_of flows) → last_named name flows ≡ flow_named name flows
unfolding IsDistinct
last_is_first name [] distinct = refl
last_is_first name (flow ∷ flows) distinct =
    last_by name flow flows (bytes_eq name flow.class.name) refl distinct.0 (last_is_first name flows distinct.1)

-- ---- one flow more

same_text : (x y : List ℕ) → Some x ≡ Some y → x ≡ y
same_text x y e = cc

apart : (names : List (List ℕ)) (i j : ℕ) (name : List ℕ) → AreDistinct names → i < j → slice_get names i ≡ Some name → slice_get names j ≡ Some name → ⊥
apart names i j name distinct lt at_i at_j =
    let differ : bytes_eq (get_or names i []) (get_or names j []) ≡ false = apart_from_distinct bytes_eq names i j [] distinct lt (slice_get_within names j name at_j) in
    let one : get_or names i [] ≡ name = get_or_from_slice_get names i name [] at_i in
    let two : get_or names j [] ≡ name = get_or_from_slice_get names j name [] at_j in
    let same : bytes_eq (get_or names i []) (get_or names j []) ≡ true = rw (one, two) (name_is_itself name) in
    absurd (cc)

-- a name has its own place alone
other_place : (names : List (List ℕ)) (i j : ℕ) (name other : List ℕ) → AreDistinct names → i ≢ j → slice_get names i ≡ Some name → slice_get names j ≡ Some other
    → (b : Bool) → bytes_eq name other ≡ b → b ≡ false
other_place names i j name other distinct differ at_i at_j false is = refl
other_place names i j name other distinct differ at_i at_j true is =
    let same : slice_get names i ≡ Some other = at_i ∙ ap (λ (n : List ℕ). Some n) (same_name name other is) in
    absurd (by_order (cases_order i j) same)
  where
    by_order : (i ≡ j) ⊎ ((i < j) ⊎ (j < i)) → slice_get names i ≡ Some other → ⊥
    by_order (inl eq) same = differ eq
    by_order (inr (inl lt)) same = apart names i j other distinct lt same at_j
    by_order (inr (inr gt)) same = apart names j i other distinct gt at_j same

not_named : (names : List (List ℕ)) (i : ℕ) (name other : List ℕ) → place_of names other ≡ None → slice_get names i ≡ Some name → (b : Bool) → bytes_eq name other ≡ b → b ≡ false
not_named names i name other none at false is = refl
not_named names i name other none at true is = absurd (place_none names other none i (at ∙ ap (λ (n : List ℕ). Some n) (same_name name other is)))

put_at : (found : List (Option Flow)) (names : List (List ℕ)) (i p : ℕ) (name : List ℕ) (flow : Flow) → AreDistinct names → length names ≤ length found → slice_get names i ≡ Some name
    → slice_get names p ≡ Some flow.class.name → (i ≡ p) ⊎ ((i < p) ⊎ (p < i)) → get_or (set found p (Some flow)) i None ≡ option_or (if_named name flow) (get_or found i None)
put_at found names i p name flow distinct room at_i at_p (inl eq) =
    let same : name ≡ flow.class.name = same_text name flow.class.name (sym at_i ∙ ap (λ (k : ℕ). slice_get names k) eq ∙ at_p) in
    let within : p < length found = let h = slice_get_within names p flow.class.name at_p in omega (arith, h, room) in
    let test : bytes_eq name flow.class.name ≡ true = rw same (name_is_itself flow.class.name) in
    rw test (get_or-set_at found p i (Some flow) None eq within)
put_at found names i p name flow distinct room at_i at_p (inr less) =
    let differ : i ≢ p = λ e. apart_order less e in
    let test : bytes_eq name flow.class.name ≡ false = other_place names i p name flow.class.name distinct differ at_i at_p (bytes_eq name flow.class.name) refl in
    rw test (get_or-set_other found p i (Some flow) None differ)
  where
    apart_order : (i < p) ⊎ (p < i) → i ≡ p → ⊥
    apart_order (inl lt) e = omega arith
    apart_order (inr gt) e = omega arith

pub put_found : (names : List (List ℕ)) (found : List (Option Flow)) (flow : Flow) (place : Option ℕ) (i : ℕ) (name : List ℕ) → AreDistinct names → length names ≤ length found
    → place_of names flow.class.name ≡ place → slice_get names i ≡ Some name → get_or (with_flow found place flow) i None ≡ option_or (if_named name flow) (get_or found i None)
put_found names found flow None i name distinct room is at =
    let test : bytes_eq name flow.class.name ≡ false = not_named names i name flow.class.name is at (bytes_eq name flow.class.name) refl in
    rw test refl
put_found names found flow (Some p) i name distinct room is at =
    put_at found names i p name flow distinct room at (place_some names flow.class.name p is) (cases_order i p)

-- ---- the others

any_test : (ns : List (List ℕ)) (n name : List ℕ) (b : Bool) → bytes_eq name n ≡ b → (b || has_name ns name) ≡ true → (has_name ns name ≡ true → (i : ℕ) × (slice_get ns i ≡ Some name))
    → (i : ℕ) × (slice_get (n ∷ ns) i ≡ Some name)
any_test ns n name true is e rest = (0, ap (λ (m : List ℕ). Some m) (sym (same_name name n is)))
any_test ns n name false is e rest = let later : (i : ℕ) × (slice_get ns i ≡ Some name) = rest e in (suc later.0, later.1)

any_by : (names : List (List ℕ)) (name : List ℕ) → has_name names name ≡ true → (i : ℕ) × (slice_get names i ≡ Some name)
any_by [] name e = absurd (cc)
any_by (n ∷ ns) name e = any_test ns n name (bytes_eq name n) refl e (any_by ns name)

has_by : (names : List (List ℕ)) (i : ℕ) (name : List ℕ) → slice_get names i ≡ Some name → has_name names name ≡ true
has_by [] i name at = absurd (cc)
has_by (n ∷ ns) zero name at = let same : n ≡ name = same_text n name at in rw same (ap (λ b. b || has_name ns name) (name_is_itself name))
has_by (n ∷ ns) (suc i) name at = rw (has_by ns i name at) (or_true (bytes_eq name n))
  where
    or_true : (b : Bool) → (b || true) ≡ true
    or_true true = refl
    or_true false = refl

pub placed : (names : List (List ℕ)) (name : List ℕ) (p : ℕ) → place_of names name ≡ Some p → has_name names name ≡ true
placed names name p is = has_by names p name (place_some names name p is)

unplaced_by : (names : List (List ℕ)) (name : List ℕ) → place_of names name ≡ None → (b : Bool) → has_name names name ≡ b → b ≡ false
unplaced_by names name is false e = refl
unplaced_by names name is true e = let at : (i : ℕ) × (slice_get names i ≡ Some name) = any_by names name e in absurd (place_none names name is at.0 at.1)

pub unplaced : (names : List (List ℕ)) (name : List ℕ) → place_of names name ≡ None → has_name names name ≡ false
unplaced names name is = unplaced_by names name is (has_name names name) refl

-- ---- the loop over the second snapshot

or_assoc : (a b c : Option Flow) → option_or (option_or a b) c ≡ option_or a (option_or b c)
or_assoc None b c = refl
or_assoc (Some x) b c = refl

-- what is found so far, and what those that are left will change, are what is found in the end
pub record ArePut (names : List (List ℕ)) (all left : List Flow) (found : List (Option Flow)) (others : List Flow) : Type 0 where
  pub partners : (i : ℕ) (name : List ℕ) → slice_get names i ≡ Some name → option_or (last_named name left) (get_or found i None) ≡ last_named name all
  pub rest : others ++ flows_without names left ≡ flows_without names all

pub put_one : (names : List (List ℕ)) (all left : List Flow) (flow : Flow) (found new_found : List (Option Flow)) (others new_others : List Flow)
    → ((i : ℕ) (name : List ℕ) → slice_get names i ≡ Some name → get_or new_found i None ≡ option_or (if_named name flow) (get_or found i None))
    → new_others ≡ others ++ flows_without names (flow ∷ [])
    → ArePut names all (flow ∷ left) found others → ArePut names all left new_found new_others
put_one names all left flow found new_found others new_others puts other so_far = record {
  partners = λ i name at.
      ap (option_or (last_named name left)) (puts i name at)
      ∙ sym (or_assoc (last_named name left) (if_named name flow) (get_or found i None))
      ∙ so_far.partners i name at;
  rest = ap (λ (o : List Flow). o ++ flows_without names left) other ∙ joined (has_name names flow.class.name) ∙ so_far.rest;
}
  where
    joined : (b : Bool) → (others ++ cond (not b) (flow ∷ []) []) ++ flows_without names left ≡ others ++ cond (not b) (flow ∷ flows_without names left) (flows_without names left)
    joined true = ap (λ (o : List Flow). o ++ flows_without names left) (append-nil others)
    joined false = append_assoc others (flow ∷ []) (flows_without names left)

none_or : (o : Option Flow) → option_or o None ≡ o
none_or None = refl
none_or (Some x) = refl

pub put_none : (names : List (List ℕ)) (all : List Flow) (found : List (Option Flow)) → All IsNone found → ArePut names all all found []
put_none names all found none = record {
  partners = λ i name at. ap (option_or (last_named name all)) (empty found i none) ∙ none_or (last_named name all);
  rest = refl;
}
  where
    is_none : (o : Option Flow) → IsNone o → o ≡ None
    is_none None h = refl
    is_none (Some x) h = absurd (cc)

    empty_by : (found : List (Option Flow)) (i : ℕ) → All IsNone found → (i ≡ length found) ⊎ ((i < length found) ⊎ (length found < i)) → get_or found i None ≡ None
    empty_by found i none (inl eq) = get_or_past found i None (omega (arith, eq))
    empty_by found i none (inr (inl lt)) = is_none (get_or found i None) (none i None lt)
    empty_by found i none (inr (inr gt)) = get_or_past found i None (omega (arith, gt))

    empty : (found : List (Option Flow)) (i : ℕ) → All IsNone found → get_or found i None ≡ None
    empty found i none = empty_by found i none (cases_order i (length found))

-- ---- in the end

name_at : (before : List Flow) (names : List (List ℕ)) (i : ℕ) (flow : Flow) → names ≡ names_of before → slice_get before i ≡ Some flow → slice_get names i ≡ Some flow.class.name
name_at before names i flow same at =
    ap (λ (ns : List (List ℕ)). slice_get ns i) same ∙ slice_get-map (λ (flow : Flow). flow.class.name) before i ∙ ap (option_map (λ (flow : Flow). flow.class.name)) at

found_at : (before after : List Flow) (names : List (List ℕ)) (found : List (Option Flow)) (others : List Flow) (i : ℕ) (flow : Flow) → names ≡ names_of before → AreDistinct (names_of after)
    → ArePut names after [] found others → slice_get before i ≡ Some flow → get_or found i None ≡ get_or (map (λ flow. flow_named flow.class.name after) before) i None
found_at before after names found others i flow same distinct put at =
    put.partners i flow.class.name (name_at before names i flow same at)
    ∙ last_is_first flow.class.name after distinct
    ∙ sym (get_or_from_slice_get (map (λ (flow : Flow). flow_named flow.class.name after) before) i (flow_named flow.class.name after) None
    (slice_get-map (λ (flow : Flow). flow_named flow.class.name after) before i ∙ ap (option_map (λ (flow : Flow). flow_named flow.class.name after)) at))

at_or_past : {X : Type 0} (xs : List X) (i : ℕ) → i < length xs → (x : X) × (slice_get xs i ≡ Some x)
at_or_past [] i lt = absurd (omega (arith, lt))
at_or_past (x ∷ xs) zero lt = (x, refl)
at_or_past (x ∷ xs) (suc i) lt = at_or_past xs i (omega (arith, lt))

-- each flow of the first snapshot has that of its name in the second
all_put_by : (before after : List Flow) (names : List (List ℕ)) (found : List (Option Flow)) (others : List Flow) → names ≡ names_of before → AreDistinct (names_of after) → length found ≡ length before
    → ArePut names after [] found others → (found ≡ map (λ flow. flow_named flow.class.name after) before) × (others ≡ flows_without (names_of before) after)
all_put_by before after names found others same distinct long put = (
  ext_get_or None found (map (λ (flow : Flow). flow_named flow.class.name after) before) (long ∙ sym (length-map before (λ (flow : Flow). flow_named flow.class.name after)))
      (λ i lt. let at : (flow : Flow) × (slice_get before i ≡ Some flow) = at_or_past before i (omega (arith, lt, long)) in found_at before after names found others i at.0 same distinct put at.1),
  sym (append-nil others) ∙ put.rest ∙ ap (λ (ns : List (List ℕ)). flows_without ns after) same,
)

pub all_put : (before after left : List Flow) (found : List (Option Flow)) (others : List Flow) → left ≡ [] → AreDistinct (names_of after) → length found ≡ length before
    → ArePut (names_of before) after (reverse left) found others → (found ≡ map (λ flow. flow_named flow.class.name after) before) × (others ≡ flows_without (names_of before) after)
all_put before after left found others none distinct long put =
    all_put_by before after (names_of before) found others refl distinct long (subst (λ (left : List Flow). ArePut (names_of before) after (reverse left) found others) none put)

pub put_start : (names : List (List ℕ)) (all turned : List Flow) (found : List (Option Flow)) (others : List Flow) → turned ≡ reverse all → All IsNone found → others ≡ [] → ArePut names all (reverse turned) found others
put_start names all turned found others turns none no_others =
    let back : all ≡ reverse turned = sym (reverse-reverse all) ∙ ap reverse (sym turns) in
    subst (λ (left : List Flow). ArePut names all left found others) back (subst (λ (others : List Flow). ArePut names all all found others) (sym no_others) (put_none names all found none))

pub put_next : (before : List Flow) (names : List (List ℕ)) (all left new_left : List Flow) (flow : Flow) (found new_found : List (Option Flow)) (others new_others : List Flow)
    → names ≡ names_of before → left ≡ new_left ++ flow ∷ [] → AreDistinct (names_of before) → length before ≡ length found
    → new_found ≡ with_flow found (place_of names flow.class.name) flow → new_others ≡ others ++ flows_without names (flow ∷ [])
    → ArePut (names_of before) all (reverse left) found others → ArePut (names_of before) all (reverse new_left) new_found new_others
put_next before names all left new_left flow found new_found others new_others known off distinct long puts other so_far =
    let turned : reverse left ≡ flow ∷ reverse new_left = ap reverse off ∙ reverse-append new_left (flow ∷ []) in
    let room : length (names_of before) ≤ length found = let h = length-map before (λ (flow : Flow). flow.class.name) in omega (arith, h, long) in
    let puts_by : new_found ≡ with_flow found (place_of (names_of before) flow.class.name) flow = puts ∙ ap (λ (ns : List (List ℕ)). with_flow found (place_of ns flow.class.name) flow) known in
    let other_by : new_others ≡ others ++ flows_without (names_of before) (flow ∷ []) = other ∙ ap (λ (ns : List (List ℕ)). others ++ flows_without ns (flow ∷ [])) known in
    put_one (names_of before) all (reverse new_left) flow found new_found others new_others
    (λ i name at. ap (λ (f : List (Option Flow)). get_or f i None) puts_by ∙ put_found (names_of before) found flow (place_of (names_of before) flow.class.name) i name distinct room refl at)
    other_by (subst (λ (left : List Flow). ArePut (names_of before) all left found others) turned so_far)

-- ---- the table of the first snapshot's names

pub table_step : (names new : List (List ℕ)) (flows : List Flow) (i : ℕ) (flow : Flow) (name : List ℕ) → AreDistinct (names_of flows) → names ++ names_of (drop i flows) ≡ names_of flows
    → i < length flows → flow ≡ get_or flows i flow → name ≡ flow.class.name → new ≡ with_name names name → new ++ names_of (drop (i + 1) flows) ≡ names_of flows
table_step names new flows i flow name distinct so_far lt is same more =
    let next : names_of (drop i flows) ≡ flow.class.name ∷ names_of (drop (i + 1) flows) = ap names_of (drop_more flows i flow lt ∙ ap (λ (f : Flow). f ∷ drop (i + 1) flows) (sym is)) in
    let whole : names ++ flow.class.name ∷ names_of (drop (i + 1) flows) ≡ names_of flows = ap (λ (ns : List (List ℕ)). names ++ ns) (sym next) ∙ so_far in
    let new_to : has_name names flow.class.name ≡ false = distinct_apart names flow.class.name (names_of (drop (i + 1) flows)) (subst AreDistinct (sym whole) distinct) in
    let added : new ≡ names ++ flow.class.name ∷ [] = more ∙ ap (with_name names) same ∙ ap (λ b. cond b names (names ++ flow.class.name ∷ [])) new_to in
    ap (λ (ns : List (List ℕ)). ns ++ names_of (drop (i + 1) flows)) added ∙ append_assoc names (flow.class.name ∷ []) (names_of (drop (i + 1) flows)) ∙ whole

pub table_room : (names : List (List ℕ)) (flows : List Flow) (i : ℕ) → names ++ names_of (drop i flows) ≡ names_of flows → i < length flows → length flows ≤ 10000 → length names < 10000
table_room names flows i so_far lt few =
    let long : length names + (length flows - i) ≡ length flows =
    ap (λ (n : ℕ). length names + n) (sym (length-map (drop i flows) (λ (flow : Flow). flow.class.name) ∙ length-drop i flows))
    ∙ sym (length-append names (names_of (drop i flows))) ∙ ap length so_far ∙ length-map flows (λ (flow : Flow). flow.class.name) in
    omega (arith, long, lt, few)

pub table_whole : (names : List (List ℕ)) (flows left : List Flow) → left ≡ [] → names ++ names_of left ≡ names_of flows → names ≡ names_of flows
table_whole names flows left none so_far = sym (append-nil names) ∙ ap (λ (l : List Flow). names ++ names_of l) (sym none) ∙ so_far

-- ---- one flow, put by its place

pub with_flow_at : (found new : List (Option Flow)) (o : Option ℕ) (p : ℕ) (flow : Flow) → o ≡ Some p → new ≡ set found p (Some flow) → new ≡ with_flow found o flow
with_flow_at found new o p flow at is = is ∙ ap (λ (o : Option ℕ). with_flow found o flow) (sym at)

pub no_other : (names : List (List ℕ)) (others : List Flow) (flow : Flow) (p : ℕ) → place_of names flow.class.name ≡ Some p → others ≡ others ++ flows_without names (flow ∷ [])
no_other names others flow p at = rw (placed names flow.class.name p at) (sym (append-nil others))

pub one_other : (names : List (List ℕ)) (others new : List Flow) (flow : Flow) → place_of names flow.class.name ≡ None → new ≡ others ++ flow ∷ [] → new ≡ others ++ flows_without names (flow ∷ [])
one_other names others new flow none is = rw (unplaced names flow.class.name none) is
