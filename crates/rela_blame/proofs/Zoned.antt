-- The alternatives of violated rows, and the offsets that are kept.
use Rattle.std.proofs.Common.{zero, suc, ◌≡◌, ℕ, ◌+◌, ◌<◌, ◌≤◌, ◌↔◌, cond, Bool, true, false, List, [], ◌∷◌, ◌++◌, length, map, take, get_or, Option, None, Some, Result, Ok, Err, inl, inr, refl, sym, ap, subst, ◌∙◌, append-nil, arith}
use Rattle.std.specs.Prelude.{IfOk, MatchOption, IsSomeAnd, slice_get, option_map, nat_eq, filter}
use Rattle.std.specs.HashMap.{HashMap, get}
use Rattle.std.specs.List.{All, AllZip, Contains}
use Rattle.std.proofs.lemmas.Bool.{and_parts, cases_Bool, cond-true, cond-false, eqb-true}
use Rattle.std.proofs.lemmas.List.{map_push, take_more, take_all}
use Rattle.std.proofs.lemmas.List.Elements.{All-push, All-contains, Contains-get_or, filter_more}
use Rattle.std.proofs.lemmas.Option.{get_or_from_slice_get, slice_get-map, slice_get_read, slice_get_within}
use Rattle.rela_branches.specs.Alternatives.{Claims, IsBlame, alternatives_of}
use Rattle.rela_branches.specs.declared.claiming.Branches.{Branches}
use Rattle.rela_lex.specs.declared.token.Token.{Token}
use Rattle.rela_report.specs.Status.{is_violated}
use Rattle.rela_report.specs.declared.rows.ReportRow.{ReportRow}
use Rattle.rela_report.specs.declared.rows.ReportRow.TheVariants.{Selected, Unselected}
use Rattle.rela_report.specs.declared.rows.Row.TheVariants.{Compliant, Undecided, Violated}
use Rattle.rela_report.specs.declared.zones.Zone.{Zone}
use Rattle.rela_rir.specs.declared.set.SymbolSet.{SymbolSet}
use Rattle.rela_spec.specs.declared.tree.SpecFile.{SpecFile}
use Rattle.rela_translate.specs.Checked.{Checked as Check}
use Rattle.rela_translate.specs.Zones as translate
use Rattle.rela_translate.specs.declared.body.Core.{Core}
use Rattle.rela_blame.specs.Alternatives.{StandsAt, check_leads}
use Rattle.rela_blame.specs.Zones.{AreOffsets, HasClaim, IsBlamed, IsNumber, IsOffset, IsZoneOf, SomeBranches, SomeNamed, checks_of, claim_of, same_numbers}

-- what a check tells of a word: none of its alternatives claims it, or which one does
abbrev IsTold : Check → ℕ → List ℕ → Option ℕ → Type 0
IsTold check locations word number = MatchOption number
    ((before : ℕ) → ¬ Claims check.classes locations check.body word before) (IsBlame check.classes locations check.body word)

-- the same of the check of a name
abbrev pub IsAnswer : Check → ℕ → List ℕ → List ℕ → Option ℕ → Type 0
IsAnswer check locations name word number = MatchOption number
    (check.name ≡ name → ¬ translate.Zone check.classes locations check.body word)
    (λ k. (check.name ≡ name) × IsBlame check.classes locations check.body word k)

-- a word that no alternative claims is outside the zone of the body
abbrev pub SharesTheZone : Type 0
SharesTheZone = (classes : List SymbolSet) (locations : ℕ) (body : Core) (word : List ℕ) →
    translate.Zone classes locations body word ↔ ((before : ℕ) × Claims classes locations body word before)

pub number_told : {E : Type 0} (check : Check) (locations : ℕ) (name word : List ℕ) (r : Result (Option ℕ) E) → check.name ≡ name → SharesTheZone
    → IfOk r (IsTold check locations word) → IfOk r (IsAnswer check locations name word)
number_told check locations name word (Err e) named law told = tt
number_told check locations name word (Ok None) named law none = λ _ zone.
    let claim = (law check.classes locations check.body word).0 zone in none claim.0 claim.1
number_told check locations name word (Ok (Some k)) named law blame = (named, blame)

equal_numbers : (x y : ℕ × ℕ) → same_numbers x y ≡ true → x ≡ y
equal_numbers x y same =
    let parts = and_parts (nat_eq x.0 y.0) (nat_eq x.1 y.1) same in
    let first : x.0 ≡ y.0 = eqb-true x.0 y.0 parts.0 in
    let second : x.1 ≡ y.1 = eqb-true x.1 y.1 parts.1 in
    λ i. (first i, second i)

module _ (file : SpecFile) (tokens : List Token) (checks : List Check) where
  -- one more offset is kept
  pub offsets_more : {S : Type 0} (old new : HashMap (ℕ × ℕ) ℕ S) (index number at : ℕ) → AreOffsets file tokens checks old → IsOffset file tokens checks index number at
      → ((q : ℕ × ℕ) → get same_numbers new q ≡ cond (same_numbers (index, number) q) (Some at) (get same_numbers old q)) → AreOffsets file tokens checks new
  offsets_more old new index number at kept here updates i n other has = elim (cases_Bool (same_numbers (index, number) (i, n))) [
    | inl same ↦
        let is : Some at ≡ Some other = sym (updates (i, n) ∙ cond-true (same_numbers (index, number) (i, n)) (Some at) (get same_numbers old (i, n)) same) ∙ has in
        let equal : at ≡ other = cc in
        subst (λ (x : ℕ). IsOffset file tokens checks i n x) equal (subst (λ (q : ℕ × ℕ). IsOffset file tokens checks q.0 q.1 at) (equal_numbers (index, number) (i, n) same) here)
    | inr differ ↦ kept i n other (sym (updates (i, n) ∙ cond-false (same_numbers (index, number) (i, n)) (Some at) (get same_numbers old (i, n)) differ) ∙ has)
  ]

-- one more check, with the alternatives of its body
pub checks_more : (all more : List Branches) (branches : Branches) (checks : List Check) (i : ℕ) (check : Check) → i < length checks → check ≡ get_or checks i check
    → checks_of all ≡ take i checks → branches.check.now ≡ check → more ≡ all ++ branches ∷ [] → checks_of more ≡ take (i + 1) checks
checks_more all more branches checks i check inside is same told pushed =
    ap checks_of pushed ∙ map_push (λ (b : Branches). b.check.now) all branches ∙ ap (λ (cs : List Check). cs ++ branches.check.now ∷ []) same
    ∙ ap (λ (c : Check). take i checks ++ c ∷ []) (told ∙ is) ∙ sym (take_more checks i check inside)

-- a check of the list, by its index
at_index : (all : List Branches) (index : ℕ) (branches : Branches) → index < length all → branches ≡ get_or all index branches
    → slice_get (checks_of all) index ≡ Some branches.check.now
at_index all index branches inside is =
    slice_get-map (λ (b : Branches). b.check.now) all index
    ∙ ap (option_map (λ (b : Branches). b.check.now)) (slice_get_read all (length all) index branches refl inside is)

module _ (file : SpecFile) (tokens : List Token) (all : List Branches) (index : ℕ) (branches : Branches) (inside : index < length all) (is : branches ≡ get_or all index branches) where
  -- the offset of an alternative of a check, by the check's index
  pub offset_of : (number at : ℕ) → StandsAt file tokens branches.check.now.name number at → IsOffset file tokens (checks_of all) index number at
  offset_of number at stands =
      subst (λ o. IsSomeAnd o (λ (c : Check). StandsAt file tokens c.name number at)) (sym (at_index all index branches inside is)) stands

  -- and back
  pub stands_of : (number at : ℕ) → IsOffset file tokens (checks_of all) index number at → StandsAt file tokens branches.check.now.name number at
  stands_of number at offset =
      subst (λ o. IsSomeAnd o (λ (c : Check). StandsAt file tokens c.name number at)) (at_index all index branches inside is) offset

  -- a check has an alternative of the number that is blamed
  pub number_of : (number : ℕ) (word : List ℕ) → All (λ c. length (check_leads file tokens c.name) ≡ length (alternatives_of c.body)) (checks_of all)
      → IsBlame branches.check.now.classes branches.locations branches.check.now.body word number → IsNumber file tokens (checks_of all) index number
  number_of number word placed blame =
      let check = branches.check.now in
      let at = at_index all index branches inside is in
      let within = slice_get_within (checks_of all) index check at in
      let long : length (check_leads file tokens check.name) ≡ length (alternatives_of check.body) =
      subst (λ (c : Check). length (check_leads file tokens c.name) ≡ length (alternatives_of c.body)) (get_or_from_slice_get (checks_of all) index check check at)
      (placed index check within) in
      let few = slice_get_within (alternatives_of check.body) blame.before blame.claims.0 blame.claims.1 in
      let counted = blame.number in
      subst (λ o. IsSomeAnd o (λ (c : Check). (1 ≤ number) × (number ≤ length (check_leads file tokens c.name)))) (sym at)
      (omega arith, omega (arith, long, few, counted))

  -- the zone that a check of the name tells
  pub blamed : (number at : ℕ) (name word : List ℕ) → branches.check.now.name ≡ name
      → IsBlame branches.check.now.classes branches.locations branches.check.now.body word number → IsOffset file tokens (checks_of all) index number at
      → SomeBranches (λ b. IsBlamed file tokens b.locations word (record { number = number; at = at }) b.check.now) name all
  blamed number at name word named blame offset = (
    branches,
    subst (Contains all) (sym is) (Contains-get_or all index branches inside),
    named,
    record { alternative = blame; place = stands_of number at offset },
  )

-- the check isn't the one of this name that has the word in its zone
abbrev pub IsOther : List ℕ → List ℕ → Branches → Type 0
IsOther name word b = b.check.now.name ≡ name → ¬ translate.Zone b.check.now.classes b.locations b.check.now.body word

pub others_more : {X : Type 0} (P : X → Type 0) (xs : List X) (i : ℕ) (x : X) → i < length xs → x ≡ get_or xs i x → All P (take i xs) → P x → All P (take (i + 1) xs)
others_more {X} P xs i x inside is each one =
    subst (All P) (sym (take_more xs i x inside ∙ ap (λ (y : X). take i xs ++ y ∷ []) (sym is))) (All-push P (take i xs) x each one)

-- one of all checks is the one of the name
pub not_all_others : (i : ℕ) (name word : List ℕ) (all : List Branches) → length all ≤ i → All (IsOther name word) (take i all)
    → SomeBranches (λ b. translate.Zone b.check.now.classes b.locations b.check.now.body word) name all → ⊥
not_all_others i name word all past each claimed =
    All-contains (IsOther name word) all claimed.0 (subst (All (IsOther name word)) (take_all i all past) each) claimed.1 claimed.2 claimed.3

-- what a list of values has, the values have
contains_mapped : {A B : Type 0} (f : A → B) (xs : List A) (y : B) → Contains (map f xs) y → (x : A) × Contains xs x × (f x ≡ y)
contains_mapped f [] y (k, inside, is) = absurd (omega (arith, inside))
contains_mapped f (x ∷ xs) y (zero, inside, is) = (x, (0, omega arith, refl), is)
contains_mapped f (x ∷ xs) y (suc k, inside, is) =
    let later = contains_mapped f xs y (k, omega (arith, inside), is) in
    (later.0, (suc later.1.0, let w = later.1.1 in omega (arith, w), later.1.2), later.2)

mapped_contains : {A B : Type 0} (f : A → B) (xs : List A) (x : A) → Contains xs x → Contains (map f xs) (f x)
mapped_contains f xs x (k, inside, is) =
    let at = slice_get-map f xs k ∙ ap (option_map f) (slice_get_read xs (length xs) k x refl inside (sym is)) in
    (k, slice_get_within (map f xs) k (f x) at, get_or_from_slice_get (map f xs) k (f x) (f x) at)

-- from checks to checks with their alternatives, and back
module _ (all : List Branches) (checks : List Check) (locations : ℕ) (same : checks_of all ≡ checks) (counted : All (λ b. b.locations ≡ locations) all) where
  with_branches : (P : ℕ → Check → Type 0) (name : List ℕ) → SomeNamed (P locations) name checks → SomeBranches (λ b. P b.locations b.check.now) name all
  with_branches P name some =
      let found = contains_mapped (λ (b : Branches). b.check.now) all some.0 (subst (λ (cs : List Check). Contains cs some.0) (sym same) some.1) in
      let count = All-contains (λ (b : Branches). b.locations ≡ locations) all found.0 counted found.1 in (
        found.0,
        found.1,
        ap (λ (c : Check). c.name) found.2 ∙ some.2,
        subst (λ (n : ℕ). P n found.0.check.now) (sym count) (subst (P locations) (sym found.2) some.3),
      )

  without_branches : (P : ℕ → Check → Type 0) (name : List ℕ) → SomeBranches (λ b. P b.locations b.check.now) name all → SomeNamed (P locations) name checks
  without_branches P name some = (
    some.0.check.now,
    subst (λ (cs : List Check). Contains cs some.0.check.now) same (mapped_contains (λ (b : Branches). b.check.now) all some.0 some.1),
    some.2,
    subst (λ (n : ℕ). P n some.0.check.now) (All-contains (λ (b : Branches). b.locations ≡ locations) all some.0 counted some.1) some.3,
  )

  -- a row of which this is the name of the check and the source
  pub asks : (row : ReportRow) (name source : List ℕ) → claim_of row ≡ Some (name, source) → HasClaim locations checks row
      → SomeBranches (λ b. translate.Zone b.check.now.classes b.locations b.check.now.body source) name all
  asks (Selected flow check (Violated word side from)) name source is claim =
      let pair : (check, from) ≡ (name, source) = cc in
      subst (λ (p : List ℕ × List ℕ). SomeBranches (λ b. translate.Zone b.check.now.classes b.locations b.check.now.body p.1) p.0 all) pair
      (with_branches (λ n c. translate.Zone c.classes n c.body from) check claim)
  asks (Selected flow check Compliant) name source is claim = absurd (cc)
  asks (Selected flow check Undecided) name source is claim = absurd (cc)
  asks (Unselected flow) name source is claim = absurd (cc)

  pub is_zone_of : (file : SpecFile) (tokens : List Token) (row : ReportRow) (name source : List ℕ) (zone : Zone) → claim_of row ≡ Some (name, source)
      → SomeBranches (λ b. IsBlamed file tokens b.locations source zone b.check.now) name all → IsZoneOf file tokens locations checks row zone
  is_zone_of file tokens (Selected flow check (Violated word side from)) name source zone is blame =
      let pair : (name, source) ≡ (check, from) = cc in
      subst (λ (p : List ℕ × List ℕ). SomeNamed (IsBlamed file tokens locations p.1 zone) p.0 checks) pair
      (without_branches (λ n c. IsBlamed file tokens n source zone c) name blame)
  is_zone_of file tokens (Selected flow check Compliant) name source zone is blame = absurd (cc)
  is_zone_of file tokens (Selected flow check Undecided) name source zone is blame = absurd (cc)
  is_zone_of file tokens (Unselected flow) name source zone is blame = absurd (cc)

violated : (row : ReportRow) (name source : List ℕ) → claim_of row ≡ Some (name, source) → is_violated row ≡ true
violated (Selected flow check (Violated word side from)) name source is = refl
violated (Selected flow check Compliant) name source is = absurd (cc)
violated (Selected flow check Undecided) name source is = absurd (cc)
violated (Unselected flow) name source is = absurd (cc)

not_violated : (row : ReportRow) → claim_of row ≡ None → is_violated row ≡ false
not_violated (Selected flow check (Violated word side from)) is = absurd (cc)
not_violated (Selected flow check Compliant) is = refl
not_violated (Selected flow check Undecided) is = refl
not_violated (Unselected flow) is = refl

zip_push : {A B : Type 0} (R : A → B → Type 0) (xs : List A) (ys : List B) (x : A) (y : B)
    → AllZip R xs ys → R x y → AllZip R (xs ++ x ∷ []) (ys ++ y ∷ [])
zip_push R [] [] x y each one = (one, tt)
zip_push R [] (b ∷ ys) x y each one = absurd each
zip_push R (a ∷ xs) [] x y each one = absurd each
zip_push R (a ∷ xs) (b ∷ ys) x y each one = (each.0, zip_push R xs ys x y each.1 one)

-- one more row, and its zone if it is violated
module _ (R : ReportRow → Zone → Type 0) (rows : List ReportRow) (zones : List Zone) (i : ℕ) (row : ReportRow) (inside : i < length rows) (is : row ≡ get_or rows i row)
    (each : AllZip R (filter is_violated (take i rows)) zones) where
  with_row : filter is_violated (take (i + 1) rows) ≡ filter is_violated (take i rows) ++ cond (is_violated row) (row ∷ []) []
  with_row =
      filter_more is_violated rows i row inside
      ∙ ap (λ (r : ReportRow). filter is_violated (take i rows) ++ cond (is_violated r) (r ∷ []) []) (sym is)

  pub zone_more : (more : List Zone) (zone : Zone) (name source : List ℕ) → claim_of row ≡ Some (name, source) → more ≡ zones ++ zone ∷ [] → R row zone
      → AllZip R (filter is_violated (take (i + 1) rows)) more
  zone_more more zone name source claim pushed one =
      let next : filter is_violated (take (i + 1) rows) ≡ filter is_violated (take i rows) ++ row ∷ [] =
      with_row ∙ ap (λ (b : Bool). filter is_violated (take i rows) ++ cond b (row ∷ []) []) (violated row name source claim) in
      subst (λ (rs : List ReportRow). AllZip R rs more) (sym next)
      (subst (AllZip R (filter is_violated (take i rows) ++ row ∷ [])) (sym pushed) (zip_push R (filter is_violated (take i rows)) zones row zone each one))

  pub no_zone : claim_of row ≡ None → AllZip R (filter is_violated (take (i + 1) rows)) zones
  no_zone claim =
      let next : filter is_violated (take (i + 1) rows) ≡ filter is_violated (take i rows) =
      with_row ∙ ap (λ (b : Bool). filter is_violated (take i rows) ++ cond b (row ∷ []) []) (not_violated row claim) ∙ append-nil (filter is_violated (take i rows)) in
      subst (λ (rs : List ReportRow). AllZip R rs zones) (sym next) each
