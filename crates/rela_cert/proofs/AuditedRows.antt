-- What the judgement of a listed row says of its certificate.
use Rattle.std.proofs.Common.{◌≡◌, ℕ, ◌+◌, ◌<◌, Some, List, length, map, inl, inr, refl, sym, subst, arith, Bor}
use Rattle.std.specs.Prelude.{IfNone, IfSome, Contains}
use Rattle.std.specs.List.{All, slice_get}
use Rattle.std.proofs.lemmas.List.{get_or-map, length-map}
use Rattle.std.proofs.lemmas.List.Elements.{All-from_recursion}
use Rattle.std.proofs.lemmas.Option.{get_or_from_slice_get, slice_get_within}
use Rattle.rela_blocks.specs.RowBlocks.{symbols_of}
use Rattle.rela_blocks.specs.Scenes.{paths_of}
use Rattle.rela_build.specs.PathSets.{Paths}
use Rattle.rela_certfile.specs.Listed.{IsBlock}
use Rattle.rela_certfile.specs.declared.rows.ListedRow.{ListedRow}
use Rattle.rela_certfile.specs.declared.rows.Step.{Step}
use Rattle.rela_flows.specs.declared.planning.PlannedRow.{PlannedRow}
use Rattle.rela_flows.specs.declared.planning.PlannedRow.TheVariants.{Selected}
use Rattle.rela_snapshot.specs.PairsLocated.{ArePairsLocated, IsPairLocated}
use Rattle.rela_snapshot.specs.declared.pairing.FlowPair.{FlowPair}
use Rattle.rela_translate.specs.Checked.{Checked}
use Rattle.rela_translate.specs.Verdict.{Meets}
use Rattle.rela_translate.specs.Zones.{path_symbols}
use Rattle.rela_cert.specs.Answers.{answer_by}
use Rattle.rela_cert.specs.Audited.{Finds, IsBadBlock, IsMet}
use Rattle.rela_cert.specs.RowAt.{IsRowAt}
use Rattle.rela_cert.specs.Rows.{Judges, MayPass, parts_of}
use Rattle.rela_cert.specs.Subject.{HoldsAt, IsSubject, ListsPathSymbols, Subject, flow_of}
use Rattle.rela_cert.specs.declared.judgement.Judgement.{Judgement}
use Rattle.rela_cert.specs.declared.judgement.Judgement.TheVariants.{Met, OpenComplement, BadImages, TooLarge}
use Rattle.rela_cert.specs.declared.row.Row.{Row}
use Rattle.rela_cert.proofs.ListedRows.{same_some}

-- what each has, the one at a place has
pub all_at : {X : Type 0} (P : X → Type 0) (xs : List X) (k : ℕ) (x : X) → All P xs → slice_get xs k ≡ Some x → P x
all_at P xs k x all at = subst P (get_or_from_slice_get xs k x x at) (all k x (slice_get_within xs k x at))

pub contains_at : {X : Type 0} (xs : List X) (k : ℕ) (x : X) → slice_get xs k ≡ Some x → Contains xs x
contains_at xs k x at = (k, slice_get_within xs k x at, get_or_from_slice_get xs k x x at)

all_of_mapped : {X Y : Type 0} (P : Y → Type 0) (f : X → Y) (xs : List X) → All P (map f xs) → All (λ x. P (f x)) xs
all_of_mapped P f xs all k d below =
    subst P (get_or-map f xs k d (f d) below) (all k (f d) (omega (arith, below, length-map xs f)))

module _ (s : Subject) (planned : List PlannedRow) (rows : List ListedRow) (number : ℕ) (row : ListedRow) (at : slice_get rows number ≡ Some row)
    (r : Row) (is : IsRowAt s planned row r) where
  abbrev check : Checked
  check = r.check.now

  abbrev pair : FlowPair
  pair = r.pair.now

  abbrev names : List (List ℕ)
  names = r.alphabet.now

  -- ---- what the judgement asks

  -- the check is that of the number that is planned
  pub check_there : (flow k : ℕ) → slice_get planned row.place ≡ Some (Selected flow k) → slice_get s.checks k ≡ Some check
  check_there flow k planned_as =
      let e : Selected is.of.flow is.of.number ≡ Selected flow k = same_some (slice_get planned row.place) _ _ is.of.planned_as planned_as in
      let same : is.of.number ≡ k = cc in
      subst (λ (j : ℕ). slice_get s.checks j ≡ Some check) same is.of.of_check

  module _ (subject : IsSubject s) where
    pub classes_listed : All (λ set. All (λ x. x < length names + 2) set.members) check.classes
    classes_listed =
        subst (λ (ns : List (List ℕ)). ListsPathSymbols (length ns) check) (sym is.names)
        (all_at (ListsPathSymbols (length s.names)) s.checks is.of.number check subject.listed is.of.of_check)

    pub pair_located : IsPairLocated names check.level pair
    pair_located =
        subst (λ (ns : List (List ℕ)). IsPairLocated ns check.level pair) (sym is.names)
        (all_at (IsPairLocated s.names check.level) s.pairs is.of.flow pair
        (all_at (λ (c : Checked). ArePairsLocated s.names c.level s.pairs) s.checks is.of.number check subject.located is.of.of_check) is.of.of_flow)

  pub complements_are_blocks : (xs : List (Bor (List Step))) → map (λ x. x.now) xs ≡ row.complements → All (λ x. IsBlock (path_symbols (length names)) x.now) xs
  complements_are_blocks xs are =
      let now : Bor (List Step) → List Step = λ x. x.now in
      subst (λ (ns : List (List ℕ)). All (λ x. IsBlock (path_symbols (length ns)) x.now) xs) (sym is.names)
      (all_of_mapped (IsBlock (path_symbols (length s.names))) now xs
      (subst (All (IsBlock (path_symbols (length s.names)))) (sym are) (All-from_recursion (IsBlock (path_symbols (length s.names))) row.complements is.shape.complements)))

  pub images_are_block : (images : List Step) → images ≡ row.images → IsBlock (symbols_of check (length names)) images
  images_are_block images same =
      subst (λ (ns : List (List ℕ)). IsBlock (symbols_of check (length ns)) images) (sym is.names)
      (subst (IsBlock (symbols_of check (length s.names))) (sym same) is.shape.images)

  -- ---- what it says

  abbrev pub JudgesHere : Judgement → Type 0
  JudgesHere j = Judges check (length s.names) (flow_of s pair check) 4000000 row.complements row.images j

  pub judged_here : (xs : List (Bor (List Step))) → map (λ x. x.now) xs ≡ row.complements → (images : List Step) → images ≡ row.images → (j : Judgement)
      → Judges check (length names) (paths_of check.level names pair.before pair.after) 4000000 (map (λ x. x.now) xs) images j → JudgesHere j
  judged_here xs are images images_is j told =
      subst (λ (i : List Step). Judges check (length s.names) (flow_of s pair check) 4000000 row.complements i j) images_is
      (subst (λ (b : List (List Step)). Judges check (length s.names) (flow_of s pair check) 4000000 b images j) are
      (subst (λ (ns : List (List ℕ)). Judges check (length ns) (paths_of check.level ns pair.before pair.after) 4000000 (map (λ x. x.now) xs) images j) is.names told))

  -- the number of an open complement is below that of the complement blocks
  pub open_below : (j : Judgement) → JudgesHere j → (k : ℕ) → j ≡ OpenComplement k → k < length row.complements
  open_below j told k same =
      let opened = subst JudgesHere same told in
      let below : k < length (parts_of check (length s.names)) = slice_get_within (parts_of check (length s.names)) k opened.0 opened.1 in
      omega (arith, below, is.shape.one_each)

  holds_here : (P : Checked → Paths → Type 0) → P check (flow_of s pair check) → HoldsAt s planned row.place P
  holds_here P holds = (pair, check, is.of, holds)

  module _ (count : ℕ) (counted : count ≡ length row.complements) where
    pub met_here : (j : Judgement) → JudgesHere j → IfNone (answer_by rows number count j) (IsMet s planned row)
    met_here Met told = holds_here (λ c paths. Meets c (length s.names) paths.pre paths.post) told
    met_here (OpenComplement k) told = tt
    met_here BadImages told = tt
    met_here TooLarge told = tt

    pub answer_here : (j : Judgement) → JudgesHere j → IfSome (answer_by rows number count j) (Finds s planned 4000000 rows)
    answer_here Met told = tt
    answer_here (OpenComplement k) told = record {
      place = number;
      row = row;
      block = k;
      at = at;
      bad = holds_here (IsBadBlock (length s.names) row k) (inl (open_below (OpenComplement k) told k refl, told));
      head = refl;
    }
    answer_here BadImages told = record {
      place = number;
      row = row;
      block = count;
      at = at;
      bad = holds_here (IsBadBlock (length s.names) row count) (inr (counted, told));
      head = refl;
    }
    answer_here TooLarge told = (row, contains_at rows number row at, holds_here (λ c paths. MayPass c (length s.names) paths 4000000) told)
