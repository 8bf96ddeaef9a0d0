-- Checks that ask for the same have the same rows, so a compiled one serves for each of them.
use Rattle.std.proofs.Common.{◌≡◌, ℕ, zero, suc, ◌<◌, Bool, Bor, List, [], ◌∷◌, length, map, get_or, Option, None, Some, sym, subst, arith}
use Rattle.std.specs.List.{All, Contains}
use Rattle.std.proofs.lemmas.List.Elements.{All-contains}
use Rattle.rela_build.specs.PathSets.{Paths}
use Rattle.rela_engine.specs.RowOf.{IsLast, RowOf, Says}
use Rattle.rela_blocks.specs.Scenes.{after_image, before_image, paths_of, scene}
use Rattle.rela_engine.specs.declared.compiled.Compiled.{Compiled}
use Rattle.rela_names.specs.declared.level.Level.{Level}
use Rattle.rela_report.specs.declared.rows.Row.{Row}
use Rattle.rela_report.specs.declared.rows.Row.TheVariants.{Compliant, Violated, Undecided}
use Rattle.rela_report.specs.declared.rows.Side.TheVariants as side
use Rattle.rela_rir.specs.Limit.{Licensed}
use Rattle.rela_rir.specs.declared.set.SymbolSet.{SymbolSet}
use Rattle.rela_same_checks.specs.SameChecks.{AreAskedAt, AskTheSame, IsAskedAt}
use Rattle.rela_snapshot.specs.declared.pairing.FlowPair.{FlowPair}
use Rattle.rela_translate.specs.Checked.{Checked as Check}
use Rattle.rela_rows.proofs.Loops.{All-unmap}
use Rattle.rela_translate.specs.declared.body.Core.{Core}

-- the check, but that it asks for this
abbrev asking : Check → Bool → List SymbolSet → Core → Check
asking check at_most classes body = record {
  name = check.name;
  level = check.level;
  when = check.when;
  at_most = at_most;
  classes = classes;
  body = body;
}

module _ (check other : Check) (locations : ℕ) (paths : Paths) (limit : ℕ) where
  abbrev like : Check
  like = asking check other.at_most other.classes other.body

  open_there : (last : Option (List ℕ)) → (IsLast other locations paths last → Licensed (scene other locations paths) last (before_image other locations) (after_image other locations) limit)
      → IsLast like locations paths last → Licensed (scene like locations paths) last (before_image like locations) (after_image like locations) limit
  open_there None leads is = leads is
  open_there (Some word) leads is = leads is

  said_there : (row : Row) → Says other locations paths limit row → Says like locations paths limit row
  said_there Compliant is = is
  said_there (Violated word side.Before source) is = record { first = is.first; in_image = is.in_image; first_source = is.first_source }
  said_there (Violated word side.After source) is = record { first = is.first; in_image = is.in_image; first_source = is.first_source }
  said_there Undecided is = λ last. open_there last (is last)

  row_there : (row : Row) → RowOf other locations paths limit row → RowOf like locations paths limit row
  row_there row is = record { says = said_there row is.says; forced = is.forced }

  -- a row of a check is one of each that asks for the same
  same_row : AskTheSame check other → (row : Row) → RowOf other locations paths limit row → RowOf check locations paths limit row
  same_row same row is =
      subst (λ (m : Bool). RowOf (asking check m check.classes check.body) locations paths limit row) (sym same.at_most)
      (subst (λ (cs : List SymbolSet). RowOf (asking check other.at_most cs check.body) locations paths limit row) (sym same.classes)
      (subst (λ (b : Core). RowOf (asking check other.at_most other.classes b) locations paths limit row) (sym same.body) (row_there row is)))

-- and so at the level that they have in common
pub row_of_same : (check other : Check) (locations limit states : ℕ) (names : List (List ℕ)) (pair : FlowPair) (row : Row) → AskTheSame check other → limit ≡ states
    → RowOf other locations (paths_of other.level names pair.before pair.after) limit row
    → RowOf check locations (paths_of check.level names pair.before pair.after) states row
row_of_same check other locations limit states names pair row same limits is =
    subst (λ (n : ℕ). RowOf check locations (paths_of check.level names pair.before pair.after) n row) limits
    (subst (λ (l : Level). RowOf check locations (paths_of l names pair.before pair.after) limit row) (sym same.level)
    (same_row check other locations (paths_of other.level names pair.before pair.after) limit same row is))

-- ---- which compiled check asks for the same

abbrev pub check_of : Compiled → Check
check_of c = c.check

compiled_at : (compiled : List Compiled) (check : Check) (place : ℕ) → IsAskedAt (map check_of compiled) check place
    → (place < length compiled) × ((by : Compiled) → AskTheSame check (get_or compiled place by).check)
compiled_at [] check place is = absurd is
compiled_at (c ∷ cs) check zero is = (omega arith, λ by. is)
compiled_at (c ∷ cs) check (suc k) is = let more = compiled_at cs check k is in (omega (arith, more.0), more.1)

asked_at : (asked checks : List Check) (places : List ℕ) (k : ℕ) (d : Check) → AreAskedAt asked checks places → k < length checks
    → (k < length places) × IsAskedAt asked (get_or checks k d) (get_or places k 0)
asked_at asked [] places k d each within = absurd (omega (arith, within))
asked_at asked (c ∷ checks) [] k d each within = absurd each
asked_at asked (c ∷ checks) (p ∷ places) zero d each within = (omega arith, each.0)
asked_at asked (c ∷ checks) (p ∷ places) (suc k) d each within =
    let more = asked_at asked checks places k d each.1 (omega (arith, within)) in (omega (arith, more.0), more.1)

-- each check has a place
pub place_within : (compiled : List Compiled) (checks : List Check) (places : List ℕ) (k : ℕ) → AreAskedAt (map check_of compiled) checks places → k < length checks → k < length places
place_within compiled (c ∷ checks) places k each within = (asked_at (map check_of compiled) (c ∷ checks) places k c each within).0
place_within compiled [] places k each within = absurd (omega (arith, within))

-- at which a compiled check asks for the same
pub asks_there : (compiled : List Compiled) (checks : List Check) (places : List ℕ) (k : ℕ) (d : Check) → AreAskedAt (map check_of compiled) checks places → k < length checks
    → (get_or places k 0 < length compiled) × ((by : Compiled) → AskTheSame (get_or checks k d) (get_or compiled (get_or places k 0) by).check)
asks_there compiled checks places k d each within =
    compiled_at compiled (get_or checks k d) (get_or places k 0) (asked_at (map check_of compiled) checks places k d each within).1

pub place_inside : (compiled : List Compiled) (checks : List Check) (places : List ℕ) (k : ℕ) → AreAskedAt (map check_of compiled) checks places → k < length checks → get_or places k 0 < length compiled
place_inside compiled (c ∷ checks) places k each within = (asks_there compiled (c ∷ checks) places k c each within).0
place_inside compiled [] places k each within = absurd (omega (arith, within))

-- what each check has, each of those among them has
pub All-among : {X : Type 0} (P : X → Type 0) (all some : List X) → All P all → All (Contains all) some → All P some
All-among P all some each given = λ k d inside. All-contains P all (get_or some k d) each (given k d inside)

-- and so has each of them, compiled
pub all_compiled : (P : Check → Type 0) (checks : List Check) (lent given : List (Bor Check)) (compiled slice : List Compiled) → All P checks
    → All (Contains checks) (map (λ (c : Bor Check). c.now) lent) → given ≡ lent → map check_of compiled ≡ map (λ (c : Bor Check). c.now) given → slice ≡ compiled
    → All (λ (c : Compiled). P c.check) slice
all_compiled P checks lent given compiled slice each among lent_is made slice_is =
    let of_lent : All P (map (λ (c : Bor Check). c.now) lent) = All-among P checks (map (λ (c : Bor Check). c.now) lent) each among in
    let of_given : All P (map (λ (c : Bor Check). c.now) given) = subst (λ (cs : List (Bor Check)). All P (map (λ (c : Bor Check). c.now) cs)) (sym lent_is) of_lent in
    subst (λ (cs : List Compiled). All (λ (c : Compiled). P c.check) cs) (sym slice_is)
    (All-unmap P check_of compiled (subst (λ (cs : List Check). All P cs) (sym made) of_given))
