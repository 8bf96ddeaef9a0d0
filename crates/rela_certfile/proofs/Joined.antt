-- The names of a row's line.
use Rattle.std.proofs.Common.{◌≡◌, ◌≢◌, ℕ, ◌<◌, ◌↔◌, Bool, true, false, IsTrue, Option, None, Some, IsSome, List, [], ◌∷◌, ◌++◌, length, get_or, codes, refl, sym, ◌∙◌, ap, subst, ⊎_elim, arith}
use Rattle.std.specs.Bool.{Decides}
use Rattle.std.specs.List.{slice_get}
use Rattle.std.proofs.lemmas.Option.{slice_get_cases, slice_get_within}
use Rattle.std.proofs.lemmas.List.{length-map}
use Rattle.rela_flows.specs.declared.planning.PlannedRow.{PlannedRow}
use Rattle.rela_flows.specs.declared.planning.PlannedRow.TheVariants.{Selected, Unselected}
use Rattle.rela_certfile.specs.Layout.{Layout, IsLayout, IsRowLine, Shape, check_names, row_line, shape_at, shape_of, title_of}
use Rattle.rela_certfile.proofs.ItemLines.{Titled, Names, names_of, titled}

cancel : (a x y : List ℕ) → a ++ x ≡ a ++ y → x ≡ y
cancel [] x y same = same
cancel (c ∷ a) x y same = cancel a x y (let tails : a ++ x ≡ a ++ y = cc in tails)

pub joined : (text first second rest last : List ℕ) (r : Bool) → text ≡ first ++ rest → rest ≡ 32 ∷ last → Decides r (last ≡ second) → IsTrue r ↔ (text ≡ first ++ 32 ∷ second)
joined text first second rest last r cut blank tells = (
  (λ yes. cut ∙ ap (λ t. first ++ t) (blank ∙ ap (λ t. 32 ∷ t) (tells.0 yes))),
  λ same.
      let tails : 32 ∷ last ≡ 32 ∷ second = sym blank ∙ cancel first rest (32 ∷ second) (sym cut ∙ same) in
      let ends : last ≡ second = cc in
      tells.1 ends,
)

pub apart : (text first second : List ℕ) → ((rest : List ℕ) → text ≢ first ++ rest) → IsTrue false ↔ (text ≡ first ++ 32 ∷ second)
apart text first second none = ((λ yes. cc), λ same. absurd (none (32 ∷ second) same))

pub unblanked : (text first second rest : List ℕ) → text ≡ first ++ rest → ((last : List ℕ) → rest ≢ 32 ∷ last) → IsTrue false ↔ (text ≡ first ++ 32 ∷ second)
unblanked text first second rest cut none = ((λ yes. cc), λ same. absurd (none second (cancel first rest (32 ∷ second) (sym cut ∙ same))))

pub shape_checked : (l : Layout) (place flow check : ℕ) → slice_get l.planned place ≡ Some (Selected flow check) → shape_at l place ≡ slice_get l.checks check
unfolding shape_at
shape_checked l place flow check is = ap (shape_of l.checks) is

unchecked : (l : Layout) (row : Option PlannedRow) → ((flow check : ℕ) → row ≢ Some (Selected flow check)) → shape_of l.checks row ≡ None
unchecked l None none = refl
unchecked l (Some (Selected flow check)) none = absurd (none flow check refl)
unchecked l (Some (Unselected flow)) none = refl

pub shape_none : (l : Layout) (place : ℕ) → ((flow check : ℕ) → slice_get l.planned place ≢ Some (Selected flow check)) → shape_at l place ≡ None
unfolding shape_at
shape_none l place none = unchecked l (slice_get l.planned place) none

pub title_checked : (l : Layout) (place flow check : ℕ) → slice_get l.planned place ≡ Some (Selected flow check) → row_line l place ≡ codes "row " ++ (get_or l.flows flow [] ++ 32 ∷ get_or (check_names l.checks) check [])
unfolding row_line
title_checked l place flow check is = ap (title_of l) is

pub named_in : (l : Layout) (place flow check : ℕ) → IsLayout l → slice_get l.planned place ≡ Some (Selected flow check) → (flow < length l.flows) × (check < length l.checks)
named_in l place flow check is there =
    let t : Titled l place = record { flow = flow; check = check; there = there; inside = slice_get_within l.planned place (Selected flow check) there } in
    let n : Names l place t = names_of l place is t in
    let below : check < length (check_names l.checks) = n.check in
    (n.flow, rw length-map at below)

pub is_row : (l : Layout) (place flow check : ℕ) (names : List ℕ) (r : Bool) → IsLayout l → slice_get l.planned place ≡ Some (Selected flow check) → IsTrue r ↔ (names ≡ get_or l.flows flow [] ++ 32 ∷ get_or (check_names l.checks) check []) → IsTrue r ↔ IsRowLine l place (codes "row " ++ names)
is_row l place flow check names r is there tells =
    let inside : check < length l.checks = (named_in l place flow check is there).1 in
    let some : IsSome (slice_get l.checks check) = ⊎_elim (λ found. subst (λ o. IsSome o) (sym found.2) refl) (λ past. absurd (omega (arith, past.0))) (slice_get_cases l.checks check).1 in (
      (λ yes. record {
        has_check = subst (λ o. IsSome o) (sym (shape_checked l place flow check there)) some;
        named = ap (λ n. codes "row " ++ n) (tells.0 yes) ∙ sym (title_checked l place flow check there);
      }),
      λ row.
          let same : codes "row " ++ names ≡ codes "row " ++ (get_or l.flows flow [] ++ 32 ∷ get_or (check_names l.checks) check []) = row.named ∙ title_checked l place flow check there in
          tells.1 (cancel (codes "row ") names (get_or l.flows flow [] ++ 32 ∷ get_or (check_names l.checks) check []) same),
    )

pub no_row : (l : Layout) (place : ℕ) (line : List ℕ) → ((flow check : ℕ) → slice_get l.planned place ≢ Some (Selected flow check)) → IsTrue false ↔ IsRowLine l place line
no_row l place line none = ((λ yes. cc), λ row. let some : IsSome {T = Shape} None = subst (λ (o : Option Shape). IsSome o) (shape_none l place none) row.has_check in let never : false ≡ true = some in cc)

-- a line that doesn't begin as those of rows
pub no_prefix : (l : Layout) (place : ℕ) (line : List ℕ) → ((rest : List ℕ) → line ≢ codes "row " ++ rest) → IsRowLine l place line → ⊥
no_prefix l place line none row =
    let t : Titled l place = titled l place row.has_check in
    none _ (row.named ∙ title_checked l place t.flow t.check t.there)

pub row_place : (l : Layout) (place : ℕ) (line : List ℕ) → IsRowLine l place line → place < length l.planned
row_place l place line row = (titled l place row.has_check).inside
