-- What one item adds to the walk over the items.
use Rattle.std.proofs.Common.{◌≡◌, ℕ, ◌+◌, ◌-◌, ◌<◌, ◌≤◌, Bool, false, cond, List, ◌∷◌, length, drop, get_or, slice_get, None, Some, ap, sym, ◌∙◌, arith}
use Rattle.std.proofs.lemmas.List.{drop_more}
use Rattle.std.proofs.lemmas.Option.{slice_get-get_or}
use Rattle.std.specs.Str.{bytes_eq}
use Rattle.rela_flows.specs.declared.predicate.Predicate.{Predicate}
use Rattle.rela_lex.specs.declared.token.Token.{Token}
use Rattle.rela_spec.specs.declared.tree.Item.{Item}
use Rattle.rela_spec.specs.declared.tree.Item.TheVariants.{Path, Spec, Check}
use Rattle.rela_spec.specs.declared.tree.PathExpr.{PathExpr}
use Rattle.rela_spec.specs.declared.tree.SpecExpr.{SpecExpr}
use Rattle.rela_spec.specs.declared.tree.SpecFile.{SpecFile}
use Rattle.rela_blame.specs.Alternatives.{StandsAt, check_leads, leads_from, leads_of, with_name}

module _ (items : List Item) (check : List ℕ) (i : ℕ) (item : Item) (inside : i < length items) (at : item ≡ get_or items i item) (named : List ℕ → List ℕ) (units : List ℕ) where
  next : (other : Item) → item ≡ other → drop i items ≡ other ∷ drop (i + 1) items
  next other is = drop_more items i item inside ∙ ap (λ (x : Item). x ∷ drop (i + 1) items) (sym at ∙ is)

  from : (other : Item) → item ≡ other → leads_from named units (other ∷ drop (i + 1) items) check ≡ leads_from named units (drop i items) check
  from other is = sym (ap (λ (xs : List Item). leads_from named units xs check) (next other is))

  pub path_walked : (name : List ℕ) (offset : ℕ) (body : PathExpr) → item ≡ Path name offset body
      → leads_from named units (drop (i + 1) items) check ≡ leads_from named units (drop i items) check
  path_walked name offset body is = from (Path name offset body) is

  pub spec_walked : (name : List ℕ) (offset : ℕ) (body : SpecExpr) (named' : List ℕ → List ℕ) (units' : List ℕ) → item ≡ Spec name offset body
      → ((other : List ℕ) → named' other ≡ with_name name (leads_of named body units).at named other) → units' ≡ (leads_of named body units).left
      → leads_from named' units' (drop (i + 1) items) check ≡ leads_from named units (drop i items) check
  spec_walked name offset body named' units' is names left =
      (λ j. leads_from (λ other. names other j) units' (drop (i + 1) items) check)
      ∙ ap (λ (us : List ℕ). leads_from (with_name name (leads_of named body units).at named) us (drop (i + 1) items) check) left
      ∙ from (Spec name offset body) is

  pub check_walked : (at_most : Bool) (name : List ℕ) (offset : ℕ) (when : Predicate) (body : SpecExpr) (units' : List ℕ) → item ≡ Check at_most name offset when body
      → bytes_eq name check ≡ false → units' ≡ (leads_of named body units).left
      → leads_from named units' (drop (i + 1) items) check ≡ leads_from named units (drop i items) check
  check_walked at_most name offset when body units' is other left =
      ap (λ (us : List ℕ). leads_from named us (drop (i + 1) items) check) left
      ∙ sym (ap (λ (b : Bool). cond b (leads_of named body units).at (leads_from named (leads_of named body units).left (drop (i + 1) items) check)) other)
      ∙ from (Check at_most name offset when body) is

-- there is an alternative of each number up to their count
pub never_none : (xs : List ℕ) (number before : ℕ) → 1 ≤ number → number ≤ length xs → before ≡ number - 1 → None ≡ slice_get xs before → ⊥
never_none xs number before first last is none =
    let h : before < length xs = omega arith in
    let some = slice_get-get_or xs before 0 h in absurd (cc)

pub stands : (file : SpecFile) (tokens : List Token) (check : List ℕ) (number before at : ℕ) → 1 ≤ number → before ≡ number - 1 → Some at ≡ slice_get (check_leads file tokens check) before
    → StandsAt file tokens check number at
stands file tokens check number before at first is there = record { before = before; counted = omega arith; is = sym there }
