-- What one definition more does to a table.
use Rattle.std.proofs.Common.{◌≡◌, ◌⊎◌, ℕ, ◌+◌, ◌<◌, ◌≤◌, Bool, true, false, cond, List, [], ◌∷◌, ◌++◌, length, get_or, Option, None, Some, refl, ap, sym, subst, ◌∙◌, inl, inr, arith, length-append}
use Rattle.std.proofs.lemmas.List.{get_or_append_left}
use Rattle.std.proofs.lemmas.List.Elements.{All-weaker}
use Rattle.std.proofs.Math.Seq.{get_or-append_seam}
use Rattle.std.specs.Str.{bytes_eq}
use Rattle.rela_blame.specs.Alternatives.{with_name}
use Rattle.rela_blame.specs.Leads.{IsBelow, spread, value_at}
use Rattle.rela_blame.specs.Tables.{AreLeads, IsDefinition, IsTable, capped, named_by, place_of, value_of_place, values_of}
use Rattle.rela_blame.specs.declared.definitions.Definition.{Definition}
use Rattle.rela_blame.specs.declared.definitions.Definitions.{Definitions}
use Rattle.rela_blame.proofs.Values.{as_many, below_stays, spread_stays, value_last, value_stays, values_last}

-- the table next has the definition d more, for which the name stands
pub record Adds (table next : Definitions) (name : List ℕ) (d : Definition) : Type 0 where
  pub list : next.list.items ≡ table.list.items ++ d ∷ []
  pub places : (other : List ℕ) → place_of next other ≡ cond (bytes_eq name other) (Some (length table.list.items)) (place_of table other)

-- the same where the definition's number is told otherwise
pub added : (table next : Definitions) (name : List ℕ) (d : Definition) (k : ℕ) → k ≡ length table.list.items → next.list.items ≡ table.list.items ++ d ∷ []
    → ((other : List ℕ) → place_of next other ≡ cond (bytes_eq name other) (Some k) (place_of table other)) → Adds table next name d
added table next name d k size list places = record {
  list = list;
  places = λ other. places other ∙ ap (λ (n : ℕ). cond (bytes_eq name other) (Some n) (place_of table other)) size;
}

module _ (table next : Definitions) (name : List ℕ) (d : Definition) (adds : Adds table next name d) (is : IsTable table)
    (leads : AreLeads table d.leads.items) (count : d.count ≡ capped (length (spread (values_of table.list.items) d.leads.items))) where
  abbrev list : List Definition
  list = table.list.items

  abbrev old : List (List ℕ)
  old = values_of list

  abbrev new : List (List ℕ)
  new = old ++ spread old d.leads.items ∷ []

  values : values_of next.list.items ≡ new
  values = ap values_of adds.list ∙ values_last list d

  size : length old ≡ length list
  size = as_many list

  old_stays : (k : ℕ) (e : Definition) → k < length list → IsDefinition old k e → IsDefinition new k e
  old_stays k e h was =
      let n = size in
      let within : k ≤ length old = omega arith in
      let inside : length old ≤ length old = omega arith in
      let same : value_at new k ≡ value_at old k = value_stays old (spread old d.leads.items) (length old) inside k (omega arith) in
      record {
        below = All-weaker (IsBelow old k) (IsBelow new k) (λ lead. below_stays old (spread old d.leads.items) k within lead) e.leads.items was.below;
        is = same ∙ was.is ∙ sym (spread_stays old (spread old d.leads.items) k within e.leads.items was.below);
        count = was.count ∙ ap (λ (xs : List ℕ). capped (length xs)) (sym same);
      }

  new_is : IsDefinition new (length list) d
  new_is =
      let n = size in
      let within : length list ≤ length old = omega arith in
      let last : value_at new (length list) ≡ spread old d.leads.items = ap (value_at new) (sym size) ∙ value_last old (spread old d.leads.items) in
      record {
        below = All-weaker (IsBelow old (length list)) (IsBelow new (length list)) (λ lead. below_stays old (spread old d.leads.items) (length list) within lead) d.leads.items leads;
        is = last ∙ sym (spread_stays old (spread old d.leads.items) (length list) within d.leads.items leads);
        count = count ∙ ap (λ (xs : List ℕ). capped (length xs)) (sym last);
      }

  at_place : (k : ℕ) (e : Definition) → (k < length list) ⊎ (k ≡ length list) → IsDefinition new k (get_or (list ++ d ∷ []) k e)
  at_place k e (inl h) = subst (IsDefinition new k) (sym (get_or_append_left list (d ∷ []) e k h)) (old_stays k (get_or list k e) h (is.each k e h))
  at_place k e (inr same) =
      subst (λ (j : ℕ). IsDefinition new j (get_or (list ++ d ∷ []) j e)) (sym same)
      (subst (IsDefinition new (length list)) (sym (get_or-append_seam list d [] e)) new_is)

  by_place : (k : ℕ) → k < length (list ++ d ∷ []) → (k < length list) ⊎ (k ≡ length list)
  by_place k h = let n = length-append list (d ∷ []) in grind arith

  pub table_more : IsTable next
  table_more = record {
    each = λ k e h.
        let inside : k < length (list ++ d ∷ []) = subst (λ (xs : List Definition). k < length xs) adds.list h in
        subst (λ (xs : List Definition). IsDefinition (values_of next.list.items) k (get_or xs k e)) (sym adds.list)
        (subst (λ (vs : List (List ℕ)). IsDefinition vs k (get_or (list ++ d ∷ []) k e)) (sym values) (at_place k e (by_place k inside)));
    known = λ other k has. known other k (bytes_eq name other) (sym (adds.places other) ∙ has);
  }
    where
      longer : length next.list.items ≡ length list + 1
      longer = ap length adds.list ∙ length-append list (d ∷ [])

      known : (other : List ℕ) (k : ℕ) (b : Bool) → cond b (Some (length list)) (place_of table other) ≡ Some k → k < length next.list.items
      known other k true has = let same : length list ≡ k = cc in let n = longer in omega arith
      known other k false has = let h = is.known other k has in let n = longer in omega arith

  value_stays_named : (o : Option ℕ) → ((k : ℕ) → o ≡ Some k → k < length list) → value_of_place new o ≡ value_of_place old o
  value_stays_named None known = refl
  value_stays_named (Some k) known =
      let n = size in let h = known k refl in
      let inside : length old ≤ length old = omega arith in
      value_stays old (spread old d.leads.items) (length old) inside k (omega arith)

  pub names_more : (other : List ℕ) → named_by next other ≡ with_name name (spread old d.leads.items) (named_by table) other
  names_more other =
      ap (λ (vs : List (List ℕ)). value_of_place vs (place_of next other)) values
      ∙ ap (value_of_place new) (adds.places other)
      ∙ by_test (bytes_eq name other)
    where
      by_test : (b : Bool) → value_of_place new (cond b (Some (length list)) (place_of table other)) ≡ cond b (spread old d.leads.items) (value_of_place old (place_of table other))
      by_test true = ap (value_at new) (sym size) ∙ value_last old (spread old d.leads.items)
      by_test false = value_stays_named (place_of table other) (λ k. is.known other k)
