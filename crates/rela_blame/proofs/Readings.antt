-- Leads that are pushed, and the alternatives of bodies.
use Rattle.std.proofs.Common.{◌≡◌, ℕ, ◌+◌, ◌<◌, ◌≤◌, List, [], ◌∷◌, ◌++◌, length, take, drop, map, get_or, Result, Ok, Err, ap, sym, subst, ◌∙◌, append_assoc}
use Rattle.std.proofs.lemmas.List.{append-nil, drop_more, drop_all}
use Rattle.std.proofs.lemmas.List.Elements.{All-nil, All-push}
use Rattle.std.specs.Prelude.{OnOk}
use Rattle.rela_spec.specs.declared.tree.Modifier.{Modifier}
use Rattle.rela_spec.specs.declared.tree.PathExpr.{PathExpr}
use Rattle.rela_spec.specs.declared.tree.SpecExpr.{SpecExpr}
use Rattle.rela_spec.specs.declared.tree.SpecExpr.TheVariants as V
use Rattle.rela_spec.specs.declared.tree.SpecExpr.TheOpen as s
use Rattle.rela_spec.specs.declared.tree.SpecExpr.TheFolds.{fold-roll-SpecExpr}
use Rattle.rela_blame.specs.Alternatives.{Leads, as_one, in_turn, layer_leads, leads_of, unit_leads}
use Rattle.rela_blame.specs.Leads.{IsBelow, alternatives, spread}
use Rattle.rela_blame.specs.Tables.{AreLeads, AreRead, values_of}
use Rattle.rela_blame.specs.declared.leads.Lead.{Lead}
use Rattle.rela_blame.specs.declared.definitions.Definitions.{Definitions}
use Rattle.rela_blame.proofs.Values.{spread_push}

module _ (named : List ℕ → List ℕ) where
  pub leads_unit : (zone : PathExpr) (m : Modifier PathExpr) (units : List ℕ) → leads_of named (V.Unit zone m) units ≡ unit_leads units
  unfolding leads_of
  leads_unit zone m units =
      ap (λ (b : SpecExpr). leads_of named b units) (sym (V.rolls-Unit zone m)) ∙ ap (λ (f : List ℕ → Leads). f units) (fold-roll-SpecExpr (List ℕ → Leads) (layer_leads named) (s.Unit zone m))

  pub leads_reference : (name : List ℕ) (at : ℕ) (units : List ℕ) → leads_of named (V.Reference name at) units ≡ record { at = named name; left = units }
  unfolding leads_of
  leads_reference name at units =
      ap (λ (b : SpecExpr). leads_of named b units) (sym (V.rolls-Reference name at))
      ∙ ap (λ (f : List ℕ → Leads). f units) (fold-roll-SpecExpr (List ℕ → Leads) (layer_leads named) (s.Reference name at))

  pub leads_then : (parts : List SpecExpr) (units : List ℕ) → leads_of named (V.Then parts) units ≡ as_one (in_turn (map (leads_of named) parts) units)
  unfolding leads_of
  leads_then parts units =
      ap (λ (b : SpecExpr). leads_of named b units) (sym (V.rolls-Then parts)) ∙ ap (λ (f : List ℕ → Leads). f units) (fold-roll-SpecExpr (List ℕ → Leads) (layer_leads named) (s.Then parts))

  pub leads_else : (parts : List SpecExpr) (units : List ℕ) → leads_of named (V.Else parts) units ≡ in_turn (map (leads_of named) parts) units
  unfolding leads_of
  leads_else parts units =
      ap (λ (b : SpecExpr). leads_of named b units) (sym (V.rolls-Else parts)) ∙ ap (λ (f : List ℕ → Leads). f units) (fold-roll-SpecExpr (List ℕ → Leads) (layer_leads named) (s.Else parts))

module _ (table : Definitions) (old : List Lead) where
  abbrev values : List (List ℕ)
  values = values_of table.list.items

  pub read_same : (found other : Leads) (new : List Lead) (units : List ℕ) → found ≡ other → AreRead table other old new units → AreRead table found old new units
  read_same found other new units is read = subst (λ (f : Leads). AreRead table f old new units) (sym is) read

  -- one lead is pushed
  pub one_read : (new : List Lead) (lead : Lead) (found : Leads) (units : List ℕ) → new ≡ old ++ lead ∷ [] → found.at ≡ alternatives values lead → units ≡ found.left
      → IsBelow values (length table.list.items) lead → AreRead table found old new units
  one_read new lead found units is at left below = record {
    leads = ap (spread values) is ∙ spread_push values old lead ∙ ap (λ (xs : List ℕ). spread values old ++ xs) (sym at);
    left = left;
    known = λ all. subst (AreLeads table) (sym is) (All-push (IsBelow values (length table.list.items)) old lead all below);
  }

  -- none is
  pub none_read : (found : Leads) (units : List ℕ) → found.at ≡ [] → units ≡ found.left → AreRead table found old old units
  none_read found units at left = record {
    leads = sym (append-nil (spread values old)) ∙ ap (λ (xs : List ℕ). spread values old ++ xs) (sym at);
    left = left;
    known = λ all. all;
  }

  pub unit_read : (new : List Lead) (lead : Lead) (at : ℕ) (before units : List ℕ) → before ≡ at ∷ units → new ≡ old ++ lead ∷ [] → alternatives values lead ≡ at ∷ []
      → IsBelow values (length table.list.items) lead → AreRead table (unit_leads before) old new units
  unit_read new lead at before units is pushed one below =
      one_read new lead (unit_leads before) units pushed (ap (λ (us : List ℕ). (unit_leads us).at) is ∙ sym one) (sym (ap (λ (us : List ℕ). (unit_leads us).left) is)) below

  pub no_unit_read : (before units : List ℕ) → before ≡ [] → units ≡ [] → AreRead table (unit_leads before) old old units
  no_unit_read before units is none =
      none_read (unit_leads before) units (ap (λ (us : List ℕ). (unit_leads us).at) is) (none ∙ sym (ap (λ (us : List ℕ). (unit_leads us).left) is))

  -- all parts are one alternative
  pub then_read : (whole new : List Lead) (found : Leads) (units : List ℕ) → AreRead table found [] whole units
      → (AreLeads table whole → spread values new ≡ spread values old ++ take 1 (spread values whole)) → (AreLeads table whole → AreLeads table old → AreLeads table new)
      → AreLeads table [] → AreRead table (as_one found) old new units
  then_read whole new found units read value below none = record {
    leads = value (read.known none) ∙ ap (λ (xs : List ℕ). spread values old ++ take 1 xs) read.leads;
    left = read.left;
    known = below (read.known none);
  }

-- the same of a call that pushes that one alternative
pub then_on_ok : {T E : Type 0} (table : Definitions) (old : List Lead) (r : Result T E) (whole new : List Lead) (found : Leads) (units : List ℕ) → AreRead table found [] whole units
    → (AreLeads table whole → OnOk r (spread (values_of table.list.items) new ≡ spread (values_of table.list.items) old ++ take 1 (spread (values_of table.list.items) whole)))
    → (AreLeads table whole → AreLeads table old → OnOk r (AreLeads table new)) → OnOk r (AreRead table (as_one found) old new units)
then_on_ok table old (Ok x) whole new found units read value below =
    then_read table old whole new found units read value below (All-nil (IsBelow (values_of table.list.items) (length table.list.items)))
then_on_ok table old (Err e) whole new found units read value below = tt

-- what is read behind no leads
pub read_alone : (table : Definitions) (found : Leads) (old new : List Lead) (units : List ℕ) → old ≡ [] → AreRead table found old new units → AreRead table found [] new units
read_alone table found old new units none read = subst (λ (ls : List Lead). AreRead table found ls new units) none read

-- Parts in turn.
module _ (table : Definitions) (f : SpecExpr → List ℕ → Leads) (parts : List SpecExpr) (start : List ℕ) (old : List Lead) where
  abbrev vs : List (List ℕ)
  vs = values_of table.list.items

  -- what is read, and what the parts from this one on will give
  pub record Reading (i : ℕ) (units : List ℕ) (leads : List Lead) : Type 0 where
    pub at : spread vs leads ++ (in_turn (map f (drop i parts)) units).at ≡ spread vs old ++ (in_turn (map f parts) start).at
    pub left : (in_turn (map f (drop i parts)) units).left ≡ (in_turn (map f parts) start).left
    pub known : AreLeads table old → AreLeads table leads

  pub reading_more : (i : ℕ) (units units' : List ℕ) (leads leads' : List Lead) (part : SpecExpr) → i < length parts → part ≡ get_or parts i part → Reading i units leads
      → AreRead table (f part units) leads leads' units' → Reading (i + 1) units' leads'
  reading_more i units units' leads leads' part inside at so_far read =
      let next : drop i parts ≡ part ∷ drop (i + 1) parts = drop_more parts i part inside ∙ ap (λ (p : SpecExpr). p ∷ drop (i + 1) parts) (sym at) in
      let rest = in_turn (map f (drop (i + 1) parts)) in
      record {
        at = ap (λ (us : List ℕ). spread vs leads' ++ (rest us).at) read.left
            ∙ ap (λ (xs : List ℕ). xs ++ (rest (f part units).left).at) read.leads
            ∙ append_assoc (spread vs leads) (f part units).at (rest (f part units).left).at
            ∙ ap (λ (ps : List SpecExpr). spread vs leads ++ (in_turn (map f ps) units).at) (sym next)
            ∙ so_far.at;
        left = ap (λ (us : List ℕ). (rest us).left) read.left ∙ ap (λ (ps : List SpecExpr). (in_turn (map f ps) units).left) (sym next) ∙ so_far.left;
        known = λ all. read.known (so_far.known all);
      }

  pub reading_done : (i : ℕ) (units : List ℕ) (leads : List Lead) → length parts ≤ i → Reading i units leads → AreRead table (in_turn (map f parts) start) old leads units
  reading_done i units leads past so_far =
      let none : drop i parts ≡ [] = drop_all i parts past in record {
        leads = sym (append-nil (spread vs leads)) ∙ sym (ap (λ (ps : List SpecExpr). spread vs leads ++ (in_turn (map f ps) units).at) none) ∙ so_far.at;
        left = sym (ap (λ (ps : List SpecExpr). (in_turn (map f ps) units).left) none) ∙ so_far.left;
        known = so_far.known;
      }
