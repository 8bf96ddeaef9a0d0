use Rattle.std.proofs.Common.{◌∙◌, ℕ, ◌+◌, List, drop, ap, sym, subst, arith}
use Rattle.rela_blame.specs.Alternatives.{leads_from, leads_of, with_name}
use Rattle.rela_blame.specs.Tables.{IsTable, named_by}
use Rattle.rela_blame.specs.Units.{unit_offsets}
use Rattle.rela_blame.specs.declared.definitions.Definitions.{Definitions}
use Rattle.rela_blame.specs.declared.units.Units.{Units}
use Rattle.rela_blame.proofs.Walks.{check_walked, path_walked, spec_walked}
use Rattle.rela_blame.proofs.placing.unit_behind.Goals as goal
use Rattle.rela_blame.proofs.placing.unit_behind.Goals.{in-Path, in-Spec+in_ok-leads-in-Spec+in_ok-define-in-Spec, in-Check+in_ok-leads-in-Check+else-eq}

pub loop-item-preserved : goal.loop-item-preserved
loop-item-preserved c =
    let items = c.args.items.now in
    let check = c.args.check.now in
    let i = c.loop-item.item-index in
    let old = c.loop-item.table in
    let named = named_by old in
    let units = unit_offsets c.loop-item.units.tokens.now in
    let from = λ (t : Definitions) (u : List ℕ). leads_from (named_by t) u (drop (i + 1) items) check in
    elim c.match-item.branch [
      | in-Path w ↦ record {
        table = subst IsTable (sym w.table-is) c.loop-item.invariant.table;
        same = ap (λ (t : Definitions). from t (unit_offsets c.match-item.units.tokens.now)) w.table-is
            ∙ ap (λ (u : Units). from old (unit_offsets u.tokens.now)) w.units-is
            ∙ path_walked items check i c.item-item.result c.loop-item-test.true c.item-item.is named units w.in-Path.name w.in-Path.at w.in-Path.body w.in-Path.is
            ∙ c.loop-item.invariant.same;
      }
      | in-Spec+in_ok-leads-in-Spec+in_ok-define-in-Spec w ↦ record {
        table = subst IsTable (sym w.table-is) w.in_ok-define-in-Spec.ensures.table;
        same = ap (λ (t : Definitions). from t (unit_offsets c.match-item.units.tokens.now)) w.table-is
            ∙ ap (λ (u : Units). from w.define.new.self (unit_offsets u.tokens.now)) w.units-is
            ∙ spec_walked items check i c.item-item.result c.loop-item-test.true c.item-item.is named units w.in-Spec.name w.in-Spec.at w.in-Spec.body (named_by w.define.new.self)
            (unit_offsets w.read.new.units.tokens.now) w.in-Spec.is
            (λ other. w.in_ok-define-in-Spec.ensures.names other
            ∙ ap (λ (xs : List ℕ). with_name w.as_bytes.result.now xs named other) w.in_ok-leads-in-Spec.ensures.leads
            ∙ ap (λ (n : List ℕ). with_name n (leads_of named w.in-Spec.body units).at named other) w.as_bytes.ensures.bytes)
            w.in_ok-leads-in-Spec.ensures.left
            ∙ c.loop-item.invariant.same;
      }
      | in-Check+in_ok-leads-in-Check+else-eq w ↦ record {
        table = subst IsTable (sym w.table-is) c.loop-item.invariant.table;
        same = ap (λ (t : Definitions). from t (unit_offsets c.match-item.units.tokens.now)) w.table-is
            ∙ ap (λ (u : Units). from old (unit_offsets u.tokens.now)) w.units-is
            ∙ check_walked items check i c.item-item.result c.loop-item-test.true c.item-item.is named units w.in-Check.at_most w.in-Check.name w.in-Check.at w.in-Check.when w.in-Check.body
            (unit_offsets w.read-in-Check.new.units.tokens.now) w.in-Check.is (grind arith) w.in_ok-leads-in-Check.ensures.left
            ∙ c.loop-item.invariant.same;
      }
    ]
