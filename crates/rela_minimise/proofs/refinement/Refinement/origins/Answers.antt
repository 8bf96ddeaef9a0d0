use Rattle.std.proofs.Common.{◌≡◌, ◌<◌, ◌-◌, ◌+◌, length, get_or, set, ap, sym, subst, ◌∙◌, arith}
use Rattle.std.proofs.lemmas.List.{get_or_default, length-map, length-set}
use Rattle.rela_minimise.specs.Stored.{stage_of}
use Rattle.rela_minimise.proofs.Origins.{AreMet, met_all, met_with, met_without}
use Rattle.rela_minimise.proofs.refinement.Refinement.origins.Goals as goal
use Rattle.rela_minimise.proofs.refinement.Refinement.origins.Goals.{then-targets-i, else-targets-i}

pub loop-i-preserved : goal.loop-i-preserved
loop-i-preserved c = elim c.if-targets-i.branch [
  | then-targets-i w ↦
      let place = get_or c.args.targets.now c.loop-i.i 0 - c.len-first.result in
      let len : c.len-first.result ≡ length c.args.self.now.members.items = c.len-first.ensures ∙ c.args.self.now.members.ok.0 in
      let i_in : c.loop-i.i < length c.args.waiting.now = c.loop-i-test.true in
      let small = c.requires.targets c.loop-i.i 0 (subst (λ n. c.loop-i.i < n) (sym c.requires.each) i_in) in
      let each = c.loop-i.invariant.each in
      let above = w.if-targets-i.true in
      let read : w.index.result.now ≡ get_or c.args.self.now.classes.items (get_or c.args.waiting.now c.loop-i.i 0) 0 =
      w.index.ensures ∙ get_or_default c.args.self.now.classes.items (get_or c.args.waiting.now c.loop-i.i 0) w.index.result.now 0 (c.requires.states c.loop-i.i 0 i_in) in
      let same : c.if-targets-i.origins.items ≡ set c.loop-i.origins.items place (get_or c.args.self.now.classes.items (get_or c.args.waiting.now c.loop-i.i 0) 0) =
      ap (λ v. v.items) w.origins-is ∙ ap (set c.loop-i.origins.items place) read in
      record {
        each = ap length same ∙ length-set c.loop-i.origins.items place (get_or c.args.self.now.classes.items (get_or c.args.waiting.now c.loop-i.i 0) 0) ∙ each;
        met = subst (AreMet c.args.waiting.now c.args.targets.now c.len-first.result c.args.self.now.classes.items (c.loop-i.i + 1)) (sym same)
            (met_with c.args.waiting.now c.args.targets.now c.len-first.result c.args.self.now.classes.items c.loop-i.i c.loop-i.origins.items c.loop-i.invariant.met above (omega arith));
      }
  | else-targets-i w ↦
      let same = ap (λ v. v.items) w.origins-is in
      record {
        each = ap length same ∙ c.loop-i.invariant.each;
        met = subst (AreMet c.args.waiting.now c.args.targets.now c.len-first.result c.args.self.now.classes.items (c.loop-i.i + 1)) (sym same)
            (met_without c.args.waiting.now c.args.targets.now c.len-first.result c.args.self.now.classes.items c.loop-i.i c.loop-i.origins.items c.loop-i.invariant.met w.if-targets-i.false);
      }
]

pub returns : goal.returns
returns c =
    let len : c.len-first.result ≡ length c.args.self.now.members.items = c.len-first.ensures ∙ c.args.self.now.members.ok.0 in
    met_all (stage_of c.args.self.now) c.args.waiting.now c.args.targets.now c.args.count c.len-first.result c.loop-i.i c.loop-i.origins.items
    (len ∙ sym (length-map c.args.self.now.members.items (λ v. v.items))) c.loop-i-test.false c.loop-i.auto.i-end c.loop-i.invariant.each
    (λ j below. let (m, m_in, at) = c.requires.used j below in (m, m_in, at ∙ ap (λ n. n + j) (sym len))) c.loop-i.invariant.met
