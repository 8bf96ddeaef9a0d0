use Rattle.std.proofs.Common.{refl, rules, subst, sym}
use Rattle.rela_flows.specs.Selects.{Selects, SomeByRecursion, depth}
use Rattle.std.specs.List.{All, AllByRecursion}
use Rattle.rela_flows.proofs.SelectionLemmas as forms
use Rattle.rela_flows.specs.declared.predicate.Predicate.{Predicate}
use Rattle.std.specs.Prelude.{List, ◌≤◌, IsTrue, ◌↔◌}
use Rattle.rela_flows.specs.declared.predicate.Predicate.TheViews.{the_lemmas}
use Rattle.rela_flows.proofs.selection.+selects.Goals as goal

pub selects-returns-in-All : goal.selects-returns-in-All
selects-returns-in-All t c = forms.test_of _ _ _ c.args.class.now _ c.in-All.is (forms.selects_all c.args.class.now) ((λ _. tt), λ _. refl)

pub selects-returns-in-DstIn : goal.selects-returns-in-DstIn
selects-returns-in-DstIn t c = forms.test_of _ _ _ c.args.class.now _ c.in-DstIn.is (forms.selects_dst_in c.in-DstIn.prefix c.args.class.now) c.within.ensures

pub selects-returns-in-DstOverlaps : goal.selects-returns-in-DstOverlaps
selects-returns-in-DstOverlaps t c = forms.test_of _ _ _ c.args.class.now _ c.in-DstOverlaps.is (forms.selects_dst_overlaps c.in-DstOverlaps.prefix c.args.class.now) c.overlaps.ensures

pub selects-returns-in-SrcIn : goal.selects-returns-in-SrcIn
selects-returns-in-SrcIn t c = forms.test_of _ _ _ c.args.class.now _ c.in-SrcIn.is (forms.selects_src_in c.in-SrcIn.prefix c.args.class.now) c.within-in-SrcIn.ensures

pub selects-returns-in-SrcOverlaps : goal.selects-returns-in-SrcOverlaps
selects-returns-in-SrcOverlaps t c = forms.test_of _ _ _ c.args.class.now _ c.in-SrcOverlaps.is (forms.selects_src_overlaps c.in-SrcOverlaps.prefix c.args.class.now) c.overlaps-in-SrcOverlaps.ensures

pub selects-returns-in-Flow : goal.selects-returns-in-Flow
selects-returns-in-Flow t c = forms.test_of _ _ _ c.args.class.now _ c.in-Flow.is (forms.selects_flow c.in-Flow.name c.args.class.now) (forms.name_test _ c.args.class.now.name c.in-Flow.name c.eq.ensures)

pub selects-returns-in-Class : goal.selects-returns-in-Class
selects-returns-in-Class t c = forms.test_of _ _ _ c.args.class.now _ c.in-Class.is (forms.selects_class c.in-Class.name c.args.class.now) (forms.name_test _ c.args.class.now.class c.in-Class.name c.eq-in-Class.ensures)

pub selects-returns-in-Not : goal.selects-returns-in-Not
selects-returns-in-Not t c = forms.test_of _ _ _ c.args.class.now _ c.in-Not.is (forms.selects_not c.in-Not.part c.args.class.now) (forms.not_test _ _ (rw (← c.get.ensures) c.selects.ensures))

pub selects-returns-in-And : goal.selects-returns-in-And
selects-returns-in-And t c = forms.test_of _ _ _ c.args.class.now _ c.in-And.is (forms.selects_and c.in-And.parts c.args.class.now) (subst (λ (ps : List Predicate). IsTrue c.all_select.result ↔ AllByRecursion (λ q. Selects q c.args.class.now) ps) c.as_slice.ensures c.all_select.ensures)

pub selects-returns-in-Or : goal.selects-returns-in-Or
selects-returns-in-Or t c = forms.test_of _ _ _ c.args.class.now _ c.in-Or.is (forms.selects_or c.in-Or.parts c.args.class.now) (subst (λ (ps : List Predicate). IsTrue c.any_selects.result ↔ SomeByRecursion (λ q. Selects q c.args.class.now) ps) c.as_slice-in-Or.ensures c.any_selects.ensures)

pub selects-all_select-requires : goal.selects-all_select-requires
selects-all_select-requires t c = (search (rules, the_lemmas), subst (λ (ps : List Predicate). All (λ q. depth q ≤ 1000) ps) (sym c.as_slice.ensures) (forms.parts_of_and c.args.predicate.now c.in-And.parts c.requires c.in-And.is))

pub selects-any_selects-requires : goal.selects-any_selects-requires
selects-any_selects-requires t c = (search (rules, the_lemmas), subst (λ (ps : List Predicate). All (λ q. depth q ≤ 1000) ps) (sym c.as_slice-in-Or.ensures) (forms.parts_of_or c.args.predicate.now c.in-Or.parts c.requires c.in-Or.is))
