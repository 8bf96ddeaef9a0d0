use Rattle.std.proofs.Common.{◌≡◌, ◌<◌, [], ◌++◌, Bool, List, take, drop, length, get_or, ap, subst, sym, ◌∙◌, arith}
use Rattle.std.specs.List.{All}
use Rattle.std.proofs.lemmas.List.{length-map}
use Rattle.rela_minimise.specs.Classes.{AreClasses}
use Rattle.rela_minimise.specs.Refining.{IsRefining, IsStart, Stage}
use Rattle.rela_minimise.specs.Stored.{lists_of, stage_of}
use Rattle.rela_minimise.proofs.OneByOne.{kept_flags, marks_read}
use Rattle.rela_minimise.proofs.Refined.{few_classes, refined_classes, refining_first, refining_next}
use Rattle.rela_minimise.proofs.refining.refined.Goals as goal

pub loop-before-init : goal.loop-before-init
loop-before-init g c =
    refining_first c.args.dfa.now (lists_of c.args.columns.now) (stage_of c.in_ok-refinement.refinement) c.in_ok-waiting.waiting.items c.requires.deterministic
    (subst (λ n. IsStart n (stage_of c.in_ok-refinement.refinement)) c.states.ensures.states c.in_ok-refinement.ensures)
    (c.in_ok-waiting.ensures.each ∙ c.states-2.ensures.states)
    (λ q below. c.in_ok-waiting.ensures.own q (subst (λ n. q < n) (sym c.states-2.ensures.states) below))

pub mark_before_new-requires-clause-members : goal.mark_before_new-requires-clause-members
mark_before_new-requires-clause-members g c class =
    subst (λ ms. All (λ q. q < length c.deref-in-loop-before.result.now) (get_or (lists_of ms) class [])) (sym c.deref-in-loop-before-2.ensures.value)
    (subst (λ n. All (λ q. q < n) (get_or (lists_of c.split.new.self.members.items) class []))
    (sym (ap length c.deref-in-loop-before.ensures.value ∙ sym (length-map c.in_ok-predecessors.predecessors.items (λ v. v.items)) ∙ c.in_ok-predecessors.ensures.each))
    (c.in_ok-split.ensures.within class))

pub loop-before-smaller : goal.loop-before-smaller
loop-before-smaller g c =
    let are = c.requires.columns in
    let few = few_classes c.args.dfa.now c.requires.deterministic (lists_of c.args.columns.now) are (stage_of c.loop-before.refinement) c.loop-before.invariant.coarse c.loop-before.invariant.sound in
    let count = length-map c.loop-before.refinement.members.items (λ v. v.items) in
    let len = c.len.ensures in
    let len_before = c.len-before.ensures in
    let more = c.loop-before-test.true in
    let kept = c.loop-before.refinement.members.ok.0 in
    omega arith

pub loop-before-preserved : goal.loop-before-preserved
loop-before-preserved g c =
    let are = c.requires.columns in
    let count = length-map c.loop-before.refinement.members.items (λ v. v.items) in
    let before : c.len-before.result ≡ length (lists_of c.loop-before.refinement.members.items) = c.len-before.ensures ∙ c.loop-before.refinement.members.ok.0 ∙ sym count in
    let split = c.split.new.self in
    let made : Stage = record { classes = split.classes.items; members = lists_of split.members.items; signatures = lists_of split.signatures.items; stale = c.mark_before_new.new.stale } in
    let flags : take split.stale.len (c.mark_before_new.new.stale ++ drop (length c.mark_before_new.new.stale) split.stale.items) ≡ c.mark_before_new.new.stale =
    kept_flags split.stale.len c.mark_before_new.new.stale (drop (length c.mark_before_new.new.stale) split.stale.items) (c.in_ok-mark_before_new.ensures.each ∙ ap length c.deref_mut.ensures.value ∙ sym split.stale.ok.0) in
    subst (λ (st : List Bool). IsRefining c.args.dfa.now (lists_of c.args.columns.now) c.len-before.result (record { classes = split.classes.items; members = lists_of split.members.items; signatures = lists_of split.signatures.items; stale = st }) c.mark_before_new.new.waiting.items) (sym flags)
    (subst (λ n. IsRefining c.args.dfa.now (lists_of c.args.columns.now) n made c.mark_before_new.new.waiting.items) (sym before)
    (refining_next c.args.dfa.now c.requires.deterministic (lists_of c.args.columns.now) are (stage_of c.loop-before.refinement) (stage_of c.split.new.self) c.mark_before_new.new.stale c.mark_before_new.new.waiting.items
    (lists_of c.in_ok-predecessors.predecessors.items) c.in_ok-predecessors.ensures
    c.in_ok-split.ensures
    (marks_read _ _ _ _ _ _ _ _ _ _ _ _ _ _ (ap lists_of c.deref-in-loop-before.ensures.value) (ap lists_of c.deref-in-loop-before-2.ensures.value) before
    (ap length c.deref-in-loop-before-2.ensures.value ∙ sym (length-map c.split.new.self.members.items (λ v. v.items))) c.deref_mut.ensures.value c.clear.ensures.items c.in_ok-mark_before_new.ensures)))

pub returns : goal.returns
returns g c =
    let are = c.requires.columns in
    let count = length-map c.loop-before.refinement.members.items (λ v. v.items) in
    let kept = c.loop-before.refinement.members.ok.0 in
    let grown = c.loop-before.invariant.grown in
    let end = c.loop-before-test.false in
    let len = c.len.ensures in
    let same : c.loop-before.before ≡ length (lists_of c.loop-before.refinement.members.items) = omega arith in
    subst (λ n. AreClasses c.args.dfa.now n c.loop-before.refinement.classes.items) count
    (refined_classes c.args.dfa.now c.requires.deterministic (lists_of c.args.columns.now) are (stage_of c.loop-before.refinement) c.loop-before.invariant.coarse c.loop-before.invariant.sound (c.loop-before.invariant.stable same))
