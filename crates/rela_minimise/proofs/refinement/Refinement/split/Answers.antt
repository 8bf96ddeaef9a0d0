use Rattle.std.proofs.Common.{◌≡◌, ◌<◌, ◌+◌, ℕ, List, length, get_or, ap, subst, sym, ◌∙◌}
use Rattle.std.specs.List.{All}
use Rattle.std.proofs.lemmas.List.{length-map}
use Rattle.rela_subset.specs.Deterministic.{states}
use Rattle.rela_minimise.specs.Refining.{AreAssigned, AreFrom, AreOrigins, IsSplit}
use Rattle.rela_minimise.specs.Stored.{lists_of, stage_of}
use Rattle.rela_minimise.proofs.Assigning.{is_split, targets_below}
use Rattle.rela_minimise.proofs.Rounds.{after_split, are_from, origins_below, split_held}
use Rattle.rela_minimise.proofs.Settling.{still_waiting}
use Rattle.rela_minimise.proofs.refinement.Refinement.split.Goals as goal
use Rattle.rela_minimise.proofs.refinement.Refinement.split.Goals.{In_ok-assign_all}

pub origins-requires-clause-used : goal.origins-requires-clause-used
origins-requires-clause-used g c j below =
    let (i, i_in, at) = c.in_ok-targets.ensures.used j (subst (λ n. j < n) c.len.ensures.len below) in
    (i, i_in, ap (λ ts. get_or ts i 0) c.deref.ensures.value ∙ at)

pub assign_all-requires-clause-classes : goal.assign_all-requires-clause-classes
assign_all-requires-clause-classes g c =
    subst (All (λ class. class < length c.open.new.self.members.items)) (sym c.deref-2.ensures.value)
    (subst (λ n. All (λ class. class < n) c.in_ok-targets.targets.items) (sym (sym (length-map c.open.new.self.members.items (λ v. v.items)) ∙ c.in_ok-open.ensures.count))
    (targets_below c.args.dfa.now (lists_of c.args.columns.now) (stage_of c.settle_all.new.self) c.targets.new.found c.args.waiting.now c.in_ok-targets.targets.items c.in_ok-settle_all.ensures.settles.sound c.requires.waiting.states
    c.in_ok-targets.ensures.each c.in_ok-targets.ensures.goes))

module _ (g : Rattle.rela_minimise.proofs.refinement.Refinement.split.Given.Over) (c : In_ok-assign_all g) where
  split_is : IsSplit c.args.dfa.now (lists_of c.args.columns.now) (stage_of c.settle_all.new.self) c.targets.new.found (stage_of c.assign_all.new.self)
  split_is =
      is_split c.args.dfa.now (lists_of c.args.columns.now) (stage_of c.settle_all.new.self) (stage_of c.open.new.self) (stage_of c.assign_all.new.self) c.targets.new.found c.args.waiting.now c.in_ok-targets.targets.items
      c.in_ok-settle_all.ensures.settles.sound
      (still_waiting c.args.dfa.now (lists_of c.args.columns.now) (stage_of c.args.self.now) (stage_of c.settle_all.new.self) (states c.args.dfa.now) c.args.waiting.now c.in_ok-settle_all.ensures.settles c.requires.waiting)
      c.in_ok-targets.ensures.goes c.in_ok-open.ensures
      (subst (λ (ts : List ℕ). AreAssigned c.args.waiting.now ts (length c.args.waiting.now) (stage_of c.open.new.self) (stage_of c.assign_all.new.self)) c.deref-2.ensures.value c.in_ok-assign_all.ensures)

  origins_are : AreOrigins (stage_of c.settle_all.new.self) c.args.waiting.now c.in_ok-targets.targets.items (length c.targets.new.found) c.in_ok-origins.origins.items
  origins_are =
      subst (λ (ts : List ℕ). AreOrigins (stage_of c.settle_all.new.self) c.args.waiting.now ts (length c.targets.new.found) c.in_ok-origins.origins.items) c.deref.ensures.value
      (subst (λ n. AreOrigins (stage_of c.settle_all.new.self) c.args.waiting.now c.deref.result.now n c.in_ok-origins.origins.items) c.len.ensures.len c.in_ok-origins.ensures)

  first_is : c.len-first.result ≡ length (lists_of c.settle_all.new.self.members.items)
  first_is = c.len-first.ensures ∙ c.settle_all.new.self.members.ok.0 ∙ sym (length-map c.settle_all.new.self.members.items (λ v. v.items))

pub keep_largest-requires-clause-held : goal.keep_largest-requires-clause-held
keep_largest-requires-clause-held g c =
    let b = (goal.at.keep_largest-requires-clause-held g c).In_ok-assign_all in
    split_held c.args.dfa.now (lists_of c.args.columns.now) (stage_of c.args.self.now) (stage_of c.settle_all.new.self) (stage_of c.assign_all.new.self) c.targets.new.found c.args.waiting.now c.in_ok-targets.targets.items
    c.in_ok-origins.origins.items c.requires.coarse c.requires.waiting.states c.in_ok-settle_all.ensures.settles c.in_ok-targets.ensures.goes (split_is g b) (origins_are g b)

pub keep_largest-requires-clause-origins : goal.keep_largest-requires-clause-origins
keep_largest-requires-clause-origins g c =
    let b = (goal.at.keep_largest-requires-clause-origins g c).In_ok-assign_all in
    subst (All (λ class. class < c.len-first.result)) (sym c.deref-3.ensures.value)
    (subst (λ n. All (λ class. class < n) c.in_ok-origins.origins.items) (sym (first_is g b))
    (origins_below c.args.dfa.now (lists_of c.args.columns.now) (stage_of c.args.self.now) (stage_of c.settle_all.new.self) (stage_of c.assign_all.new.self) c.targets.new.found c.args.waiting.now c.in_ok-targets.targets.items
    c.in_ok-origins.origins.items c.requires.coarse c.requires.waiting.states c.in_ok-settle_all.ensures.settles c.in_ok-targets.ensures.goes (split_is g b) (origins_are g b)))

pub returns : goal.returns
returns g c =
    let b = (goal.at.returns g c).In_ok-assign_all in
    let start = stage_of c.args.self.now in
    let settles = c.in_ok-settle_all.ensures.settles in
    let count = length-map c.settle_all.new.self.members.items (λ v. v.items) in
    let first : c.len-first.result ≡ length start.members = first_is g b ∙ settles.count in
    let from =
    are_from c.args.dfa.now (lists_of c.args.columns.now) start (stage_of c.settle_all.new.self) (stage_of c.assign_all.new.self) c.targets.new.found c.args.waiting.now c.in_ok-targets.targets.items c.in_ok-origins.origins.items
    c.requires.coarse c.requires.waiting.states settles c.in_ok-targets.ensures.goes (split_is g b) (origins_are g b) in
    let after =
    after_split c.args.dfa.now c.requires.deterministic (lists_of c.args.columns.now) c.requires.columns start (stage_of c.settle_all.new.self) (stage_of c.assign_all.new.self) c.targets.new.found c.args.waiting.now c.in_ok-targets.targets.items
    c.requires.coarse c.requires.waiting settles c.in_ok-settle_all.ensures.settled c.in_ok-targets.ensures.goes (λ j below. let (i, i_in, at) = c.in_ok-targets.ensures.used j below in (i, i_in, at ∙ ap (λ n. n + j) (sym count)))
    c.len.ensures.distinct (split_is g b) in
    (c.in_ok-keep_largest.ensures c.args.dfa.now (lists_of c.args.columns.now) start c.requires.deterministic c.requires.columns first
    (subst (λ n. AreFrom (states c.args.dfa.now) n c.deref-3.result.now start (stage_of c.assign_all.new.self)) (sym first)
    (subst (λ os. AreFrom (states c.args.dfa.now) (length start.members) os start (stage_of c.assign_all.new.self)) (sym c.deref-3.ensures.value) from)) after).1
