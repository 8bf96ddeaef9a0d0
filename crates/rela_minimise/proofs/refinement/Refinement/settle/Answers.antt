use Rattle.std.proofs.Common.{◌≡◌, ◌<◌, ℕ, [], ◌∷◌, ◌++◌, false, List, length, get_or, set, subst, ap, sym, refl, ◌∙◌}
use Rattle.std.specs.List.{All, Contains}
use Rattle.std.proofs.lemmas.List.{get_or-map, get_or_default, length-map, map-set}
use Rattle.rela_subset.specs.Deterministic.{states}
use Rattle.rela_minimise.specs.Refining.{IsSettledIn, Stage, class_of, signature}
use Rattle.rela_minimise.specs.Stored.{lists_of, stage_of}
use Rattle.rela_minimise.proofs.Settling.{sound_first, sound_with}
use Rattle.rela_minimise.proofs.refinement.Refinement.settle.Goals as goal
use Rattle.rela_minimise.proofs.refinement.Refinement.settle.Goals.{In_ok-has_settled}

module _ (g : Rattle.rela_minimise.proofs.refinement.Refinement.settle.Given.Over) (c : In_ok-has_settled g) where
  abbrev s : Stage
  s = stage_of c.args.self.now

  abbrev list : List ℕ
  list = c.has_settled.new.list.items

  abbrev class : ℕ
  class = c.index-class.result.now

  class_is : class ≡ class_of s c.args.q
  class_is = c.index-class.ensures ∙ get_or_default c.args.self.now.classes.items c.args.q class 0 (subst (λ n. c.args.q < n) (sym c.requires.sound.each) c.requires.state)

  class_in : class < length s.members
  class_in = subst (λ n. n < length s.members) (sym class_is) (c.requires.sound.counted c.args.q c.requires.state)

  members_is : c.index_mut.result.now.items ≡ get_or s.members class []
  members_is =
      ap (λ v. v.items) c.index_mut.ensures.value
      ∙ sym (get_or-map (λ v. v.items) c.args.self.now.members.items class c.index_mut.result.now [] (subst (λ n. class < n) (length-map c.args.self.now.members.items (λ v. v.items)) class_in))

  settled_is : (q : ℕ) → IsSettledIn s.classes s.stale class q → IsSettledIn c.deref.result.now c.deref-2.result.now class q
  settled_is q =
      subst (λ cs. IsSettledIn s.classes s.stale class q → IsSettledIn cs c.deref-2.result.now class q) (sym c.deref.ensures.value)
      (subst (λ st. IsSettledIn s.classes s.stale class q → IsSettledIn s.classes st class q) (sym c.deref-2.ensures.value) (λ is. is))

  kept : (q : ℕ) → Contains (get_or s.members class []) q → IsSettledIn s.classes s.stale class q → Contains list q
  kept q among is = c.in_ok-has_settled.ensures.kept q (subst (λ l. Contains l q) (sym members_is) among) (settled_is q is)

  within : All (λ q. q < states c.args.dfa.now) list
  within = subst (λ n. All (λ q. q < n) list) (ap length c.deref.ensures.value ∙ c.requires.sound.each) c.in_ok-has_settled.ensures.states

  none : c.in_ok-has_settled.field-0 ≡ false → (q : ℕ) → Contains (get_or s.members class []) q → ¬ IsSettledIn s.classes s.stale class q
  none no' q among is = c.in_ok-has_settled.ensures.none no' q (subst (λ l. Contains l q) (sym members_is) among) (settled_is q is)

pub returns-then-branch-clause-settles : goal.returns-then-branch-clause-settles
returns-then-branch-clause-settles g c =
    let b = (goal.at.returns-then-branch-clause-settles g c).In_ok-has_settled in
    sound_with c.args.dfa.now (lists_of c.args.columns.now) (s g b) c.requires.sound (class g b) (class_in g b) (list g b) (kept g b) (within g b) _ refl
    (map-set (λ v. v.items) c.args.self.now.members.items c.index-class.result.now c.has_settled.new.list) refl refl

pub returns-clause-settles : goal.returns-clause-settles
returns-clause-settles g c =
    let b = (goal.at.returns-clause-settles g c).In_ok-has_settled in
    (sound_first c.args.dfa.now (lists_of c.args.columns.now) (s g b) c.requires.sound (class g b) (class_in g b) (list g b) (kept g b) (within g b)
    c.args.q c.requires.state (sym (class_is g b)) (none g b c.if-branch.false) _ refl
    (c.in_ok-put.ensures ∙ ap (λ ls. set ls c.index-class.result.now (get_or ls c.index-class.result.now [] ++ c.args.q ∷ [])) (map-set (λ v. v.items) c.args.self.now.members.items c.index-class.result.now c.has_settled.new.list))
    (map-set (λ v. v.items) c.args.self.now.signatures.items c.index-class.result.now c.in_ok-self.field-0
    ∙ ap (set (lists_of c.args.self.now.signatures.items) c.index-class.result.now) (c.in_ok-self.ensures ∙ ap (λ cs. signature c.args.dfa.now (lists_of c.args.columns.now) cs c.args.q) c.deref-3.ensures.value))
    refl).0
