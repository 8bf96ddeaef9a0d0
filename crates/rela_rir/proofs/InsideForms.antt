-- Which counted terms are in a term, and which complements force an open answer, by the form of the term.
use Rattle.std.proofs.Common.{◌≡◌, ◌∙◌, ◌⊎◌, ℕ, inl, inr, sym, ap, subst}
use Rattle.std.specs.Prelude.{◌↔◌}
use Rattle.std.specs.List.{Contains}
use Rattle.rela_rir.specs.Places.{Scene}
use Rattle.rela_rir.specs.Complements.{complemented_parts, complemented_parts_r}
use Rattle.rela_rir.specs.Limit.{LayerSome, LayerSomeR, Reached, ReachedR, LayerIsCounted, LayerIsCountedR, ReachedInside, ReachedInsideR, AreTold, LayerIsForced, ForcedInside, ForcedInsideR}
use Rattle.rela_rir.proofs.Subterms.{some_roll, some_roll_r, weaken, weaken_r}
use Rattle.rela_rir.proofs.ComplementForms.{SomePart, LayerComplements, by_parts, by_parts_r}
use Rattle.rela_rir.specs.declared.term.PathTerm.{PathTerm}
use Rattle.rela_rir.specs.declared.term.RelTerm.{RelTerm}
use Rattle.rela_rir.specs.declared.term.PathTerm.TheOpen as F
use Rattle.rela_rir.specs.declared.term.PathTerm.TheVariants as P
use Rattle.rela_rir.specs.declared.term.PathTerm.TheViews.{roll-PathTerm, roll-RelTerm, out-PathTerm, out-RelTerm, out-roll-PathTerm, out-roll-RelTerm, roll-out-PathTerm}

-- what is told by cases, of which one never holds
other_case : {A B : Type 0} → (A → ⊥) → (A ⊎ B) ↔ B
other_case none = ((λ has. elim has [ inl a ↦ absurd (none a) | inr b ↦ b ]), λ b. inr b)

-- what is told by cases, of which one needs a fact that holds
with_fact : {A B C : Type 0} → A → ((A × B) ⊎ C) ↔ (B ⊎ C)
with_fact fact = (
  (λ has. elim has [ inl both ↦ inl both.1 | inr c ↦ inr c ]),
  λ has. elim has [ inl b ↦ inl (fact, b) | inr c ↦ inr c ],
)

told_as : {A B C : Type 0} → A ≡ B → B ↔ C → A ↔ C
told_as {A} {B} {C} same by = subst (λ (T : Type 0). T ↔ C) (sym same) by

module _ (m : Scene) (k : ℕ) where
  reached_roll : (z : F.PathTerm-F PathTerm RelTerm) → ReachedInside m k (roll-PathTerm z) ≡ ((LayerIsCounted z × Reached m (roll-PathTerm z) k) ⊎ LayerSome (ReachedInside m k) (ReachedInsideR m k) z)
  reached_roll z =
      some_roll (λ t. LayerIsCounted (out-PathTerm t) × Reached m t k) (λ r. LayerIsCountedR (out-RelTerm r) × ReachedR m r k) z
      ∙ ap (λ (o : F.PathTerm-F PathTerm RelTerm). (LayerIsCounted o × Reached m (roll-PathTerm z) k) ⊎ LayerSome (ReachedInside m k) (ReachedInsideR m k) z) (out-roll-PathTerm z)

  reached_roll_r : (z : F.RelTerm-F PathTerm RelTerm) → ReachedInsideR m k (roll-RelTerm z) ≡ ((LayerIsCountedR z × ReachedR m (roll-RelTerm z) k) ⊎ LayerSomeR (ReachedInside m k) (ReachedInsideR m k) z)
  reached_roll_r z =
      some_roll_r (λ t. LayerIsCounted (out-PathTerm t) × Reached m t k) (λ r. LayerIsCountedR (out-RelTerm r) × ReachedR m r k) z
      ∙ ap (λ (o : F.RelTerm-F PathTerm RelTerm). (LayerIsCountedR o × ReachedR m (roll-RelTerm z) k) ⊎ LayerSomeR (ReachedInside m k) (ReachedInsideR m k) z) (out-roll-RelTerm z)

  pub uncounted : (z : F.PathTerm-F PathTerm RelTerm) (t : PathTerm) → roll-PathTerm z ≡ t → (LayerIsCounted z → ⊥) → ReachedInside m k t ↔ LayerSome (ReachedInside m k) (ReachedInsideR m k) z
  uncounted z t rolls none = subst (λ (s : PathTerm). ReachedInside m k s ↔ LayerSome (ReachedInside m k) (ReachedInsideR m k) z) rolls (told_as (reached_roll z) (other_case (λ both. none both.0)))

  pub uncounted_r : (z : F.RelTerm-F PathTerm RelTerm) (t : RelTerm) → roll-RelTerm z ≡ t → (LayerIsCountedR z → ⊥) → ReachedInsideR m k t ↔ LayerSomeR (ReachedInside m k) (ReachedInsideR m k) z
  uncounted_r z t rolls none = subst (λ (s : RelTerm). ReachedInsideR m k s ↔ LayerSomeR (ReachedInside m k) (ReachedInsideR m k) z) rolls (told_as (reached_roll_r z) (other_case (λ both. none both.0)))

  pub counted : (z : F.PathTerm-F PathTerm RelTerm) (t : PathTerm) → roll-PathTerm z ≡ t → LayerIsCounted z → ReachedInside m k t ↔ (Reached m t k ⊎ LayerSome (ReachedInside m k) (ReachedInsideR m k) z)
  counted z t rolls is = subst (λ (s : PathTerm). ReachedInside m k s ↔ (Reached m s k ⊎ LayerSome (ReachedInside m k) (ReachedInsideR m k) z)) rolls (told_as (reached_roll z) (with_fact is))

  pub counted_r : (z : F.RelTerm-F PathTerm RelTerm) (t : RelTerm) → roll-RelTerm z ≡ t → LayerIsCountedR z → ReachedInsideR m k t ↔ (ReachedR m t k ⊎ LayerSomeR (ReachedInside m k) (ReachedInsideR m k) z)
  counted_r z t rolls is = subst (λ (s : RelTerm). ReachedInsideR m k s ↔ (ReachedR m s k ⊎ LayerSomeR (ReachedInside m k) (ReachedInsideR m k) z)) rolls (told_as (reached_roll_r z) (with_fact is))

  forced_roll : (z : F.PathTerm-F PathTerm RelTerm) → ForcedInside m k (roll-PathTerm z) ≡ (LayerIsForced m k z ⊎ LayerSome (ForcedInside m k) (ForcedInsideR m k) z)
  forced_roll z =
      some_roll (λ t. LayerIsForced m k (out-PathTerm t)) (λ r. ⊥) z
      ∙ ap (λ (o : F.PathTerm-F PathTerm RelTerm). LayerIsForced m k o ⊎ LayerSome (ForcedInside m k) (ForcedInsideR m k) z) (out-roll-PathTerm z)

  pub unforced : (z : F.PathTerm-F PathTerm RelTerm) (t : PathTerm) → roll-PathTerm z ≡ t → (LayerIsForced m k z → ⊥) → ForcedInside m k t ↔ LayerSome (ForcedInside m k) (ForcedInsideR m k) z
  unforced z t rolls none = subst (λ (s : PathTerm). ForcedInside m k s ↔ LayerSome (ForcedInside m k) (ForcedInsideR m k) z) rolls (told_as (forced_roll z) (other_case none))

  pub forced : (z : F.PathTerm-F PathTerm RelTerm) (t : PathTerm) → roll-PathTerm z ≡ t → ForcedInside m k t ↔ (LayerIsForced m k z ⊎ LayerSome (ForcedInside m k) (ForcedInsideR m k) z)
  forced z t rolls = subst (λ (s : PathTerm). ForcedInside m k s ↔ (LayerIsForced m k z ⊎ LayerSome (ForcedInside m k) (ForcedInsideR m k) z)) rolls (told_as (forced_roll z) ((λ has. has), λ has. has))

  pub unforced_r : (z : F.RelTerm-F PathTerm RelTerm) (t : RelTerm) → roll-RelTerm z ≡ t → ForcedInsideR m k t ↔ LayerSomeR (ForcedInside m k) (ForcedInsideR m k) z
  unforced_r z t rolls = subst (λ (s : RelTerm). ForcedInsideR m k s ↔ LayerSomeR (ForcedInside m k) (ForcedInsideR m k) z) rolls (told_as (some_roll_r (λ t. LayerIsForced m k (out-PathTerm t)) (λ r. ⊥) z) (other_case (λ never. never)))

  -- complements of parts that tell k words
  told_layer : (z : F.PathTerm-F PathTerm RelTerm) → LayerIsForced m k z → LayerComplements (λ x. AreTold m x k) z
  told_layer (F.Complement a) has = has
  told_layer _ never = never

  forced_layer : (z : F.PathTerm-F PathTerm RelTerm) → LayerComplements (λ x. AreTold m x k) z → LayerIsForced m k z
  forced_layer (F.Complement a) has = has
  forced_layer _ never = never

  abbrev Never : RelTerm → Type 0
  Never r = ⊥

  pub forced_by_parts : (x : PathTerm) → ForcedInside m k x ↔ SomePart (λ part. AreTold m part k) (complemented_parts x)
  forced_by_parts x =
      let by = by_parts (λ part. AreTold m part k) x in (
        (λ has. by.0 (weaken (Unit {0}) _ _ Never Never (λ t _ f. told_layer (out-PathTerm t) f) (λ r _ never. never) x (inr tt) has)),
        λ some. weaken (Unit {0}) _ _ Never Never (λ t _ f. forced_layer (out-PathTerm t) f) (λ r _ never. never) x (inr tt) (by.1 some),
      )

  pub forced_by_parts_r : (r : RelTerm) → ForcedInsideR m k r ↔ SomePart (λ part. AreTold m part k) (complemented_parts_r r)
  forced_by_parts_r r =
      let by = by_parts_r (λ part. AreTold m part k) r in (
        (λ has. by.0 (weaken_r (Unit {0}) _ _ Never Never (λ t _ f. told_layer (out-PathTerm t) f) (λ r _ never. never) r (inr tt) has)),
        λ some. weaken_r (Unit {0}) _ _ Never Never (λ t _ f. forced_layer (out-PathTerm t) f) (λ r _ never. never) r (inr tt) (by.1 some),
      )

  -- complements with k reached places
  counted_layer : (z : F.PathTerm-F PathTerm RelTerm) → LayerComplements (λ x. Reached m (P.Complement x) k) z → LayerIsCounted z × Reached m (roll-PathTerm z) k
  counted_layer (F.Complement a) has = (tt, subst (λ (t : PathTerm). Reached m t k) (sym (P.rolls-Complement a)) has)
  counted_layer _ never = absurd never

  counted_complement : (t : PathTerm) → LayerComplements (λ x. Reached m (P.Complement x) k) (out-PathTerm t) → LayerIsCounted (out-PathTerm t) × Reached m t k
  counted_complement t has =
      let here = counted_layer (out-PathTerm t) has in
      (here.0, subst (λ (s : PathTerm). Reached m s k) (roll-out-PathTerm t) here.1)

  pub reached_by_parts : (x part : PathTerm) → Contains (complemented_parts x) part → Reached m (P.Complement part) k → ReachedInside m k x
  reached_by_parts x part listed has =
      weaken (Unit {0}) _ _ Never (λ r. LayerIsCountedR (out-RelTerm r) × ReachedR m r k) (λ t _. counted_complement t) (λ r _ never. absurd never) x (inr tt)
      ((by_parts (λ p. Reached m (P.Complement p) k) x).1 (part, listed, has))

  pub reached_by_parts_r : (r : RelTerm) (part : PathTerm) → Contains (complemented_parts_r r) part → Reached m (P.Complement part) k → ReachedInsideR m k r
  reached_by_parts_r r part listed has =
      weaken_r (Unit {0}) _ _ Never (λ r. LayerIsCountedR (out-RelTerm r) × ReachedR m r k) (λ t _. counted_complement t) (λ r _ never. absurd never) r (inr tt)
      ((by_parts_r (λ p. Reached m (P.Complement p) k) r).1 (part, listed, has))
