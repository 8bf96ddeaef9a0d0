-- The parts that are complemented in a term name neither path set where the term names neither.
use Rattle.std.proofs.Common.{◌≡◌, ◌⊎◌, inl, inr, refl, sym, subst}
use Rattle.std.specs.List.{Contains}
use Rattle.rela_rir.specs.Complements.{complemented_parts, complemented_parts_r}
use Rattle.rela_rir.specs.Fixed.{IsFixed, IsFixedR}
use Rattle.rela_rir.proofs.ComplementForms.{LayerComplements, by_parts, by_parts_r}
use Rattle.rela_rir.proofs.FixedForms.{fixed_roll}
use Rattle.rela_rir.proofs.Subterms.{weaken, weaken_r}
use Rattle.rela_rir.specs.declared.term.PathTerm.{PathTerm}
use Rattle.rela_rir.specs.declared.term.RelTerm.{RelTerm}
use Rattle.rela_rir.specs.declared.term.PathTerm.TheOpen as F
use Rattle.rela_rir.specs.declared.term.PathTerm.TheViews.{out-PathTerm, roll-PathTerm, roll-out-PathTerm}

module _ (part : PathTerm) where
  abbrev IsPart : PathTerm → Type 0
  IsPart p = p ≡ part

  abbrev IsFixedPart : PathTerm → Type 0
  IsFixedPart p = (p ≡ part) × IsFixed p

  abbrev Never : RelTerm → Type 0
  Never r = ⊥

  layer : (z : F.PathTerm-F PathTerm RelTerm) → IsFixed (roll-PathTerm z) ⊎ ⊥ → LayerComplements IsPart z → LayerComplements IsFixedPart z
  layer (F.Complement a) (inl fixed) has = (has, subst (λ (T : Type 0). T) (fixed_roll (F.Complement a)) fixed)
  layer (F.Complement a) (inr never) has = absurd never
  layer _ named never = never

  here : (x : PathTerm) → IsFixed x ⊎ ⊥ → LayerComplements IsPart (out-PathTerm x) → LayerComplements IsFixedPart (out-PathTerm x)
  here x named = layer (out-PathTerm x) (subst (λ (t : PathTerm). IsFixed t ⊎ ⊥) (sym (roll-out-PathTerm x)) named)

  pub part_fixed_r : (r : RelTerm) → IsFixedR r → Contains (complemented_parts_r r) part → IsFixed part
  part_fixed_r r fixed listed =
      let found = (by_parts_r IsFixedPart r).0 (weaken_r ⊥ _ _ Never Never here (λ r _ never. never) r (inl fixed) ((by_parts_r IsPart r).1 (part, listed, refl))) in
      subst IsFixed found.2.0 found.2.1

  pub part_fixed : (x : PathTerm) → IsFixed x → Contains (complemented_parts x) part → IsFixed part
  part_fixed x fixed listed =
      let found = (by_parts IsFixedPart x).0 (weaken ⊥ _ _ Never Never here (λ r _ never. never) x (inl fixed) ((by_parts IsPart x).1 (part, listed, refl))) in
      subst IsFixed found.2.0 found.2.1
