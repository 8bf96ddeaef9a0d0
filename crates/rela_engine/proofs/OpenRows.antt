-- When a row may be left open because the relations are not there, and that it need not be where they are.
use Rattle.std.proofs.Common.{◌≡◌, ◌+◌, ◌⊎◌, ◌↔◌, ◌∙◌, ℕ, List, [], ◌++◌, Some, None, refl, ap, subst, inl, inr}
use Rattle.std.specs.Prelude.{Contains}
use Rattle.rela_report.specs.declared.rows.Row.TheVariants.{Undecided}
use Rattle.rela_rir.specs.Agreement.{AgreeOnR}
use Rattle.rela_rir.specs.Complements.{complemented_parts, complemented_parts_r}
use Rattle.rela_rir.specs.Fixed.{IsFixedR}
use Rattle.rela_rir.specs.Limit.{AreTold, Reached, ReachedInside, ReachedInsideR, ForcedInside, ForcedInsideR}
use Rattle.rela_rir.specs.Places.{Scene}
use Rattle.rela_rir.specs.declared.term.PathTerm.{PathTerm}
use Rattle.rela_rir.specs.declared.term.RelTerm.{RelTerm}
use Rattle.rela_rir.specs.declared.term.PathTerm.TheVariants as P
use Rattle.rela_translate.specs.Checked.{Checked}
use Rattle.rela_translate.specs.Terms.{before_of, after_of}
use Rattle.rela_translate.specs.declared.body.Core.{Core}
use Rattle.rela_engine.specs.Compilation.{Compilation, PassesLimit, MustPassLimit}
use Rattle.rela_engine.specs.FlowMachines.{SceneName, check_name, flow_scenes}
use Rattle.rela_engine.specs.RowOf.{RowOf, MustBeOpen}
use Rattle.rela_blocks.specs.FlowName.{FlowName, flow_paths}
use Rattle.rela_blocks.specs.Scenes.{scene}
use Rattle.rela_engine.specs.Scenes.{bare_scene}

abbrev at : SceneName → Scene
at = flow_scenes.of

-- ---- the scene with no paths, and that of a flow

module _ (check : Checked) (n : ℕ) (f : FlowName) where
  pub agree : (r : RelTerm) → IsFixedR r → AgreeOnR (bare_scene check n) (scene check n (flow_paths f)) r
  agree r fixed = record { symbols = record { setting = record { classes = refl; path_symbols = refl }; markers = refl }; paths = inl fixed }

-- the two relations of a body name neither path set
module _ (before_fixed : (n : ℕ) (body : Core) → IsFixedR (before_of n body)) (after_fixed : (n : ℕ) (body : Core) → IsFixedR (after_of n body)) where
  -- ---- a row without relations is open

  module _ (inside : (m : SceneName) (k : ℕ) (x : PathTerm) (r : RelTerm)
      → ReachedInside (at m) k (P.Image x r) ↔ (Reached (at m) (P.Image x r) k ⊎ (ReachedInside (at m) k x ⊎ ReachedInsideR (at m) k r)))
      (carried : (m o : SceneName) (r : RelTerm) → AgreeOnR (at m) (at o) r → (k : ℕ) → ReachedInsideR (at m) k r ↔ ReachedInsideR (at o) k r) where
    in_image : (check : Checked) (n : ℕ) (f : FlowName) (k : ℕ) (x : PathTerm) (r : RelTerm) → IsFixedR r → ReachedInsideR (bare_scene check n) k r
        → ReachedInside (scene check n (flow_paths f)) k (P.Image x r)
    in_image check n f k x r fixed reached =
        let flow = check_name check n (Some f) in
        (inside flow k x r).1 (inr (inr ((carried (check_name check n None) flow r (agree check n f r fixed) k).0 reached)))

    pub undecided : (c : Compilation) → PassesLimit c → (f : FlowName) → RowOf c.check c.locations (flow_paths f) c.states Undecided
    undecided c passes f = record {
      says = λ last is. elim passes [
        | inl before ↦
            inl (in_image c.check c.locations f (c.states + 1) P.Pre (before_of c.locations c.check.body) (before_fixed c.locations c.check.body) before)
        | inr after ↦
            inr (inl (in_image c.check c.locations f (c.states + 1) P.Post (after_of c.locations c.check.body) (after_fixed c.locations c.check.body) after))
      ];
      forced = λ must. refl;
    }

  -- ---- with relations a row never has to be

  module _ (no_pre : complemented_parts P.Pre ≡ []) (no_post : complemented_parts P.Post ≡ [])
      (of_image : (x : PathTerm) (r : RelTerm) → complemented_parts (P.Image x r) ≡ complemented_parts x ++ complemented_parts_r r)
      (forced : (m : SceneName) (k : ℕ) (x : PathTerm) → ForcedInside (at m) k x ↔ ((part : PathTerm) × Contains (complemented_parts x) part × AreTold (at m) part k))
      (forced_r : (m : SceneName) (k : ℕ) (r : RelTerm) → ForcedInsideR (at m) k r ↔ ((part : PathTerm) × Contains (complemented_parts_r r) part × AreTold (at m) part k))
      (carried : (m o : SceneName) (r : RelTerm) → AgreeOnR (at m) (at o) r → (k : ℕ) → ForcedInsideR (at m) k r ↔ ForcedInsideR (at o) k r) where
    -- the paths themselves force nothing
    of_relation : (check : Checked) (n : ℕ) (f : FlowName) (k : ℕ) (x : PathTerm) (r : RelTerm) → complemented_parts x ≡ [] → IsFixedR r
        → ForcedInside (scene check n (flow_paths f)) k (P.Image x r) → ForcedInsideR (bare_scene check n) k r
    of_relation check n f k x r none fixed has =
        let flow = check_name check n (Some f) in
        let told = (forced flow k (P.Image x r)).0 has in
        let parts : complemented_parts (P.Image x r) ≡ complemented_parts_r r = of_image x r ∙ ap (λ (ps : List PathTerm). ps ++ complemented_parts_r r) none in
        (carried (check_name check n None) flow r (agree check n f r fixed) k).1
        ((forced_r flow k r).1 (told.0, subst (λ (ps : List PathTerm). Contains ps told.0) parts told.1, told.2))

    pub not_forced : (c : Compilation) → ¬ MustPassLimit c → (f : FlowName) → ¬ MustBeOpen c.check c.locations (flow_paths f) c.states
    not_forced c within f must = within (elim must [
      | inl before ↦
          inl (of_relation c.check c.locations f (c.states + 1) P.Pre (before_of c.locations c.check.body) no_pre (before_fixed c.locations c.check.body) before)
      | inr after ↦
          inr (of_relation c.check c.locations f (c.states + 1) P.Post (after_of c.locations c.check.body) no_post (after_fixed c.locations c.check.body) after)
    ])
