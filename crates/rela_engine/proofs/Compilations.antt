-- What is kept of a compiled check.
use Rattle.std.proofs.Common.{Bor, ◌≡◌, ◌∙◌, ℕ, ◌+◌, ◌≤◌, ◌↔◌, Bool, true, false, List, inl, inr, refl, sym, ap, subst}
use Rattle.std.proofs.lemmas.Bool.{true≢false, false≢true}
use Rattle.std.specs.Option.{is_some, option_copied, IfSome}
use Rattle.std.specs.Prelude.{Option, Some, None}
use Rattle.rela_build.specs.Lettering.{Lettering}
use Rattle.rela_build.specs.Made.{IsMadeR}
use Rattle.rela_build.specs.PathSets.{no_paths, scene_of}
use Rattle.rela_rir.specs.Limit.{ForcedInsideR, ReachedInsideR}
use Rattle.rela_rir.specs.Meaning.{InR}
use Rattle.rela_rir.specs.Places.{Scene}
use Rattle.rela_rir.specs.Words.{Relation}
use Rattle.rela_rir.specs.declared.term.RelTerm.{RelTerm}
use Rattle.rela_translate.specs.Checked.{Checked}
use Rattle.rela_translate.specs.Settings.{bare}
use Rattle.rela_translate.specs.Terms.{before_of, after_of}
use Rattle.rela_translate.specs.Zones.{Before, After}
use Rattle.rela_blocks.specs.Blocks.{AreBlocks}
use Rattle.rela_engine.specs.Compilation.{AreRelations, Compilation, IsCompiled, IsTwofold, MustPassLimit, PassesLimit, Relations, Twofold}
use Rattle.rela_engine.specs.Reading.{Realises}
use Rattle.rela_blocks.specs.Scenes.{lettering_of}
use Rattle.rela_engine.specs.Scenes.{bare_scene}
use Rattle.rela_engine.specs.Sides.{TreatsSidesAlike}
use Rattle.rela_engine.proofs.AlikeTerms.{one_term}
use Rattle.rela_engine.proofs.CheckedRelations.{realised}

some_same : {X : Type 0} (x y : X) → Some x ≡ Some y → x ≡ y
some_same x y e = cc

some_none : {X : Type 0} (x : X) → Some x ≡ None → ⊥
some_none x e = cc

none_there : {X : Type 0} (o : Option X) → is_some o ≡ false → o ≡ None
none_there None none = refl
none_there (Some x) none = absurd (true≢false none)

some_there : {X : Type 0} (o : Option X) → is_some o ≡ true → (x : X) × (o ≡ Some x)
some_there None some = absurd (false≢true some)
some_there (Some x) some = (x, refl)

-- what each compiled check keeps, where it is told whether its relations are there
module _ (inside value : Compilation) (same : inside ≡ value) (keeps : IsCompiled inside) where
  is_kept : IsCompiled value
  is_kept = subst IsCompiled same keeps

  pub passes_where : (told : Bool) → told ≡ is_some inside.relations → told ≡ false → PassesLimit value
  passes_where told is none = is_kept.past (none_there value.relations (sym (is ∙ ap (λ (c : Compilation). is_some c.relations) same) ∙ none))

  pub within_where : (told : Bool) → told ≡ is_some inside.relations → told ≡ true → ¬ MustPassLimit value
  within_where told is some =
      let there = some_there value.relations (sym (is ∙ ap (λ (c : Compilation). is_some c.relations) same) ∙ some) in
      (is_kept.made there.0 there.1).within

  pub made_where : (r : Relations) → inside.relations ≡ Some r → AreRelations value r
  made_where r is = is_kept.made r (sym (ap (λ (c : Compilation). c.relations) same) ∙ is)

  pub made_lent : (lent : Option (Bor Relations)) → option_copied lent ≡ inside.relations → IfSome lent (λ r. AreRelations value r.now)
  made_lent None is = tt
  made_lent (Some r) is = made_where r.now (sym is)

module _ (check : Checked) (n states : ℕ) where
  -- the check with these blocks and relations
  abbrev pub kept : List ℕ → Option Relations → Compilation
  kept blocks relations = record { check = check; locations = n; states = states; blocks = blocks; relations = relations }

  -- what one transducer and its small form are of a term
  pub record IsOfTerm (l : Lettering) (term : RelTerm) (r : Twofold) : Type 0 where
    pub plain : IsMadeR ⊥ l no_paths term r.plain
    pub small : Realises l.blocks (InR (scene_of l no_paths).setting term) r.small
    pub within : ¬ ForcedInsideR (scene_of l no_paths) (states + 1) term

  module _ (l : Lettering) (same : l ≡ lettering_of check n l.blocks) where
    carry : (P : Scene → RelTerm → Type 0) (term form : RelTerm) → term ≡ form → P (scene_of l no_paths) term → P (bare_scene check n) form
    carry P term form is p = subst (λ (r : RelTerm). P (bare_scene check n) r) is (subst (λ (k : Lettering). P (scene_of k no_paths) term) same p)

    carried_back : (P : Scene → RelTerm → Type 0) (term form : RelTerm) → term ≡ form → P (bare_scene check n) form → P (scene_of l no_paths) term
    carried_back P term form is p = subst (λ (k : Lettering). P (scene_of k no_paths) term) (sym same) (subst (λ (r : RelTerm). P (bare_scene check n) r) (sym is) p)

    twofold : (o : Option Relations) (term form : RelTerm) (pairs : Relation) (r : Twofold) → term ≡ form → ((u v : List ℕ) → InR (bare check.classes n) term u v ↔ pairs u v)
        → IsOfTerm l term r → IsTwofold (kept l.blocks o) form pairs r
    twofold o term form pairs r is means of = record {
      plain =
          subst (λ (t : RelTerm). IsMadeR ⊥ (lettering_of check n l.blocks) no_paths t r.plain) is
          (subst (λ (k : Lettering). IsMadeR ⊥ k no_paths term r.plain) same of.plain);
      small =
          realised l.blocks (InR (scene_of l no_paths).setting term) pairs r.small
          (subst (λ (k : Lettering). (u v : List ℕ) → InR (scene_of k no_paths).setting term u v ↔ pairs u v) (sym same) means) of.small;
    }

    pub passes_before : (term : RelTerm) → term ≡ before_of n check.body → ReachedInsideR (scene_of l no_paths) (states + 1) term → PassesLimit (kept l.blocks None)
    passes_before term is inside = inl (carry (λ m r. ReachedInsideR m (states + 1) r) term (before_of n check.body) is inside)

    pub passes_after : (term : RelTerm) → term ≡ after_of n check.body → ReachedInsideR (scene_of l no_paths) (states + 1) term → PassesLimit (kept l.blocks None)
    passes_after term is inside = inr (carry (λ m r. ReachedInsideR m (states + 1) r) term (after_of n check.body) is inside)

    unforced : (term form : RelTerm) → term ≡ form → ¬ ForcedInsideR (scene_of l no_paths) (states + 1) term → ¬ ForcedInsideR (bare_scene check n) (states + 1) form
    unforced term form is free forced = free (carried_back (λ m r. ForcedInsideR m (states + 1) r) term form is forced)

    module _ (first second : RelTerm) (first_is : first ≡ before_of n check.body) (second_is : second ≡ after_of n check.body)
        (first_means : (u v : List ℕ) → InR (bare check.classes n) first u v ↔ Before check.classes n check.body u v)
        (second_means : (u v : List ℕ) → InR (bare check.classes n) second u v ↔ After check.classes n check.body u v) where
      two : (o : Option Relations) (r s : Twofold) → IsOfTerm l first r → IsOfTerm l second s
          → AreRelations (kept l.blocks o) (record { before = r; after = s })
      two o r s of_r of_s = record {
        before = twofold o first (before_of n check.body) (Before check.classes n check.body) r first_is first_means of_r;
        after = twofold o second (after_of n check.body) (After check.classes n check.body) s second_is second_means of_s;
        within = λ forced. elim forced [
          | inl before ↦ unforced first (before_of n check.body) first_is of_r.within before
          | inr after ↦ unforced second (after_of n check.body) second_is of_s.within after
        ];
      }

      abbrev AreKept : Relations → Type 0
      AreKept both = AreRelations (kept l.blocks (Some both)) both

      pub two_relations : (both : Relations) (r s : Twofold) → both ≡ record { before = r; after = s } → IsOfTerm l first r → IsOfTerm l second s → AreKept both
      two_relations both r s is of_r of_s = subst AreKept (sym is) (two (Some (record { before = r; after = s })) r s of_r of_s)

      pub one_relation : (both : Relations) (r : Twofold) → both ≡ record { before = r; after = r } → TreatsSidesAlike check.body → IsOfTerm l first r → AreKept both
      one_relation both r is alike of_r =
          let same_terms : first ≡ second = first_is ∙ one_term n check.body alike ∙ sym second_is in
          two_relations both r r is of_r (subst (λ (t : RelTerm). IsOfTerm l t r) same_terms of_r)

  -- ---- the relations are there, or not

  pub with_relations : (l : Lettering) (blocks : List ℕ) (both : Relations) → l ≡ lettering_of check n blocks → 1 ≤ states → AreBlocks check n blocks
      → AreRelations (kept l.blocks (Some both)) both → IsCompiled (kept blocks (Some both))
  with_relations l blocks both same some are made = record {
    some = some;
    blocks = are;
    made = λ other is.
        subst (AreRelations (kept blocks (Some both))) (some_same both other is)
        (subst (λ (b : List ℕ). AreRelations (kept b (Some both)) both) (ap (λ (k : Lettering). k.blocks) same) made);
    past = λ none. absurd (some_none both none);
  }

  pub without_relations : (l : Lettering) (blocks : List ℕ) → l ≡ lettering_of check n blocks → 1 ≤ states → AreBlocks check n blocks
      → PassesLimit (kept l.blocks None) → IsCompiled (kept blocks None)
  without_relations l blocks same some are passes = record {
    some = some;
    blocks = are;
    made = λ other is. absurd (some_none other (sym is));
    past = λ none. subst (λ (b : List ℕ). PassesLimit (kept b None)) (ap (λ (k : Lettering). k.blocks) same) passes;
  }
