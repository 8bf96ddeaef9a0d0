-- Transducers of the two relations of a check.
use Rattle.std.proofs.Common.{◌≡◌, ◌∙◌, ℕ, ◌↔◌, List, sym, subst}
use Rattle.rela_rir.specs.Words.{Relation}
use Rattle.rela_trans.specs.Machine.{Machine}
use Rattle.rela_trans.specs.Runs.{Relates}
use Rattle.rela_build.specs.Lettering.{Lettering}
use Rattle.rela_build.specs.Made.{IsMadeR}
use Rattle.rela_build.specs.PathSets.{Paths, scene_of}
use Rattle.rela_build.specs.Reading.{read_by}
use Rattle.rela_labels.specs.Partition.{block_count}
use Rattle.rela_rir.specs.Meaning.{InR}
use Rattle.rela_rir.specs.declared.term.RelTerm.{RelTerm}
use Rattle.rela_engine.specs.Reading.{Realises}

-- a transducer of a relation is one of each that has the same pairs
pub realised : (blocks : List ℕ) (X Y : Relation) (t : Machine) → ((u v : List ℕ) → X u v ↔ Y u v) → Realises blocks X t → Realises blocks Y t
realised blocks X Y t same is = record {
  letters = is.letters;
  relation = λ u v. (λ related. (same u v).0 ((is.relation u v).0 related), λ y. (is.relation u v).1 ((same u v).1 y));
}

-- a transducer over the same letters that relates the same pairs is one of the same relation
pub realised_alike : (blocks : List ℕ) (X : Relation) (s t : Machine) → t.letters ≡ s.letters
    → ((read : ℕ → ℕ) (u v : List ℕ) → Relates read t u v ↔ Relates read s u v) → Realises blocks X s → Realises blocks X t
realised_alike blocks X s t same alike is = record {
  letters = same ∙ is.letters;
  relation = λ u v. (
    λ related. (is.relation u v).0 ((alike (read_by blocks) u v).0 related),
    λ x. (alike (read_by blocks) u v).1 ((is.relation u v).1 x),
  );
}

-- what is built of a term, read by the blocks as they were lent
module _ (exactly : Type 0) (l : Lettering) (paths : Paths) (term : RelTerm) (t : Machine) (made : IsMadeR exactly l paths term t)
    (lent : List ℕ) (lent_is : lent ≡ l.blocks) where
  pub made_letters : t.letters ≡ block_count lent
  unfolding IsMadeR
  made_letters = subst (λ (b : List ℕ). t.letters ≡ block_count b) (sym lent_is) made.letters

  pub made_small : (small : Machine) → Realises lent (Relates (read_by lent) t) small → Realises l.blocks (InR (scene_of l paths).setting term) small
  unfolding IsMadeR
  made_small small is =
      realised l.blocks (Relates (read_by l.blocks) t) (InR (scene_of l paths).setting term) small made.relation
      (subst (λ (b : List ℕ). Realises b (Relates (read_by b) t) small) lent_is is)
