-- A path term and its complement under the limit.
use Rattle.std.proofs.Common.{◌≡◌, ◌⊎◌, ◌↔◌, ℕ, ◌+◌, Bool, List, [], ◌∷◌, ◌++◌, Result, Ok, Err, length, inl, inr, refl, sym, subst}
use Rattle.std.specs.Prelude.{Contains}
use Rattle.std.proofs.lemmas.List.Elements.{Contains-push_cases}
use Rattle.std.specs.Result.{IfErr, IsErrAnd}
use Rattle.rela_labels.specs.Partition.{block_count}
use Rattle.rela_nfa.specs.Automaton.{Automaton}
use Rattle.rela_rir.specs.Complements.{complemented_parts}
use Rattle.rela_rir.specs.Limit.{AreTold, ForcedInside, Reached, ReachedInside}
use Rattle.rela_rir.specs.Places.{Scene}
use Rattle.rela_rir.specs.declared.term.PathTerm.{PathTerm}
use Rattle.rela_rir.specs.declared.term.PathTerm.TheVariants as P
use Rattle.rela_subset.specs.Subsets.{ReachSets}
use Rattle.rela_trans.specs.Composition.{Covers}
use Rattle.rela_build.specs.Lettering.{Lettering}
use Rattle.rela_build.specs.Notes.{IsPart, IsRefused, Noted, Stopped}
use Rattle.rela_build.specs.PathSets.{Paths}
use Rattle.rela_build.specs.Reading.{read_by}
use Rattle.rela_build.specs.declared.stop.Stop.{Stop}
use Rattle.rela_build.specs.declared.stop.Stop.TheVariants.{Limit, Refused, Memory}
use Rattle.rela_complement.specs.Telling.{TellsWords}
use Rattle.rela_engine.proofs.LimitedParts as parts
use Rattle.rela_engine.proofs.LimitedParts.{Answers, Refuses, TellsPaths, has_part, many_words, none_told, placed, told_words}

-- how a call that fails ends
pub exit : {T E : Type 0} (Q P : E → Type 0) (r : Result T E) → IsErrAnd r Q → ((e : E) → Q e → P e) → IfErr r P
exit Q P (Ok x) fails on = tt
exit Q P (Err e) fails on = on e fails

-- a complement of a part with so many reached places is a counted term that is inside
abbrev ReachedByParts : Scene → Type 0
ReachedByParts m = (k : ℕ) (x part : PathTerm) → Contains (complemented_parts x) part → Reached m (P.Complement part) k → ReachedInside m k x

-- an answer is forced where a complemented part tells so many words
abbrev ForcedByParts : Scene → Type 0
ForcedByParts m = (k : ℕ) (x : PathTerm) → ForcedInside m k x ↔ ((part : PathTerm) × Contains (complemented_parts x) part × AreTold m part k)

-- a counted term is in a complement where it is the complement itself, or in its part
abbrev InComplement : Scene → Type 0
InComplement m = (k : ℕ) (x : PathTerm) → ReachedInside m k (P.Complement x) ↔ (Reached m (P.Complement x) k ⊎ ReachedInside m k x)

module _ (l : Lettering) (paths : Paths) where
  refused_inside : TellsPaths (parts.m l paths) → ReachedByParts (parts.m l paths) → (covers : Covers (read_by l.blocks) (block_count l.blocks)) (exactly : Type 0) (first k number : ℕ) (x : PathTerm)
      → IsRefused (Refuses l paths k) exactly l paths first (complemented_parts x) number → ReachedInside (parts.m l paths) k x
  refused_inside complement by_parts covers exactly first k number x refused =
      by_parts k x refused.part (has_part l paths (complemented_parts x) refused.before refused.later refused.part refused.whole)
      (complement refused.part (l.blocks, refused.automaton) (placed l paths exactly refused.part refused.automaton refused.is.made) k
      (many_words l paths covers refused.over refused.is.of_path refused.automaton k refused.refused))

  -- why a path term wasn't built, if not for want of memory
  pub stopped_inside : TellsPaths (parts.m l paths) → ReachedByParts (parts.m l paths) → Covers (read_by l.blocks) (block_count l.blocks) → (exactly : Type 0) (states limit first : ℕ) → states ≡ limit → (x : PathTerm) (e : Stop)
      → Stopped (Refuses l paths (states + 1)) exactly l paths limit first x e → ¬ (e ≡ Memory) → ReachedInside (parts.m l paths) (limit + 1) x
  unfolding Stopped
  stopped_inside complement by_parts covers exactly states limit first same x Limit stopped other = stopped
  stopped_inside complement by_parts covers exactly states limit first same x (Refused number) stopped other =
      subst (λ (n : ℕ). ReachedInside (parts.m l paths) (n + 1) x) same (refused_inside complement by_parts covers exactly first (states + 1) number x stopped)
  stopped_inside complement by_parts covers exactly states limit first same x Memory stopped other = absurd (other refl)

  -- where each complement in it was made, none has a part that tells more words than the limit
  pub noted_within : {N : Type 0} → ForcedByParts (parts.m l paths) → (exactly : Type 0) (states limit : ℕ) → states ≡ limit → (x : PathTerm) (old new : List N)
      → Noted (Answers l paths (states + 1)) exactly l paths x old new → ¬ ForcedInside (parts.m l paths) (limit + 1) x
  unfolding Noted
  noted_within by_parts exactly states limit same x old new (more, is, noted) has =
      let told = (by_parts (limit + 1) x).0 has in
      none_told l paths exactly (states + 1) (length old) (complemented_parts x) more noted told.0 told.1
      (subst (λ (n : ℕ). AreTold (parts.m l paths) told.0 (n + 1)) (sym same) told.2)

  -- ---- its complement

  -- a counted term in it is one in its complement
  pub part_inside : InComplement (parts.m l paths) → (k : ℕ) (x : PathTerm) → ReachedInside (parts.m l paths) k x → ReachedInside (parts.m l paths) k (P.Complement x)
  part_inside counted k x inside = (counted k x).1 (inr inside)

  -- words reach so many sets of states of its automaton, so that the complement has as many places
  pub sets_inside : InComplement (parts.m l paths) → TellsPaths (parts.m l paths) → Covers (read_by l.blocks) (block_count l.blocks) → (exactly : Type 0) (x : PathTerm) (a : Automaton) (over : List Bool)
      → IsPart exactly l paths x a over → (k : ℕ) → ReachSets a over k → ReachedInside (parts.m l paths) k (P.Complement x)
  sets_inside counted complement covers exactly x a over is k sets =
      (counted k x).1 (inl (complement x (l.blocks, a) (placed l paths exactly x a is.made) k (many_words l paths covers over is.of_path a k sets)))

  -- neither it nor a part of a complement in it tells so many words
  pub complement_within : ((x : PathTerm) → complemented_parts (P.Complement x) ≡ complemented_parts x ++ x ∷ []) → ForcedByParts (parts.m l paths)
      → (exactly : Type 0) (x : PathTerm) (a : Automaton) (over : List Bool) → IsPart exactly l paths x a over
      → (k : ℕ) → ¬ TellsWords a over k → ¬ ForcedInside (parts.m l paths) k x → ¬ ForcedInside (parts.m l paths) k (P.Complement x)
  complement_within of_complement by_parts exactly x a over is k untold unforced has =
      let told = (by_parts k (P.Complement x)).0 has in
      elim (Contains-push_cases (complemented_parts x) x told.0 (subst (λ (ps : List PathTerm). Contains ps told.0) (of_complement x) told.1)) [
        | inl before ↦ unforced ((by_parts k x).1 (told.0, before, told.2))
        | inr itself ↦ untold (told_words l paths exactly x a over k is (subst (λ (part : PathTerm). AreTold (parts.m l paths) part k) (sym itself) told.2))
      ]
