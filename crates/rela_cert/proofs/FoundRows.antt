-- The words that are found for a row make its blocks.
use Rattle.std.proofs.Common.{◌≡◌, ◌∙◌, ℕ, zero, suc, ◌+◌, ◌<◌, Bool, Some, None, List, [], ◌∷◌, ◌++◌, length, get_or, refl, sym, ap, subst}
use Rattle.std.specs.List.{All, AllByRecursion, slice_get}
use Rattle.std.proofs.lemmas.List.Elements.{All-cons, All-nil}
use Rattle.rela_blocks.specs.RowBlocks.{symbols_of}
use Rattle.rela_blocks.specs.Scenes.{after_image, before_image, lettering_of, scene}
use Rattle.rela_build.specs.Lettering.{AreLetterBlocks, Lettering}
use Rattle.rela_build.specs.Made.{IsMade}
use Rattle.rela_build.specs.Notes.{AreNoted, IsNoted, NotedTwo}
use Rattle.rela_build.specs.PathSets.{Paths}
use Rattle.rela_build.specs.Reading.{HoldsJust}
use Rattle.rela_certfile.specs.Listed.{HasShape, IsBlock, words_of}
use Rattle.rela_certfile.specs.declared.rows.ListedRow.{ListedRow}
use Rattle.rela_certfile.specs.declared.rows.Step.{Step}
use Rattle.rela_closed.specs.declared.step.Step as letter
use Rattle.rela_labels.specs.Partition.{block_count}
use Rattle.rela_nfa.specs.Automaton.{Automaton}
use Rattle.rela_rir.specs.Complements.{complemented_parts}
use Rattle.rela_rir.specs.declared.term.PathTerm.{PathTerm}
use Rattle.rela_translate.specs.Checked.{Checked}
use Rattle.rela_translate.specs.Zones.{path_symbols}
use Rattle.rela_cert.specs.Certified.{AreBlocksMade}
use Rattle.rela_cert.specs.Closed.{AreFirst, Closed}
use Rattle.rela_cert.specs.Found.{AreAllBySymbols, AreBySymbols, AreFound, AreFoundFor, AreRowWords}
use Rattle.rela_cert.specs.RowParts.{lettering_at, locations_of, paths_at}
use Rattle.rela_cert.specs.Rows.{images_of, parts_of}
use Rattle.rela_cert.specs.Subject.{shape_of}
use Rattle.rela_cert.specs.declared.row.Row.{Row}
use Rattle.rela_cert.proofs.ByStates.{agree_images, agree_part, same_one, same_two}
use Rattle.rela_cert.proofs.FoundBlocks.{are_first, block, closed, letters_below}

-- ---- one note for each part

module _ (l : Lettering) (paths : Paths) where
  abbrev Noted : ℕ → List PathTerm → List (List letter.Step) → Type 0
  Noted first parts notes = AreNoted AreFoundFor (Unit {0}) l paths first parts notes

  abbrev NotedBy : PathTerm → List letter.Step → Type 0
  NotedBy part note = (number : ℕ) × IsNoted AreFoundFor (Unit {0}) l paths number part note

  pub notes_below : (first : ℕ) (parts : List PathTerm) (notes : List (List letter.Step)) → Noted first parts notes
      → All (λ steps. All (λ step. step.letter < block_count l.blocks) steps) notes
  notes_below first [] [] noted = All-nil (λ steps. All (λ step. step.letter < block_count l.blocks) steps)
  notes_below first [] (note ∷ notes) noted = absurd noted
  notes_below first (part ∷ parts) [] noted = absurd noted
  notes_below first (part ∷ parts) (note ∷ notes) noted =
      All-cons (λ steps. All (λ step. step.letter < block_count l.blocks) steps) note notes
      (letters_below noted.0.1 (noted.0.0 ∷ []) note (block_count l.blocks) noted.0.2.of_path.size noted.0.3)
      (notes_below (first + 1) parts notes noted.1)

  one_each : (first : ℕ) (parts : List PathTerm) (notes : List (List letter.Step)) (lists : List (List Step)) → Noted first parts notes → AreAllBySymbols l.blocks notes lists
      → length lists ≡ length parts
  one_each first [] [] [] noted by = refl
  one_each first [] [] (steps ∷ lists) noted by = absurd by
  one_each first [] (note ∷ notes) lists noted by = absurd noted
  one_each first (part ∷ parts) [] lists noted by = absurd noted
  one_each first (part ∷ parts) (note ∷ notes) [] noted by = absurd by
  one_each first (part ∷ parts) (note ∷ notes) (steps ∷ lists) noted by = ap suc (one_each (first + 1) parts notes lists noted.1 by.1)

  module _ (P : PathTerm → List Step → Type 0)
      (of : (part : PathTerm) (note : List letter.Step) (steps : List Step) → NotedBy part note → AreBySymbols l.blocks note steps → P part steps) where
    -- what follows for each part holds of the one at a place
    at_part : (first : ℕ) (parts : List PathTerm) (notes : List (List letter.Step)) (lists : List (List Step)) → Noted first parts notes → AreAllBySymbols l.blocks notes lists
        → (k : ℕ) (part : PathTerm) → slice_get parts k ≡ Some part → P part (get_or lists k [])
    at_part first [] notes lists noted by k part at = let e : None ≡ Some part = at in absurd (cc)
    at_part first (p ∷ parts) [] lists noted by k part at = absurd noted
    at_part first (p ∷ parts) (note ∷ notes) [] noted by k part at = absurd by
    at_part first (p ∷ parts) (note ∷ notes) (steps ∷ lists) noted by zero part at =
        let e : p ≡ part = let s : Some p ≡ Some part = at in cc in subst (λ (q : PathTerm). P q steps) e (of p note steps (first, noted.0) by.0)
    at_part first (p ∷ parts) (note ∷ notes) (steps ∷ lists) noted by (suc k) part at = at_part (first + 1) parts notes lists noted.1 by.1 k part at

  module _ (Q : List Step → Type 0) (of : (part : PathTerm) (note : List letter.Step) (steps : List Step) → NotedBy part note → AreBySymbols l.blocks note steps → Q steps) where
    each_list : (first : ℕ) (parts : List PathTerm) (notes : List (List letter.Step)) (lists : List (List Step)) → Noted first parts notes → AreAllBySymbols l.blocks notes lists
        → AllByRecursion Q lists
    each_list first [] [] [] noted by = tt
    each_list first [] [] (steps ∷ lists) noted by = absurd by
    each_list first [] (note ∷ notes) lists noted by = absurd noted
    each_list first (part ∷ parts) [] lists noted by = absurd noted
    each_list first (part ∷ parts) (note ∷ notes) [] noted by = absurd by
    each_list first (part ∷ parts) (note ∷ notes) (steps ∷ lists) noted by =
        (of part note steps (first, noted.0) by.0, each_list (first + 1) parts notes lists noted.1 by.1)

-- the notes of two terms, where there were none before
pub noted_first : {N : Type 0} (answers : ℕ → Automaton → List Bool → N → Type 0) (E : Type 0) (l : Lettering) (paths : Paths) (x y : PathTerm) (old new : List N) → old ≡ []
    → NotedTwo answers E l paths x y old new → AreNoted answers E l paths 0 (complemented_parts x ++ complemented_parts y) new
unfolding NotedTwo
noted_first answers E l paths x y old new none (more, is, noted) =
    let all : more ≡ new = sym (is ∙ ap (λ notes. notes ++ more) none) in
    subst (AreNoted answers E l paths 0 (complemented_parts x ++ complemented_parts y)) all
    (subst (λ (first : ℕ). AreNoted answers E l paths first (complemented_parts x ++ complemented_parts y) more) (ap (λ notes. length notes) none) noted)

-- ---- a row

module _ (check : Checked) (n : ℕ) (paths : Paths) (blocks : List ℕ) (are : AreLetterBlocks (lettering_of check n blocks)) where
  abbrev l : Lettering
  l = lettering_of check n blocks

  part_closed : (part : PathTerm) (note : List letter.Step) (steps : List Step) → NotedBy l paths part note → AreBySymbols blocks note steps
      → Closed (scene check n paths) (path_symbols n) (part ∷ []) (words_of steps) × AreFirst (scene check n paths) (path_symbols n) (part ∷ []) (words_of steps)
  part_closed part note steps (number, (a, over, is, found)) by = (
    closed blocks are.partition (scene check n paths) (part ∷ []) (a ∷ []) (same_one (Unit {0}) l are paths part a is.made) (agree_part l paths part a is.made)
        (path_symbols n) over is.of_path note found steps by,
    are_first blocks are.partition (scene check n paths) (part ∷ []) (a ∷ []) (same_one (Unit {0}) l are paths part a is.made) (agree_part l paths part a is.made)
        (path_symbols n) over is.of_path note found steps by,
  )

  part_block : (part : PathTerm) (note : List letter.Step) (steps : List Step) → NotedBy l paths part note → AreBySymbols blocks note steps → IsBlock (path_symbols n) steps
  part_block part note steps (number, (a, over, is, found)) by =
      block blocks are.partition (scene check n paths) (part ∷ []) (a ∷ []) (same_one (Unit {0}) l are paths part a is.made) (agree_part l paths part a is.made)
      (path_symbols n) over is.of_path note found steps by

  module _ (notes : List (List letter.Step)) (noted : Noted l paths 0 (parts_of check n) notes) (lists : List (List Step)) (by : AreAllBySymbols blocks notes lists)
      (a b : Automaton) (before : IsMade (Unit {0}) l paths (before_image check n) a) (after : IsMade (Unit {0}) l paths (after_image check n) b)
      (over : List Bool) (holds : HoldsJust blocks (λ s. s < symbols_of check n) over) (steps : List letter.Step) (found : AreFound over (a ∷ b ∷ []) steps)
      (images : List Step) (images_by : AreBySymbols blocks steps images) where
    pub blocks_made : (row : ListedRow) → row.complements ≡ lists → row.images ≡ images → AreBlocksMade n row check paths
    blocks_made row complements_are images_are = record {
      complements = λ k part at. subst (λ (bs : List (List Step)). Closed (scene check n paths) (path_symbols n) (part ∷ []) (words_of (get_or bs k []))
          × AreFirst (scene check n paths) (path_symbols n) (part ∷ []) (words_of (get_or bs k []))) (sym complements_are)
          (at_part l paths (λ p ss. Closed (scene check n paths) (path_symbols n) (p ∷ []) (words_of ss) × AreFirst (scene check n paths) (path_symbols n) (p ∷ []) (words_of ss))
          part_closed 0 (parts_of check n) notes lists noted by k part at);
      images = subst (λ (ss : List Step). Closed (scene check n paths) (symbols_of check n) (images_of check n) (words_of ss)) (sym images_are)
          (closed blocks are.partition (scene check n paths) (images_of check n) (a ∷ b ∷ [])
          (same_two (Unit {0}) l are paths (before_image check n) (after_image check n) a b before after) (agree_images l paths (before_image check n) (after_image check n) a b before after)
          (symbols_of check n) over holds steps found images images_by);
      first = subst (λ (ss : List Step). AreFirst (scene check n paths) (symbols_of check n) (images_of check n) (words_of ss)) (sym images_are)
          (are_first blocks are.partition (scene check n paths) (images_of check n) (a ∷ b ∷ [])
          (same_two (Unit {0}) l are paths (before_image check n) (after_image check n) a b before after) (agree_images l paths (before_image check n) (after_image check n) a b before after)
          (symbols_of check n) over holds steps found images images_by);
    }

    pub row_shaped : (row : ListedRow) → row.complements ≡ lists → row.images ≡ images → HasShape (shape_of n check) row
    row_shaped row complements_are images_are = record {
      one_each = ap (λ (bs : List (List Step)). length bs) complements_are ∙ one_each l paths 0 (parts_of check n) notes lists noted by;
      complements = subst (AllByRecursion (IsBlock (path_symbols n))) (sym complements_are)
          (each_list l paths (IsBlock (path_symbols n)) part_block 0 (parts_of check n) notes lists noted by);
      images = subst (IsBlock (symbols_of check n)) (sym images_are)
          (block blocks are.partition (scene check n paths) (images_of check n) (a ∷ b ∷ [])
          (same_two (Unit {0}) l are paths (before_image check n) (after_image check n) a b before after) (agree_images l paths (before_image check n) (after_image check n) a b before after)
          (symbols_of check n) over holds steps found images images_by);
    }

-- the letters of the steps that are found are among those of the blocks
pub words_below : (row : Row) (blocks : List ℕ) (complements : List (List letter.Step)) (images : List letter.Step) → AreRowWords row blocks complements images
    → All (λ steps. All (λ step. step.letter < block_count blocks) steps) complements
words_below row blocks complements images words =
    notes_below (lettering_at row blocks) (paths_at row) 0 (parts_of row.check.now (locations_of row)) complements words.noted

pub images_below : (row : Row) (blocks : List ℕ) (complements : List (List letter.Step)) (images : List letter.Step) → AreRowWords row blocks complements images
    → All (λ step. step.letter < block_count blocks) images
images_below row blocks complements images words =
    letters_below words.over (words.before ∷ words.after ∷ []) images (block_count blocks) words.holds.size words.found
