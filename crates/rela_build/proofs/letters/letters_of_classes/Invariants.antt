use Rattle.std.proofs.Common.{◌≡◌, ℕ, ◌<◌, Bool, List, length, get_or}
use Rattle.std.specs.List.{All}
use Rattle.rela_labels.specs.Partition.{block_count}
use Rattle.rela_rir.specs.declared.set.SymbolSet.{SymbolSet}
use Rattle.rela_build.specs.Lettering.{AreClassLetters}
use Rattle.rela_build.proofs.letters.letters_of_classes.Given as goal

abbrev pub invariant-loop-class : goal.invariant-loop-class
invariant-loop-class l = record {
  members : All (λ class. All (λ s. s < length l.blocks) class.members) l.classes;
  path : length l.path ≡ block_count l.blocks;
  count : length l.sets.items ≡ l.class-index;
  letters : (k : ℕ) (class : SymbolSet) (set : List Bool) → k < l.class-index →
      AreClassLetters l.blocks l.path (get_or l.classes k class) (get_or l.sets.items k set);
}
