use Rattle.std.proofs.Common.{length}
use Rattle.rela_locations.proofs.name_index.hash_of_words.Given as goal

abbrev pub decreases-words : goal.decreases-words
decreases-words l = length l.rest
