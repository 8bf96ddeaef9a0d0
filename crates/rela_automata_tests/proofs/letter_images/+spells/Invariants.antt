use Rattle.rela_automata_tests.proofs.letter_images.+spells.Given as goal

abbrev pub decreases-spells : goal.decreases-spells
decreases-spells l = l.steps
