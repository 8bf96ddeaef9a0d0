use Rattle.std.proofs.Common.{ℕ, ◌≡◌, ◌==◌, ◌||◌, arith, ◌∙◌}
use Rattle.std.proofs.lemmas.Result.{on_ok_weaker}
use Rattle.rela_labels.specs.WideSets.{has_letter}
use Rattle.rela_labels.proofs.WideLetters.{wide_size, length-letters_in, added_here, added_others}
use Rattle.rela_labels.proofs.wide_set.WideSetLabelSet.add.Goals as goal

pub add-requires-clause-below : goal.add-requires-clause-below
add-requires-clause-below c = let size = wide_size _ _ _ c.self.view_is in omega arith

pub returns-clause-size : goal.returns-clause-size
returns-clause-size c =
    on_ok_weaker c.add.result (λ (each : (k : ℕ) → has_letter c.add.new.self k ≡ (has_letter c.self.inside.letters k || c.args.letter == k)).
    length-letters_in c.self.inside.size c.add.new.self ∙ wide_size _ _ _ c.self.view_is)
    c.add.ensures.each

pub returns-clause-added : goal.returns-clause-added
returns-clause-added c =
    on_ok_weaker c.add.result
    (added_here c.self.inside.size c.self.inside.letters c.add.new.self c.args.self.now c.args.letter c.self.view_is c.self.invariant c.add.ensures.sized)
    c.add.ensures.each

pub returns-clause-others : goal.returns-clause-others
returns-clause-others c =
    on_ok_weaker c.add.result
    (added_others c.self.inside.size c.self.inside.letters c.add.new.self c.args.self.now c.args.letter c.self.view_is c.self.invariant c.add.ensures.sized)
    c.add.ensures.each
