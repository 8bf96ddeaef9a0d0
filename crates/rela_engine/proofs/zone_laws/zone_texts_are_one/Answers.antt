use Rattle.std.proofs.Common.{◌∙◌, ap, sym}
use Rattle.std.specs.Prelude.{length}
use Rattle.rela_names.specs.Alphabet.{path_symbols}
use Rattle.rela_translate.specs.Zones.{Zone}
use Rattle.rela_engine.specs.AutomatonText.{automaton_text}
use Rattle.rela_engine.proofs.OneMinimal.{one_minimal}
use Rattle.rela_engine.proofs.zone_laws.zone_texts_are_one.Goals as goal

pub returns : goal.returns
returns c = record {
  one = λ check names text other is other_is.
      is.2
      ∙ ap (automaton_text names) (one_minimal (path_symbols names) (Zone check.classes (length names) check.body) is.0 other_is.0 is.1 other_is.1)
      ∙ sym other_is.2;
}
