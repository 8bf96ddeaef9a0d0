use Rattle.rela_build.specs.Lettering.{IsAlone}
use Rattle.rela_build.proofs.NamedForms.{named_forms}
use Rattle.rela_build.proofs.laws.named_symbols_by_form.Goals as goal

pub returns : goal.returns
returns c blocks = named_forms (IsAlone blocks)
