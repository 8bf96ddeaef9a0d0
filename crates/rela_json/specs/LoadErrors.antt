-- How the errors of one layer are those of the next.
use Rattle.rela_json.specs.declared.error.ReadJsonError.{ReadJsonError}
use Rattle.rela_json.specs.declared.error.ReadJsonError.TheVariants as read
use Rattle.rela_json.specs.declared.error.LoadError.{LoadError}
use Rattle.rela_json.specs.declared.error.LoadError.TheVariants as load

abbrev pub load_error : ReadJsonError → LoadError
load_error read.NotJson = load.NotJson
load_error read.Memory = load.Memory
