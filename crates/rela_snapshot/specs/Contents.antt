-- What a file holds: the version of its format, and the entries of its flows.
use Rattle.std.specs.Prelude.{List, codes, Result, Ok}
use Rattle.serde_json.specs.Data.{Data}
use Rattle.rela_json.specs.declared.error.LoadError.{LoadError}
use Rattle.rela_json.specs.Results.{◌>>=◌}
use Rattle.rela_snapshot.specs.declared.version.Version.{Version}
use Rattle.rela_json.specs.Fields.{part_of, whole_number_of, entries_of}
use Rattle.rela_snapshot.specs.Version.{version_of}

unfoldable pub contents_of : Data → Result (Version × List Data) LoadError
contents_of d = do
  version_part ← part_of (codes "version") 21 0 d
  number ← whole_number_of 22 0 version_part
  version ← version_of number
  flows_part ← part_of (codes "flows") 21 0 d
  ds ← entries_of 23 0 flows_part
  Ok (version, ds)
