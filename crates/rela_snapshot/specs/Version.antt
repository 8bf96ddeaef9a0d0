-- The versions of the format.
use Rattle.std.specs.Prelude.{ℕ, ◌==◌, if◌then◌else◌, Result, Ok, Err}
use Rattle.rela_json.specs.declared.error.LoadError.{LoadError}
use Rattle.rela_json.specs.declared.error.LoadError.TheVariants.{BadVersion}
use Rattle.rela_snapshot.specs.declared.version.Version.{Version}
use Rattle.rela_snapshot.specs.declared.version.Version.TheVariants.{One, Two}
use Rattle.rela_snapshot.specs.declared.version.FlowRules.{FlowRules}

abbrev pub version_of : ℕ → Result Version LoadError
version_of n = if n == 1 then Ok One else if n == 2 then Ok Two else Err BadVersion

-- how the rules for the parts of a flow are numbered
abbrev pub flow_rules : Version → FlowRules
flow_rules One = record { flow = 24; name = 25; dst = 26; src = 27; class = 28; nodes = 29 }
flow_rules Two = record { flow = 41; name = 42; dst = 43; src = 44; class = 45; nodes = 46 }
