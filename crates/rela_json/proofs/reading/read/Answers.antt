use Rattle.std.proofs.Common.{◌≡◌}
use Rattle.std.proofs.lemmas.Result.{err_from_is_err_and}
use Rattle.rela_json.specs.declared.error.ReadJsonError.TheVariants.{NotJson}
use Rattle.rela_json.proofs.Readings.{reading_some, reading_none}
use Rattle.rela_json.proofs.reading.read.Goals as goal

pub returns-in_err-from_slice-clause-not_json : goal.returns-in_err-from_slice-clause-not_json
returns-in_err-from_slice-clause-not_json c = λ is.
    let made = err_from_is_err_and c.from_residual.result c.from_residual.ensures.1 in
    let refused : made.0 ≡ NotJson = cc (made.1, is) in
    reading_none c.args.bytes.now (c.in_err-from_slice.ensures.err (made.2.1 refused))

pub returns-clause-value : goal.returns-clause-value
returns-clause-value c = reading_some c.args.bytes.now _ c.in_ok-from_slice.ensures.ok.0 c.in_ok-from_slice.ensures.ok.1
