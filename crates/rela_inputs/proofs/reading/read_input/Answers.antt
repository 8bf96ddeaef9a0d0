use Rattle.std.proofs.Common.{◌≤◌, length, rules}
use Rattle.rela_io.specs.Held.{Lacks}
use Rattle.rela_inputs.specs.Reading.{max_file_bytes}
use Rattle.rela_inputs.proofs.GivenLaws.{no_memory}
use Rattle.rela_inputs.proofs.InputLaws.{bytes_given, too_long_given, fault_given}
use Rattle.rela_inputs.proofs.reading.read_input.Goals as goal

pub returns-in-Ok-clause-given : goal.returns-in-Ok-clause-given
returns-in-Ok-clause-given g c =
    let few : length c.in-Ok.bytes.items ≤ max_file_bytes = search rules in
    bytes_given (g.F.Files.steady c.args.files.now) c.args.name.now c.args.input (g.F.Files.holds c.args.files.now) c.in-Ok.bytes.items c.in-Ok.ensures.ok_is_file few

pub returns-in-Err-Fault-clause-given : goal.returns-in-Err-Fault-clause-given
returns-in-Err-Fault-clause-given g c =
    fault_given (g.F.Files.steady c.args.files.now) c.args.name.now c.args.input (g.F.Files.holds c.args.files.now)
    (λ steady held. (c.in-Err-Fault.ensures.steady_is_no_fault steady held).0 (cc))

pub returns-in-Err-TooLong-clause-given : goal.returns-in-Err-TooLong-clause-given
returns-in-Err-TooLong-clause-given g c =
    let held : ¬ Lacks (g.F.Files.holds c.args.files.now) c.args.name.now = λ lacks. (let fault = c.in-Err-TooLong.ensures.missing_is_fault lacks in cc) in
    too_long_given (g.F.Files.steady c.args.files.now) c.args.name.now c.args.input (g.F.Files.holds c.args.files.now) held (c.in-Err-TooLong.ensures.too_long_is_file (cc))

pub returns-in-Err-Memory-clause-given : goal.returns-in-Err-Memory-clause-given
returns-in-Err-Memory-clause-given g c = no_memory _ _ _ _
