use Rattle.std.proofs.Common.{◌≡◌, arith, length}
use Rattle.std.specs.Vec.{vec_len}
use Rattle.rela_fib.proofs.Steps.{none_within}
use Rattle.rela_fib.proofs.drawing.Drawing.new.Goals as goal

pub returns : goal.returns
returns c =
    let devices = c.args.devices.now.devices in
    let none = c.new-choices.result in
    let start : vec_len none ≡ 0 = omega (arith, c.new-choices.ensures.len) in
    let all : c.len.result ≡ length devices.items = omega (arith, c.len.ensures, devices.ok.0) in
    record {
      numerals = c.in_ok-numerals.ensures;
      within = none_within devices.items none.items c.resize.new.self.items c.len.result (vec_len none) c.new-choices.ensures.items start all c.in_ok-resize.ensures.items;
      drawn = λ e. absurd (cc);
    }
