use Rattle.std.proofs.Common.{◌≡◌, ◌+◌, ◌-◌, ◌≤◌, length, drop}
use Rattle.std.specs.List.{prefix_len}
use Rattle.json.specs.Run.{is_plain}
use Rattle.rela_tokens.proofs.plain.plain_end.Given as goal

abbrev pub invariant-vectors : goal.invariant-vectors
invariant-vectors l = record {
  same : l.from + prefix_len is_plain (drop l.from l.text) ≡ l.end + prefix_len is_plain (drop l.end l.text);
  within : l.end ≤ length l.text;
}

abbrev pub decreases-vectors : goal.decreases-vectors
decreases-vectors l = length l.text - l.end
