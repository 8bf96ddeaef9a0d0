use Rattle.std.proofs.Common.{◌≡◌, ◌<◌, ℕ}
use Rattle.rela_certfile.specs.Blocks.{block_at}
use Rattle.rela_cert.proofs.same_blocks.begin_alike.Given as goal

-- the blocks so far are equal
abbrev pub invariant-loop-block : goal.invariant-loop-block
invariant-loop-block l = (k : ℕ) → k < l.block → block_at l.certificate l.row k ≡ block_at l.certificate l.other k
