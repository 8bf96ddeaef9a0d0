use Rattle.std.proofs.Common.{◌≡◌, ◌+◌, ◌<◌, ℕ, List, get_or, map}
use Rattle.rela_certfile.specs.declared.rows.Step.{Step}
use Rattle.rela_cert.proofs.repeated.are_repeated.Given as goal

-- the blocks so far are there again in the second half
abbrev pub invariant-loop-k : goal.invariant-loop-k
invariant-loop-k l =
    (j : ℕ) (d : List Step) → j < l.k → get_or (map (λ block. block.now) l.blocks) j d ≡ get_or (map (λ block. block.now) l.blocks) (l.half + j) d
