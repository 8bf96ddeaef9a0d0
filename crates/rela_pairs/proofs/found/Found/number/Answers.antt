use Rattle.std.proofs.Common.{◌≡◌, ◌≤◌, ℕ, [], ◌∷◌, Result, length, sym, ap, subst, arith}
use Rattle.std.specs.Prelude.{IfErr}
use Rattle.rela_pairs.specs.Finding.{Passes}
use Rattle.rela_pairs.specs.Keeping.{pairs_of}
use Rattle.rela_pairs.specs.declared.errors.BuildError.{BuildError}
use Rattle.rela_pairs.specs.declared.errors.BuildError.TheVariants.{Limit}
use Rattle.rela_pairs.proofs.Numbering.{unless_known, would_pass}
use Rattle.rela_pairs.proofs.found.Found.number.Goals as goal

pub returns-then-pairs-limit-clause-limit : goal.returns-then-pairs-limit-clause-limit
returns-then-pairs-limit-clause-limit c =
    let old = pairs_of c.args.self.now in
    let full : c.args.limit ≤ length old = omega (arith, c.if-pairs-limit.true, ap length c.pairs.ensures.pairs) in
    subst (λ (r : Result ℕ BuildError). IfErr r (λ e. e ≡ Limit → Passes c.args.limit (c.args.pair ∷ []) old)) (sym c.ok_or.ensures.value)
    (unless_known (Passes c.args.limit (c.args.pair ∷ []) old) (λ (e : BuildError). e ≡ Limit) Limit c.known.result
    (λ none. would_pass c.args.limit c.args.pair old c.pairs.ensures.distinct c.pairs.ensures.few full (c.known.ensures.absent none)))
