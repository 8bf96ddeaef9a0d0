use Rattle.std.proofs.Common.{ℕ, ◌≤◌, List, length, take, subst, arith}
use Rattle.std.specs.List.{All}
use Rattle.std.proofs.lemmas.List.{take_all}
use Rattle.std.proofs.lemmas.List.Elements.{All-more}
use Rattle.rela_certfile.specs.Layout.{HasBounds}
use Rattle.rela_names.specs.Name.{IsName}
use Rattle.rela_translate.specs.Checked.{Checked}
use Rattle.rela_cert.specs.Subject.{shape_of}
use Rattle.rela_cert.proofs.laws.checks_have_bounds.Goals as goal

all_checks : (n : ℕ) (checks : List Checked) (k : ℕ) → length checks ≤ k → All (λ (check : Checked). IsName check.name × HasBounds (shape_of n check)) (take k checks)
    → All (λ (check : Checked). IsName check.name × HasBounds (shape_of n check)) checks
all_checks n checks k past each = subst (λ (cs : List Checked). All (λ (check : Checked). IsName check.name × HasBounds (shape_of n check)) cs) (take_all k checks past) each

pub returns-clause-named : goal.returns-clause-named
returns-clause-named c = λ k d inside. (all_checks (length c.args.alphabet.now) c.args.checks.now c.loop-check.check-index (omega arith) c.loop-check.invariant k d inside).0

pub returns-clause-bounds : goal.returns-clause-bounds
returns-clause-bounds c = λ k d inside. (all_checks (length c.args.alphabet.now) c.args.checks.now c.loop-check.check-index (omega arith) c.loop-check.invariant k d inside).1

pub loop-check-preserved : goal.loop-check-preserved
loop-check-preserved c =
    All-more (λ (check : Checked). IsName check.name × HasBounds (shape_of (length c.args.alphabet.now) check)) c.args.checks.now c.loop-check.check-index c.check-item.result c.loop-check-test.true c.loop-check.invariant
    (subst (λ (check : Checked). IsName check.name × HasBounds (shape_of (length c.args.alphabet.now) check)) c.check-item.is (
      subst IsName c.name.ensures c.as_bytes.ensures.name,
      (omega (arith, c.len.ensures.len), omega (arith, c.symbols_of.ensures.count)),
    ))
