use Rattle.std.proofs.Common.{◌≡◌, ◌∙◌, List, ℕ, ap, subst, sym}
use Rattle.rela_branches.specs.declared.claiming.Branches.{Branches}
use Rattle.rela_blame.specs.Alternatives.{StandsAt}
use Rattle.rela_blame.specs.Zones.{IsOffset, checks_of}
use Rattle.rela_blame.proofs.Zoned.{offset_of, offsets_more}
use Rattle.rela_blame.proofs.zoning.Specification.offset_of.Goals as goal

pub returns-clause-offsets : goal.returns-clause-offsets
returns-clause-offsets c =
    let spec = c.args.self.now in
    let named : c.name-check.result.now ≡ c.index-self-index.result.check.now.name =
    c.name-check.ensures ∙ sym (ap (λ (b : Branches). b.check.now.name) c.index-self-index.is) in
    let here : IsOffset spec.file.now spec.tokens.now (checks_of spec.checks.now) c.args.index c.args.number c.in_ok-at.at =
    offset_of spec.file.now spec.tokens.now spec.checks.now c.args.index c.index-self-index.result c.requires.index c.index-self-index.is c.args.number c.in_ok-at.at
    (subst (λ (name : List ℕ). StandsAt spec.file.now spec.tokens.now name c.args.number c.in_ok-at.at) named c.in_ok-at.ensures) in
    offsets_more spec.file.now spec.tokens.now (checks_of spec.checks.now) c.args.offsets.now c.insert.new.self c.args.index c.args.number c.in_ok-at.at c.requires.offsets here
    c.in_ok-insert.ensures.updates.0
