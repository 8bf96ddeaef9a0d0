use Rattle.std.proofs.Common.{◌<◌, refl, subst, sym}
use Rattle.std.proofs.lemmas.List.{length-map}
use Rattle.rela_minimise.specs.Stored.{stage_of}
use Rattle.rela_minimise.proofs.Assigning.{assigned}
use Rattle.rela_minimise.proofs.refinement.Refinement.assign.Goals as goal

pub returns : goal.returns
returns c =
    assigned c.args.q c.args.class (stage_of c.args.self.now) _ c.requires.state c.requires.flagged
    (subst (λ n. c.args.class < n) (sym (length-map c.args.self.now.members.items (λ v. v.items))) c.requires.class) refl c.in_ok-put.ensures refl refl
