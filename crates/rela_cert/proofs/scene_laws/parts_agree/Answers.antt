use Rattle.std.proofs.Common.{inl, inr, List, subst}
use Rattle.std.specs.Prelude.{Contains}
use Rattle.std.proofs.lemmas.List.Elements.{Contains-append_cases}
use Rattle.rela_rir.specs.Complements.{complemented_parts_r}
use Rattle.rela_rir.specs.Fixed.{IsFixed}
use Rattle.rela_rir.specs.declared.term.PathTerm.{PathTerm}
use Rattle.rela_translate.specs.Terms.{after_of, before_of}
use Rattle.rela_cert.specs.RowNames.{no_flow}
use Rattle.rela_cert.proofs.ComplementCounts.{parts_are}
use Rattle.rela_cert.proofs.NoPaths.{agree}
use Rattle.rela_cert.proofs.scene_laws.parts_agree.Goals as goal

pub returns : goal.returns
returns c at part listed v w agrees =
    let n = at.locations in
    let before = before_of n at.check.body in
    let after = after_of n at.check.body in
    let of_either = Contains-append_cases (complemented_parts_r before) (complemented_parts_r after) part
    (subst (λ (parts : List PathTerm). Contains parts part) (parts_are at.check n) listed) in
    let fixed : IsFixed part = elim of_either [
      | inl of_before ↦ c.complements_of_fixed_terms.ensures.relations before part (c.terms_name_no_paths.ensures.before n at.check.body) of_before
      | inr of_after ↦ c.complements_of_fixed_terms.ensures.relations after part (c.terms_name_no_paths.ensures.after n at.check.body) of_after
    ] in
    let same = c.scenes_alike.ensures.places (no_flow at.check n) at part (agree at part fixed) in
    λ place. (
      λ reached. (same place w).1 ((agrees place).0 ((same place v).0 reached)),
      λ reached. (same place v).1 ((agrees place).1 ((same place w).0 reached)),
    )
