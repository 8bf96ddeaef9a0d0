use Rattle.std.proofs.Common.{ℕ, ◌↔◌, arith, refl, subst}
use Rattle.std.specs.List.{Contains, flat_map}
use Rattle.rela_letter_image.specs.Branches.{ends_at, ends_of}
use Rattle.rela_letter_image.proofs.Passing.{branch_stands, ends_set}
use Rattle.rela_letter_image.proofs.branches.pass_over.Goals as goal

pub returns-in-Some-clause-ends : goal.returns-in-Some-clause-ends
returns-in-Some-clause-ends g c =
    let t = c.args.relation.now in
    let kept = c.args.kept.now in
    let joined = c.in-Some.joined in
    let same =
    subst (λ l. (e : ℕ) → Contains joined.items e ↔ Contains (flat_map (ends_at (ends_of kept)) l) e) c.moves.ensures.moves (c.in_ok-joined.ensures joined c.in-Some.is) in
    let stands = branch_stands t c.moves.ensures.machine (ends_of kept) c.requires.ends c.args.q (c.if-not-is_branch.ensures.0 refl) joined.items same in
    ends_set t kept _ c.args.q joined (omega (arith, c.requires.state, c.requires.each)) c.requires.ends refl stands
