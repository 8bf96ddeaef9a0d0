use Rattle.std.proofs.Common.{ℕ, ◌+◌, ◌↔◌, arith, map, subst, sym, take}
use Rattle.std.specs.List.{Contains, flat_map}
use Rattle.std.proofs.lemmas.List.{take_all}
use Rattle.std.proofs.lemmas.Option.{same_Some}
use Rattle.rela_trans.specs.Stored.{move_of}
use Rattle.rela_letter_image.specs.Branches.{ends_at, ends_of}
use Rattle.rela_letter_image.proofs.Laying.{flat_more}
use Rattle.rela_letter_image.proofs.Passing.{joined_more}
use Rattle.rela_letter_image.proofs.branches.joined_ends.Goals as goal

pub loop-step-preserved : goal.loop-step-preserved
loop-step-preserved g c =
    let f = move_of g.M.LabelSet.letters in
    let ends = ends_at (ends_of c.args.kept.now) in
    let moves = c.args.moves.now in
    let i = c.loop-step.step-index in
    let x = c.step-item.result in
    joined_more c.loop-step.joined.items c.add_ends.new.ends.items (ends (f x)) (flat_map ends (map f (take i moves))) (flat_map ends (map f (take (i + 1) moves))) c.loop-step.invariant
    c.in_ok-add_ends.ensures (flat_more ends f moves i x c.loop-step-test.true (sym c.step-item.is))

pub returns : goal.returns
returns g c joined is =
    let f = move_of g.M.LabelSet.letters in
    let ends = ends_at (ends_of c.args.kept.now) in
    let all = take_all c.loop-step.step-index c.args.moves.now (omega (arith, c.loop-step-test.false)) in
    let same = subst (λ l. (e : ℕ) → Contains c.loop-step.joined.items e ↔ Contains (flat_map ends (map f l)) e) all c.loop-step.invariant in
    subst (λ j. (e : ℕ) → Contains j.items e ↔ Contains (flat_map ends (map f c.args.moves.now)) e) (same_Some c.loop-step.joined joined is) same
