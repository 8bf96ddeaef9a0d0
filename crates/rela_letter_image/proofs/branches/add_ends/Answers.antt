use Rattle.std.proofs.Common.{ℕ, ◌↔◌, ◌⊎◌, subst, sym}
use Rattle.std.specs.List.{Contains}
use Rattle.std.proofs.lemmas.Result.{on_ok_weaker}
use Rattle.rela_letter_image.proofs.Passing.{added_one}
use Rattle.rela_letter_image.proofs.branches.add_ends.Goals as goal

pub returns-in-Some : goal.returns-in-Some
returns-in-Some c =
    on_ok_weaker c.add_all.result (λ added. subst (λ l. (e : ℕ) → Contains c.add_all.new.ends.items e ↔ (Contains c.args.ends.now.items e ⊎ Contains l e)) (sym c.in-Some.ensures.kept) added)
    c.add_all.ensures

pub returns-in-None : goal.returns-in-None
returns-in-None c =
    on_ok_weaker c.add_new.result
    (λ added. subst (λ l. (e : ℕ) → Contains c.add_new.new.ends.items e ↔ (Contains c.args.ends.now.items e ⊎ Contains l e)) (sym c.in-None.ensures.alone)
    (added_one c.args.ends.now.items c.add_new.new.ends.items c.args.state added)) c.add_new.ensures
