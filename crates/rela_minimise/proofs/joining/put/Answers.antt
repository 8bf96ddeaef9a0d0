use Rattle.std.proofs.lemmas.Result.{IfOk-weaker}
use Rattle.std.proofs.Common.{◌≡◌, ℕ, true, IfOk, length, subst, sym}
use Rattle.std.specs.List.{All, count_by}
use Rattle.rela_labels.specs.Letters.{has}
use Rattle.rela_subset.specs.Deterministic.{takes}
use Rattle.rela_minimise.specs.Joining.{HasSize, IsPut}
use Rattle.rela_minimise.proofs.Joined.{put_in}
use Rattle.rela_minimise.proofs.joining.put.Goals as goal

pub put-requires : goal.put-requires
put-requires g c = subst (λ label. All (HasSize (length label)) c.args.bundle.now) (sym c.in_ok-copy.ensures.same) c.requires.sized

pub returns : goal.returns
returns g c =
    subst (λ label. IfOk c.put.result (λ _. IsPut label c.args.to c.args.bundle.now c.put.new.self)) c.in_ok-copy.ensures.same
    (IfOk-weaker c.put.result _ _ (λ _ put. put_in (g.L.LabelSet.letters c.in_ok-copy.copy) c.args.to c.args.bundle.now
    (subst (λ label. All (HasSize (length label)) c.args.bundle.now) (sym c.in_ok-copy.ensures.same) c.requires.sized)
    (subst (λ label. (k : ℕ) → has label k ≡ true → count_by (takes k) c.args.bundle.now ≡ 0) (sym c.in_ok-copy.ensures.same) c.requires.free)
    c.put.new.self put) c.put.ensures)
