use Rattle.std.proofs.Common.{◌≡◌, List, map, ap, ◌∙◌}
use Rattle.rela_expand.specs.Known.{picked}
use Rattle.rela_expand.specs.Numbered.{named_by}
use Rattle.rela_expand.specs.Places.{Place, in_some}
use Rattle.rela_expand.specs.declared.written.Pick.{Pick}
use Rattle.rela_expand.proofs.Listings.{same_found}
use Rattle.rela_expand.proofs.written.Written.new.Goals as goal

pub returns : goal.returns
returns c =
    λ network.
    let place : Place = record { network = network; level = c.args.level } in
    let picks : c.in_ok-picks-2.picks.items ≡ c.in_ok-picks.picks.keys = c.in_ok-picks-2.ensures.items ∙ c.as_slice.ensures.keys in
    let found : in_some place (map (picked place) c.in_ok-picks-2.picks.items) ≡ in_some place (map (named_by place) c.args.members.now) =
    ap (λ (ps : List Pick). in_some place (map (picked place) ps)) picks
    ∙ same_found place (map (picked place) c.in_ok-picks.picks.keys) (map (named_by place) c.args.members.now) (c.in_ok-picks.ensures network) in
    λ i. record { negated = c.args.negated; members = found i }
