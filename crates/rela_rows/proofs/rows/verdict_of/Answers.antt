use Rattle.std.proofs.Common.{ℕ, get_or}
use Rattle.rela_rows.specs.Sharing.{IsVerdict}
use Rattle.rela_rows.proofs.SameAsked.{place_inside, place_within}
use Rattle.rela_rows.proofs.Shared.{other_within, other_looks, same_looks, verdict_at, verdict_by}
use Rattle.rela_rows.proofs.rows.verdict_of.Goals as goal

pub bounds-judges-flow : goal.bounds-judges-flow
bounds-judges-flow c =
    let judges = c.args.judges.now in
    let inside = place_inside judges.compiled.now judges.checks.now judges.places.now c.args.check c.requires.judges.asked c.requires.check in
    (other_within c.args.pairs.now judges.others.now judges.compiled.now c.args.flow (get_or judges.places.now c.args.check 0)
    c.requires.judges.alike inside c.requires.flow).0

pub bounds-judges-check : goal.bounds-judges-check
bounds-judges-check c =
    let judges = c.args.judges.now in
    place_within judges.compiled.now judges.checks.now judges.places.now c.args.check c.requires.judges.asked c.requires.check

pub verdict_on-requires-clause-flow : goal.verdict_on-requires-clause-flow
verdict_on-requires-clause-flow c =
    let judges = c.args.judges.now in
    let inside = place_inside judges.compiled.now judges.checks.now judges.places.now c.args.check c.requires.judges.asked c.requires.check in
    (other_within c.args.pairs.now judges.others.now judges.compiled.now c.args.flow (get_or judges.places.now c.args.check 0)
    c.requires.judges.alike inside c.requires.flow).1

pub verdict_on-requires-clause-check : goal.verdict_on-requires-clause-check
verdict_on-requires-clause-check c =
    let judges = c.args.judges.now in
    place_inside judges.compiled.now judges.checks.now judges.places.now c.args.check c.requires.judges.asked c.requires.check

pub returns-clause-verdict : goal.returns-clause-verdict
returns-clause-verdict c =
    let names = c.args.alphabet.now in
    let pairs = c.args.pairs.now in
    let judges = c.args.judges.now in
    let compiled = judges.compiled.now in
    let flow : ℕ = c.args.flow in
    let place = get_or judges.places.now c.args.check 0 in
    let inside = place_inside compiled judges.checks.now judges.places.now c.args.check c.requires.judges.asked c.requires.check in
    let pair = c.index-pairs-flow.result in
    let other = get_or judges.others.now flow 0 in
    let another = c.index-pairs-other.result in
    let by = c.index-compiled-place.result in
    let row = c.in_ok-row.row in
    let looks = other_looks pairs judges.others.now compiled flow place by c.requires.judges.alike inside c.index-compiled-place.is c.requires.flow in
    let there : IsVerdict names by another row =
    verdict_at names pairs compiled other place another by row looks.0 inside c.index-pairs-other.is c.index-compiled-place.is c.in_ok-row.ensures.verdict in
    let here : IsVerdict names by pair row =
    c.share_verdicts.ensures (same_looks by.check.level pairs flow other pair another c.index-pairs-flow.is c.index-pairs-other.is looks) row there in
    verdict_by names pairs judges.checks.now compiled judges.places.now flow c.args.check pair by row c.requires.flow c.requires.check c.requires.judges.asked
    c.index-pairs-flow.is c.index-compiled-place.is here

pub returns-clause-texts : goal.returns-clause-texts
returns-clause-texts c =
    let pairs = c.args.pairs.now in
    let judges = c.args.judges.now in
    let compiled = judges.compiled.now in
    let place = get_or judges.places.now c.args.check 0 in
    let inside = place_inside compiled judges.checks.now judges.places.now c.args.check c.requires.judges.asked c.requires.check in
    let other = get_or judges.others.now c.args.flow 0 in
    let by = c.index-compiled-place.result in
    let looks = other_looks pairs judges.others.now compiled c.args.flow place by c.requires.judges.alike inside c.index-compiled-place.is c.requires.flow in
    (verdict_at c.args.alphabet.now pairs compiled other place c.index-pairs-other.result by c.in_ok-row.row looks.0 inside c.index-pairs-other.is
    c.index-compiled-place.is c.in_ok-row.ensures.verdict).texts
