use Rattle.std.proofs.Common.{◌+◌}
use Rattle.std.proofs.lemmas.Result.{IfErr-weaker, IfOk-weaker}
use Rattle.rela_complement.proofs.ReducedParts.{apart_through, language_through, same_through, small_least, small_sets, small_within}
use Rattle.rela_complement.proofs.least.least_by_fewer_sets.Goals as goal

pub returns-clause-least : goal.returns-clause-least
returns-clause-least c =
    let a = c.args.a.now in
    let direct = c.in_ok-direct.direct in
    let small = c.in_ok-small.small in
    let language = language_through a direct small c.in_ok-direct.ensures.language c.in_ok-small.ensures.language in
    let same = same_through a direct small c.in_ok-direct.ensures.same c.in_ok-small.ensures.same in
    let apart = apart_through a direct small c.in_ok-direct.ensures.apart c.in_ok-small.ensures.apart in
    IfOk-weaker c.least_by_sets.result _ _ (λ d is. small_least c.args.over.now a small language same apart d is) c.least_by_sets.ensures.least

pub returns-clause-within : goal.returns-clause-within
returns-clause-within c =
    let a = c.args.a.now in
    let direct = c.in_ok-direct.direct in
    let small = c.in_ok-small.small in
    let language = language_through a direct small c.in_ok-direct.ensures.language c.in_ok-small.ensures.language in
    let same = same_through a direct small c.in_ok-direct.ensures.same c.in_ok-small.ensures.same in
    let apart = apart_through a direct small c.in_ok-direct.ensures.apart c.in_ok-small.ensures.apart in
    IfOk-weaker c.least_by_sets.result _ _ (λ d is. small_within c.args.over.now a small language same apart (c.args.limit + 1) is) c.least_by_sets.ensures.within

pub returns-clause-past : goal.returns-clause-past
returns-clause-past c =
    let a = c.args.a.now in
    let direct = c.in_ok-direct.direct in
    let small = c.in_ok-small.small in
    let language = language_through a direct small c.in_ok-direct.ensures.language c.in_ok-small.ensures.language in
    let same = same_through a direct small c.in_ok-direct.ensures.same c.in_ok-small.ensures.same in
    let apart = apart_through a direct small c.in_ok-direct.ensures.apart c.in_ok-small.ensures.apart in
    IfErr-weaker c.least_by_sets.result _ _ (λ e past is. small_sets c.args.over.now a small language same apart (c.args.limit + 1) (past is)) c.least_by_sets.ensures.past
