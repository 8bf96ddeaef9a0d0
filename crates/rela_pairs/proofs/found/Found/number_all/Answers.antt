use Rattle.std.proofs.Common.{◌+◌, take, get_or, sym, subst}
use Rattle.std.proofs.lemmas.List.{get_or_default}
use Rattle.std.proofs.lemmas.List.Elements.{Contains-get_or}
use Rattle.std.proofs.lemmas.Result.{err_from_is_err_and}
use Rattle.rela_pairs.specs.Finding.{AreNumbers}
use Rattle.rela_pairs.specs.Keeping.{pairs_of}
use Rattle.rela_pairs.specs.declared.pair.Pair.{Pair}
use Rattle.rela_pairs.proofs.Numbering.{grows_more, numbers_more, passes_later}
use Rattle.rela_pairs.proofs.found.Found.number_all.Goals as goal

pub loop-pair-preserved : goal.loop-pair-preserved
loop-pair-preserved c =
    let pairs = c.args.pairs.now in
    let i = c.loop-pair.pair-index in
    let none : Pair = record { left = 0; right = 0 } in
    let pair : Pair = get_or pairs i none in
    let below = c.loop-pair-test.true in
    record {
      numbers =
          subst (λ v. AreNumbers (pairs_of c.number.new.self) (take (i + 1) pairs) v) (sym c.in_ok-push.ensures.items)
          (numbers_more (pairs_of c.loop-pair.self) (pairs_of c.number.new.self) pairs c.loop-pair.numbers.items i c.in_ok-number.field-0 pair below (get_or_default pairs i pair none below)
          c.loop-pair.invariant.numbers c.in_ok-number.ensures.finds c.in_ok-number.ensures.numbered);
      grows = grows_more pairs (pairs_of c.args.self.now) (pairs_of c.loop-pair.self) (pairs_of c.number.new.self) pair c.loop-pair.invariant.grows (Contains-get_or pairs i none below) c.in_ok-number.ensures.finds;
      few = c.in_ok-number.ensures.few;
      takes = λ x was. c.number.ensures.takes x (c.loop-pair.invariant.takes x was);
    }

pub returns-in_err-number-clause-limit : goal.returns-in_err-number-clause-limit
returns-in_err-number-clause-limit c =
    let pairs = c.args.pairs.now in
    let i = c.loop-pair.pair-index in
    let none : Pair = record { left = 0; right = 0 } in
    let p = err_from_is_err_and c.from_residual.result c.from_residual.ensures.1 in
    rw (p.1, p.2) (λ e.
    passes_later c.args.limit pairs (pairs_of c.args.self.now) (pairs_of c.loop-pair.self) (get_or pairs i none) c.loop-pair.invariant.grows
    (Contains-get_or pairs i none c.loop-pair-test.true) (c.in_err-number.ensures.limit e))
