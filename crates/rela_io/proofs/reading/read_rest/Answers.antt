use Rattle.std.proofs.Common.{arith, ◌∙◌, length-take, length-append}
use Rattle.std.proofs.lemmas.List.{take-append-le}
use Rattle.rela_io.proofs.Told.{before_told-more, before_told-end}
use Rattle.rela_io.proofs.reading.read_rest.Goals as goal

pub returns-then-given-eq0-clause-ok_is_rest : goal.returns-then-given-eq0-clause-ok_is_rest
returns-then-given-eq0-clause-ok_is_rest g c =
    before_told-end _ _ _ _ c.loop-bytes.invariant.taken (c.in_ok-given.ensures.ok_none_only_at_end (simp length-take (omega arith))) c.if-given-eq0.true

pub loop-bytes-preserved : goal.loop-bytes-preserved
loop-bytes-preserved g c =
    let within = c.in_ok-given.ensures.ok_within in
    let longer = simp (length-take, length-append) at c.in_ok-extend_from_slice.ensures.len in
    record {
      within = omega arith;
      taken = rw (c.in_ok-extend_from_slice.ensures.items, take-append-le _ _ _ within)
          (before_told-more _ _ _ _ _ c.loop-bytes.invariant.taken c.in_ok-given.ensures.ok_gives_next);
      given = omega (arith, c.in_ok-given.ensures.ok_adds_to_given);
      no_fault = c.in_ok-given.ensures.ok_keeps_count ∙ c.loop-bytes.invariant.no_fault;
      same_open = c.in_ok-given.ensures.same_open ∙ c.loop-bytes.invariant.same_open;
      same_holds = c.in_ok-given.ensures.same_holds ∙ c.loop-bytes.invariant.same_holds;
      same_steady = c.in_ok-given.ensures.same_steady ∙ c.loop-bytes.invariant.same_steady;
    }
